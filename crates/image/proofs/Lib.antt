pub mod Steps  -- one reader after another
pub mod NumberLaws  -- a number at the front
pub mod Turns  -- a reader that is repeated, in turns
pub mod NameLaws  -- a name at the front
pub mod NumbersLeft  -- what is left to write of numbers
pub mod KindLaws  -- the type of a code
pub mod EnabledBytes  -- the bytes of what is enabled
pub mod SystemLeft  -- what is left to write of a system
pub mod Answering  -- what is answered to the bytes of an image
pub mod MemoryLeft  -- of a memory
