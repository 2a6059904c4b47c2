-- Image/: the saved image.
pub mod Wholes  -- whole numbers in groups of seven bits, as they are written
pub mod Limits  -- how large the numbers are, and how long the image is
pub mod Readers  -- readers one after the other
pub mod Numbers  -- a number, read in its shortest form
pub mod Several  -- numbers one after the other
pub mod Systems  -- a system
pub mod Exactly  -- what is written is read back, and nothing else is accepted
