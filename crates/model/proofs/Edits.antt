-- Edits/: what each change leaves of a well-formed memory, and which calls reach the permanent one.
pub mod Putting  -- a system put in its place, or last
pub mod Put  -- and found there
pub mod Defining  -- define, link and copy keep a memory well formed
pub mod Enabling  -- enabling does
pub mod Removal  -- a removal: places move up, other chains go on without the system that went
pub mod Removing  -- a removal keeps a memory well formed
pub mod RemovedChain  -- the chains after a removal, by name
pub mod Removed  -- a removal mends every other chain
pub mod Saving  -- the permanent memory, after each call
