-- Memories/: a well-formed memory as facts.
pub mod Fine  -- a well-formed memory as a record of facts over places, and back
pub mod Named  -- how a name finds its system
pub mod Found  -- in a well-formed memory each system is found under its name
