pub mod Short  -- no reason is long
