-- Histories/: what holds after every list of calls.
pub mod Kept  -- well-formedness
pub mod Untaken  -- what no line changes that is not accepted
pub mod Still  -- the enabled frames
pub mod Demand3  -- demand 3
pub mod Shown  -- the checklist: KEN? and KLN?
pub mod InUse  -- what the test for use says, and what it looks at
pub mod Under  -- the checklist: a system under the enabled one
pub mod Saved  -- the checklist: save, switch off, switch on, list
pub mod Checklist  -- all four
pub mod Stored  -- demand 3 and the checklist of stored states
pub mod Looking  -- document 02 §2: the test for use stops when the name is found
pub mod Relative  -- document 02 §3: one frame seen from another
pub mod Between  -- the same over stored states, and between systems in use
pub mod Switched  -- document 02 §7: what the power switch brings back
pub mod LongBench  -- document 02 §4: what was saved under the former limit
pub mod NextStart  -- document 02 §9: what the next start needs is not removed
pub mod Positions  -- document 02 §1: where the platform stands
pub mod Located  -- the frame where the stage is
pub mod Tally  -- document 02 §10: what a tally says of the outcomes
pub mod Bench  -- the program of the bench: what goes where, and what the file holds
