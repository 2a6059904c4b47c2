-- The machine of document 01, in the order of its paragraphs. A comment names the paragraph that a definition renders:
-- [Memory 2] is the second paragraph of "Memory and state", [Poses] "Poses and chains", [A line], [Commands, KRM] the bullet that begins so,
-- [lists] the paragraph "Lists run ..", [Error 9] the item, [Errors, end] the paragraph under the items, [Image], [Two lists 1], [ksrun],
-- [Empty programs, end] the paragraph under that table. Examples has sessions for each of them. [02 §7], [02 §5], [02 §14], [02 §2], [02 §3], [02 §4],
-- [02 §9], [02 §10] and [02 §1] are requests of document 02, rendered by PowerSwitch, Arithmetic, Sheet, Use with Looking, Relative, LongBench, NextStart,
-- Tally with TallyClaims, and Stage with StageClaims.
-- [ksbench] is the program that the bench runs, in Reasons and Bench.
pub mod Base
pub mod Types
pub mod Ascii
pub mod Lists
pub mod Told
pub mod Limits
pub mod Kinds
pub mod Pose
pub mod Memory
pub mod Chain
pub mod Use
pub mod Words
pub mod Stage
pub mod WellFormed
pub mod Recurrences
pub mod Request
pub mod Effects
pub mod Reply
pub mod Refusals
pub mod Image
pub mod ImageClaims
pub mod Machine
pub mod Tally
pub mod Trace
pub mod Demand
pub mod Claims
pub mod Checklist
pub mod Removed
pub mod Sessions
pub mod Table
pub mod Stored
pub mod Histories
pub mod PowerSwitch
pub mod Arithmetic
pub mod Sheet
pub mod Looking
pub mod Relative
pub mod LongBench
pub mod NextStart
pub mod TallyClaims
pub mod StageClaims
pub mod Reasons
pub mod Bench
pub mod Examples
