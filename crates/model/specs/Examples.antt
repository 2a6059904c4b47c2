-- The documents by examples: for each paragraph short sessions, from lines of bytes to replies, images and numbers (specs/Sessions.antt says how they are
-- written). A session starts at the factory. The statements only; proofs/Table computes them.
use Rattle.model.specs.Examples.Memories.{OfMemories, OfPoses}
use Rattle.model.specs.Examples.Lines.{OfLines}
use Rattle.model.specs.Examples.Commands.{OfCommands, OfLists}
use Rattle.model.specs.Examples.Numbers.{OfNumbers}
use Rattle.model.specs.Examples.Images.{OfImages}
use Rattle.model.specs.Examples.Histories.{OfHistories}
use Rattle.model.specs.Examples.Storage.{OfStorage}
use Rattle.model.specs.Examples.Use.{OfUse}
use Rattle.model.specs.Examples.Relative.{OfRelative}
use Rattle.model.specs.Examples.LongBench.{OfLongBench}
use Rattle.model.specs.Examples.NextStart.{OfNextStart}
use Rattle.model.specs.Examples.Tally.{OfTally}
use Rattle.model.specs.Examples.Stage.{OfStage}
use Rattle.model.specs.Examples.Bench.{OfBench}
pub mod Memories  -- "Memory and state", "Poses and chains"
pub mod Lines  -- "A line"
pub mod Commands  -- "Commands", and the lists
pub mod Numbers  -- "Error numbers"
pub mod Images  -- "Image"
pub mod Histories  -- "The two lists of demand 3", "ksrun"
pub mod Storage  -- stored values
pub mod Use  -- document 02 §2
pub mod Relative  -- document 02 §3
pub mod LongBench  -- document 02 §4
pub mod NextStart  -- document 02 §9
pub mod Tally  -- document 02 §10
pub mod Stage  -- document 02 §1
pub mod Bench  -- ksbench

pub record Examples : Type 0 where
  pub memories : OfMemories
  pub poses : OfPoses
  pub lines : OfLines
  pub commands : OfCommands
  pub lists : OfLists
  pub numbers : OfNumbers
  pub images : OfImages
  pub histories : OfHistories
  pub storage : OfStorage
  pub in_use : OfUse
  pub relative : OfRelative
  pub long_bench : OfLongBench
  pub next_start : OfNextStart
  pub tally : OfTally
  pub stage : OfStage
  pub bench : OfBench
