-- What ksbench does with the bytes that it reads, block by block.
use Rattle.std.specs.Prelude.{ℕ, ◌≤◌, ◌≡◌, List, [], ◌∷◌, ◌++◌, map, true, cond, length, take, Result, IfOk, OnOk}
use Rattle.model.specs.declared.State.{State as StoredState}
use Rattle.model.specs.Memory.{State}
use Rattle.model.specs.Image.{image}
use Rattle.model.specs.Stored.{FineState, state_of}
use Rattle.model.specs.Bench.{Act, prints, stores, reason_acts}
use Rattle.lines.specs.Feed.{Fed}
use Rattle.session.specs.Feed.{fed_acts}
use Rattle.session.specs.Blocks.{held_of, manner_of, reason_number}
use Rattle.session.specs.declared.due.Manner.{Manner}
use Rattle.session.specs.declared.due.Due.{Due}
use Rattle.session.specs.declared.feed.Session.{Session}
use Rattle.store.specs.declared.say.Complained.{Complained}
use Rattle.bench.specs.declared.edge.Receipt.{Receipt}

-- [ksbench] what a session gives for the next bytes of its input: its acts, and what it holds then
abbrev pub given : Manner → Session → List ℕ → Fed State Act
given k s part = fed_acts (manner_of k) (held_of s).state (held_of s).line part

-- what goes out, in this order: bytes of answers, an image where one is to be stored, a reason where one is to be told
abbrev pub outgoing : List ℕ → Due → List ℕ → List Act
outgoing answers d bytes = map prints answers ++ (cond d.store (stores bytes ∷ []) [] ++ reason_acts (reason_number d.reason))

-- the first n bytes of a buffer are the image that is to be stored, if one is
pub record Imaged (d : Due) (s : StoredState) (buffer : List ℕ) (n : ℕ) : Type 0 where
  pub within : n ≤ length buffer
  pub bytes : d.store ≡ true → take n buffer ≡ image (state_of s).permanent

-- what was due up to a place was handed out, and the receipt says so
pub record Hands (end : ℕ) (r : Result Receipt Complained) : Type 0 where
  pub place : IfOk r (λ receipt. receipt.at ≡ end)

-- a block was served: if all could be done, the session holds what it gives for the whole block, and the receipt is for all of it
pub record Serves (k : Manner) (s : Session) (block : List ℕ) (t : Session) (r : Result Receipt Complained) : Type 0 where
  pub held : OnOk r (held_of t ≡ (given k s block).held)
  pub handed : IfOk r (λ receipt. receipt.at ≡ length block)
  pub fine : FineState t.state
