-- A block that is fed part by part: what is handed out for a part, and what is held after it.
use Prim.Native.Nat.{ℕ, ◌+◌, ◌-◌, ◌≤◌}
use mathlib.Core.Path.{◌≡◌, refl, sym, ap, ◌∙◌}
use mathlib.Core.List.{List, [], ◌∷◌, ◌++◌, map}
use mathlib.Core.Bool.{Bool, true, false, cond}
use native.Mathlib.Omega.{arith}
use borrow.Author.Tests.{le-ltb}
use lib.ListN.{length, take, drop, length-append}
use lib.Seq.{take-append_seam}
use Rattle.std.proofs.Common.{Ok, Err}
use Rattle.std.specs.Prelude.{Result}
use Rattle.facts.specs.declared.refusals.Refusal.{Refusal}
use Rattle.model.specs.declared.State.{State as StoredState}
use Rattle.model.specs.Limits.{buffer_limit}
use Rattle.model.specs.Memory.{State}
use Rattle.model.specs.Refusals.{short}
use Rattle.model.specs.Image.{image}
use Rattle.model.specs.Stored.{FineState, Answered, state_of, of_outcome}
use Rattle.model.specs.Histories.{WritePromise}
use Rattle.model.specs.Bench.{Act, prints, stores, stored_acts, reason_acts}
use Rattle.model.proofs.Basics.{true_false}
use Rattle.model.proofs.Views.{view_holds}
use Rattle.model.proofs.Ladder.Refusing.{image_fine}
use Rattle.model.proofs.Histories.Stored.{write_promised}
use Rattle.engine.specs.declared.answer.Stepped.{Stepped}
use Rattle.engine.specs.Answers.{returned, written_by}
use Rattle.lines.specs.Feed.{Fed}
use Rattle.lines.proofs.Feeding.{fed_nothing}
use Rattle.lines.proofs.Places.{rest, rest_used, fed_part, fed_behind}
use Rattle.session.specs.Feed.{acting, ended_acts}
use Rattle.session.specs.Blocks.{held_of, manner_of, reason_number, with_due, Feeds, Ends}
use Rattle.session.specs.declared.due.Manner.{Manner}
use Rattle.session.specs.declared.due.Due.{Due}
use Rattle.session.specs.declared.feed.Session.{Session}
use Rattle.session.specs.declared.feed.Fed.{Fed as StoredFed}
use Rattle.session.proofs.Rest.{replied_first}
use Rattle.bench.specs.Serve.{given, outgoing, Imaged}

-- ---- the image

-- what the machine's call wrote, in a well-formed state
pub image_written : (d : Due) (s : StoredState) → FineState s → (b : List ℕ) → buffer_limit ≤ length b → (r : Stepped) (after : List ℕ) →
    WritePromise s b (returned r after) → Imaged d s after (written_by r.outcome)
unfolding short
image_written d s fine b room r after p =
    let st = state_of s in
    let i = image st.permanent in
    let e = write_promised s st (view_holds s fine.shape) b (returned r after) p ∙ ap of_outcome (image_fine st b fine.formed (le-ltb (length b) buffer_limit room)) in
    let count : written_by r.outcome ≡ length i = ap (λ (a : Answered). a.count) e in
    let bytes : after ≡ i ++ drop (length i) b = ap (λ (a : Answered). a.buffer) e in
    record {
      within = rw bytes (omega (arith, count, length-append i (drop (length i) b)));
      bytes = λ t. rw (bytes, count) (take-append_seam i (drop (length i) b));
    }

-- where none is due, none is there
pub image_undue : (d : Due) (s : StoredState) (b : List ℕ) → d.store ≡ false → Imaged d s b 0
image_undue d s b e = record { within = omega arith; bytes = λ t. true_false (sym t ∙ e) }

stored_as : (t : Bool) (st : State) (bytes : List ℕ) → (t ≡ true → bytes ≡ image st.permanent) → stored_acts t st ≡ cond t (stores bytes ∷ []) []
unfolding stored_acts
stored_as true st bytes e = ap (λ (i : List ℕ). stores i ∷ []) (sym (e refl))
stored_as false st bytes e = refl

-- what is due is what goes out
due_out : (answers : List ℕ) (d : Due) (s : StoredState) (buffer : List ℕ) (n : ℕ) → Imaged d s buffer n → with_due answers d s ≡ outgoing answers d (take n buffer)
due_out answers d s buffer n i =
    ap (λ (x : List Act). map prints answers ++ (x ++ reason_acts (reason_number d.reason))) (stored_as d.store (state_of s) (take n buffer) i.bytes)

-- ---- before the first byte

pub given_nothing : (k : Manner) (s : Session) → held_of s ≡ (given k s []).held
given_nothing k s = ap (λ (x : Fed State Act). x.held) (sym (fed_nothing (acting (manner_of k)) (held_of s).state (held_of s).line))

-- ---- a session t that holds what s gives for a block up to a place, and what was fed of the rest

module _ (k : Manner) (s : Session) (block : List ℕ) (t : Session) (at : ℕ) (held : held_of t ≡ (given k s (take at block)).held) (before after : List ℕ) (f : StoredFed)
    (feeds : Feeds k t (rest block at) before after f) (end : ℕ) (e : end ≡ at + f.used) where
  abbrev part : List ℕ
  part = take (end - at) (drop at block)

  used : take f.used (rest block at) ≡ part
  used = rest_used block at f.used end feeds.within e

  -- its acts are what goes out: the answers in the buffer, and what is due behind them
  part_out : (buffer : List ℕ) (n : ℕ) → Imaged f.due f.session.state buffer n →
      (given k t part).output ≡ outgoing (take f.written after) f.due (take n buffer)
  part_out buffer n i =
      ap (λ (p : List ℕ). (given k t p).output) (sym used) ∙ ap (λ (x : Fed State Act). x.output) feeds.acts
      ∙ ap (λ (a : List ℕ). with_due a f.due f.session.state) (sym (replied_first feeds.puts))
      ∙ due_out (take f.written after) f.due f.session.state buffer n i

  -- so up to its end the acts are those before it, and then these
  pub part_handed : (buffer : List ℕ) (n : ℕ) → Imaged f.due f.session.state buffer n →
      (given k s (take end block)).output ≡ (given k s (take at block)).output ++ outgoing (take f.written after) f.due (take n buffer)
  part_handed buffer n i =
      fed_behind (acting (manner_of k)) (held_of s).state (held_of s).line block at (held_of t).state (held_of t).line (sym held) end (omega arith)
      ∙ ap (λ (x : List Act). (given k s (take at block)).output ++ x) (part_out buffer n i)

  -- and the session after it holds what s gives up to there
  pub part_held : held_of f.session ≡ (given k s (take end block)).held
  part_held =
      sym (ap (λ (x : Fed State Act). x.held) feeds.acts) ∙ ap (λ (p : List ℕ). (given k t p).held) used
      ∙ fed_part (acting (manner_of k)) (held_of s).state (held_of s).line block at (held_of t).state (held_of t).line (sym held) end (omega arith)

-- ---- the end of the input

pub last_handed : (k : Manner) (s : Session) (before after : List ℕ) (r : StoredFed) → Ends k s before after r → (buffer : List ℕ) (n : ℕ) →
    Imaged r.due r.session.state buffer n → ended_acts (manner_of k) (held_of s) ≡ outgoing (take r.written after) r.due (take n buffer)
last_handed k s before after r ends buffer n i =
    ends.acts ∙ ap (λ (a : List ℕ). with_due a r.due r.session.state) (sym (replied_first ends.puts))
    ∙ due_out (take r.written after) r.due r.session.state buffer n i
