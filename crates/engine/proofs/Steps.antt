-- The machine's step, rung by rung: the buffer, the line's bytes, and then what the line asks.
use Prim.Native.Nat.{ℕ}
use mathlib.Core.Path.{◌≡◌, refl, ap, ◌∙◌}
use mathlib.Core.List.{List, ◌++◌}
use mathlib.Core.Bool.{true, false}
use borrow.Author.Tests.{eq-eqb}
use Rattle.model.specs.Memory.{State}
use Rattle.model.specs.WellFormed.{well_formed}
use Rattle.model.specs.Request.{Query, Reading, reading, asks, list, last_error}
use Rattle.model.specs.Refusals.{first, short, unreadable, reading_ladder, request_ladder, query_ladder, ladder, refusal}
use Rattle.model.specs.Effects.{with_error, next}
use Rattle.model.specs.Reply.{listed, reply, decimal}
use Rattle.model.specs.Ascii.{ascii}
use Rattle.model.specs.Machine.{stepped, judged, carried_out, answered, refused}
use Rattle.model.proofs.Ladder.Refusing.{step_fine, judged_taken}
use Rattle.std.specs.Prelude.{Err}
use Rattle.facts.specs.declared.refusals.Refusal.{Refusal}
use Rattle.facts.specs.Refusals.{number_of}
use Rattle.request.specs.Asked.{Says}
use Rattle.request.proofs.Says.{says_refused}
use Rattle.commands.specs.Obeyed.{obeyed}

module _ (st : State) (l b : List ℕ) (fine : well_formed st ≡ true) where
  refusal_short : short b ≡ true → refusal st l b ≡ 2
  unfolding refusal ladder first
  refusal_short e = rw e

  -- [Error 2]
  pub step_short : short b ≡ true → stepped st l b ≡ refused (with_error st 2) 2 b
  unfolding judged
  step_short e = step_fine st l b fine ∙ ap (λ (n : ℕ). judged st n (reading l) b) (refusal_short e)

  refusal_unreadable : short b ≡ false → unreadable l ≡ true → refusal st l b ≡ 3
  unfolding refusal ladder first
  refusal_unreadable e f = rw (e, first) (rw f)

  -- [Error 3]
  pub step_unreadable : short b ≡ false → unreadable l ≡ true → stepped st l b ≡ refused (with_error st 3) 3 b
  unfolding judged
  step_unreadable e f = step_fine st l b fine ∙ ap (λ (n : ℕ). judged st n (reading l) b) (refusal_unreadable e f)

  refusal_obeyed : short b ≡ false → unreadable l ≡ false → refusal st l b ≡ first (reading_ladder st (reading l))
  unfolding refusal ladder first
  refusal_obeyed e f = rw (e, first) (rw f)

  -- [Errors 4 to 13]
  pub step_obeyed : short b ≡ false → unreadable l ≡ false → stepped st l b ≡ obeyed st (reading l) b
  unfolding obeyed
  step_obeyed e f = step_fine st l b fine ∙ ap (λ (n : ℕ). judged st n (reading l) b) (refusal_obeyed e f)

-- ---- what each reading gives

module _ (st : State) (b : List ℕ) where
  -- [Errors 4 to 6]
  pub obeyed_refused : {why : Refusal} {r : Reading} → Says (Err why) r → obeyed st r b ≡ refused (with_error st (number_of why)) (number_of why) b
  unfolding obeyed judged first reading_ladder
  obeyed_refused s = says_refused (λ (n : ℕ) (r : Reading). obeyed st r b ≡ refused (with_error st n) n b) refl refl refl s

  pub obeyed_error : obeyed st (asks last_error) b ≡ answered (with_error st 0) (decimal st.error ++ ascii "\n") b
  unfolding obeyed judged first reading_ladder request_ladder carried_out next reply
  obeyed_error = refl

  -- a listing that nothing refuses
  pub obeyed_listed : (q : Query) → first (query_ladder st.volatile q) ≡ 0 → obeyed st (asks (list q)) b ≡ answered st (listed st.volatile q) b
  unfolding obeyed reading_ladder request_ladder carried_out next reply
  obeyed_listed q z = judged_taken st (first (query_ladder st.volatile q)) (asks (list q)) b (eq-eqb _ 0 z)
