-- What a line prints, its number and what it does to the state do not depend on what the lent buffer holds, if it is long enough; and of a line that is too long,
-- one byte too many tells all.
use Prim.Native.Nat.{ℕ, suc, ◌≤◌, ◌<◌}
use mathlib.Core.Path.{◌≡◌, refl, sym, ap, ◌∙◌}
use mathlib.Core.List.{List, ◌∷◌}
use mathlib.Core.Bool.{true, false}
use native.Mathlib.Omega.{arith}
use lib.Dec.{eqb}
use lib.ListN.{length, take, drop, length-append, length-drop}
use borrow.Author.Tests.{le-ltb, lt-ltb, ne_eqb}
use Rattle.model.proofs.Ladder.Refusing.{by_case, carried_answers, refusals_change_nothing}
use Rattle.model.specs.Limits.{buffer_limit, line_limit}
use Rattle.model.specs.Memory.{State}
use Rattle.model.specs.Request.{reading}
use Rattle.model.specs.Refusals.{refusal, ladder, short, first, unreadable, reading_ladder}
use Rattle.model.specs.Machine.{Outcome, stepped, answered, written}
use lib.Seq.{length-take-le, take_all}
use native.Mathlib.Decide.{dec_lt}
use Rattle.model.specs.Trace.{refusal_text, printed}
use Rattle.lines.proofs.Lent.{Shown, shown, shown_alike, text_answered}

-- what is seen of an outcome: the state, the number, and what is printed
pub record Seen : Type 0 where
  pub state : State
  pub number : ℕ
  pub text : List ℕ

abbrev pub seen : Outcome → Seen
seen o = record { state = o.state; number = o.number; text = printed o }

long : (b : List ℕ) → buffer_limit ≤ length b → short b ≡ false
unfolding short
long b h = le-ltb (length b) buffer_limit h

-- the number is that of the line alone
pub refusal_alone : (st : State) (l b : List ℕ) → buffer_limit ≤ length b →
    refusal st l b ≡ first ((3, unreadable l) ∷ reading_ladder st (reading l))
unfolding refusal ladder first
refusal_alone st l b h = rw (long b h)

-- an answer prints its text
pub printed_answered : (st : State) (t b : List ℕ) → printed (answered st t b) ≡ t
unfolding printed
printed_answered st t b = text_answered t b

-- what is printed is told by the number and what was written
seen_shown : (o p : Outcome) → shown o ≡ shown p → seen o ≡ seen p
unfolding printed
seen_shown o p e =
    ap {B = Seen} (λ (s : Shown). record { state = s.state; number = s.number; text = elim (eqb s.number 0) [ true ↦ s.text | false ↦ refusal_text s.number ] }) e

-- ---- the two laws

-- what the lent buffer holds does not show
pub any_buffer : (st : State) (l b c : List ℕ) → buffer_limit ≤ length b → buffer_limit ≤ length c → seen (stepped st l b) ≡ seen (stepped st l c)
any_buffer st l b c h k = seen_shown (stepped st l b) (stepped st l c) (shown_alike st l l b c (refusal_alone st l b h ∙ sym (refusal_alone st l c k)) (λ z. refl))

pub too_long : (st : State) (l b : List ℕ) → buffer_limit ≤ length b → line_limit < length l → refusal st l b ≡ 3
unfolding first unreadable
too_long st l b h k = refusal_alone st l b h ∙ rw (lt-ltb line_limit (length l) k)

-- of a line that is too long, the first bytes up to one too many tell all
pub clipped : (st : State) (l b : List ℕ) → buffer_limit ≤ length b → seen (stepped st (take (suc line_limit) l) b) ≡ seen (stepped st l b)
clipped st l b h =
    elim (dec_lt line_limit (length l)) [
      | yes k ↦ seen_shown (stepped st (take (suc line_limit) l) b) (stepped st l b) (shown_alike st (take (suc line_limit) l) l b b
          (too_long st (take (suc line_limit) l) b h (rw (length-take-le (suc line_limit) l k) (omega arith)) ∙ sym (too_long st l b h k))
          (λ z. absurd (omega (arith, z, too_long st l b h k))))
      | no k ↦ ap (λ (t : List ℕ). seen (stepped st t b)) (take_all (suc line_limit) l (omega arith))
    ]

-- ---- a long buffer stays long

written_long : (st : State) (t b : List ℕ) → length b ≤ length (answered st t b).buffer
written_long st t b = rw (length-append t (drop (length t) b), length-drop (length t) b) (omega arith)

pub stays_long : (st : State) (l b : List ℕ) → length b ≤ length (stepped st l b).buffer
stays_long st l b =
    by_case st l b (λ o. length b ≤ length o.buffer)
    (λ w. omega arith)
    (λ n h k. omega arith)
    (λ w z. let a = carried_answers st (reading l) in rw (a.2 b) (written_long a.0 a.1 b))

-- ---- what an accepted line writes

-- the text that is printed, from byte 0 on
pub record Writes (o : Outcome) (b : List ℕ) : Type 0 where
  pub count : o.count ≡ length (printed o)
  pub buffer : o.buffer ≡ written (printed o) b

answered_writes : (st : State) (t b : List ℕ) → Writes (answered st t b) b
answered_writes st t b =
    let e = printed_answered st t b in
    record { count = ap length (sym e); buffer = ap (λ (u : List ℕ). written u b) (sym e) }

pub taken_writes : (st : State) (l b : List ℕ) → (stepped st l b).number ≡ 0 → Writes (stepped st l b) b
taken_writes st l b =
    by_case st l b (λ o. o.number ≡ 0 → Writes o b)
    (λ w z. absurd (omega arith))
    (λ n h k z. absurd (omega arith))
    (λ w e z. let a = carried_answers st (reading l) in rw (a.2 b) (answered_writes a.0 a.1 b))

-- a refused line prints its number and writes nothing
pub turned_down : (st : State) (l b : List ℕ) → ((stepped st l b).number ≡ 0 → ⊥) →
    (printed (stepped st l b) ≡ refusal_text (stepped st l b).number) × ((stepped st l b).buffer ≡ b)
unfolding printed
turned_down st l b n = (rw (ne_eqb (stepped st l b).number 0 n, printed), (refusals_change_nothing.lines st l b n).buffer)
