-- What a call shows does not depend on what the lent buffer holds.
use Prim.Native.Nat.{ℕ}
use mathlib.Core.Path.{◌≡◌, refl, sym, ap, ◌∙◌}
use mathlib.Core.List.{List}
use mathlib.Core.Bool.{Bool, true, false}
use mathlib.Core.Logic.{⊎_elim}
use lib.Dec.{eqb}
use lib.ListN.{length, take, drop}
use lib.Seq.{take-append_seam}
use borrow.Author.Tests.{eqb-true}
use Rattle.model.proofs.Basics.{either}
use Rattle.model.proofs.Ladder.Refusing.{step_fine, step_ill, judged_taken, judged_refused, carried_answers}
use Rattle.model.specs.Memory.{State}
use Rattle.model.specs.WellFormed.{well_formed}
use Rattle.model.specs.Request.{Reading, reading}
use Rattle.model.specs.Refusals.{refusal, ladder, short}
use Rattle.model.specs.Image.{image}
use Rattle.model.specs.Machine.{Outcome, stepped, judged, carried_out, answered, refused, written, write_image}

-- what is seen of an outcome: the state, the number, and what was written
pub record Shown : Type 0 where
  pub state : State
  pub number : ℕ
  pub text : List ℕ

abbrev pub shown : Outcome → Shown
shown o = record { state = o.state; number = o.number; text = take o.count o.buffer }

-- an accepted call shows its text
pub text_answered : (t b : List ℕ) → take (length t) (written t b) ≡ t
text_answered t b = take-append_seam t (drop (length t) b)

shown_answered : (st : State) (t b c : List ℕ) → shown (answered st t b) ≡ shown (answered st t c)
shown_answered st t b c = ap {B = Shown} (λ (x : List ℕ). record { state = st; number = 0; text = x }) (text_answered t b ∙ sym (text_answered t c))

shown_carried : (st : State) (r : Reading) (b c : List ℕ) → shown (carried_out st r b) ≡ shown (carried_out st r c)
shown_carried st r b c = let a = carried_answers st r in rw (a.2 b, a.2 c) (shown_answered a.0 a.1 b c)

-- one number, and where it is 0 one reading, show the same, whatever is lent
shown_judged : (st : State) (n : ℕ) (r q : Reading) (b c : List ℕ) → (n ≡ 0 → r ≡ q) → shown (judged st n r b) ≡ shown (judged st n q c)
shown_judged st n r q b c e =
    ⊎_elim
    (λ h. rw (judged_taken st n r b h, judged_taken st n q c h, e (eqb-true n 0 h)) (shown_carried st q b c))
    (λ h. rw (judged_refused st n r b h, judged_refused st n q c h) refl)
    (either (eqb n 0))

pub shown_alike : (st : State) (l k b c : List ℕ) → refusal st l b ≡ refusal st k c → (refusal st k c ≡ 0 → reading l ≡ reading k) →
    shown (stepped st l b) ≡ shown (stepped st k c)
shown_alike st l k b c e r =
    ⊎_elim
    (λ h. rw (step_fine st l b h, step_fine st k c h, e) (shown_judged st (refusal st k c) (reading l) (reading k) b c r))
    (λ h. rw (step_ill st l b h, step_ill st k c h) refl)
    (either (well_formed st))

-- ---- buffers of one length

short_same : (b c : List ℕ) → length b ≡ length c → short b ≡ short c
unfolding short
short_same b c e = rw e

refusal_same : (st : State) (l b c : List ℕ) → length b ≡ length c → refusal st l b ≡ refusal st l c
unfolding refusal ladder
refusal_same st l b c e = rw (short_same b c e)

pub shown_line : (st : State) (l b c : List ℕ) → length b ≡ length c → shown (stepped st l b) ≡ shown (stepped st l c)
shown_line st l b c e = shown_alike st l l b c (refusal_same st l b c e) (λ z. refl)

-- an image, by whether the state is well formed and the buffer short
abbrev imaged : State → Bool → Bool → List ℕ → Outcome
imaged st fine brief b = elim fine [ true ↦ elim brief [ true ↦ refused st 2 b | false ↦ answered st (image st.permanent) b ] | false ↦ refused st 1 b ]

shown_imaged : (st : State) (b c : List ℕ) (fine brief : Bool) → shown (imaged st fine brief b) ≡ shown (imaged st fine brief c)
shown_imaged st b c true true = refl
shown_imaged st b c true false = shown_answered st (image st.permanent) b c
shown_imaged st b c false brief = refl

pub shown_image : (st : State) (b c : List ℕ) → length b ≡ length c → shown (write_image st b) ≡ shown (write_image st c)
unfolding write_image
shown_image st b c e = ap (λ (t : Bool). shown (imaged st (well_formed st) t b)) (short_same b c e) ∙ shown_imaged st b c (well_formed st) (short c)
