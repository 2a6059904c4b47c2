-- A line that was understood is obeyed as it orders.
use Rattle.std.proofs.Common.{◌≡◌, ℕ, ◌≤◌, List, length, take, sym, refl, ap, length-take-le}
use mathlib.Core.Option.{some}
use lib.ListN.{length-replicate}
use Rattle.model.specs.Stored.{View, shapeless, holds, view_of, line_answer, image_answer}
use Rattle.lines.proofs.Lent.{Shown, shown_line, shown_image}
use Rattle.print.specs.Over.{Wrote}
use Rattle.script.specs.declared.obey.Obeyed.{Obeyed}
use Rattle.script.specs.Hex.{hexed}
use Rattle.script.specs.Directive.{Order, unclear, order}
use Rattle.script.specs.Answer.{complaint}
use Rattle.script.specs.Obey.{Done, lent, blank, done, next_state, answer, Answers, Obeys}

-- what a call shows, over views
abbrev shown_done : Shown → Done
shown_done s = record { state = holds s.state; number = s.number; text = hexed s.text }

-- a call that gives the same is answered the same
pub answers_by : {d e : Done} {before after : List ℕ} {at : ℕ} {o : Obeyed} → d ≡ e → Answers d before at after o → Answers e before at after o
answers_by p a = rw p at a

-- what a lent buffer holds does not show
pub lent_line : (v : View) (l b : List ℕ) → lent (line_answer v l b) ≡ lent (line_answer v l (blank (length b)))
unfolding line_answer
lent_line (shapeless s) l b = refl
lent_line (holds st) l b = ap shown_done (shown_line st l b (blank (length b)) (sym (length-replicate (length b) 0)))

pub lent_image : (v : View) (b : List ℕ) → lent (image_answer v b) ≡ lent (image_answer v (blank (length b)))
unfolding image_answer
lent_image (shapeless s) b = refl
lent_image (holds st) b = ap shown_done (shown_image st b (blank (length b)) (sym (length-replicate (length b) 0)))

-- so many bytes of a longer buffer are lent
blank_lent : (n : ℕ) (b : List ℕ) → n ≤ length b → blank (length (take n b)) ≡ blank n
blank_lent n b h = ap blank (length-take-le n b h)

pub line_lent : (v : View) (l : List ℕ) (n : ℕ) (b : List ℕ) → n ≤ length b → lent (line_answer v l (blank (length (take n b)))) ≡ lent (line_answer v l (blank n))
line_lent v l n b h = ap (λ (x : List ℕ). lent (line_answer v l x)) (blank_lent n b h)

pub image_lent : (v : View) (n : ℕ) (b : List ℕ) → n ≤ length b → lent (image_answer v (blank (length (take n b)))) ≡ lent (image_answer v (blank n))
image_lent v n b h = ap (λ (x : List ℕ). lent (image_answer v x)) (blank_lent n b h)

module _ (v : View) (k : ℕ) (l : List ℕ) {before after : List ℕ} {at : ℕ} {o : Obeyed} where
  -- the order x asks for a call that gives d
  pub as_ordered : {x : Order} {d : Done} → x ≡ order l → done v x ≡ some d → Answers d before at after o → Obeys v k l before at after o
  unfolding next_state answer
  as_ordered e f a =
      let g = ap (done v) (sym e) in
      record { state = rw (g, f) a.state; text = rw (g, f) a.text; inside = a.inside }

  pub not_ordered : unclear ≡ order l → view_of o.state ≡ v → Wrote (complaint k) before at after o.end → o.end ≤ length before → Obeys v k l before at after o
  unfolding done next_state answer
  not_ordered e s w i =
      let g = ap (done v) (sym e) in
      record { state = rw g s; text = rw g w; inside = i }
