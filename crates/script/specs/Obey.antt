-- A line of a script carried out, and answered.
use Rattle.std.specs.Prelude.{◌≡◌, ℕ, ◌≤◌, List, [], length, take, replicate}
use Rattle.std.proofs.Math.Option.{Option, none, some}
use Rattle.model.specs.Machine.{Usage, start_factory, start_image, began}
use Rattle.model.specs.Stored.{View, view_of, Answered, Restarted, of_begun, line_answer, image_answer, restart_answer, position_answer, use_answer}
use Rattle.print.specs.Over.{Wrote}
use Rattle.script.specs.declared.obey.Obeyed.{Obeyed}
use Rattle.script.specs.Hex.{hexed}
use Rattle.script.specs.Directive.{Order, line, restart, write, start, factory, question, position, unclear, order}
use Rattle.script.specs.Answer.{said, usage_text, complaint}

-- what a call gives: the next state, its number, and what is shown of it
pub record Done : Type 0 where
  pub state : View
  pub number : ℕ
  pub text : List ℕ

abbrev pub lent : Answered → Done
lent a = record { state = a.state; number = a.number; text = hexed (take a.count a.buffer) }

abbrev pub alone : Restarted → Done
alone r = record { state = r.state; number = r.number; text = [] }

-- [02 §2] the question of use leaves the state as it is
abbrev pub asking : View → Usage → Done
asking v a = record { state = v; number = a.number; text = usage_text a }

-- a buffer of so many bytes. (What it holds does not show: lines/proofs/Lent.antt)
abbrev pub blank : ℕ → List ℕ
blank n = replicate n 0

-- the call that is ordered
unfoldable pub done : View → Order → Option Done
done v (line l n) = some (lent (line_answer v l (blank n)))
done v restart = some (alone (restart_answer v))
done v (write n) = some (lent (image_answer v (blank n)))
done v (start image) = some (alone (of_begun (start_image image)))
done v factory = some (alone (of_begun (began start_factory 0)))
done v (question name) = some (asking v (use_answer v name))
done v (position p) = some (alone (position_answer v p))
done v unclear = none

-- what is no directive changes nothing
unfoldable pub next_state : View → Option Done → View
next_state v none = v
next_state v (some d) = d.state

-- the answer to line k of the script
unfoldable pub answer : ℕ → Option Done → List ℕ
answer k none = complaint k
answer k (some d) = said d.number d.text

-- ---- the answer of the code

-- a call was answered: its next state, and its text from place at on
pub record Answers (d : Done) (before : List ℕ) (at : ℕ) (after : List ℕ) (o : Obeyed) : Type 0 where
  pub state : view_of o.state ≡ d.state
  pub text : Wrote (said d.number d.text) before at after o.end
  pub inside : o.end ≤ length before

-- a line was obeyed, whatever it was
pub record Obeys (v : View) (k : ℕ) (l before : List ℕ) (at : ℕ) (after : List ℕ) (o : Obeyed) : Type 0 where
  pub state : view_of o.state ≡ next_state v (done v (order l))
  pub text : Wrote (answer k (done v (order l))) before at after o.end
  pub inside : o.end ≤ length before
