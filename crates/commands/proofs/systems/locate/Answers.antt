use mathlib.Core.Path.{◌≡◌, refl, sym, ap, subst, ◌∙◌}
use borrow.Author.Tests.{le-leb}
use Rattle.model.specs.declared.Kind.TheVariants.{Ksf}
use Rattle.model.specs.declared.Memory.{Memory as StoredMemory}
use Rattle.model.specs.Limits.{name_limit}
use Rattle.model.specs.Pose.{Pose, shown}
use Rattle.model.specs.Stage.{spot}
use Prim.Native.Nat.{ℕ}
use mathlib.Core.List.{List}
use Rattle.model.specs.declared.State.{State as StoredState}
use Rattle.facts.specs.Refusals.{outcome}
use Rattle.model.specs.Request.{locate}
use Rattle.model.specs.Refusals.{first, change_ladder}
use Rattle.model.specs.Effects.{with_volatile, fresh, located, changed}
use Rattle.model.specs.Stored.{bytes_of, memory_of, state_of}
use Rattle.model.specs.Checklist.{asks_to_save}
use Rattle.pose.specs.Poses.{pose_of}
use Rattle.memory.specs.Put.{put_at, holding}
use Rattle.commands.specs.Subject.{Sees}
use Rattle.commands.proofs.Asked.{place_is}
use Rattle.commands.proofs.Carried.{decides_handed_on, decides_put, locate_room, place_few, room, defined_by_place}
use Rattle.commands.proofs.systems.locate.Goals.{After-judge_locate}
use Rattle.commands.proofs.systems.locate.Goals as goal

-- the spot, what was seen, and the number, of the state that has this memory and position
module _ (c : After-judge_locate) (s : StoredState) (y : List ℕ) (v : s.volatile ≡ c.args.m) (p : s.position ≡ c.args.p) (seen : Sees c.args.m (bytes_of c.args.n) y c.args.k) where
  spot_here : pose_of c.spot-here.result ≡ spot (memory_of s.volatile) s.position
  spot_here = c.spot-here.ensures ∙ (λ i. spot (memory_of (sym v i)) (sym p i))

  looked : Sees s.volatile (bytes_of c.args.n) y c.args.k
  looked = subst (λ (m : StoredMemory). Sees m (bytes_of c.args.n) y c.args.k) (sym v) seen

  judged : outcome c.judge_locate.result ≡ first (change_ladder (state_of s) (memory_of s.volatile) (locate (bytes_of c.args.n)))
  judged = c.judge_locate.ensures s.volatile (bytes_of c.args.n) y looked (ap (λ (q : Pose). q.at) spot_here ∙ (λ i. (spot (memory_of s.volatile) (p i)).at)) (state_of s) p

pub returns-in_err-judge_locate : goal.returns-in_err-judge_locate
returns-in_err-judge_locate c =
    λ s y v p seen.
    let number = judged (goal.at.returns-in_err-judge_locate c).After-judge_locate s y v p seen in
    decides_handed_on s (locate (bytes_of c.args.n)) _ c.from_residual.result c.from_residual.ensures.1 (rw c.in_err-judge_locate.was at number)

pub returns : goal.returns
unfolding changed asks_to_save located
returns c =
    let a = c.args in
    let made = c.fresh_system-made.ensures in
    λ s y v p seen.
    let after = (goal.at.returns c).After-judge_locate in
    let k = looked after s y v p seen in
    let num = rw c.in_ok-judge_locate.was at (judged after s y v p seen) in
    let m = memory_of s.volatile in
    let n = bytes_of a.n in
    let passed = locate_room (state_of s) m n (sym num) in
    let x = place_is m n _ k.first in
    let over = spot_here after s y v p seen in
    let turns = c.shown_of.ensures ∙ ap (λ (q : Pose). shown q.rot) over in
    let new = made.stands_for m.systems ∙ (λ i. fresh (holding m.systems (k.enabled i)) Ksf n (over i).at (turns i)) in
    let spotted = spot m s.position in
    let next = (λ i. put_at m (x i) (new i)) ∙ sym (defined_by_place m Ksf n spotted.at (shown spotted.rot)) in
    decides_put s (locate (bytes_of c.args.n)) a.k.first.place c.fresh_system-made.result num
    (rw made.name_value (le-leb a.n.len name_limit c.requires.name_len))
    (rw x (place_few s.volatile _ _ _ k n, room s.volatile _ _ _ k n passed))
    (ap (with_volatile (state_of s)) next) refl
