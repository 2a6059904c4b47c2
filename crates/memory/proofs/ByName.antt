-- For callers: the edits of the definitions go by name, those of the code by the place that the name has.
use Prim.Native.Nat.{ℕ}
use mathlib.Core.Path.{◌≡◌, refl, ap, ◌∙◌}
use mathlib.Core.Bool.{true}
use mathlib.Core.List.{List}
use Rattle.model.specs.Memory.{System, Memory, system_at, place_named, is_user, named, user_named}
use Rattle.model.specs.Effects.{put, linked, with_pred, with_name}
use Rattle.model.proofs.Memories.Named.{user_place, place_name, named_place}
use Rattle.memory.specs.Put.{put_at}

-- a system is put at the place that its name has
pub put_by_place : (m : Memory) (s : System) → put m s ≡ put_at m (place_named m.systems s.name) s
unfolding put put_at is_user
put_by_place m s = refl

-- a copy goes to the place of its own name
pub copied_by_place : (m : Memory) (a d : List ℕ) → put m (with_name (user_named m a) d) ≡ put_at m (place_named m.systems d) (with_name (system_at m.systems (place_named m.systems a)) d)
copied_by_place m a d = put_by_place m (with_name (user_named m a) d)

-- a link is put at the place of the system that it changes
pub linked_by_place : (m : Memory) (a b : List ℕ) → is_user m a ≡ true
    → linked m a b ≡ put_at m (place_named m.systems a) (with_pred (system_at m.systems (place_named m.systems a)) (place_named m.systems b))
unfolding linked
linked_by_place m a b u =
    let s = with_pred (user_named m a) (named m b).place in
    let e = place_name m.systems a (user_place m a u) in
    put_by_place m s
    ∙ ap (λ (n : List ℕ). put_at m (place_named m.systems n) s) e
    ∙ ap (λ (q : ℕ). put_at m (place_named m.systems a) (with_pred (user_named m a) q)) (named_place m b)
