-- The line of a place is the text of the stored system that stands there.
use Prim.Native.Nat.{ℕ, zero, suc, ◌-◌, ◌≤◌, ◌<◌}
use mathlib.Core.Path.{◌≡◌, refl, sym, ap, ◌∙◌}
use mathlib.Core.Bool.{true}
use mathlib.Core.List.{List, [], ◌∷◌}
use native.Mathlib.Omega.{arith}
use lib.ListN.{length, take, get_or}
use Rattle.model.specs.Ascii.{ascii}
use Rattle.model.specs.Lists.{joined}
use Rattle.model.specs.Kinds.{of_kind, of_group}
use Rattle.model.specs.Memory.{System, system_at, user_ref, name_of, type_of, pred_name}
use Rattle.model.specs.Stored.{bytes_of, system_of, systems_of, memory_of, memory_shaped}
use Rattle.model.specs.Use.{in_group}
use Rattle.model.specs.WellFormed.{memory_fine}
use Rattle.model.specs.Reply.{system_line, link_line, enabled_line}
use Rattle.chains.proofs.Copies.{unset}
use Rattle.reply.specs.Types.{Group, StoredMemory, StoredSystem}
use Rattle.reply.specs.Lines.{system_text, at_fixed, pred_text, link_text, enabled_text}
use Rattle.reply.proofs.StoredLaws.{lent_at, stands_at, pred_fits}

-- ---- over the systems of the definitions

system_at_lem : (l : List System) (i : ℕ) → system_line l (user_ref l (suc i)) ≡ system_text (system_at l (suc i))
unfolding system_line name_of type_of system_text
system_at_lem l i = refl

-- a predecessor's name, wherever its place is
pred_at : (l : List System) (g : Group) (p : ℕ) → name_of l (in_group g p) ≡ at_fixed p (of_group g).name (system_at l p).name
unfolding name_of
pred_at l g zero = refl
pred_at l g (suc k) = refl

link_at : (l : List System) (i : ℕ) → link_line l (user_ref l (suc i)) ≡ link_text (system_at l (suc i)) (system_at l (system_at l (suc i)).pred).name
unfolding link_line name_of pred_name link_text pred_text
link_at l i =
    let s = system_at l (suc i) in
    ap (λ (n : List ℕ). joined (s.name ∷ ascii "=" ∷ n ∷ [])) (pred_at l (of_kind s.kind).group s.pred)

-- where the predecessor is a fixed system, no user system's name is asked
fixed_same : (p : ℕ) (a n k : List ℕ) → ((p ≡ 0 → ⊥) → n ≡ k) → at_fixed p a n ≡ at_fixed p a k
fixed_same zero a n k h = refl
fixed_same (suc i) a n k h = h (λ e. omega arith)

link_same : (s : System) (n k : List ℕ) → ((s.pred ≡ 0 → ⊥) → n ≡ k) → link_text s n ≡ link_text s k
unfolding link_text pred_text
link_same s n k h =
    ap (λ (t : List ℕ). joined (s.name ∷ ascii "=" ∷ t ∷ [])) (fixed_same s.pred (of_group (of_kind s.kind).group).name n k h)

enabled_at : (l : List System) (g : Group) (p : ℕ) → enabled_line l (in_group g p) ≡ enabled_text g p (system_at l p)
unfolding enabled_line name_of type_of enabled_text
enabled_at l g zero = refl
enabled_at l g (suc k) = refl

-- ---- over stored systems

module _ (m : StoredMemory) (shaped : memory_shaped m ≡ true) (long : length m.systems ≡ 16) where
  pub system_turn : (i : ℕ) → i < m.count → system_line (systems_of m) (user_ref (systems_of m) (suc i)) ≡ system_text (system_of (get_or (take m.count m.systems) i unset))
  system_turn i h = system_at_lem (systems_of m) i ∙ ap system_text (stands_at m shaped long i h) ∙ ap (λ (s : StoredSystem). system_text (system_of s)) (sym (lent_at m shaped long i h))

  -- the stored system of a place that is a user system's
  stored_place : (p : ℕ) → p ≤ m.count → (p ≡ 0 → ⊥) → system_at (systems_of m) p ≡ system_of (get_or m.systems (p - 1) unset)
  stored_place zero h n = absurd (n refl)
  stored_place (suc k) h n =
      let e : suc k - 1 ≡ k = omega arith in
      rw e (stands_at m shaped long k (omega arith))

  pub enabled_turn : (g : Group) (p : ℕ) → p ≤ m.count → enabled_line (systems_of m) (in_group g p) ≡ enabled_text g p (system_of (get_or m.systems (p - 1) unset))
  unfolding enabled_text
  enabled_turn g zero h = enabled_at (systems_of m) g zero
  enabled_turn g (suc k) h = enabled_at (systems_of m) g (suc k) ∙ ap (enabled_text g (suc k)) (stored_place (suc k) h (λ e. omega arith))

  pub link_turn : memory_fine (memory_of m) ≡ true → (i : ℕ) → i < m.count → let s = get_or (take m.count m.systems) i unset in
      link_line (systems_of m) (user_ref (systems_of m) (suc i)) ≡ link_text (system_of s) (bytes_of (get_or m.systems (s.pred - 1) unset).name)
  link_turn fine i h =
      let l = systems_of m in
      let s = get_or m.systems i unset in
      link_at l i
      ∙ ap (λ (t : System). link_text t (system_at l t.pred).name) (stands_at m shaped long i h)
      ∙ link_same (system_of s) _ _ (λ n. ap (λ (t : System). t.name) (stored_place s.pred (pred_fits m shaped long fine i h) n))
      ∙ ap (λ (t : StoredSystem). link_text (system_of t) (bytes_of (get_or m.systems (t.pred - 1) unset).name)) (sym (lent_at m shaped long i h))
