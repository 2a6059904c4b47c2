-- Document 01, "Commands", KRM: what a removal leaves of the other chains, by name, so whatever becomes of places. The statement only; proofs/Edits proves it.
use Rattle.std.specs.Prelude.{◌≡◌}
use Rattle.model.specs.Base.{ℕ, suc, List, map, true, false, not, length}
use Rattle.model.specs.Lists.{any, kept, same, there?}
use Rattle.model.specs.Memory.{Memory, name_of, place_named, is_user, find, named}
use Rattle.model.specs.Chain.{chain}
use Rattle.model.specs.Use.{in_group, name_in_use}
use Rattle.model.specs.WellFormed.{memory_fine}
use Rattle.model.specs.Effects.{removed_at}

-- [Memory 3] the names on the chain of the system of that name
unfoldable pub chain_names : Memory → List ℕ → List (List ℕ)
chain_names m n = map (λ q. name_of m.systems (in_group (named m n).group q)) (chain m.systems (named m n).place)

-- [Commands, KRM] another system is still there; its chain is the old one without a, and so has one step fewer where a was on it
pub record StillThere (m m' : Memory) (a n : List ℕ) : Type 0 where
  pub present : there? (find m' n) ≡ true
  pub chain : chain_names m' n ≡ kept (λ x. not (same x a)) (chain_names m n)
  pub fewer : any (same a) (chain_names m n) ≡ true → suc (length (chain_names m' n)) ≡ length (chain_names m n)
  pub alike : any (same a) (chain_names m n) ≡ false → chain_names m' n ≡ chain_names m n

-- [Commands, KRM] for each name but a that a system has
abbrev pub RemovalMends : Type 0
RemovalMends =
    (m : Memory) → memory_fine m ≡ true → (a : List ℕ) → is_user m a ≡ true → name_in_use m a ≡ false →
    (n : List ℕ) → (n ≡ a → ⊥) → there? (find m n) ≡ true → StillThere m (removed_at m (place_named m.systems a)) a n
