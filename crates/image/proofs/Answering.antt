-- What is answered to the bytes of an image, by what was read.
use Prim.Native.Nat.{ℕ}
use mathlib.Core.Path.{◌≡◌, refl, sym}
use mathlib.Core.List.{List, [], ◌∷◌}
use mathlib.Core.Bool.{true, false}
use mathlib.Core.Option.{none, some}
use native.Mathlib.Omega.{arith}
use lib.Dec.{eqb}
use lib.ListN.{length}
use borrow.Author.Tests.{ne_eqb}
use Rattle.std.specs.Prelude.{Ok, Err}
use Rattle.facts.specs.declared.refusals.Refusal.TheVariants.{NoImage}
use Rattle.model.specs.Lists.{none?}
use Rattle.model.specs.Memory.{Memory}
use Rattle.model.specs.declared.Memory.{Memory as StoredMemory}
use Rattle.model.specs.WellFormed.{memory_fine}
use Rattle.model.specs.Stored.{memory_of, memory_shaped}
use Rattle.model.specs.Image.{read_memory, wholly_read, accepted}
use Rattle.model.proofs.Told.{tells_some, refuses_none}
use Rattle.image.specs.Accepted.{Answers}

emptied : (l : List ℕ) → none? l ≡ eqb (length l) 0
unfolding none?
emptied [] = refl
emptied (x ∷ l) = sym (ne_eqb (length (x ∷ l)) 0 (λ e. omega (arith, e)))

module _ (bs : List ℕ) where
  pub refuses : accepted bs ≡ none → Answers bs (Err NoImage)
  refuses e = record { told = refuses_none 14 e; shaped = tt }

  pub accepts : (m : StoredMemory) → memory_shaped m ≡ true → accepted bs ≡ some (memory_of m) → Answers bs (Ok m)
  accepts m s e = record { told = tells_some 14 e; shaped = s }

  pub unread : read_memory bs ≡ none → accepted bs ≡ none
  unfolding accepted wholly_read
  unread e = rw e

  module _ (m : Memory) (left : List ℕ) (e : read_memory bs ≡ some (m, left)) where
    pub bytes_left : eqb (length left) 0 ≡ false → accepted bs ≡ none
    unfolding accepted wholly_read
    bytes_left h = rw (e, emptied left, h)

    module _ (h : eqb (length left) 0 ≡ true) where
      pub ill_formed : memory_fine m ≡ false → accepted bs ≡ none
      unfolding accepted wholly_read
      ill_formed f = rw (e, emptied left, h, f)

      pub well_formed_lem : memory_fine m ≡ true → accepted bs ≡ some m
      unfolding accepted wholly_read
      well_formed_lem f = rw (e, emptied left, h, f)
