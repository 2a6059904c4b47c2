-- The search by name, for a scan that goes system by system and keeps the first that has the name.
use Prim.Native.Nat.{ℕ, suc, ◌+◌, ◌-◌, ◌≤◌, ◌<◌}
use mathlib.Core.Path.{◌≡◌, sym, ◌∙◌}
use mathlib.Core.List.{List, map}
use mathlib.Core.Bool.{Bool, true, false, ◌&&◌}
use native.Mathlib.Omega.{arith}
use native.Mathlib.Decide.{dec_lt}
use native.Mathlib.Numerals.{add-one}
use borrow.Author.Tests.{lt-ltb, le-ltb, eqb-true}
use lib.Dec.{eqb}
use lib.ListN.{length, take, get_or, length-map, get_or-map}
use Rattle.model.specs.declared.System.{System as StoredSystem}
use Rattle.model.specs.declared.Memory.{Memory as StoredMemory}
use Rattle.model.specs.Lists.{all, same, least}
use Rattle.model.specs.Memory.{System, blank, system_at, place_named}
use Rattle.model.specs.Stored.{system_of, name_shaped}
use Rattle.model.proofs.Basics.{true_false, and_split, all_at, least_is, least_hit}
use Rattle.chains.proofs.Copies.{unset}
use Rattle.memory.specs.Found.{Stands}
use Rattle.model.proofs.Shape.{shaped_names}

-- the system at index j has the name
abbrev pub has : List System → List ℕ → ℕ → Bool
has l n j = same n (get_or l j blank).name

module _ (l : List System) (n : List ℕ) where
  pub place_hit : (i : ℕ) → i < length l → has l n i ≡ true → ((j : ℕ) → j < i → has l n j ≡ false) → place_named l n ≡ suc i
  unfolding place_named system_at
  place_hit i h e f = let k = least_is (length l) (has l n) i h e f in rw (k, lt-ltb i (length l) h)

  pub place_none : ((j : ℕ) → j < length l → has l n j ≡ false) → place_named l n ≡ 0
  unfolding place_named system_at
  place_none f = go (dec_lt (least (length l) (has l n)) (length l))
    where
      go : Dec (least (length l) (has l n) < length l) → place_named l n ≡ 0
      go (yes a) = true_false (sym (least_hit (length l) (has l n) a) ∙ f _ a)
      go (no b) = rw (le-ltb (least (length l) (has l n)) (length l) (omega arith))

  -- of the first i systems the one at this place is the first that has the name; place 0: none of them has it
  pub record First (i place : ℕ) : Type 0 where
    pub met : 0 < place → (place ≤ i) × (has l n (place - 1) ≡ true)
    pub passed : (j : ℕ) → j < i → (0 < place → j < place - 1) → has l n j ≡ false

  first_hit : (i : ℕ) → First i 0 → has l n i ≡ true → First (i + 1) (i + 1)
  first_hit i f e =
      let k : i + 1 - 1 ≡ i = omega arith in
      record { met = λ h. (omega arith, rw k e); passed = λ j h b. f.passed j (omega (arith, b (omega arith))) (λ z. absurd (omega arith)) }

  first_miss : (i place : ℕ) → First i place → (place ≡ 0 → has l n i ≡ false) → First (i + 1) place
  first_miss i place f e = record { met = λ h. (omega (arith, (f.met h).0), (f.met h).1); passed = λ j h b. go j h b (dec_lt j i) }
    where
      last : Dec (0 < place) → (0 < place → i < place - 1) → has l n i ≡ false
      last (yes h) b = absurd (omega (arith, b h, (f.met h).0))
      last (no h) b = e (omega arith)

      go : (j : ℕ) → j < i + 1 → (0 < place → j < place - 1) → Dec (j < i) → has l n j ≡ false
      go j h b (yes k) = f.passed j k b
      go j h b (no k) = let q : j ≡ i = omega arith in rw q (last (dec_lt 0 place) (rw q at b))

  first_named_lem : (place : ℕ) → First (length l) place → place ≡ place_named l n
  first_named_lem place f = go (dec_lt 0 place)
    where
      go : Dec (0 < place) → place ≡ place_named l n
      go (yes h) =
          let w = (f.met h).0 in
          let k : place ≡ suc (place - 1) = omega arith in
          k ∙ sym (place_hit (place - 1) (omega arith) (f.met h).1 (λ j b. f.passed j (omega arith) (λ z. b)))
      go (no h) =
          let k : place ≡ 0 = omega arith in
          k ∙ sym (place_none (λ j b. f.passed j b (λ z. absurd (omega arith))))

-- ---- over the stored systems that a memory holds

-- what a scan has kept of the name n once it has passed i systems
pub record Seen (xs : List StoredSystem) (n : List ℕ) (i place : ℕ) (s : StoredSystem) : Type 0 where
  pub first : First (map system_of xs) n i place
  pub system_is : system_of s ≡ system_at (map system_of xs) place
  pub shaped : all name_shaped xs ≡ true → name_shaped s ≡ true

-- the scan takes this system for the name, which has that place so far
abbrev pub takes : List ℕ → ℕ → StoredSystem → Bool
takes n place s = eqb place 0 && same n (system_of s).name

module _ (xs : List StoredSystem) (n : List ℕ) where
  pub seen_none : (s : StoredSystem) → system_of s ≡ blank → name_shaped s ≡ true → Seen xs n 0 0 s
  unfolding system_at
  seen_none s e p = record { first = record { met = λ h. absurd (omega arith); passed = λ j h. absurd (omega arith) }; system_is = e; shaped = λ q. p }

  module _ (i : ℕ) (within : i < length xs) (place : ℕ) (s : StoredSystem) (seen : Seen xs n i place s) where
    abbrev here : StoredSystem
    here = get_or xs i unset

    at_here : get_or (map system_of xs) i blank ≡ system_of here
    at_here = get_or-map system_of xs i unset

    seen_hit : takes n place here ≡ true → Seen xs n (i + 1) (i + 1) here
    unfolding system_at
    seen_hit e =
        let t = and_split (eqb place 0) _ e in
        record {
          first = first_hit (map system_of xs) n i (rw (eqb-true place 0 t.0) at seen.first) (rw at_here t.1);
          system_is = rw add-one (sym at_here);
          shaped = λ q. all_at name_shaped xs unset i q within;
        }

    seen_miss : takes n place here ≡ false → Seen xs n (i + 1) place s
    seen_miss e = record {
      first = first_miss (map system_of xs) n i place seen.first (λ z. rw at_here (rw z at e));
      system_is = seen.system_is;
      shaped = seen.shaped;
    }

    -- one system more, by what the code found of it
    pub seen_turn : (r : Bool) → r ≡ takes n place here → (r ≡ true → Seen xs n (i + 1) (i + 1) here) × (r ≡ false → Seen xs n (i + 1) place s)
    seen_turn r e = (λ t. seen_hit (sym e ∙ t), λ f. seen_miss (sym e ∙ f))

  pub seen_all : (m : StoredMemory) → xs ≡ take m.count m.systems → (i place : ℕ) (s : StoredSystem) → i ≡ length xs → Seen xs n i place s → Stands m n place s
  seen_all m held i place s e seen =
      let l = map system_of xs in
      let first : First l n (length l) place = rw (length-map xs system_of, ← e) seen.first in record {
        place_is = rw (← held) (first_named_lem l n place first);
        system_is = rw (← held) seen.system_is;
        shaped = λ q. seen.shaped (rw held (shaped_names m q));
      }
