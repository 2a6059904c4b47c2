-- Copying numbers out of a stored memory, one system a turn.
use Prim.Native.Nat.{ℕ, zero, suc, ◌+◌, ◌*◌, min, ◌<◌, ◌≤◌}
use mathlib.Core.Path.{◌≡◌, refl, sym, ap, ◌∙◌}
use mathlib.Core.List.{List, [], ◌∷◌, ◌++◌, map, map-append}
use native.Mathlib.Omega.{arith}
use native.Mathlib.Decide.{dec_lt}
use native.Mathlib.Numerals.{add-one}
use lib.ListN.{length, get_or, take, set, length-map, length-set}
use lib.Seq.{take-suc, take-suc-set, take-take, take_all, get_or-set_same, get_or-set_other}
use Rattle.model.specs.declared.Kind.TheVariants.{Ksd}
use Rattle.model.specs.declared.System.{System as StoredSystem}
use Rattle.model.specs.Stored.{system_of}
use Rattle.model.specs.Pose.{origin}
use Rattle.model.specs.Memory.{System, no_turn}
use Rattle.chains.specs.Flat.{preds_of}

-- what owning a struct tells of a field that is an array of structs: `search (length_mapped, needs)`
pub length_mapped : {X Y : Type 0} (f : X → Y) (l : List X) (n : ℕ) → length (map f l) ≡ n → length l ≡ n
length_mapped f l n e = sym (length-map l f) ∙ e

-- a count beyond the list takes the whole of it
pub take_min : {A : Type 0} (n k : ℕ) (l : List A) → length l ≡ k → take (min n k) l ≡ take n l
take_min n k l e = go (dec_lt n k)
  where
    go : Dec (n < k) → take (min n k) l ≡ take n l
    go (yes h) = let m : min n k ≡ n = omega arith in rw m
    go (no h) = let m : min n k ≡ k = omega arith in rw m (take_all k l (omega arith) ∙ sym (take_all n l (omega arith)))

-- the predecessors of the first i stored systems
abbrev pub preds_before : List StoredSystem → ℕ → List ℕ
preds_before l i = preds_of (map system_of (take i l))

pub one_more : (l : List StoredSystem) (ps : List ℕ) (i : ℕ) (d : StoredSystem) → i < length l → i < length ps → take i ps ≡ preds_before l i → take (i + 1) (set ps i (get_or l i d).pred) ≡ preds_before l (i + 1)
one_more l ps i d h k e =
    rw (add-one i, take-suc-set ps i (get_or l i d).pred, take-suc l i d, map-append system_of (take i l) (get_or l i d ∷ []), map-append (λ (s : System). s.pred) (map system_of (take i l)) (system_of (get_or l i d) ∷ []))
    (ap (λ (r : List ℕ). r ++ ((get_or l i d).pred ∷ [])) e)

-- what is laid for more systems holds for fewer
fewer : (l : List StoredSystem) (n i : ℕ) → n ≤ i → take n (preds_before l i) ≡ preds_before l n
fewer l zero i h = refl
fewer l (suc n) zero h = absurd (omega arith)
fewer [] (suc n) (suc i) h = refl
fewer (s ∷ l) (suc n) (suc i) h = ap (λ (ps : List ℕ). s.pred ∷ ps) (fewer l n i (omega arith))

pub fewer_laid : (l : List StoredSystem) (ps : List ℕ) (n i : ℕ) → n ≤ i → take i ps ≡ preds_before l i → take n ps ≡ preds_before l n
fewer_laid l ps n i h e = sym (take-take n i ps h) ∙ ap (take n) e ∙ fewer l n i h

-- only to fill a place where a list has no system
abbrev pub unset : StoredSystem
unset = record { kind = Ksd; name = record { bytes = []; len = 0 }; offset = origin; turns = no_turn; pred = 0 }

-- ---- three numbers to a system

-- what is laid for system j
abbrev pub Three : {A : Type 0} → A → List A → ℕ → A → A → A → Type 0
Three d xs j a b c = (get_or xs (j * 3) d ≡ a) × (get_or xs (j * 3 + 1) d ≡ b) × (get_or xs (j * 3 + 2) d ≡ c)

abbrev pub put_three : {A : Type 0} → List A → ℕ → A → A → A → List A
put_three xs i a b c = set (set (set xs (i * 3) a) (i * 3 + 1) b) (i * 3 + 2) c

module _ {A : Type 0} (d : A) (xs : List A) (i : ℕ) (a b c : A) where
  abbrev one : List A
  one = set xs (i * 3) a

  abbrev two : List A
  two = set one (i * 3 + 1) b

  put_before : (n : ℕ) → n < i * 3 → get_or (put_three xs i a b c) n d ≡ get_or xs n d
  put_before n h =
      get_or-set_other two (i * 3 + 2) n c d (λ e. omega arith) ∙ get_or-set_other one (i * 3 + 1) n b d (λ e. omega arith) ∙
      get_or-set_other xs (i * 3) n a d (λ e. omega arith)

  put_there : i * 3 + 2 < length xs → Three d (put_three xs i a b c) i a b c
  put_there room = (
    get_or-set_other two (i * 3 + 2) (i * 3) c d (λ e. omega arith) ∙ get_or-set_other one (i * 3 + 1) (i * 3) b d (λ e. omega arith) ∙
        get_or-set_same xs (i * 3) a d (omega arith),
    get_or-set_other two (i * 3 + 2) (i * 3 + 1) c d (λ e. omega arith) ∙ get_or-set_same one (i * 3 + 1) b d (simp length-set (omega arith)),
    get_or-set_same two (i * 3 + 2) c d (simp length-set (omega arith)),
  )

-- one system more is laid
pub three_more : {A : Type 0} (d : A) (f g h : ℕ → A) (xs : List A) (i : ℕ) → i * 3 + 2 < length xs → ((j : ℕ) → j < i → Three d xs j (f j) (g j) (h j)) → (j : ℕ) → j < i + 1 → Three d (put_three xs i (f i) (g i) (h i)) j (f j) (g j) (h j)
three_more d f g h xs i room before j l = go (dec_lt j i)
  where
    old : (n : ℕ) → n < i * 3 → get_or (put_three xs i (f i) (g i) (h i)) n d ≡ get_or xs n d
    old = put_before d xs i (f i) (g i) (h i)

    go : Dec (j < i) → Three d (put_three xs i (f i) (g i) (h i)) j (f j) (g j) (h j)
    go (yes k) =
        let t = before j k in
        (old (j * 3) (omega arith) ∙ t.0, old (j * 3 + 1) (omega arith) ∙ t.1, old (j * 3 + 2) (omega arith) ∙ t.2)
    go (no k) = let e : j ≡ i = omega arith in rw e (put_there d xs i (f i) (g i) (h i) room)
