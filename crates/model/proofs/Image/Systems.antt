-- A system: read is the one that was written, and no other bytes.
use Prim.Native.Nat.{ℕ, ◌/◌, ◌%◌, ◌≤◌}
use mathlib.Core.Path.{◌≡◌, refl, sym, ap, ◌∙◌}
use mathlib.Core.List.{List, [], ◌∷◌, ◌++◌, append_assoc, append-nil}
use mathlib.Core.Bool.{true, false}
use mathlib.Core.Option.{some}
use mathlib.Core.Logic.{⊎_elim}
use native.Mathlib.Nat.{add-zero, div-add-mod, mod-lt, mul-mod_right, mul-div_cancel_left, mul-add-mod_self_left, mul-add-div}
use native.Mathlib.Omega.{arith}
use lib.Dec.{eqb, leb}
use lib.IntN.{ℤ, pos, negsuc}
use lib.ListN.{length, take, drop, get_or, length-append, take-append-drop}
use lib.Seq.{length-take-le, take-append_seam, drop-append_seam}
use borrow.Author.Tests.{le-leb, leb-true, eqb-true, eqb-false}
use Rattle.model.specs.Types.{Kind, Ksd, Kst, Ksw, Ksb, Kld, Ksf}
use Rattle.model.specs.Lists.{joined, table}
use Rattle.model.specs.Limits.{max_systems, name_limit}
use Rattle.model.specs.Kinds.{kinds, of_kind}
use Rattle.model.specs.Memory.{System}
use Rattle.model.specs.WellFormed.{system_fine}
use Rattle.model.specs.Image.{numbers, signed_code, system_bytes, give, fail, give?, several, most_byte, most_offset, signed_of, kind_of, read_bytes, read_name, system_from, read_placed, read_system}
use Rattle.model.proofs.Basics.{none_some, either}
use Rattle.model.proofs.Image.Readers.{then, gave, given, give_some, one_read, one_some, passed}
use Rattle.model.proofs.Image.Limits.{code_within, system_within_lem}
use Rattle.model.proofs.Image.Several.{TakenNumbers, several_told, numbers_taken, read_two, read_three, read_four, listed}

-- ---- a name

name_told_lem : (n : ℕ) (bs name rest : List ℕ) → read_name n bs ≡ some (name, rest) → (bs ≡ name ++ rest) × (length name ≡ n)
unfolding read_name read_bytes fail
name_told_lem n bs name rest e =
    ⊎_elim (λ t. taken (rw t at e)) (λ t. none_some (rw t at e)) (either (leb n name_limit))
  where
    taken : read_bytes n bs ≡ some (name, rest) → (bs ≡ name ++ rest) × (length name ≡ n)
    taken r =
        let p = passed (leb n (length bs)) (take n bs, drop n bs) (name, rest) r in
        let h = leb-true n (length bs) p.0 in
        let q = one_read (ap some p.1) in
        (rw (← q.0, ← q.1) (sym (take-append-drop n bs)), rw (← q.0) (length-take-le n bs h))

name_read : (l rest : List ℕ) → length l ≤ name_limit → read_name (length l) (l ++ rest) ≡ some (l, rest)
unfolding read_name read_bytes
name_read l rest h =
    let g : length l ≤ length (l ++ rest) = omega (arith, length-append l rest) in
    rw (le-leb (length l) name_limit h, le-leb (length l) (length (l ++ rest)) g, take-append_seam l rest, drop-append_seam l rest)

-- ---- a type code

kind_code : (k : Kind) → kind_of kinds (of_kind k).code ≡ some k
unfolding kind_of
kind_code Ksd = refl
kind_code Kst = refl
kind_code Ksw = refl
kind_code Ksb = refl
kind_code Kld = refl
kind_code Ksf = refl

kind_told : (ks : List Kind) (c : ℕ) (k : Kind) → kind_of ks c ≡ some k → (of_kind k).code ≡ c
unfolding kind_of
kind_told [] c k e = none_some e
kind_told (j ∷ ks) c k e =
    ⊎_elim (λ (t : eqb (of_kind j).code c ≡ true). let q = one_some (rw (t, kind_of) at e) in rw (← q) (eqb-true (of_kind j).code c t))
    (λ (t : eqb (of_kind j).code c ≡ false). kind_told ks c k (rw (t, kind_of) at e))
    (either (eqb (of_kind j).code c))

-- ---- a signed number

signed_back : (z : ℤ) → signed_of (signed_code z) ≡ z
unfolding signed_of
signed_back (pos n) = rw (mul-mod_right 2 n, mul-div_cancel_left n {n = 2} (omega arith))
signed_back (negsuc n) =
    let odd : signed_code (negsuc n) % 2 ≡ 1 = mul-add-mod_self_left 2 n 1 in
    let half : signed_code (negsuc n) / 2 ≡ n = mul-add-div {m = 2} (omega arith) n 1 ∙ add-zero n in
    rw (odd, half)

signed_told : (n : ℕ) → signed_code (signed_of n) ≡ n
unfolding signed_of
signed_told n =
    let d = div-add-mod n 2 in
    ⊎_elim (λ t. rw t (omega (arith, eqb-true (n % 2) 0 t)))
    (λ t. let f = eqb-false (n % 2) 0 t in rw t (omega (arith, f, mod-lt n {m = 2} (omega arith))))
    (either (eqb (n % 2) 0))

-- ---- a system

-- the bytes of a system, one part after the other
parted : (s : System) (rest : List ℕ) → system_bytes s ++ rest
    ≡ numbers ((of_kind s.kind).code ∷ length s.name ∷ [])
    ++ (s.name
    ++ (numbers (signed_code s.offset.x ∷ signed_code s.offset.y ∷ signed_code s.offset.z ∷ [])
    ++ (numbers (s.turns.u ∷ s.turns.v ∷ s.turns.w ∷ s.pred ∷ []) ++ rest)))
unfolding system_bytes joined
parted s rest = simp (append_assoc, append-nil)

pub system_read : (l : List System) (s : System) (rest : List ℕ) → length l ≤ max_systems → system_fine l s ≡ true → read_system (system_bytes s ++ rest) ≡ some (s, rest)
unfolding read_system read_placed give
system_read l s rest h e =
    let b = system_within_lem l s e in
    let t = numbers (s.turns.u ∷ s.turns.v ∷ s.turns.w ∷ s.pred ∷ []) ++ rest in
    let o = numbers (signed_code s.offset.x ∷ signed_code s.offset.y ∷ signed_code s.offset.z ∷ []) ++ t in
    rw (parted s rest)
    (then (several 2 most_byte) _ _ (read_two most_byte (s.name ++ o) (omega (arith, code_within s.kind)) (omega (arith, b.name)))
    ∙ then (give? (kind_of kinds (of_kind s.kind).code)) _ _ (give_some (s.name ++ o) (kind_code s.kind))
    ∙ then (read_name (length s.name)) _ _ (name_read s.name o b.name)
    ∙ then (several 3 most_offset) _ _ (read_three most_offset t b.x b.y b.z)
    ∙ then (several 4 most_byte) _ _ (read_four most_byte rest (omega (arith, b.u)) (omega (arith, b.v)) (omega (arith, b.w)) (omega (arith, b.pred)))
    ∙ simp signed_back)

-- the parts that were read are those of the system
module _ (k : Kind) (bs h name o t after-h after-name after-o rest : List ℕ) where
  parts_told : TakenNumbers 2 most_byte bs h after-h → (of_kind k).code ≡ get_or h 0 0 → after-h ≡ name ++ after-name → length name ≡ get_or h 1 0 → TakenNumbers 3 most_offset after-name o after-o → TakenNumbers 4 most_byte after-o t rest
      → bs ≡ system_bytes (system_from k name o t) ++ rest
  unfolding table
  parts_told th ek en el to tt =
      let eh : numbers ((of_kind k).code ∷ length name ∷ []) ≡ numbers h = ap numbers (rw (ek, el) (sym (listed 2 h th.long))) in
      let eo : numbers (signed_code (signed_of (get_or o 0 0)) ∷ signed_code (signed_of (get_or o 1 0)) ∷ signed_code (signed_of (get_or o 2 0)) ∷ []) ≡ numbers o =
      ap numbers (simp signed_told (sym (listed 3 o to.long))) in
      let et : numbers (get_or t 0 0 ∷ get_or t 1 0 ∷ get_or t 2 0 ∷ get_or t 3 0 ∷ []) ≡ numbers t = ap numbers (sym (listed 4 t tt.long)) in
      rw (parted (system_from k name o t) rest, eh, eo, et) (numbers_taken th ∙ rw (en, numbers_taken to, numbers_taken tt))

pub system_told_lem : (bs : List ℕ) (s : System) (rest : List ℕ) → read_system bs ≡ some (s, rest) → bs ≡ system_bytes s ++ rest
unfolding read_system read_placed give
system_told_lem bs s rest e =
    let h = gave (several 2 most_byte) _ bs e in
    let k = gave (give? (kind_of kinds (get_or h.0 0 0))) _ h.1 h.3 in
    let n = gave (read_name (get_or h.0 1 0)) _ k.1 k.3 in
    let o = gave (several 3 most_offset) _ n.1 n.3 in
    let t = gave (several 4 most_byte) _ o.1 o.3 in
    let q = one_read {a = system_from k.0 n.0 o.0 t.0} t.3 in
    let kt = given h.1 (kind_of kinds (get_or h.0 0 0)) k.2 in
    let nt = name_told_lem (get_or h.0 1 0) k.1 n.0 n.1 n.2 in
    let to = several_told most_offset 3 n.1 o.0 o.1 o.2 in
    let tt = several_told most_byte 4 o.1 t.0 t.1 t.2 in
    rw (q.0, q.1) at (parts_told k.0 bs h.0 n.0 o.0 t.0 h.1 n.1 o.1 t.1 (several_told most_byte 2 bs h.0 h.1 h.2) (kind_told kinds (get_or h.0 0 0) k.0 kt.0) (kt.1 ∙ nt.0) nt.1 to tt)
