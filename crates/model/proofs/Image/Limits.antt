-- How large the numbers of a well-formed memory's image are, and how long the image is.
use Prim.Native.Nat.{ℕ, suc, ◌+◌, ◌*◌, ◌≤◌, ◌<◌}
use mathlib.Core.Path.{◌≡◌}
use mathlib.Core.List.{List, [], ◌∷◌, ◌++◌, map}
use mathlib.Core.Bool.{true, ◌&&◌}
use mathlib.Core.Logic.{⊎_elim}
use native.Mathlib.Omega.{arith}
use lib.Dec.{eqb}
use lib.IntN.{ℤ, pos, negsuc}
use lib.ListN.{length, length-append}
use borrow.Author.Tests.{leb-true, eqb-true}
use Rattle.model.specs.Types.{Kind, Ksd, Kst, Ksw, Ksb, Kld, Ksf, Enabled, OperatingPart, Single, Pair}
use Rattle.model.specs.Lists.{all, joined}
use Rattle.model.specs.Limits.{max_systems, name_limit, offset_limit, most_turns}
use Rattle.model.specs.Kinds.{of_kind}
use Rattle.model.specs.Memory.{System, Memory}
use Rattle.model.specs.Words.{offset?}
use Rattle.model.specs.WellFormed.{is_kind, system_fine, operating_fine, enabled_fine, memory_fine}
use Rattle.model.specs.Image.{edition, whole, signed_code, numbers, system_bytes, part_numbers, enabled_bytes, image}
use Rattle.model.specs.ImageClaims.{Fits}
use Rattle.model.proofs.Basics.{and_split, or_split}
use Rattle.model.proofs.Words.{legal_name_short}
use Rattle.model.proofs.Memories.Fine.{own_of, offsets_of_lem, turns_of_lem}
use Rattle.model.proofs.Image.Wholes.{length_whole}

-- ---- the numbers

pub record SystemWithin (l : List System) (s : System) : Type 0 where
  pub name : length s.name ≤ name_limit
  pub x : signed_code s.offset.x ≤ 2 * offset_limit
  pub y : signed_code s.offset.y ≤ 2 * offset_limit
  pub z : signed_code s.offset.z ≤ 2 * offset_limit
  pub u : s.turns.u ≤ most_turns
  pub v : s.turns.v ≤ most_turns
  pub w : s.turns.w ≤ most_turns
  pub pred : s.pred ≤ length l

offset_within : (z : ℤ) → offset? z ≡ true → signed_code z ≤ 2 * offset_limit
unfolding offset?
offset_within (pos n) e = omega (arith, leb-true n offset_limit e)
offset_within (negsuc n) e = omega (arith, leb-true (suc n) offset_limit e)

pub place_within : (l : List System) (k : Kind) (p : ℕ) → is_kind l k p ≡ true → p ≤ length l
unfolding is_kind
place_within l k p e =
    ⊎_elim (λ (h : eqb p 0 ≡ true). omega (arith, eqb-true p 0 h))
    (λ h. leb-true p (length l) (and_split _ _ h).0)
    (or_split _ _ e)

pub system_within_lem : (l : List System) (s : System) → system_fine l s ≡ true → SystemWithin l s
unfolding system_fine
system_within_lem l s e =
    let f = and_split _ _ e in
    let o = own_of s f.0 in
    let xyz = offsets_of_lem s.offset o.offset in
    let uvw = turns_of_lem s.turns o.turns in
    record {
      name = legal_name_short s.name o.name;
      x = offset_within s.offset.x xyz.x;
      y = offset_within s.offset.y xyz.y;
      z = offset_within s.offset.z xyz.z;
      u = uvw.u;
      v = uvw.v;
      w = uvw.w;
      pred = place_within l s.kind s.pred f.1;
    }

-- ---- a well-formed memory's parts

pub record Parts (m : Memory) : Type 0 where
  pub few : length m.systems ≤ max_systems
  pub fine : all (system_fine m.systems) m.systems ≡ true
  pub enabled : enabled_fine m.systems m.enabled ≡ true

pub parts : (m : Memory) → memory_fine m ≡ true → Parts m
unfolding memory_fine
parts m e =
    let f = and_split _ _ e in
    let s = and_split _ _ (and_split _ _ (and_split _ _ f.0).0).0 in
    record { few = leb-true (length m.systems) max_systems s.0; fine = s.1; enabled = f.1 }

-- ---- lengths

pub code_within : (k : Kind) → (of_kind k).code ≤ 6
code_within Ksd = omega arith
code_within Kst = omega arith
code_within Ksw = omega arith
code_within Ksb = omega arith
code_within Kld = omega arith
code_within Ksf = omega arith

pub one_group : (n : ℕ) → n < 128 → length (whole n) ≤ 1
one_group n h = length_whole 0 n h

five_groups : (n : ℕ) → n ≤ 2 * offset_limit → length (whole n) ≤ 5
five_groups n h = length_whole 4 n (omega arith)

length_system : (l : List System) (s : System) → length l ≤ max_systems → system_fine l s ≡ true → length (system_bytes s) ≤ 37
unfolding system_bytes numbers joined
length_system l s h e =
    let b = system_within_lem l s e in
    simp length-append
    (omega (
      arith,
      b.name,
      one_group (of_kind s.kind).code (omega (arith, code_within s.kind)),
      one_group (length s.name) (omega (arith, b.name)),
      five_groups (signed_code s.offset.x) b.x,
      five_groups (signed_code s.offset.y) b.y,
      five_groups (signed_code s.offset.z) b.z,
      one_group s.turns.u (omega (arith, b.u)),
      one_group s.turns.v (omega (arith, b.v)),
      one_group s.turns.w (omega (arith, b.w)),
      one_group s.pred (omega (arith, b.pred)),
    ))

length_systems : (l k : List System) → length l ≤ max_systems → all (system_fine l) k ≡ true → length (joined (map system_bytes k)) ≤ 37 * length k
unfolding all joined
length_systems l [] h e = omega arith
length_systems l (s ∷ k) h e =
    let f = and_split (system_fine l s) (all (system_fine l) k) e in
    simp length-append (omega (arith, length_system l s h f.0, length_systems l k h f.1))

-- a place has one group
length_place : (l : List System) (k : Kind) (p : ℕ) → length l ≤ max_systems → is_kind l k p ≡ true → length (whole p) ≤ 1
length_place l k p h e = one_group p (omega (arith, place_within l k p e))

length_part : (l : List System) (o : OperatingPart) (r v : ℕ) → length l ≤ max_systems → operating_fine l o ≡ true → length (numbers (part_numbers o ++ (r ∷ v ∷ []))) ≤ 3 + length (whole r) + length (whole v)
unfolding operating_fine numbers joined
length_part l (Single p) r v h e =
    let place = ⊎_elim (length_place l Ksd p h) (length_place l Ksf p h) (or_split (is_kind l Ksd p) (is_kind l Ksf p) e) in
    simp length-append (omega (arith, place, one_group 0 (omega arith)))
length_part l (Pair w t) r v h e =
    let f = and_split (is_kind l Ksw w) (is_kind l Kst t) (and_split _ _ e).0 in
    simp length-append (omega (arith, length_place l Ksw w h f.0, length_place l Kst t h f.1, one_group 1 (omega arith)))

length_enabled : (l : List System) (e : Enabled) → length l ≤ max_systems → enabled_fine l e ≡ true → length (enabled_bytes e) ≤ 5
unfolding enabled_fine enabled_bytes
length_enabled l e h g =
    let r = is_kind l Ksb e.orientational in
    let v = is_kind l Kld e.levelling in
    let f = and_split (operating_fine l e.operating && r) v g in
    let o = and_split (operating_fine l e.operating) r f.0 in
    omega (
      arith,
      length_part l e.operating e.orientational e.levelling h o.0,
      length_place l Ksb e.orientational h o.1,
      length_place l Kld e.levelling h f.1,
    )

pub fits : Fits
unfolding image numbers joined
fits m e =
    let p = parts m e in (
      simp length-append
          (omega (
            arith,
            one_group edition (omega arith),
            one_group (length m.systems) (omega (arith, p.few)),
            length_systems m.systems m.systems p.few p.fine,
            length_enabled m.systems m.enabled p.few p.enabled,
            p.few,
          )),
      omega arith,
    )
