-- What is ordered by a line of one field, of two fields, of three, and of many.
use Rattle.std.proofs.Common.{◌≡◌, ℕ, ◌≤◌, false, List, [], ◌∷◌, length, take, ℤ, pos, sym, refl, ap, ◌∙◌, arith, length-take-le, get_or-take, eq-eqb, ne_eqb}
use Rattle.std.specs.Prelude.{Option as Answer, Some, None}
use mathlib.Core.Option.{Option, none, some}
use Rattle.model.specs.Ascii.{ascii}
use Rattle.model.specs.Lists.{same}
use Rattle.print.specs.Over.{over}
use Rattle.script.specs.declared.parse.Directive.{Directive}
use Rattle.script.specs.declared.parse.Directive.TheVariants.{Line, Restart, Write, Image, Factory, Use, Position as Stands}
use Rattle.script.specs.Hex.{pairs_read}
use Rattle.script.specs.Numbers.{numbers_of, no_more_than}
use Rattle.script.specs.Directive.{longest_lent, position, unclear, length_of, bytes_of, Spelled, write_order, start_order, use_order, line_order, position_at, position_order, one_field, two_fields, three_fields, few_fields, understood, hex_field, Understood}
use Rattle.script.proofs.FieldLaws.{Other, no_letter}
use Rattle.script.proofs.NumberLaws.{whole_bound, told_all, untold}

-- ---- one field

module _ (b : List ℕ) where
  pub one_restart : Understood (one_field (ascii "R")) [] b (Some Restart) b
  unfolding one_field same pairs_read over
  one_restart = record { order = refl; bytes = refl; bounded = tt }

  pub one_factory : Understood (one_field (ascii "N")) [] b (Some Factory) b
  unfolding one_field same pairs_read over
  one_factory = record { order = refl; bytes = refl; bounded = tt }

  pub one_other : (w : List ℕ) → Other w 82 → Other w 78 → Understood (one_field w) [] b None b
  unfolding one_field pairs_read over
  one_other w f g = record { order = rw (no_letter w 82 f, no_letter w 78 g); bytes = refl; bounded = tt }

-- ---- two fields

module _ (v : List ℕ) where
  pub two_write : (b : List ℕ) {n : ℕ} → some n ≡ length_of v → Understood (two_fields (ascii "W") v) (hex_field (ascii "W" ∷ v ∷ [])) b (Some (Write n)) b
  unfolding two_fields hex_field same pairs_read over
  two_write b {n} e = record { order = ap write_order e; bytes = refl; bounded = whole_bound longest_lent v n (sym e) }

  pub two_unwritten : (b : List ℕ) → none ≡ length_of v → Understood (two_fields (ascii "W") v) (hex_field (ascii "W" ∷ v ∷ [])) b None b
  unfolding two_fields hex_field same pairs_read over
  two_unwritten b e = record { order = ap write_order e; bytes = refl; bounded = tt }

  -- a field of digits, for an image or a name
  module _ {before after : List ℕ} where
    pub two_image : {n : ℕ} → Spelled v before (Some n) after → Understood (two_fields (ascii "I") v) (hex_field (ascii "I" ∷ v ∷ [])) before (Some (Image n)) after
    unfolding two_fields hex_field same
    two_image s = record { order = ap start_order s.told; bytes = s.bytes; bounded = s.inside }

    pub two_no_image : Spelled v before None after → Understood (two_fields (ascii "I") v) (hex_field (ascii "I" ∷ v ∷ [])) before None after
    unfolding two_fields hex_field same
    two_no_image s = record { order = ap start_order s.told; bytes = s.bytes; bounded = tt }

    pub two_name : {n : ℕ} → Spelled v before (Some n) after → Understood (two_fields (ascii "U") v) (hex_field (ascii "U" ∷ v ∷ [])) before (Some (Use n)) after
    unfolding two_fields hex_field same
    two_name s = record { order = ap use_order s.told; bytes = s.bytes; bounded = s.inside }

    pub two_no_name : Spelled v before None after → Understood (two_fields (ascii "U") v) (hex_field (ascii "U" ∷ v ∷ [])) before None after
    unfolding two_fields hex_field same
    two_no_name s = record { order = ap use_order s.told; bytes = s.bytes; bounded = tt }

  pub two_other : (w b : List ℕ) → Other w 87 → Other w 73 → Other w 85 → Understood (two_fields w v) (hex_field (w ∷ v ∷ [])) b None b
  unfolding two_fields hex_field pairs_read over
  two_other w b f g h =
      let image = no_letter w 73 g in
      let name = no_letter w 85 h in
      record { order = rw (no_letter w 87 f, image, name); bytes = rw (image, name); bounded = tt }

-- ---- three fields

module _ (h n : List ℕ) where
  module _ {before after : List ℕ} where
    pub three_line : {k j : ℕ} → Spelled h before (Some k) after → some j ≡ length_of n →
        Understood (three_fields (ascii "L") h n) (hex_field (ascii "L" ∷ h ∷ n ∷ [])) before (Some (Line k j)) after
    unfolding three_fields hex_field same
    three_line {k} {j} s e =
        record {
          order = ap (λ (o : Option (List ℕ)). line_order o (some j)) s.told ∙ ap (line_order (bytes_of h)) e;
          bytes = s.bytes;
          bounded = (s.inside, whole_bound longest_lent n j (sym e));
        }

    pub three_no_bytes : Spelled h before None after → Understood (three_fields (ascii "L") h n) (hex_field (ascii "L" ∷ h ∷ n ∷ [])) before None after
    unfolding three_fields hex_field same
    three_no_bytes s = record { order = ap (λ (o : Option (List ℕ)). line_order o (length_of n)) s.told; bytes = s.bytes; bounded = tt }

    pub three_no_length : {k : ℕ} → Spelled h before (Some k) after → none ≡ length_of n →
        Understood (three_fields (ascii "L") h n) (hex_field (ascii "L" ∷ h ∷ n ∷ [])) before None after
    unfolding three_fields hex_field same
    three_no_length s e =
        record { order = ap (λ (o : Option (List ℕ)). line_order o none) s.told ∙ ap (line_order (bytes_of h)) e; bytes = s.bytes; bounded = tt }

  pub three_other : (w b : List ℕ) → Other w 76 → Understood (three_fields w h n) (hex_field (w ∷ h ∷ n ∷ [])) b None b
  unfolding three_fields hex_field pairs_read over
  three_other w b f = let line = no_letter w 76 f in record { order = rw line; bytes = rw line; bounded = tt }

-- ---- six numbers

position_first : (run : List ℤ) → position_at (take 6 run) ≡ position_at run
position_first run = rw (get_or-take 6 run 0 (pos 0) (omega arith), get_or-take 6 run 1 (pos 0) (omega arith), get_or-take 6 run 2 (pos 0) (omega arith), get_or-take 6 run 3 (pos 0) (omega arith), get_or-take 6 run 4 (pos 0) (omega arith), get_or-take 6 run 5 (pos 0) (omega arith))

module _ (o : Option (List ℤ)) (b : List ℕ) where
  pub position_wrong : none ≡ no_more_than 6 o → Understood (position_order o) [] b None b
  unfolding position_order pairs_read over
  position_wrong e = record { order = sym (pick o e); bytes = refl; bounded = tt }
    where
      pick : (p : Option (List ℤ)) → none ≡ no_more_than 6 p → position_order p ≡ unclear
      pick none q = refl
      pick (some zs) q = rw (ne_eqb (length zs) 6 (λ h. omega (arith, untold 6 zs q)))

  -- numbers that were read, to the front of a run
  module _ (run : List ℤ) (n : ℕ) (e : some (take n run) ≡ no_more_than 6 o) (h : n ≤ length run) where
    all_read : o ≡ some (take n run)
    all_read = told_all 6 (take n run) o e

    pub position_other : (n ≡ 6 → ⊥) → Understood (position_order o) [] b None b
    unfolding position_order pairs_read over
    position_other g = record { order = rw (all_read, length-take-le n run h, ne_eqb n 6 g); bytes = refl; bounded = tt }

    pub position_taken : n ≡ 6 → Understood (position_order o) [] b (Some (Stands (position_at run))) b
    unfolding position_order pairs_read over
    position_taken g =
        let p : position_at run ≡ position_at (take n run) = rw g (sym (position_first run)) in
        record { order = rw (all_read, length-take-le n run h, eq-eqb n 6 g) (ap position p); bytes = refl; bounded = tt }

-- ---- by the first field

no_hex : (ws : List (List ℕ)) → hex_field (ascii "P" ∷ ws) ≡ []
unfolding hex_field same
no_hex [] = refl
no_hex (v ∷ []) = refl
no_hex (h ∷ n ∷ []) = refl
no_hex (h ∷ n ∷ z ∷ zs) = refl

module _ (ws : List (List ℕ)) {r : Answer Directive} where
  pub first_position : {b : List ℕ} → Understood (position_order (numbers_of ws)) [] b r b → Understood (understood (ascii "P" ∷ ws)) (hex_field (ascii "P" ∷ ws)) b r b
  unfolding understood same
  first_position u = rw (no_hex ws) u

  pub first_other : (w : List ℕ) {before after : List ℕ} → same w (ascii "P") ≡ false → Understood (few_fields w ws) (hex_field (w ∷ ws)) before r after →
      Understood (understood (w ∷ ws)) (hex_field (w ∷ ws)) before r after
  unfolding understood
  first_other w f u = rw f u
