-- The cursor's words are the fields of a line.
use Rattle.std.proofs.Common.{◌≡◌, ℕ, suc, ◌+◌, ◌-◌, ◌<◌, ◌≤◌, Bool, true, false, not, eqb, List, [], ◌∷◌, length, get_or, take, drop, sym, refl, ap, ◌∙◌, arith, length-drop, length-take, length-take-le, drop-drop, le-leb, eq-eqb, ne_eqb}
use Rattle.std.specs.Prelude.{Option, None}
use borrow.Author.Tests.{lt-leb, eqb-true}
use Rattle.model.specs.Lists.{kept, none?, pieces, ahead, same}
use Rattle.model.proofs.Basics.{true_false, and_false}
use Rattle.print.specs.Over.{over}
use Rattle.text.specs.declared.words.Word.{Word}
use Rattle.text.specs.Cursor.{lead, blanks, run, next_word}
use Rattle.text.proofs.WordLaws.{lead_le}
use Rattle.script.specs.Fields.{fields, fields_from, bytes_at}
use Rattle.script.specs.Hex.{pairs_read}
use Rattle.script.specs.declared.parse.Directive.{Directive}
use Rattle.script.specs.Directive.{longest_line, unclear, understood, order, hex_field, hex_of, Understood}

-- ---- fields, and the runs of a text

abbrev full : List ℕ → Bool
full w = not (none? w)

-- the pieces of a text: its first run, and others, of which the fields behind the run are kept
record Cut (l : List ℕ) : Type 0 where
  others : List (List ℕ)
  first : pieces 32 l ≡ take (run l) l ∷ others
  later : kept full others ≡ fields (drop (run l) l)

cut_step : (b : ℕ) (bs : List ℕ) (t : Bool) → eqb b 32 ≡ t → Cut bs → Cut (b ∷ bs)
unfolding fields pieces ahead lead kept none?
cut_step b bs true e c = record { others = pieces 32 bs; first = rw e; later = rw (e, e) }
cut_step b bs false e c = record { others = c.others; first = rw (e, c.first); later = rw e c.later }

cut : (l : List ℕ) → Cut l
unfolding fields pieces lead kept none?
cut [] = record { others = []; first = refl; later = refl }
cut (b ∷ bs) = cut_step b bs (eqb b 32) refl (cut bs)

some_left : (l : List ℕ) → 0 < length l → full l ≡ true
unfolding none?
some_left [] h = absurd (omega arith)
some_left (x ∷ l) h = refl

-- a field stands first
fields_run : (l : List ℕ) → 0 < run l → fields l ≡ take (run l) l ∷ fields (drop (run l) l)
unfolding fields kept
fields_run l h =
    let c = cut l in
    let long : 0 < length (take (run l) l) = omega (arith, length-take-le (run l) l (lead_le false l)) in
    ap (kept full) c.first ∙ rw (some_left (take (run l) l) long) (ap (λ (ws : List (List ℕ)). take (run l) l ∷ ws) c.later)

-- a space first is no part of a field
fields_space : (b : ℕ) (bs : List ℕ) → eqb b 32 ≡ true → fields (b ∷ bs) ≡ fields bs
unfolding fields pieces kept none?
fields_space b bs e = rw e

-- spaces first, and then the fields from there on, or none
record Led (l : List ℕ) : Type 0 where
  same : fields l ≡ fields (drop (blanks l) l)
  none : run (drop (blanks l) l) ≡ 0 → fields l ≡ []

led_step : (b : ℕ) (bs : List ℕ) (t : Bool) → eqb b 32 ≡ t → Led bs → Led (b ∷ bs)
unfolding lead
led_step b bs true e h = record { same = rw e (fields_space b bs e ∙ h.same); none = λ z. fields_space b bs e ∙ h.none (rw e at z) }
led_step b bs false e h = record { same = rw e; none = λ z. let y : ◌≡◌ {A = ℕ} (suc (run bs)) 0 = rw (e, e) at z in absurd (omega arith) }

led : (l : List ℕ) → Led l
unfolding lead fields pieces kept none?
led [] = record { same = refl; none = λ z. refl }
led (b ∷ bs) = led_step b bs (eqb b 32) refl (led bs)

-- ---- the fields from a place on, by the cursor's word there

module _ (text : List ℕ) (at : ℕ) (w : Word) (e : w ≡ next_word text at) where
  abbrev start : ℕ
  start = at + blanks (drop at text)

  to_start : drop (blanks (drop at text)) (drop at text) ≡ drop start text
  to_start = drop-drop (blanks (drop at text)) at text

  -- none is left
  pub no_field : eqb w.start w.end ≡ true → fields_from text at ≡ []
  no_field t =
      let h = eqb-true w.start w.end t in
      let z : run (drop start text) ≡ 0 = omega (arith, ap (λ (v : Word). v.start) e, ap (λ (v : Word). v.end) e) in
      (led (drop at text)).none (ap run to_start ∙ z)

  -- the field f, and those behind it
  pub a_field : {f : List ℕ} → eqb w.start w.end ≡ false → f ≡ bytes_at text w → fields_from text at ≡ f ∷ fields_from text w.end
  a_field t p =
      let h : w.start ≡ w.end → ⊥ = λ q. true_false (sym (eq-eqb w.start w.end q) ∙ t) in
      let s = start in
      let r = run (drop s text) in
      let z : s + r - s ≡ r = omega arith in
      let some : 0 < r = omega (arith, ap (λ (v : Word). v.start) e, ap (λ (v : Word). v.end) e) in
      (led (drop at text)).same ∙ ap fields to_start ∙ fields_run (drop s text) some ∙
      rw (p, e, z, drop-drop r s text)

pub bytes_short : (text : List ℕ) (w : Word) → length (bytes_at text w) ≤ length text
bytes_short text w = simp (length-take, length-drop) (omega arith)

-- ---- a word of one byte

pub a_letter : (w : List ℕ) (b : ℕ) → length w ≡ 1 → get_or w 0 0 ≡ b → w ≡ b ∷ []
a_letter [] b h e = absurd (omega arith)
a_letter (x ∷ []) b h e = ap (λ (y : ℕ). y ∷ []) e
a_letter (x ∷ y ∷ l) b h e = absurd (omega arith)

abbrev pub Other : List ℕ → ℕ → Type 0
Other w b = length w ≡ 1 → get_or w 0 0 ≡ b → ⊥

pub no_letter : (w : List ℕ) (b : ℕ) → Other w b → same w (b ∷ []) ≡ false
unfolding same
no_letter [] b h = refl
no_letter (x ∷ []) b h = rw (ne_eqb x b (λ e. h refl e))
no_letter (x ∷ y ∷ l) b h = and_false (eqb x b)

pub one_letter : (w : List ℕ) (b : ℕ) → length w ≡ 1 → get_or w 0 0 ≡ b → same w (b ∷ []) ≡ true
unfolding same
one_letter w b h e = rw (a_letter w b h e, eq-eqb b b refl)

-- ---- a whole line

-- nothing is ordered, and nothing decoded
pub nothing : (b : List ℕ) → Understood unclear [] b None b
unfolding pairs_read over
nothing b = record { order = refl; bytes = refl; bounded = tt }

pub too_long : (text b : List ℕ) → longest_line < length text → Understood (order text) (hex_of text) b None b
unfolding order hex_of
too_long text b h = let e = lt-leb (length text) longest_line h in rw e (nothing b)

-- what the fields say, the line says
pub by_fields : (text : List ℕ) {before after : List ℕ} {fs : List (List ℕ)} {r : Option Directive} → length text ≤ longest_line → fields text ≡ fs →
    Understood (understood fs) (hex_field fs) before r after → Understood (order text) (hex_of text) before r after
unfolding order hex_of
by_fields text h e u = rw (le-leb (length text) longest_line h, e) u
