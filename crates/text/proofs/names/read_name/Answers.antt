use Prim.Native.Nat.{ℕ, ◌-◌, ◌<◌}
use mathlib.Core.Path.{◌≡◌, refl, sym, ap, ◌∙◌}
use mathlib.Core.List.{List, ◌++◌, map}
use mathlib.Core.Bool.{Bool, true, false}
use native.Mathlib.Omega.{arith}
use lib.ListN.{length, take, drop, get_or, replicate, length-map, get_or-map}
use lib.Seq.{take-length}
use Rattle.model.specs.Limits.{name_limit}
use Rattle.model.specs.Words.{upper, capital, name_byte}
use Rattle.model.specs.Lists.{between}
use Rattle.text.proofs.Lists.{all_next, all_stop, all_end}
use Rattle.text.proofs.NameLaws.{legal_none, legal_long, legal_first, legal_bytes, stored_next, reads_none, reads_some}
use Rattle.text.proofs.names.read_name.Goals.{then-n-eq0-via-then-n-eq0, then-n-eq0-via-else-n-eq0+then-n-gt-NAME_LIMIT}
use Rattle.text.proofs.names.read_name.Goals as goal

-- the word in capitals is as long, and has its bytes in capitals
long : (l : List ℕ) → length (map upper l) ≡ length l
long l = simp length-map refl

byte : (l : List ℕ) (i : ℕ) {u : ℕ} → u ≡ upper (get_or l i 0) → get_or (map upper l) i 0 ≡ u
byte l i p = get_or-map upper l i 0 ∙ sym p

first : (l : List ℕ) {u : ℕ} {b : Bool} → u ≡ upper (get_or l 0 0) → b ≡ between 65 90 u → capital (get_or (map upper l) 0 0) ≡ b
first l p q = ap capital (byte l 0 p) ∙ sym q

abbrev word : List ℕ → ℕ → ℕ → List ℕ
word line start end = take (end - start) (drop start line)

pub returns-then-n-eq0 : goal.returns-then-n-eq0
returns-then-n-eq0 c =
    let l = word c.args.line.now c.args.w.start c.args.w.end in
    elim c.then-n-eq0.branch [
      | then-n-eq0-via-then-n-eq0 w ↦ reads_none (map upper l) (legal_none (map upper l) (long l ∙ w.if-n-eq0.true))
      | then-n-eq0-via-else-n-eq0+then-n-gt-NAME_LIMIT w ↦
          reads_none (map upper l) (legal_long (map upper l) (omega (arith, long l, w.if-n-gt-NAME_LIMIT.true)))
    ]

pub returns-then-not-is_ascii_uppercase : goal.returns-then-not-is_ascii_uppercase
returns-then-not-is_ascii_uppercase c =
    let l = word c.args.line.now c.args.w.start c.args.w.end in
    reads_none (map upper l) (legal_first (map upper l) (first l c.upper.ensures c.is_ascii_uppercase.ensures.value ∙ c.if-not-is_ascii_uppercase.true))

pub loop-i-init : goal.loop-i-init
loop-i-init c =
    let l = word c.args.line.now c.args.w.start c.args.w.end in (
      c.if-n-gt-NAME_LIMIT.false,
      refl,
      legal_bytes (map upper l) (omega (arith, long l, c.if-n-eq0.false)) (omega (arith, long l, c.if-n-gt-NAME_LIMIT.false))
          (first l c.upper.ensures c.is_ascii_uppercase.ensures.value ∙ c.if-not-is_ascii_uppercase.false),
    )

pub returns-then-not-name_byte : goal.returns-then-not-name_byte
returns-then-not-name_byte c =
    let l = word c.args.line.now c.args.w.start c.args.w.end in
    let i = c.loop-i.i in
    let e : name_byte (get_or (map upper l) i 0) ≡ false = ap name_byte (byte l i c.upper-b.ensures) ∙ sym c.name_byte.ensures ∙ c.if-not-name_byte.true in
    reads_none (map upper l) (c.loop-i.invariant.2 ∙ all_stop name_byte (map upper l) i 0 (omega (arith, long l, c.loop-i-test.true)) e)

pub loop-i-preserved : goal.loop-i-preserved
loop-i-preserved c =
    let l = word c.args.line.now c.args.w.start c.args.w.end in
    let i = c.loop-i.i in
    let v = c.loop-i.invariant in
    let b = byte l i c.upper-b.ensures in
    let e : name_byte (get_or (map upper l) i 0) ≡ true = ap name_byte b ∙ sym c.name_byte.ensures ∙ c.if-not-name_byte.false in
    let h : i < length (map upper l) = omega (arith, long l, c.loop-i-test.true) in (
      v.0,
      rw v.1 (stored_next (map upper l) i c.upper-b.result h (omega (arith, v.0, c.loop-i-test.true)) b),
      v.2 ∙ all_next name_byte (map upper l) i 0 h e,
    )

pub returns : goal.returns
returns c =
    let l = word c.args.line.now c.args.w.start c.args.w.end in
    let w = map upper l in
    let v = c.loop-i.invariant in
    let e : c.loop-i.i ≡ length w = omega (arith, long l, c.loop-i-test.false, c.loop-i.auto.i-end) in
    let z : List ℕ = replicate (name_limit - length w) 0 in
    let b : c.loop-i.bytes ≡ w ++ z =
    v.1 ∙ ap (λ (j : ℕ). take j w ++ replicate (name_limit - j) 0) e ∙ ap (λ (l : List ℕ). l ++ z) (take-length w)
    in
    reads_some w (v.2 ∙ all_end name_byte w c.loop-i.i (omega arith)) (λ i. record { bytes = b i; len = sym (long l) i })
