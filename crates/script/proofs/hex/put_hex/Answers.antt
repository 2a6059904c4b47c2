use Rattle.std.proofs.Common.{◌≡◌, ◌+◌, ◌*◌, sym, refl, ◌∙◌, arith, length-set}
use Rattle.script.proofs.HexLaws.{length_hexed, hexed_next, hexed_end}
use Rattle.script.proofs.hex.put_hex.Goals as goal

pub loop-i-init : goal.loop-i-init
loop-i-init c = let z : c.args.at + 0 ≡ c.args.at = omega arith in (refl, c.requires, rw z refl)

pub loop-i-preserved : goal.loop-i-preserved
loop-i-preserved c =
    let l = c.loop-i in
    let bytes = c.args.bytes.now in
    let next : c.args.at + 2 * (l.i + 1) ≡ c.args.at + 2 * l.i + 2 = omega arith in (
      simp length-set l.invariant.0,
      l.invariant.1,
      rw (c.digit_of.ensures, c.digit_of-in-loop-i.ensures, next)
          (l.invariant.2 ∙ hexed_next bytes l.out l.i (c.args.at + 2 * l.i) c.loop-i-test.true),
    )

pub returns : goal.returns
returns c =
    let l = c.loop-i in
    let bytes = c.args.bytes.now in
    record {
      place = omega (arith, length_hexed bytes);
      bytes = sym (l.invariant.2 ∙ hexed_end bytes l.out l.i (c.args.at + 2 * l.i) c.loop-i-test.false);
    }
