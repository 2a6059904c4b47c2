use Rattle.std.proofs.Common.{[], ◌∷◌, sym, ◌∙◌, arith}
use Rattle.model.proofs.Basics.{same→≡}
use Rattle.print.specs.Over.{over}
use Rattle.script.specs.Hex.{pairs_read}
use Rattle.script.specs.Directive.{bytes_of}
use Rattle.script.proofs.HexLaws.{told_bytes, count_inside}
use Rattle.script.proofs.parse.read_bytes.Goals as goal

pub returns-then-is_letter : goal.returns-then-is_letter
unfolding bytes_of pairs_read over
returns-then-is_letter c =
    let t = sym c.is_letter.ensures ∙ c.if-is_letter.true in
    record { told = rw t; bytes = rw (same→≡ _ (45 ∷ []) t); inside = omega arith }

pub returns : goal.returns
unfolding bytes_of
returns c =
    let t = sym c.is_letter.ensures ∙ c.if-is_letter.false in
    let d = c.decode.ensures in
    let pre = c.requires in
    record { told = rw t (told_bytes pre d); bytes = d.bytes; inside = count_inside pre d }
