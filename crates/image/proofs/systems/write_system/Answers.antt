use Rattle.std.proofs.Common.{◌≡◌, [], ◌∷◌, ◌++◌, length, rules}
use mir.Syntax.{w64}
use mir.Val.{to_z, of_z}
use borrow.Author.Tests.{leb-true}
use Rattle.model.specs.Limits.{name_limit}
use Rattle.model.specs.Image.{numbers, system_bytes}
use Rattle.model.specs.Stored.{bytes_of, system_of}
use Rattle.print.proofs.Left.{Left, left_all, left_wrote, left_fits, left_done}
use Rattle.image.proofs.SystemLeft.{system_parts}
use Rattle.image.proofs.systems.write_system.Goals.{After-from-6}
use Rattle.image.proofs.systems.write_system.Goals as goal

-- all of it is left to write, as its parts: head, name, offsets and turns
all_left : (c : After-from-6) → (
    let s = c.args.s in
    let head = numbers (c.from.result ∷ c.from-2.result ∷ []) in
    let offsets = numbers (c.signed_code.result ∷ c.signed_code-2.result ∷ c.signed_code-3.result ∷ []) in
    let turned = numbers (c.from-3.result ∷ c.from-4.result ∷ c.from-5.result ∷ c.from-6.result ∷ []) in
    Left (system_bytes (system_of s)) c.args.at c.args.out.now (head ++ (bytes_of s.name ++ (offsets ++ (turned ++ [])))) c.args.at c.args.out.now
    )
all_left c =
    let long : length c.args.s.name.bytes ≡ name_limit = search rules in
    let o = c.args.s.offset in
    let x : to_z w64 (of_z w64 o.x) ≡ o.x = search rules in
    let y : to_z w64 (of_z w64 o.y) ≡ o.y = search rules in
    let z : to_z w64 (of_z w64 o.z) ≡ o.z = search rules in
    rw (c.from.ensures, c.code_of.ensures, c.from-2.ensures, c.signed_code.ensures, c.signed_code-2.ensures, c.signed_code-3.ensures, c.from-3.ensures, c.from-4.ensures, c.from-5.ensures, c.from-6.ensures, x, y, z)
    (left_all (system_parts c.args.s long (leb-true c.args.s.name.len name_limit c.requires.shaped)) c.requires.room)

pub write_numbers-named_at-requires : goal.write_numbers-named_at-requires
write_numbers-named_at-requires c = left_fits _ _ (all_left (goal.at.write_numbers-named_at-requires c).After-from-6)

pub put_name-placed_at-requires : goal.put_name-placed_at-requires
put_name-placed_at-requires c =
    let all = all_left (goal.at.put_name-placed_at-requires c).After-from-6 in
    (leb-true c.args.s.name.len name_limit c.requires.shaped, left_fits _ _ (left_wrote all c.write_numbers-named_at.ensures))

pub write_numbers-turned_at-requires : goal.write_numbers-turned_at-requires
write_numbers-turned_at-requires c =
    let all = all_left (goal.at.write_numbers-turned_at-requires c).After-from-6 in
    left_fits _ _ (left_wrote (left_wrote all c.write_numbers-named_at.ensures) c.put_name-placed_at.ensures)

pub write_numbers-requires : goal.write_numbers-requires
write_numbers-requires c =
    let all = all_left (goal.at.write_numbers-requires c).After-from-6 in
    left_fits _ _ (left_wrote (left_wrote (left_wrote all c.write_numbers-named_at.ensures) c.put_name-placed_at.ensures) c.write_numbers-turned_at.ensures)

pub returns : goal.returns
returns c =
    let all = all_left (goal.at.returns c).After-from-6 in
    left_done
    (left_wrote (left_wrote (left_wrote (left_wrote all c.write_numbers-named_at.ensures) c.put_name-placed_at.ensures) c.write_numbers-turned_at.ensures) c.write_numbers.ensures)
