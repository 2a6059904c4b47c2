use Rattle.std.proofs.Common.{take, refl, ap, arith}
use Rattle.model.specs.Stored.{View, view_of}
use Rattle.script.specs.Obey.{alone, done}
use Rattle.script.proofs.AnswerLaws.{complaint_short}
use Rattle.script.proofs.ObeyLaws.{answers_by, line_lent, image_lent, as_ordered, not_ordered}
use Rattle.script.proofs.obey.obey.Goals as goal

pub put_complaint-end-requires : goal.put_complaint-end-requires
put_complaint-end-requires c = omega (arith, complaint_short c.args.line c.ranges.line.fits, c.requires)

pub returns-in-Line : goal.returns-in-Line
unfolding done
returns-in-Line c =
    let u = rw c.in-Line.is at c.in-Some.ensures in
    let a = c.args in
    let n = c.in-Line.length in
    let l = take c.in-Line.count c.parse.new.bytes in
    as_ordered (view_of a.s) a.line a.text.now u.order refl
    (answers_by (line_lent (view_of a.s) l n a.rooms.now.reply.now (omega (arith, u.bounded.1, c.args.rooms.now.lends))) c.obey_line.ensures)

pub returns-in-Write : goal.returns-in-Write
unfolding done
returns-in-Write c =
    let u = rw c.in-Write.is at c.in-Some.ensures in
    let a = c.args in
    let n = c.in-Write.length in
    as_ordered (view_of a.s) a.line a.text.now u.order refl
    (answers_by (image_lent (view_of a.s) n a.rooms.now.reply.now (omega (arith, u.bounded, c.args.rooms.now.lends))) c.obey_write.ensures)

pub returns-in-Restart : goal.returns-in-Restart
unfolding done
returns-in-Restart c =
    let u = rw c.in-Restart.is at c.in-Some.ensures in
    let a = c.args in
    as_ordered (view_of a.s) a.line a.text.now u.order refl
    (answers_by (ap alone c.restart.ensures) c.say_begun.ensures)

pub returns-in-Image : goal.returns-in-Image
unfolding done
returns-in-Image c =
    let u = rw c.in-Image.is at c.in-Some.ensures in
    let a = c.args in
    as_ordered (view_of a.s) a.line a.text.now u.order refl
    (answers_by (ap alone c.start_image.ensures) c.say_begun-in-Image.ensures)

pub returns-in-Factory : goal.returns-in-Factory
unfolding done
returns-in-Factory c =
    let u = rw c.in-Factory.is at c.in-Some.ensures in
    let a = c.args in
    as_ordered (view_of a.s) a.line a.text.now u.order refl
    (answers_by (ap (λ (v : View). alone (record { state = v; number = 0 })) c.start_factory-state.ensures) c.say_begun-in-Factory.ensures)

pub returns-in-Use : goal.returns-in-Use
unfolding done
returns-in-Use c =
    let u = rw c.in-Use.is at c.in-Some.ensures in
    let a = c.args in
    as_ordered (view_of a.s) a.line a.text.now u.order refl c.obey_use.ensures

pub returns-in-Position : goal.returns-in-Position
unfolding done
returns-in-Position c =
    let u = rw c.in-Position.is at c.in-Some.ensures in
    let a = c.args in
    as_ordered (view_of a.s) a.line a.text.now u.order refl
    (answers_by (ap alone c.set_position.ensures) c.say_begun-in-Position.ensures)

pub returns-in_default : goal.returns-in_default
returns-in_default c =
    let u = rw c.in_default.is at c.parse.ensures in
    let a = c.args in
    not_ordered (view_of a.s) a.line a.text.now u.order refl
    c.put_complaint-end.ensures (omega (arith, complaint_short a.line c.ranges.line.fits, c.requires, c.put_complaint-end.ensures.place))
