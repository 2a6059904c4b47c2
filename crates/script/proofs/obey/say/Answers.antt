use Rattle.std.proofs.Common.{◌≡◌, ℕ, ◌≤◌, length, take, min, refl, ap, ◌∙◌, arith, length-take-le}
use Rattle.std.proofs.lemmas.List.{take_min}
use Rattle.engine.specs.Answers.{written_by}
use Rattle.engine.proofs.Taking.{written_is}
use Rattle.script.proofs.AnswerLaws.{said_short}
use Rattle.script.proofs.obey.say.Goals.{After-min-count}
use Rattle.script.proofs.obey.say.Goals as goal

-- what is shown is what the call wrote, as far as the buffer goes
shown : (c : After-min-count) → take c.min-count.result c.args.reply.now ≡ take (written_by c.args.r.outcome) c.args.reply.now
shown c =
    let reply = c.args.reply.now in
    let count : c.min-count.result ≡ min (written_by c.args.r.outcome) (length reply) =
    c.min-count.ensures ∙ ap (λ (n : ℕ). min n (length reply)) (c.unwrap_or.ensures ∙ written_is c.args.r.outcome) in
    ap (λ (n : ℕ). take n reply) count ∙ take_min (written_by c.args.r.outcome) reply

few : (c : After-min-count) → length (take c.min-count.result c.args.reply.now) ≤ length c.args.reply.now
few c =
    let h : c.min-count.result ≤ length c.args.reply.now = omega (arith, c.min-count.ensures) in
    omega (arith, length-take-le c.min-count.result c.args.reply.now h)

pub put_said-end-requires : goal.put_said-end-requires
put_said-end-requires c =
    omega (
      arith,
      said_short c.number_told-number.result (take c.min-count.result c.args.reply.now) (omega arith),
      few (goal.at.put_said-end-requires c).After-min-count,
      c.requires,
    )

pub returns : goal.returns
returns c =
    record {
      state = refl;
      text = rw (← shown (goal.at.returns c).After-min-count, ← c.number_told-number.ensures) c.put_said-end.ensures;
      inside =
          omega (
            arith,
            said_short c.number_told-number.result (take c.min-count.result c.args.reply.now) (omega arith),
            few (goal.at.returns c).After-min-count,
            c.requires,
            c.put_said-end.ensures.place,
          );
    }
