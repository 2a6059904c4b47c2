-- `serve_last`: what the session does at the end of its input is handed out.
use Rattle.bench.proofs.Serving.{last_handed}
use Rattle.bench.proofs.serve.serve_last.Goals as goal

pub hand_out_last-requires : goal.hand_out_last-requires
hand_out_last-requires c =
    let f = c.finish-last in
    last_handed c.args.k c.args.s c.args.out.now _ f.result f.ensures.ends _ _ c.put_image-size.ensures
