use Rattle.std.proofs.Common.{ℕ, ◌≤◌, length, Ok, Err, arith}
use Rattle.fwu_model.specs.Call as call
use Rattle.fwu_wire.specs.declared.replies.AgentReply.TheVariants as wire
use Rattle.fwu_wire.proofs.Meeting.{here, meets-read, meets-refused}
use Rattle.fwu_wire.proofs.calling.read.Goals as goal

pub returns-in-Ok-clause-meets : goal.returns-in-Ok-clause-meets
returns-in-Ok-clause-meets g c live passes behind =
    let h = c.in-Ok.ensures in
    let fits : c.in-Ok.count ≤ length c.read_stream.new.out = omega (arith, h.room, h.long) in
    meets-read (Ok (c.in-Ok.count, c.in-Ok.total)) c.read_stream.new.out behind passes c.args.handle _ _ _ (here _ _ _ h.goes.gone live) fits (h.meets live passes)

pub returns-in-Err-clause-meets : goal.returns-in-Err-clause-meets
returns-in-Err-clause-meets g c live passes behind =
    let h = c.in-Err.ensures in
    meets-refused (λ (v : ℕ × ℕ). wire.Got v.1 v.0) c.in-Err.stop c.refused.result _ passes (call.Read c.args.handle (length c.args.out.now)) _ _ c.refused.ensures
    (meets-read (Err c.in-Err.stop) c.read_stream.new.out behind passes c.args.handle _ _ _ (here _ _ _ h.goes.gone live) tt (h.meets live passes))
