use Rattle.std.proofs.Common.{Ok, Err}
use Rattle.fwu_model.specs.Call.{open_call}
use Rattle.fwu_wire.specs.declared.replies.AgentReply.TheVariants as wire
use Rattle.fwu_wire.proofs.Meeting.{here, meets-open, meets-refused}
use Rattle.fwu_wire.proofs.calling.open.Goals as goal

pub returns-in-Ok-clause-meets : goal.returns-in-Ok-clause-meets
returns-in-Ok-clause-meets g c live passes bytes =
    let h = c.in-Ok.ensures in
    meets-open (Ok c.in-Ok.handle) bytes passes c.args.guid c.args.op _ _ (here _ _ _ h.goes.gone live) (h.meets live passes)

pub returns-in-Err-clause-meets : goal.returns-in-Err-clause-meets
returns-in-Err-clause-meets g c live passes bytes =
    let h = c.in-Err.ensures in
    meets-refused (λ handle. wire.Opened handle) c.in-Err.stop c.refused.result bytes passes (open_call c.args.guid c.args.op) _ _ c.refused.ensures
    (meets-open (Err c.in-Err.stop) bytes passes c.args.guid c.args.op _ _ (here _ _ _ h.goes.gone live) (h.meets live passes))
