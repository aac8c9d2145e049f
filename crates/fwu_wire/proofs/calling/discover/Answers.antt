use Rattle.std.proofs.Common.{◌≡◌, Ok}
use Rattle.fwu_model.specs.Call as call
use Rattle.fwu_model.specs.Reply as reply
use Rattle.fwu_wire.specs.declared.replies.AgentReply.TheVariants as wire
use Rattle.fwu_wire.proofs.Meeting.{here, meets-by}
use Rattle.fwu_wire.proofs.calling.discover.Goals as goal

pub returns-in-Ok-clause-meets : goal.returns-in-Ok-clause-meets
returns-in-Ok-clause-meets g c live passes bytes =
    let h = c.in-Ok.ensures in
    meets-by (λ told q. q ≡ reply.Discovered told.state) (λ told. wire.Discovered told.state) (Ok c.in-Ok.discovery) bytes passes call.Discover _ _ (λ previous. previous) (here _ _ _ h.goes.gone live)
    (λ told is q says. says) (h.meets live passes)
