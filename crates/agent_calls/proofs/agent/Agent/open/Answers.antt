use Rattle.std.proofs.Common.{ap}
use Rattle.agent_machine.proofs.Opens.{open-refused, opens-asked, open-meets}
use Rattle.agent_calls.specs.Shown.{fields, moment}
use Rattle.agent_calls.proofs.agent.Agent.open.Goals as goal

pub returns-in-Open-clause-meets : goal.returns-in-Open-clause-meets
returns-in-Open-clause-meets g c here passes =
    let a = c.args.self.now in
    open-meets g.D.Flash.tells (g.D.Flash.told a.flash) (fields a) (a.fitting here) a.session.sound (a.knows here)
    c.args.guid c.args.op c.find-image.result c.total-total.result
    c.in-Ok.plan c.in-Ok.ensures.plans c.in-Open.handle
    (opens-asked (fields a) (a.fitting here) c.args.guid c.args.op c.find-image.result c.total-total.result c.find-image.ensures.value
    c.in-Ok.plan c.in-Ok.ensures.asked c.in-Open.handle c.in-Open.image c.in-Open.op c.in-Open.total c.in-Open.is) (moment c.keep.new.self)
    (ap g.D.Flash.told c.keep.ensures.device) (ap g.D.Flash.writes c.keep.ensures.device) c.keep.ensures.carried passes

pub returns-in-Err-clause-meets : goal.returns-in-Err-clause-meets
returns-in-Err-clause-meets g c here passes =
    let a = c.args.self.now in
    open-refused g.D.Flash.tells (g.D.Flash.told a.flash) (fields a) (a.fitting here) a.session.sound (a.knows here)
    c.args.guid c.args.op c.find-image.result c.total-total.result
    c.in-Err.status c.in-Err.ensures.plans passes
