use Rattle.std.proofs.Common.{sym, subst}
use Rattle.fwu_model.specs.{State.State, Calm.IsCalm}
use Rattle.moves.specs.Moved.{IsReady, IsShown}
use Rattle.agent_machine.proofs.{Known.known-shown, Known.known-ready, Showing.shows-some}
use Rattle.agent_calls.specs.Shown.{fields}
use Rattle.agent_calls.proofs.agent.Agent.showing.Goals as goal

pub returns-clause-shows : goal.returns-clause-shows
returns-clause-shows g c here =
    let a = c.args.self.now in
    shows-some (fields a) (a.fitting here) g.D.Flash.tells (g.D.Flash.told a.flash) (a.knows here) (a.some here)

pub returns-clause-seen : goal.returns-clause-seen
returns-clause-seen g c here tells s x shows =
    let a = c.args.self.now in
    let t = g.D.Flash.told a.flash in
    subst (λ (y : State). IsShown a.layout t.now y) (sym (shows.told tells).0) (known-shown (fields a) t (a.knows here tells))

pub returns-clause-ready : goal.returns-clause-ready
returns-clause-ready g c here tells E s x layout shows calm guards =
    let a = c.args.self.now in
    let t = g.D.Flash.told a.flash in
    let same = (shows.told tells).0 in
    subst (λ (y : State). IsReady E t y) (sym same) (known-ready E (fields a) t layout (a.knows here tells) (subst (λ (y : State). IsCalm E t y) same calm)
    guards)
