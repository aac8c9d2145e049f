use Rattle.std.proofs.Common.{◌≤◌, [], length, refl, ap, ◌∙◌, subst, arith}
use Rattle.agent_kept.specs.declared.kinds.Plan.TheVariants as plan
use Rattle.agent_kept.specs.declared.kinds.Request.TheVariants as request
use Rattle.agent_state.specs.Asked.{IsPlanFor}
use Rattle.agent_machine.specs.{Fields.Fields, Directory.piece_of, Meets.IsGot, Meets.Stays}
use Rattle.agent_machine.proofs.ReadAnswers.{read-refused, read-lost, read-faulty, read-meets, carried-from, filled}
use Rattle.agent_calls.specs.Shown.{fields, moment}
use Rattle.agent_calls.proofs.Copies.{read-stays}
use Rattle.agent_calls.proofs.agent.Agent.read_stream.Goals.{After-read_part, In-Read}
use Rattle.agent_calls.proofs.agent.Agent.read_stream.Given as given
use Rattle.agent_calls.proofs.agent.Agent.read_stream.Goals as goal

-- a plan to read reads no more than there is room for
module _ (g : given.Over) (c : In-Read g) where
  room : c.in-Read.length ≤ length c.args.out.now
  room =
      let f : Fields = fields c.args.self.now in
      let own = subst (IsPlanFor f.session f.meta.meta (request.Read c.args.h (length c.args.out.now))) c.in-Read.is
      c.in-Ok.ensures.asked in
      omega (arith, own.2)

module _ (g : given.Over) (c : After-read_part g) where
  stays : Stays (moment c.args.self.now) (moment c.read_part.new.self)
  stays =
      let d = g.D.Flash in
      let a = c.args.self.now in
      let b = c.read_part.new.self in
      read-stays d.tells (d.told a.flash) (d.told b.flash) (d.writes a.flash) (d.writes b.flash) (fields a) (fields b) c.read_part.ensures.fields
      c.read_part.ensures.reads.content c.read_part.ensures.reads.writes

pub returns-in-Ok-read_part-clause-meets : goal.returns-in-Ok-read_part-clause-meets
returns-in-Ok-read_part-clause-meets g c here passes =
    let a = c.args.self.now in
    let f : Fields = fields a in
    let n = c.in-Read.length in
    let fits = room g (goal.at.returns-in-Ok-read_part-clause-meets g c).In-Read in
    read-meets (moment a) (a.fitting here) a.session.sound (a.knows here) c.args.h
    (length c.args.out.now) c.in-Ok.plan c.in-Ok.ensures.plans c.in-Read.handle c.in-Read.image c.in-Read.at n c.in-Read.total c.in-Read.is
    c.in-Ok.ensures.of
    (moment c.keep.new.self) (λ tells. ap g.D.Flash.told c.keep.ensures.device ∙ c.read_part.ensures.reads.content tells)
    (ap g.D.Flash.writes c.keep.ensures.device ∙ c.read_part.ensures.reads.writes) passes _
    (λ tells. filled c.args.out.now c.read_part.new.out _ n (piece_of f.layout f.meta.meta f.boot f.lengths
    (g.D.Flash.told a.flash).now c.in-Read.image c.in-Read.at) fits c.read_part.auto.out refl (c.in-Ok-read_part.ensures.bytes tells))
    (carried-from (plan.Read c.in-Read.handle c.in-Read.image c.in-Read.at n c.in-Read.total) [] g.D.Flash.tells (g.D.Flash.told a.flash)
    (g.D.Flash.told c.read_part.new.self.flash) f (fields c.read_part.new.self) (moment c.keep.new.self)
    c.read_part.ensures.fields c.read_part.ensures.reads.content c.keep.ensures.carried)

pub returns-in-Err-Lost-clause-meets : goal.returns-in-Err-Lost-clause-meets
returns-in-Err-Lost-clause-meets g c here passes =
    let a = c.args.self.now in
    read-lost (moment a) (a.fitting here) a.session.sound (a.knows here) c.args.h
    (length c.args.out.now) c.in-Ok.plan c.in-Ok.ensures.plans c.in-Read.handle c.in-Read.image c.in-Read.at c.in-Read.length c.in-Read.total c.in-Read.is
    c.in-Ok.ensures.of
    (moment c.read_part.new.self) c.read_part.ensures.reads.content c.read_part.ensures.reads.writes passes (IsGot g.D.Flash.tells _)
    (stays g (goal.at.returns-in-Err-Lost-clause-meets g c).After-read_part)

pub returns-in-Err-Failed-clause-meets : goal.returns-in-Err-Failed-clause-meets
returns-in-Err-Failed-clause-meets g c here passes =
    let a = c.args.self.now in
    read-faulty (moment a) (a.fitting here) a.session.sound (a.knows here) c.args.h
    (length c.args.out.now) c.in-Ok.plan c.in-Ok.ensures.plans c.in-Read.handle c.in-Read.image c.in-Read.at c.in-Read.length c.in-Read.total c.in-Read.is
    c.in-Ok.ensures.of
    (moment c.read_part.new.self) c.read_part.ensures.reads.content c.read_part.ensures.reads.writes passes (IsGot g.D.Flash.tells _)
    (stays g (goal.at.returns-in-Err-Failed-clause-meets g c).After-read_part)

pub returns-in-Err-clause-meets : goal.returns-in-Err-clause-meets
returns-in-Err-clause-meets g c here passes =
    let a = c.args.self.now in
    read-refused (moment a) (a.fitting here) a.session.sound (a.knows here) c.args.h (length c.args.out.now)
    (IsGot g.D.Flash.tells _) c.in-Err.status c.in-Err.ensures.plans passes
