use Rattle.std.proofs.Common.{[]}
use Rattle.agent_kept.specs.Kept.{kept}
use Rattle.agent_machine.specs.Fields.{Fields}
use Rattle.agent_machine.proofs.Room.{meta-of-session}
use Rattle.agent_machine.proofs.Quietly.{keeps-fitting, keeps-known, keeps-some, quiet-carried}
use Rattle.agent_calls.specs.Shown.{fields}
use Rattle.agent_calls.proofs.agent.Agent.keep.Goals as goal

pub settle-requires-clause-fits : goal.settle-requires-clause-fits
settle-requires-clause-fits g c = meta-of-session (fields c.args.self.now) (c.args.self.now.fitting c.requires.here)

pub invariant_of-self : goal.invariant_of-self
invariant_of-self g c =
    let f : Fields = fields c.args.self.now in
    let k = kept c.settle.new.session in
    let t = g.D.Flash.told c.args.self.now.flash in
    let p = c.args.plan.now in
    let here = c.requires.here in
    record {
      power = λ still. c.args.self.now.power here;
      inside = λ still. c.args.self.now.inside here;
      fitting = λ still.
          keeps-fitting g.D.Flash.tells t f k c.settle.new.meta [] p (c.args.self.now.fitting here) c.args.self.now.session.sound
          (c.args.self.now.knows here) c.requires.quiet c.requires.plan c.requires.may c.settle.ensures.session c.settle.ensures.meta
          c.settle.ensures.settles;
      some = λ still.
          keeps-some g.D.Flash.tells t f k c.settle.new.meta [] p (c.args.self.now.fitting here) c.args.self.now.session.sound (c.args.self.now.knows here)
          c.requires.quiet c.requires.plan c.requires.may c.settle.ensures.session c.settle.ensures.meta c.settle.ensures.settles
          (c.args.self.now.some here);
      knows = λ still.
          keeps-known g.D.Flash.tells t f k c.settle.new.meta [] p (c.args.self.now.fitting here) c.args.self.now.session.sound (c.args.self.now.knows here)
          c.requires.quiet c.requires.plan c.requires.may c.settle.ensures.session c.settle.ensures.meta c.settle.ensures.settles;
    }

pub returns-clause-carried : goal.returns-clause-carried
returns-clause-carried g c =
    let here = c.requires.here in
    quiet-carried g.D.Flash.tells (g.D.Flash.told c.args.self.now.flash) (fields c.args.self.now) (kept c.settle.new.session) c.settle.new.meta []
    c.args.plan.now (c.args.self.now.fitting here) c.args.self.now.session.sound (c.args.self.now.knows here)
    c.requires.quiet c.requires.plan c.requires.may c.settle.ensures.session c.settle.ensures.meta c.settle.ensures.settles
