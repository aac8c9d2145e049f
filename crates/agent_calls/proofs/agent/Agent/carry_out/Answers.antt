use Rattle.std.proofs.Common.{length, Ok, Err, Result, sym, subst, arith}
use Rattle.flash_core.specs.declared.flash.FlashStop.{FlashStop}
use Rattle.meta_layout.proofs.Fits.{meta-fits}
use Rattle.agent_kept.specs.Kept.{kept}
use Rattle.agent_machine.specs.Stored.{CarriesOut}
use Rattle.agent_machine.proofs.{Beside.metadata-blocks, Room.meta-of-session}
use Rattle.agent_machine.proofs.StoredPlans.{after-fitting, after-some, after-known, after-carried}
use Rattle.agent_calls.specs.Shown.{fields, moment}
use Rattle.agent_calls.proofs.agent.Agent.carry_out.Goals as goal

pub settle-requires-clause-fits : goal.settle-requires-clause-fits
settle-requires-clause-fits g c = meta-of-session (fields c.args.self.now) (c.args.self.now.fitting c.requires.here)

pub trials_after-self-requires : goal.trials_after-self-requires
trials_after-self-requires g c =
    let m = c.settle.new.meta.meta in
    let whole = meta-fits (record { banks = length m.states; rows = (kept c.settle.new.session).rows }) m c.settle.ensures.fits in
    record { active = omega (arith, whole.active, whole.bits) }

pub store_if-requires-clause-fits : goal.store_if-requires-clause-fits
store_if-requires-clause-fits g c =
    let f = fields c.args.self.now in
    let k = kept c.settle.new.session in
    (after-fitting f (c.args.self.now.fitting c.requires.here) c.args.plan k c.settle.new.meta c.trials_after-self.result c.requires.plan
    c.settle.ensures.session c.settle.ensures.meta c.trials_after-self.ensures).meta

pub invariant_of-self : goal.invariant_of-self
invariant_of-self g c =
    let f = fields c.args.self.now in
    let k = kept c.settle.new.session in
    record {
      power = λ here. c.in-Ok.ensures.goes.power;
      inside = λ here. omega (arith, c.args.self.now.inside here, c.in-Ok.ensures.goes.size);
      fitting = λ here. after-fitting f (c.args.self.now.fitting here) c.args.plan k c.settle.new.meta c.trials_after-self.result c.requires.plan
          c.settle.ensures.session c.settle.ensures.meta c.trials_after-self.ensures;
      some = λ here. after-some f (c.args.self.now.fitting here) c.args.plan k c.settle.new.meta c.trials_after-self.result c.requires.plan
          c.settle.ensures.session c.settle.ensures.meta c.trials_after-self.ensures (c.args.self.now.some here);
      knows = λ here tells.
          after-known f (c.args.self.now.fitting here) c.args.plan k c.settle.new.meta c.trials_after-self.result c.requires.plan
          c.settle.ensures.session c.settle.ensures.meta c.trials_after-self.ensures
          (g.D.Flash.told c.args.self.now.flash) (g.D.Flash.told c.store_if.new.flash) c.is_stored-stored.result c.is_stored-stored.ensures
          (c.args.self.now.knows here tells) (c.in-Ok.ensures.stores tells);
    }

pub returns-in-Ok-clause-carries : goal.returns-in-Ok-clause-carries
returns-in-Ok-clause-carries g c =
    let f = fields c.args.self.now in
    let k = kept c.settle.new.session in
    after-carried f (c.args.self.now.fitting c.requires.here) c.args.plan k c.settle.new.meta c.trials_after-self.result c.requires.plan
    c.settle.ensures.session c.settle.ensures.meta c.trials_after-self.ensures
    (g.D.Flash.told c.args.self.now.flash) (g.D.Flash.told c.store_if.new.flash) c.is_stored-stored.result c.is_stored-stored.ensures g.D.Flash.tells
    (Ok tt) c.args.self.now.session.sound
    (c.args.self.now.knows c.requires.here) c.settle.ensures.settles c.in-Ok.ensures.stores (metadata-blocks f c.in-Ok.ensures.touches)

pub returns-in-Err-clause-carries : goal.returns-in-Err-clause-carries
returns-in-Err-clause-carries g c =
    let f = fields c.args.self.now in
    let k = kept c.settle.new.session in
    let m = c.settle.new.meta in
    let old = moment c.args.self.now in
    subst (λ (r : Result (Unit {0}) FlashStop). CarriesOut r c.args.plan old
    (record {
      tells = g.D.Flash.tells;
      told = g.D.Flash.told c.store_if.new.flash;
      writes = g.D.Flash.writes c.store_if.new.flash;
      fields = record f {
        meta = m;
        session = k;
        trials =
            c.trials_after-self.result;
      };
    })) (sym c.stopped.ensures.stop)
    (after-carried f (c.args.self.now.fitting c.requires.here) c.args.plan k m c.trials_after-self.result c.requires.plan c.settle.ensures.session
    c.settle.ensures.meta c.trials_after-self.ensures
    (g.D.Flash.told c.args.self.now.flash) (g.D.Flash.told c.store_if.new.flash) c.is_stored-stored.result c.is_stored-stored.ensures g.D.Flash.tells
    (Err c.in-Err.stop) c.args.self.now.session.sound
    (c.args.self.now.knows c.requires.here) c.settle.ensures.settles c.in-Err.ensures.stores (metadata-blocks f c.in-Err.ensures.touches))
