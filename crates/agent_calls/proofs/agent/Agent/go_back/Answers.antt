use Rattle.std.proofs.Common.{◌≡◌, Bool, inl, inr, true, false, refl, sym, subst, arith}
use Rattle.std.specs.Prelude.{Option, OnOk, Err}
use Rattle.flash_core.specs.{declared.flash.Arming.Arming, Told.Told}
use Rattle.flash_core.proofs.Touches.{touches_none, touches_then}
use Rattle.fwu_model.specs.{State.Back, MoveMetas.meta_after}
use Rattle.moves.specs.Law.{CallResult}
use Rattle.replicas.specs.Stores.{Stores}
use Rattle.agent_kept.specs.Kept.{kept}
use Rattle.agent_state.specs.Ruled.{ruled_as}
use Rattle.agent_machine.specs.{Meets.IsRefused, Meets.IsStopped, Meets.flash_result, declared.stop.Stop.Stop, Fields.Fields}
use Rattle.agent_machine.specs.Stored.{TakesStore, is_to_do, may_try_kept}
use Rattle.agent_machine.specs.declared.stop.Stop.TheVariants as stop
use Rattle.meta_layout.proofs.Fits.{meta-fits}
use Rattle.agent_machine.proofs.StoredBack.{untried-meets, stopped-meets, bad-meets, back-meets}
use Rattle.agent_calls.specs.Shown.{fields, moment}
use Rattle.agent_calls.proofs.StoredVerdict.{back-is-good, good-permitted, promised}
use Rattle.agent_calls.proofs.Makes.{ok-any, back-stopped}
use Rattle.agent_calls.proofs.agent.Agent.go_back.Goals as goal

-- what may be tried isn't refused without a look
tried : {A : Type 0} (b : Bool) → b ≡ true → b ≡ false → A
tried b is not = absurd cc

not-refused : (e : Stop) → IsStopped {T = Unit {0}} (Err e) → IsRefused {T = Unit {0}} (Err e) → ⊥
not-refused (stop.Status st) stopped refused = stopped
not-refused q stopped refused = refused

pub may_try-requires-clause-active : goal.may_try-requires-clause-active
may_try-requires-clause-active g c =
    let a = c.args.self.now in
    let whole = meta-fits a.layout a.meta.meta (a.fitting c.requires.here).meta in
    omega (arith, whole.active, whole.states)

pub may_try-requires-clause-previous : goal.may_try-requires-clause-previous
may_try-requires-clause-previous g c =
    let a = c.args.self.now in
    let whole = meta-fits a.layout a.meta.meta (a.fitting c.requires.here).meta in
    omega (arith, whole.previous, whole.states)

pub returns-then-not-may_try-clause-meets : goal.returns-then-not-may_try-clause-meets
returns-then-not-may_try-clause-meets g c =
    let a = c.args.self.now in
    let s = g.D.Flash.told a.flash in
    untried-meets g.D.Flash.tells (fields a) (a.fitting c.requires.here) a.session.sound s s (λ is. refl) refl (g.V.Verifier.passes c.args.verifier.now)
    (promised c.may_try.result (may_try_kept a.meta.meta (kept a.session) a.boot) false c.may_try.ensures c.if-not-may_try.true)

pub is_bank_good-requires : goal.is_bank_good-requires
is_bank_good-requires g c =
    let a = c.args.self.now in
    let here = c.requires.here in
    let whole = meta-fits a.layout a.meta.meta (a.fitting here).meta in
    record { on = a.power here; inside = a.inside here; below = omega (arith, whole.previous, c.previous-bank.ensures) }

pub returns-then-not-goes_back-clause-meets : goal.returns-then-not-goes_back-clause-meets
returns-then-not-goes_back-clause-meets g c =
    let a = c.args.self.now in
    let s = g.D.Flash.told a.flash in
    let passes = g.V.Verifier.passes c.args.verifier.now in
    bad-meets g.D.Flash.tells (fields a) (a.fitting c.requires.here) a.session.sound s
    (g.D.Flash.told c.is_bank_good.new.flash) c.in-Ok.ensures.reads.content c.in-Ok.ensures.reads.writes passes (a.knows c.requires.here)
    (promised c.may_try.result (may_try_kept a.meta.meta (kept a.session) a.boot) true c.may_try.ensures c.if-not-may_try.false) c.args.decision.now
    c.requires.decided c.in-Ok.good
    (λ is E setting. good-permitted E a.layout passes a.counter s.now c.previous-bank.result a.meta.meta.previous c.in-Ok.good
    (a.fitting c.requires.here).layout setting.layout setting.verifier c.previous-bank.ensures (c.in-Ok.ensures.good is))
    (promised c.goes_back.result (is_to_do (ruled_as c.args.decision.now c.in-Ok.good)) false c.goes_back.ensures c.if-not-goes_back.true)

pub returns-else-not-goes_back-clause-meets : goal.returns-else-not-goes_back-clause-meets
returns-else-not-goes_back-clause-meets g c =
    let a = c.args.self.now in
    let s = g.D.Flash.told a.flash in
    let passes = g.V.Verifier.passes c.args.verifier.now in
    back-meets g.D.Flash.tells (fields a) (a.fitting c.requires.here) a.session.sound s
    (g.D.Flash.told c.is_bank_good.new.flash) c.in-Ok.ensures.reads.content c.in-Ok.ensures.reads.writes passes (a.knows c.requires.here)
    (promised c.may_try.result (may_try_kept a.meta.meta (kept a.session) a.boot) true c.may_try.ensures c.if-not-may_try.false) c.args.decision.now
    c.requires.decided c.in-Ok.good
    (λ is E setting. good-permitted E a.layout passes a.counter s.now c.previous-bank.result a.meta.meta.previous c.in-Ok.good
    (a.fitting c.requires.here).layout setting.layout setting.verifier c.previous-bank.ensures (c.in-Ok.ensures.good is))
    c.carry_out.result (moment c.carry_out.new.self) (promised c.goes_back.result
    (is_to_do (ruled_as c.args.decision.now c.in-Ok.good)) true c.goes_back.ensures c.if-not-goes_back.false) c.carry_out.ensures.carries
    c.carry_out.ensures.answered

pub returns-in-Err-clause-meets : goal.returns-in-Err-clause-meets
returns-in-Err-clause-meets g c =
    let a = c.args.self.now in
    stopped-meets g.D.Flash.tells (fields a) (a.fitting c.requires.here) a.session.sound (g.D.Flash.told a.flash)
    (g.D.Flash.told c.is_bank_good.new.flash) c.in-Err.ensures.reads.content c.in-Err.ensures.reads.writes (g.V.Verifier.passes c.args.verifier.now) c.stopped.result c.stopped.ensures.stopped

-- the read before the store left content and arming as they were; the decision was one that the verdict rules, so that it was good
pub returns-else-not-goes_back-clause-changes : goal.returns-else-not-goes_back-clause-changes
returns-else-not-goes_back-clause-changes g c =
    let a = c.args.self.now in
    let b = c.carry_out.new.self in
    let f : Fields = fields a in
    let r = c.carry_out.result in
    record {
      still = tried _ (promised c.may_try.result (may_try_kept a.meta.meta (kept a.session) a.boot) true c.may_try.ensures c.if-not-may_try.false);
      stores = λ done tells.
          subst (λ (u : Told). Stores (flash_result r) f.layout (meta_after f.meta.meta Back) u (g.D.Flash.told b.flash))
          (c.in-Ok.ensures.reads.content tells) (c.carry_out.ensures.stores tells);
      touches = touches_then 4096 12288 (touches_none 4096 12288 c.in-Ok.ensures.reads.writes) c.carry_out.ensures.touches;
      keeps = ok-any r c.carry_out.ensures.planned;
      either = λ done. inr c.carry_out.ensures.planned;
      session = ok-any r c.carry_out.ensures.changed;
      trials = λ done. inr c.carry_out.ensures.trials;
      passed = ok-any r (c.in-Ok.ensures.passed
          (back-is-good (kept a.session) a.meta.meta c.args.decision.now c.in-Ok.good c.requires.asked
          (promised c.goes_back.result (is_to_do (ruled_as c.args.decision.now c.in-Ok.good)) true c.goes_back.ensures c.if-not-goes_back.false)));
      content = λ refused. absurd (c.carry_out.ensures.answered refused);
      arming = λ refused. absurd (c.carry_out.ensures.answered refused);
      writes = λ refused. absurd (c.carry_out.ensures.answered refused);
      spent = subst (λ (x : Option Arming). OnOk r (TakesStore f.meta b.meta x (g.D.Flash.arming b.flash))) c.in-Ok.ensures.reads.arming c.carry_out.ensures.spent;
    }

pub returns-in-Err-clause-changes : goal.returns-in-Err-clause-changes
returns-in-Err-clause-changes g c =
    let a = c.args.self.now in
    let f : Fields = fields a in
    let t = g.D.Flash.told c.is_bank_good.new.flash in
    record {
      still = tried _ (promised c.may_try.result (may_try_kept a.meta.meta (kept a.session) a.boot) true c.may_try.ensures c.if-not-may_try.false);
      stores = λ done tells.
          subst (λ (r : CallResult). Stores r f.layout (meta_after f.meta.meta Back) (g.D.Flash.told a.flash) t) (sym c.stopped.ensures.stop)
          (back-stopped f (a.fitting c.requires.here) c.in-Err.stop (g.D.Flash.told a.flash) t
          (omega (arith, a.inside c.requires.here, (g.met.D.Flash.sound a.flash tells).size)) (c.in-Err.ensures.reads.content tells));
      touches = touches_none 4096 12288 c.in-Err.ensures.reads.writes;
      keeps = tt;
      either = λ done. inl refl;
      session = tt;
      trials = λ done. inl refl;
      passed = tt;
      content = λ refused. absurd (not-refused c.stopped.result c.stopped.ensures.stopped refused);
      arming = λ refused. absurd (not-refused c.stopped.result c.stopped.ensures.stopped refused);
      writes = λ refused. absurd (not-refused c.stopped.result c.stopped.ensures.stopped refused);
      spent = tt;
    }
