use Rattle.std.proofs.Common.{◌≡◌, inl, inr, ◌⊎◌, ℕ, ◌+◌, ◌*◌, ◌≤◌, [], Err, refl, subst, sym, arith}
use Rattle.fwu_model.specs.Reply.{Success}
use Rattle.fwu_model.specs.Call as call
use Rattle.agent_kept.specs.Kept.{Kept, kept}
use Rattle.agent_kept.specs.declared.kinds.Plan.TheVariants as plan
use Rattle.flash_core.specs.Touches.{TouchesOnly}
use Rattle.agent_machine.specs.{Fields.Fields, Moment.Moment, Ends.ClearsAndStores, Meets.LeavesFlash}
use Rattle.agent_machine.specs.Beside.{IsBesideMetadata, SparesBlocks}
use Rattle.moves.specs.Law.{CallResult}
use Rattle.agent_machine.proofs.{Answered.stopped-meets, Room.meta-of-session, Showing.some-after, Ended.ended-fitting}
use Rattle.agent_machine.proofs.EndMeets.{stored-when-done, end-leaves, end-knows, end-meets}
use Rattle.agent_calls.specs.Shown.{fields}
use Rattle.agent_calls.proofs.Makes.{end-keeps}
use Rattle.agent_calls.proofs.agent.Agent.switch.Goals as goal

-- the replicas and the marks lie in what a call may erase and program
ended-blocks : (f : Fields) {old new : ℕ → ℕ} → TouchesOnly 4096 16384 old new → SparesBlocks f old new
ended-blocks f touches b spared = touches b (by spared.0)
  where
    by : IsBesideMetadata (4096 * b) → (4096 * b + 4096 ≤ 4096) ⊎ (16384 ≤ 4096 * b)
    by (inl low) = inl (omega (arith, low))
    by (inr high) = inr (omega (arith, high))

pub settle-requires-clause-fits : goal.settle-requires-clause-fits
settle-requires-clause-fits g c = meta-of-session (fields c.args.self.now) (c.args.self.now.fitting c.requires.here)

pub clear_and_store-requires-clause-fits : goal.clear_and_store-requires-clause-fits
clear_and_store-requires-clause-fits g c =
    (ended-fitting (fields c.args.self.now) (kept c.settle.new.session) c.settle.new.meta
    (c.args.self.now.fitting c.requires.here) c.settle.ensures.session c.settle.ensures.meta).meta

pub invariant_of-self-clause-fitting : goal.invariant_of-self-clause-fitting
invariant_of-self-clause-fitting g c here = ended-fitting (fields c.args.self.now) (kept c.settle.new.session) c.settle.new.meta
    (c.args.self.now.fitting here) c.settle.ensures.session c.settle.ensures.meta

pub invariant_of-self-clause-some : goal.invariant_of-self-clause-some
invariant_of-self-clause-some g c here =
    some-after (fields c.args.self.now) (c.args.self.now.fitting here) c.args.self.now.session.sound [] plan.End c.settle.new.meta
    (kept c.settle.new.session) c.settle.ensures.settles (λ E s same speaks. tt) (c.args.self.now.some here)

pub invariant_of-self-clause-knows : goal.invariant_of-self-clause-knows
invariant_of-self-clause-knows g c here tells =
    let f : Fields = fields c.args.self.now in
    let k : Kept = kept c.settle.new.session in
    let s = g.D.Flash.told c.args.self.now.flash in
    let t = g.D.Flash.told c.clear_and_store.new.flash in
    end-knows f k c.settle.new.meta c.requires.decided.0 g.D.Flash.tells s t (c.args.self.now.fitting here) c.args.self.now.session.sound
    (c.args.self.now.knows here) c.requires.staging c.requires.decided.1 c.settle.ensures.meta c.settle.ensures.session c.settle.ensures.settles
    (λ told. stored-when-done f.layout c.settle.new.meta.meta s t (c.in-Ok.ensures.ends told)) tells

pub returns-in-Ok-clause-meets : goal.returns-in-Ok-clause-meets
returns-in-Ok-clause-meets g c passes decides =
    let here = c.requires.here in
    let f : Fields = fields c.args.self.now in
    let k : Kept = kept c.settle.new.session in
    let s = g.D.Flash.told c.args.self.now.flash in
    let t = g.D.Flash.told c.clear_and_store.new.flash in
    end-meets f k c.settle.new.meta passes g.D.Flash.tells s t (c.args.self.now.fitting here) c.args.self.now.session.sound
    (c.args.self.now.knows here) c.requires.staging decides c.settle.ensures.meta c.settle.ensures.session c.settle.ensures.settles
    (λ told. stored-when-done f.layout c.settle.new.meta.meta s t (c.in-Ok.ensures.ends told)) (ended-blocks f c.in-Ok.ensures.touches)

pub returns-in-Err-clause-meets : goal.returns-in-Err-clause-meets
returns-in-Err-clause-meets g c passes decides =
    let here = c.requires.here in
    let f : Fields = fields c.args.self.now in
    let k : Kept = kept c.settle.new.session in
    let s = g.D.Flash.told c.args.self.now.flash in
    let t = g.D.Flash.told c.clear_and_store.new.flash in
    let old : Moment = record { tells = g.D.Flash.tells; told = s; writes = g.D.Flash.writes c.args.self.now.flash; fields = f } in
    let new : Moment = record {
      tells = g.D.Flash.tells;
      told = t;
      writes = g.D.Flash.writes c.clear_and_store.new.flash;
      fields = record f { meta = c.settle.new.meta; session = k; trials = 0 };
    } in
    stopped-meets {T = Unit {0}} (λ value r. r ≡ Success) c.stopped.result passes call.End old new c.stopped.ensures.stopped
    (subst (λ (r : CallResult). LeavesFlash r passes call.End old new) (sym c.stopped.ensures.stop)
    (end-leaves f k c.settle.new.meta passes g.D.Flash.tells s t (c.args.self.now.fitting here) c.args.self.now.session.sound
    (c.args.self.now.knows here) c.requires.staging decides c.settle.ensures.meta (Err c.in-Err.stop) c.in-Err.ensures.ends
    (ended-blocks f c.in-Err.ensures.touches)))

pub returns-in-Ok-clause-staging : goal.returns-in-Ok-clause-staging
returns-in-Ok-clause-staging g c =
    let a = c.args.self.now in
    record {
      ends = λ done. c.in-Ok.ensures.ends;
      touches = c.in-Ok.ensures.touches;
      keeps = λ done. end-keeps (fields a) (a.fitting c.requires.here) c.settle.new.meta c.settle.ensures.meta;
      restarts = λ done. c.settle.ensures.session;
      trials = λ done. refl;
      spent = c.in-Ok.ensures.spent;
      once = c.in-Ok.ensures.once;
    }

pub returns-in-Err-clause-staging : goal.returns-in-Err-clause-staging
returns-in-Err-clause-staging g c =
    let a = c.args.self.now in
    record {
      ends = λ done tells.
          subst (λ (r : CallResult). ClearsAndStores r (fields a).layout c.settle.new.meta.meta (g.D.Flash.told a.flash) (g.D.Flash.told c.clear_and_store.new.flash))
          (sym c.stopped.ensures.stop) (c.in-Err.ensures.ends tells);
      touches = c.in-Err.ensures.touches;
      keeps = λ done. end-keeps (fields a) (a.fitting c.requires.here) c.settle.new.meta c.settle.ensures.meta;
      restarts = λ done. c.settle.ensures.session;
      trials = λ done. refl;
      spent = tt;
      once = λ tells. tt;
    }
