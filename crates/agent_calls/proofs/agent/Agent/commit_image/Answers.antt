use Rattle.std.proofs.Common.{◌≡◌, ℕ, ◌+◌, ◌*◌, ◌<◌, ◌≤◌, List, [], length, Some, Ok, Err, refl, sym, ap, subst, arith, ◌∙◌, IsTrue}
use Rattle.std.proofs.Math.Nat.{mod-lt}
use Rattle.flash_core.specs.{Told.Told, Touches.TouchesOnly}
use Rattle.fwu_formats.specs.{Layout.ImageRow, Layout.blocks_needed, Layout.start, Metadata.MetaRead}
use Rattle.meta_layout.proofs.Fits.{meta-fits}
use Rattle.fwu_model.specs.Reply.{Success}
use Rattle.fwu_model.specs.Call as call
use Rattle.moves.specs.Law.{CallResult}
use Rattle.slot_writer.specs.Slots.{FinishesImage, blocks_for, done_of}
use Rattle.agent_kept.specs.declared.kinds.Plan.TheVariants as plan
use Rattle.agent_kept.specs.Kept.{Kept, kept, part_at, size_of}
use Rattle.agent_state.specs.Settles.{Settles}
use Rattle.agent_machine.specs.{Knows.Fitting, Knows.Knows, Moment.Moment, Meets.LeavesFlash, Meets.Meets}
use Rattle.agent_machine.specs.Fields.{Fields, target, rest_of}
use Rattle.agent_machine.proofs.{Committing.slot-room, Room.slot-inside, Room.meta-of-session, Answered.stopped-meets}
use Rattle.agent_machine.proofs.CommitMeets.{commit-leaves, commit-fitting, commit-some, commit-knows, commit-meets}
use Rattle.agent_calls.specs.Shown.{fields, moment}
use Rattle.agent_calls.proofs.agent.Agent.commit_image.Given as given
use Rattle.agent_calls.proofs.agent.Agent.commit_image.Goals as goal
use Rattle.agent_calls.proofs.agent.Agent.commit_image.Goals.{After-finish}

-- ---- the image, by the fields

module _ (g : given.Over) (c : After-finish g) where
  abbrev f : Fields
  f = fields c.args.self.now

  abbrev at : ℕ
  at = start f.layout (target f) c.args.image

  abbrev long : ℕ
  long = size_of (part_at f.session c.args.image)

  abbrev told : Told
  told = g.D.Flash.told c.args.self.now.flash

  abbrev left : Told
  left = g.D.Flash.told c.finish.new.flash

  fitting : Fitting f
  fitting = c.args.self.now.fitting c.requires.here

  knows : IsTrue g.D.Flash.tells → Knows f told
  knows = c.args.self.now.knows c.requires.here

  room : IsTrue g.D.Flash.tells → blocks_needed f.layout * 4096 ≤ length told.now
  room tells =
      let known = c.args.self.now.inside c.requires.here in
      omega (arith, known, (g.met.D.Flash.sound c.args.self.now.flash tells).size)

  first : c.start-first.result ≡ at
  first = c.start-first.ensures ∙ ap (λ (b : ℕ). start f.layout b c.args.image) c.target-bank.ensures.value

  -- which blocks that touched
  touched : {old new : ℕ → ℕ} → let first = c.start-first.result in let size = c.size-size.result in
      TouchesOnly (4096 * first + done_of size) (4096 * (first + blocks_for size)) old new
      → TouchesOnly (4096 * at + done_of long) (4096 * (at + blocks_for long)) old new
  touched touches = rw (first, c.size-size.ensures) at touches

  -- what was finished
  finished : (result : CallResult) → FinishesImage result c.start-first.result c.size-size.result (rest_of f c.args.image) told left
      → FinishesImage result at long (rest_of f c.args.image) told left
  finished result finishes =
      subst (λ (a : ℕ). FinishesImage result a long (rest_of f c.args.image) told left) first
      (subst (λ (n : ℕ). FinishesImage result c.start-first.result n (rest_of f c.args.image) told left) c.size-size.ensures
      finishes)

pub finish-requires-clause-inside : goal.finish-requires-clause-inside
finish-requires-clause-inside g c =
    let a = c.args.self.now in
    let f : Fields = fields a in
    let fitting : Fitting f = a.fitting c.requires.here in
    let whole = meta-fits f.layout f.meta.meta fitting.meta in
    let there : c.args.image < length f.layout.rows = omega (arith, c.requires.plan.1, ap (λ (l : List ImageRow). length l) fitting.rows) in
    let inside = slot-inside f.layout (target f) c.args.image (mod-lt (f.meta.meta.active + 1) (omega (arith, whole.active))) in
    let room = slot-room f fitting a.session.sound c.args.image there in
    let known = a.inside c.requires.here in
    let first = c.start-first.ensures ∙ ap (λ (b : ℕ). start f.layout b c.args.image) c.target-bank.ensures.value in
    omega (arith, c.size-size.ensures, first, inside, room, known)

pub settle-requires-clause-fits : goal.settle-requires-clause-fits
settle-requires-clause-fits g c = meta-of-session (fields c.args.self.now) (c.args.self.now.fitting c.requires.here)

pub invariant_of-self-in-Ok-clause-fitting : goal.invariant_of-self-in-Ok-clause-fitting
invariant_of-self-in-Ok-clause-fitting g c here =
    let p = (goal.at.invariant_of-self-in-Ok-clause-fitting g c).After-finish in
    let k : Kept = kept c.settle.new.session in
    subst (λ (m : MetaRead). Fitting (record (f g p) { meta = m; session = k })) (sym c.settle.ensures.meta)
    (commit-fitting (f g p) g.D.Flash.tells (told g p) (left g p) c.args.number c.args.image c.args.bit (fitting g p)
    c.args.self.now.session.sound (knows g p) c.requires.plan (room g p) k c.settle.ensures.session)

pub invariant_of-self-in-Ok-clause-some : goal.invariant_of-self-in-Ok-clause-some
invariant_of-self-in-Ok-clause-some g c here =
    let p = (goal.at.invariant_of-self-in-Ok-clause-some g c).After-finish in
    commit-some (f g p) g.D.Flash.tells (told g p) (left g p) c.args.number c.args.image c.args.bit (fitting g p)
    c.args.self.now.session.sound (knows g p) c.requires.plan (room g p) (kept c.settle.new.session) c.settle.ensures.session
    (c.args.self.now.some here)

pub invariant_of-self-in-Ok-clause-knows : goal.invariant_of-self-in-Ok-clause-knows
invariant_of-self-in-Ok-clause-knows g c here tells =
    let p = (goal.at.invariant_of-self-in-Ok-clause-knows g c).After-finish in
    let k : Kept = kept c.settle.new.session in
    subst (λ (m : MetaRead). Knows (record (f g p) { meta = m; session = k }) (left g p)) (sym c.settle.ensures.meta)
    (commit-knows (f g p) g.D.Flash.tells (told g p) (left g p) c.args.number c.args.image c.args.bit (fitting g p)
    c.args.self.now.session.sound (knows g p) c.requires.plan (room g p) k c.settle.ensures.session
    (λ tells. finished g p (Ok tt) (c.in-Ok.ensures.finishes tells)) tells)

pub returns-in-Ok-clause-meets : goal.returns-in-Ok-clause-meets
returns-in-Ok-clause-meets g c passes h req most decides =
    let p = (goal.at.returns-in-Ok-clause-meets g c).After-finish in
    let k : Kept = kept c.settle.new.session in
    let old = moment c.args.self.now in
    subst (λ (m : MetaRead). Meets {T = Unit {0}} (λ value r. r ≡ Success) (Ok tt) passes (call.Commit h req) old (record {
      tells = g.D.Flash.tells;
      told = left g p;
      writes = g.D.Flash.writes c.finish.new.flash;
      fields = record (f g p) { meta = m; session = k };
    })) (sym c.settle.ensures.meta)
    (commit-meets (f g p) g.D.Flash.tells (told g p) (left g p) c.args.number c.args.image c.args.bit (fitting g p)
    c.args.self.now.session.sound (knows g p) c.requires.plan (room g p) k c.settle.ensures.session
    (λ tells. finished g p (Ok tt) (c.in-Ok.ensures.finishes tells)) (touched g p c.in-Ok.ensures.touches) passes h req most decides
    (subst (λ (m : MetaRead). Settles (f g p).session (f g p).meta [] (plan.Commit c.args.number (Some c.args.image) c.args.bit) m
    k)
    c.settle.ensures.meta c.settle.ensures.settles))

pub returns-in-Err-clause-meets : goal.returns-in-Err-clause-meets
returns-in-Err-clause-meets g c passes h req most decides =
    let p = (goal.at.returns-in-Err-clause-meets g c).After-finish in
    let old = moment c.args.self.now in
    let new : Moment = record {
      tells = g.D.Flash.tells;
      told = left g p;
      writes = g.D.Flash.writes c.finish.new.flash;
      fields = f g
          p;
    } in
    stopped-meets {T = Unit {0}} (λ value r. r ≡ Success) c.stopped.result passes (call.Commit h req) old new c.stopped.ensures.stopped
    (subst (λ (r : CallResult). LeavesFlash r passes (call.Commit h req) old new) (sym c.stopped.ensures.stop)
    (commit-leaves (f g p) g.D.Flash.tells (told g p) (left g p) c.args.number c.args.image c.args.bit (fitting g p)
    c.args.self.now.session.sound (knows g p) c.requires.plan (room g p) (Err c.in-Err.stop)
    (λ tells. finished g p (Err c.in-Err.stop) (c.in-Err.ensures.finishes tells)) (touched g p c.in-Err.ensures.touches)
    passes h req most decides (f g p) refl refl refl refl))

-- the image was ended, by the fields
pub returns-in-Ok-clause-image : goal.returns-in-Ok-clause-image
returns-in-Ok-clause-image g c =
    let p = (goal.at.returns-in-Ok-clause-image g c).After-finish in
    record {
      ends = λ tells. finished g p (Ok tt) (c.in-Ok.ensures.finishes tells);
      touches = touched g p c.in-Ok.ensures.touches;
      spent = rw c.size-size.ensures at c.in-Ok.ensures.arming;
    }

pub returns-in-Err-clause-image : goal.returns-in-Err-clause-image
returns-in-Err-clause-image g c =
    let p = (goal.at.returns-in-Err-clause-image g c).After-finish in
    record {
      ends = λ tells.
          subst (λ (r : CallResult). FinishesImage r (at g p) (long g p) (rest_of (f g p) c.args.image) (told g p) (left g p))
          (sym c.stopped.ensures.stop) (finished g p (Err c.in-Err.stop) (c.in-Err.ensures.finishes tells));
      touches = touched g p c.in-Err.ensures.touches;
      spent = rw c.stopped.ensures.stop (rw c.size-size.ensures at c.in-Err.ensures.arming);
    }
