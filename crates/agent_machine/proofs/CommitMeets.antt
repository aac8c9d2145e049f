-- What the commit of an image says.
use Rattle.std.proofs.Common.{◌≡◌, ℕ, ◌+◌, ◌-◌, ◌*◌, ◌<◌, ◌≤◌, Bool, true, List, [], length, get_or, Some, Ok, refl, sym, ap, subst, arith, IsTrue, ◌∙◌}
use Rattle.std.proofs.Math.Logic.{∥∥₁_map}
use Rattle.flash_core.specs.{Told.Told, Touches.TouchesOnly}
use Rattle.sha2.specs.declared.Sha256.{Sha256}
use Rattle.fwu_formats.specs.Layout.{ImageRow, start, blocks_needed}
use Rattle.fwu_model.specs.{Session.Session, Reply.Success}
use Rattle.fwu_model.specs.Call as call
use Rattle.moves.specs.Law.{CallResult}
use Rattle.moves.proofs.Composed.{does-nothing}
use Rattle.slot_writer.specs.Slots.{FinishesImage, blocks_for, done_of}
use Rattle.agent_kept.specs.declared.kinds.Plan.TheVariants as plan
use Rattle.agent_kept.specs.declared.kinds.Request.TheVariants as request
use Rattle.agent_kept.specs.{declared.kinds.Decision.TheVariants.Do, declared.parts.Part.Part, declared.parts.Handle.Handle}
use Rattle.agent_kept.specs.{declared.parts.Handle.TheVariants.Free, Plans.planned, Plans.planned_in}
use Rattle.agent_kept.specs.declared.parts.Part.TheVariants.{Nothing, Open, Committed}
use Rattle.agent_kept.specs.Kept.{Kept, CommitsPart, is_part_open, part_at, size_of}
use Rattle.agent_kept.proofs.After.{kept-committed}
use Rattle.agent_state.specs.{Decides.DecidesRequest, Settles.IsPlanOf, Settles.Settles}
use Rattle.agent_machine.proofs.{Deciding.decides-kept, Stored.not-both, Staging.StaysKnown}
use Rattle.agent_machine.proofs.Answered.{rest-guarded, leaves-by, done-meets}
use Rattle.agent_machine.proofs.Committing.{slot-room, finish-blocks, finish-spares, finish-stays, CommitLeaves, committed}
use Rattle.agent_machine.proofs.Room.{ReadsWell, set-readers, old-readers, free-well, fitting-again, staged-before}
use Rattle.agent_machine.specs.{Fields.Fields, Fields.target, Fields.rest_of, Fields.with_session, Machine.state_in, Moment.Moment}
use Rattle.agent_machine.specs.{Knows.Fitting, Knows.SessionSound, Knows.Knows, Knows.SomeStaged, Meets.LeavesFlash, Meets.Meets}

-- ---- an image is committed

opened-is : (p : Part) → is_part_open p ≡ true → (size : ℕ) × (hasher : Sha256) × (p ≡ Open size hasher)
opened-is Nothing e = absurd cc
opened-is (Open size hasher) e = (size, hasher, refl)
opened-is (Committed size digest bit) e = absurd cc

module _ (f : Fields) (tells : Bool) (s t : Told) (number image : ℕ) (bit : Bool) (fitting : Fitting f) (sound : SessionSound f)
    (knows : IsTrue tells → Knows f s)
    (fits : IsPlanOf f.session (plan.Commit number (Some image) bit)) (room : IsTrue tells → blocks_needed f.layout * 4096 ≤ length s.now) where
  abbrev old : (ℕ → ℕ) → Moment
  old writes = record { tells = tells; told = s; writes = writes; fields = f }

  pub image-there : image < length f.layout.rows
  image-there = omega (arith, fits.1, ap (λ (l : List ImageRow). length l) fitting.rows)

  abbrev size : ℕ
  size = size_of (part_at f.session image)

  abbrev first : ℕ
  first = start f.layout (target f) image

  pub was-open : (n : ℕ) × (hasher : Sha256) × (part_at f.session image ≡ Open n hasher)
  was-open = opened-is (part_at f.session image) fits.3

  size-is : size ≡ was-open.0
  size-is = ap size_of was-open.2

  -- what is erased and programmed
  abbrev Touches : (ℕ → ℕ) → (ℕ → ℕ) → Type 0
  Touches old_writes new_writes = TouchesOnly (4096 * first + done_of size) (4096 * (first + blocks_for size)) old_writes new_writes

  -- ---- at any exit

  module _ (result : CallResult) (finishes : IsTrue tells → FinishesImage result first size (rest_of f image) s t) where
    stays : IsTrue tells → StaysKnown f image s t
    stays told = finish-stays result f image size s t (slot-room f fitting sound image image-there) (finishes told) fitting sound
        (knows told)
        (fitting.free fits.2) image-there (room told)

    pub commit-leaves : {old_writes new_writes : ℕ → ℕ} → Touches old_writes new_writes → (passes : List ℕ → Bool) (h req most : ℕ)
        → DecidesRequest passes f.meta f.counter f.session f.boot (request.Commit h req most) (Do (plan.Commit number (Some image) bit)) → (g : Fields)
        → g.layout ≡ f.layout → g.boot ≡ f.boot → g.counter ≡ f.counter → g.lengths ≡ f.lengths
        → LeavesFlash result passes (call.Commit h req) (old old_writes) (record { tells = tells; told = t; writes = new_writes; fields = g })
    commit-leaves {old_writes = old_writes} {new_writes = new_writes} touches passes h req most decides g layout boot counter lengths =
        leaves-by (old old_writes) (record { tells = tells; told = t; writes = new_writes; fields = g }) fitting sound knows passes (request.Commit h req most) []
        (λ E st setting speaks. tt) (plan.Commit number (Some image) bit) decides result
        (λ told E setting ready. does-nothing result E (state_in f s.now) t ((stays told).ready E setting.layout ready.calm ready.guarded))
        (λ told rest. rest-guarded result t ((stays told).rests rest))
        (λ told. finish-spares result f image size s t (slot-room f fitting sound image image-there) (finishes told)
        (fitting.active fits.2))
        (finish-blocks f image size (fitting.active fits.2) (slot-room f fitting sound image image-there) touches)
        (λ told. decides-kept f.layout f.meta _ _ s t (omega arith) (finishes told).keeps g.meta)
        (record { tells = refl; layout = layout; boot = boot; counter = counter; lengths = lengths; guard = λ told. (finishes told).keeps.guard })

  -- ---- when done

  module _ (k : Kept) (commits : CommitsPart f.session image (number - 1) bit k) where
    abbrev g : Fields
    g = with_session f k f.rests

    pub commit-fitting : Fitting g
    commit-fitting =
        fitting-again f k f.rests fitting commits.rows (staged-before f k fitting commits.staging)
        (λ off. absurd (not-both k.staging off (commits.staging ∙ fits.2))) fitting.rests
        (λ place. subst (λ (hs : List Handle). ReadsWell f (get_or hs place Free)) (sym commits.handles)
        (set-readers f f.session.handles (number - 1) Free (old-readers f fitting) (free-well f) place))

    pub commit-some : ∥ SomeStaged f.session ∥₁ → ∥ SomeStaged k ∥₁
    commit-some some = ∥∥₁_map some
        (λ it. record { staged = it.staged; kept = kept-committed f.session k image (number - 1) bit it.staged it.kept fits.1 commits })

    module _ (finishes : IsTrue tells → FinishesImage {T = Unit {0}} (Ok tt) first size (rest_of f image) s t) where
      ends-at : IsTrue tells → FinishesImage {T = Unit {0}} (Ok tt) first was-open.0 (rest_of f image) s t
      ends-at told = subst (λ (n : ℕ). FinishesImage {T = Unit {0}} (Ok tt) first n (rest_of f image) s t) size-is (finishes told)

      leaves : IsTrue tells → CommitLeaves f k s t
      leaves told =
          committed f k image (number - 1) was-open.0 was-open.1 bit s t fitting sound (knows told)
          (fitting.free fits.2) image-there
          (room told) was-open.2 commits (ends-at told)

      pub commit-knows : IsTrue tells → Knows g t
      commit-knows told = (leaves told).known

      pub commit-meets : {old_writes new_writes : ℕ → ℕ} → Touches old_writes new_writes → (passes : List ℕ → Bool) (h req most : ℕ)
          → DecidesRequest passes f.meta f.counter f.session f.boot (request.Commit h req most) (Do (plan.Commit number (Some image) bit))
          → Settles f.session f.meta [] (plan.Commit number (Some image) bit) f.meta k
          → Meets {T = Unit {0}} (λ value r. r ≡ Success) (Ok tt) passes (call.Commit h req) (old old_writes)
          (record { tells = tells; told = t; writes = new_writes; fields = g })
      unfolding planned
      commit-meets {old_writes = old_writes} {new_writes = new_writes} touches passes h req most decides settles =
          done-meets (old old_writes) (record { tells = tells; told = t; writes = new_writes; fields = g }) fitting sound knows passes (request.Commit h req most) []
          (λ E st setting speaks. tt) (plan.Commit number (Some image) bit) decides
          (record {
            tells = refl;
            beside = record { layout = refl; boot = refl; counter = refl; lengths = refl; form = refl };
            settles = settles;
            total = λ E st same speaks. tt;
            trials = λ st staged speaks kept. speaks.trials_are;
            held = λ st staged speaks kept. refl;
            state_is = λ told. (leaves told).state_is;
            staged_are = λ told. (leaves told).means;
          })
          (λ value r. r ≡ Success) tt
          (λ E st x setting shows. ap (λ (y : Session). (planned_in E st y [] (plan.Commit number (Some image) bit)).reply) shows.means)
          (commit-leaves (Ok tt) finishes touches passes h req most decides g refl refl refl refl)
