-- A write that was carried out, or stopped, on the flash.
use Rattle.std.proofs.Common.{◌≡◌, ℕ, ◌+◌, ◌*◌, ◌<◌, ◌≤◌, Bool, List, length, get_or, set, Result, Ok, Err, refl, sym, ap, ◌∙◌, subst, arith, IsTrue}
use Rattle.std.proofs.lemmas.List.{length-set}
use Rattle.flash_core.specs.{declared.flash.FlashStop.FlashStop, Told.Told, Touches.TouchesOnly}
use Rattle.fwu_formats.specs.{Layout.ImageRow, Layout.start, Layout.slot_bytes, Layout.blocks_needed, Metadata.MetaRead}
use Rattle.fwu_model.specs.{Seen.state_of, Reply.Success}
use Rattle.moves.proofs.Composed.{does-nothing}
use Rattle.slot_writer.specs.Slots.{Appends, blocks_for, done_of}
use Rattle.agent_kept.specs.{declared.parts.Handle.Handle, declared.parts.Handle.TheVariants.Free, declared.kinds.Request.Request}
use Rattle.agent_kept.specs.{Kept.Kept, Kept.IsKept, Kept.AppendsPart, Kept.part_at, Kept.size_of, Plans.call_of}
use Rattle.agent_kept.specs.declared.kinds.Plan.TheVariants as plan
use Rattle.agent_kept.specs.declared.kinds.Request.TheVariants as request
use Rattle.agent_kept.specs.declared.kinds.Decision.TheVariants as decision
use Rattle.agent_state.specs.{Decides.DecidesRequest, Settles.IsPlanOf, Settles.Settles, Settles.staged_after}
use Rattle.agent_machine.proofs.{Deciding.decides-kept, Meeting.success-says, Stored.not-both, Staging.StaysKnown}
use Rattle.agent_machine.proofs.Answered.{FitsEach, rest-guarded, leaves-by, done-meets, stopped-meets}
use Rattle.agent_machine.proofs.Room.{ReadsWell, fitting-again, old-readers, staged-before, appends-blocks, appends-spare, appends-stay}
use Rattle.agent_machine.proofs.Showing.{some-after, kept-after}
use Rattle.agent_machine.proofs.Writing.{WriteMeets, means-written, write-meets}
use Rattle.agent_machine.specs.{Fields.Fields, Fields.target, Fields.rest_of, Fields.with_session, Machine.state_in}
use Rattle.agent_machine.specs.{Machine.staged_bytes, Knows.Fitting, Knows.SessionSound, Knows.Knows, Knows.SomeStaged}
use Rattle.agent_machine.specs.{Moment.Moment, Carries.MeansSame, Carries.CarriedOut, Carries.SameBeside, declared.stop.Stop.Stop}
use Rattle.agent_machine.specs.Meets.{LeavesFlash, Meets, IsStopped, flash_result}

-- ---- at any exit

module _ (old new : Moment) (image first size number at n : ℕ) (left bytes : List ℕ) (fitting : Fitting old.fields) (sound : SessionSound old.fields)
    (knows : IsTrue old.tells → Knows old.fields old.told) (of : IsPlanOf old.fields.session (plan.Write number image at n))
    (room : IsTrue old.tells → blocks_needed old.fields.layout * 4096 ≤ length old.told.now)
    (fits : size_of (part_at old.fields.session image) + length bytes ≤ slot_bytes old.fields.layout image)
    (first-is : first ≡ start old.fields.layout (target old.fields) image) (size-is : size ≡ size_of (part_at old.fields.session image)) where
  abbrev f : Fields
  f = old.fields

  within : image < length f.layout.rows
  within = omega (arith, of.0, ap (λ (l : List ImageRow). length l) fitting.rows)

  module _ (result : Result (Unit {0}) FlashStop) (appends : IsTrue old.tells → Appends result first size (rest_of f image) bytes left old.told new.told)
    where
      pub write-stays : IsTrue old.tells → StaysKnown f image old.told new.told
      write-stays tells =
          appends-stay result f image first size (rest_of f image) bytes left old.told new.told first-is
          (omega (arith, size-is, fits)) (appends tells)
          fitting sound (knows tells) (fitting.free of.1) within (room tells)

      module _ (passes : List ℕ → Bool) (r : Request) (fits_request : FitsEach f passes r bytes)
          (decides : DecidesRequest passes f.meta f.counter f.session f.boot r (decision.Do (plan.Write number image at n))) (tells-same : new.tells ≡ old.tells)
          (beside : SameBeside f new.fields) (touches : TouchesOnly (4096 * first + done_of size)
          (4096 * (first + blocks_for (done_of (size + length bytes)))) old.writes new.writes) where
        -- a prefix of no moves
        pub write-leaves : LeavesFlash result passes (call_of r bytes) old new
        write-leaves =
            leaves-by old new fitting sound knows passes r bytes fits_request (plan.Write number image at n) decides result
            (λ tells E setting ready. does-nothing result E (state_in f old.told.now) new.told
            ((write-stays tells).ready E setting.layout ready.calm ready.guarded))
            (λ tells rest. rest-guarded result new.told ((write-stays tells).rests rest))
            (λ tells. appends-spare result f image first size (rest_of f image) bytes left old.told new.told first-is
            (omega (arith, size-is, fits))
            (appends tells) (fitting.active of.1))
            (appends-blocks f image first size bytes (fitting.active of.1) first-is (omega (arith, size-is, fits)) touches)
            (λ tells. decides-kept f.layout f.meta _ _ old.told new.told (omega (arith, first-is)) (appends tells).keeps new.fields.meta)
            (record { tells = tells-same; layout = beside.layout; boot = beside.boot; counter = beside.counter; lengths = beside.lengths; guard = λ is. (appends is).keeps.guard })

-- ---- when done

module _ (tells : Bool) (s t : Told) (f : Fields) (k : Kept) (new_meta : MetaRead) (image first size number at : ℕ) (left bytes : List ℕ)
    (fitting : Fitting f) (sound : SessionSound f) (knows : IsTrue tells → Knows f s)
    (of : IsPlanOf f.session (plan.Write number image at (length bytes))) (room : IsTrue tells → blocks_needed f.layout * 4096 ≤ length s.now)
    (fits : size_of (part_at f.session image) + length bytes ≤ slot_bytes f.layout image)
    (first-is : first ≡ start f.layout (target f) image) (size-is : size ≡ size_of (part_at f.session image))
    (appends : IsTrue tells → Appends {T = Unit {0}} (Ok tt) first size (rest_of f image) bytes left s t)
    (wrote : AppendsPart f.session image bytes k) (meta : new_meta ≡ f.meta)
    (settles : Settles f.session f.meta bytes (plan.Write number image at (length bytes)) new_meta k) where
  abbrev rests : List (List ℕ)
  rests = set f.rests image left

  abbrev after_it : Fields
  after_it = record (with_session f k rests) { meta = new_meta }

  with-meta : (P : Fields → Type 0) → P (with_session f k rests) → P after_it
  with-meta P h = subst (λ (m : MetaRead). P (record (with_session f k rests) { meta = m })) (sym meta) h

  there : image < length f.layout.rows
  there = omega (arith, of.0, ap (λ (l : List ImageRow). length l) fitting.rows)

  appends-at : IsTrue tells → Appends {T = Unit {0}} (Ok tt) (start f.layout (target f) image) (size_of (part_at f.session image)) (rest_of f image) bytes
      left s t
  appends-at told =
      subst (λ (a : ℕ). Appends {T = Unit {0}} (Ok tt) a (size_of (part_at f.session image)) (rest_of f image) bytes left s t) first-is
      (subst (λ (n : ℕ). Appends {T = Unit {0}} (Ok tt) first n (rest_of f image) bytes left s t) size-is (appends told))

  kept : IsTrue tells → IsKept k (staged_after (plan.Write number image at (length bytes)) bytes (staged_bytes f s.now))
  kept told = kept-after f fitting sound bytes (plan.Write number image at (length bytes)) new_meta k settles
      (λ E state same speaks. tt) s (knows told)

  pub write-fitting : Fitting after_it
  write-fitting =
      with-meta Fitting
      (fitting-again f k rests fitting wrote.rest.rows (staged-before f k fitting wrote.rest.staging)
      (λ off. absurd (not-both k.staging off (wrote.rest.staging ∙ of.1)))
      (length-set f.rests image left ∙ fitting.rests)
      (λ place. subst (λ (hs : List Handle). ReadsWell f (get_or hs place Free)) (sym wrote.rest.handles) (old-readers f fitting place)))

  write-it : IsTrue tells → WriteMeets f (with_session f k rests) image bytes s t
  write-it told = write-meets f k image number at bytes left s t fitting sound (knows told) of.1 there (room told) fits wrote (kept told) (appends-at told)

  pub write-known : IsTrue tells → Knows after_it t
  write-known told = with-meta (λ (g : Fields). Knows g t) (write-it told).known

  pub write-some : ∥ SomeStaged f.session ∥₁ → ∥ SomeStaged k ∥₁
  write-some some = some-after f fitting sound bytes (plan.Write number image at (length bytes)) new_meta k settles (λ E state same speaks. tt) some

  pub write-carried : {old_writes new_writes : ℕ → ℕ} → CarriedOut (plan.Write number image at (length bytes)) bytes
      (record { tells = tells; told = s; writes = old_writes; fields = f }) (record { tells = tells; told = t; writes = new_writes; fields = after_it })
  write-carried = record {
    tells = refl;
    beside = record { layout = refl; boot = refl; counter = refl; lengths = refl; form = ap (λ (r : MetaRead). r.form) meta };
    settles = settles;
    total = λ E state same speaks. tt;
    trials = λ state staged speaks kept. speaks.trials_are;
    held = λ state staged speaks kept. refl;
    state_is = λ told. ap (state_of f.layout t.now) meta ∙ (write-it told).state_is;
    staged_are = λ told.
        with-meta (λ (g : Fields). MeansSame k (staged_after (plan.Write number image at (length bytes)) bytes (staged_bytes f s.now))
        (staged_bytes g t.now))
        (means-written f k image number at bytes left s t fitting sound (knows told) of.1 there (room told) fits wrote (kept told) (appends-at told));
  }

  -- the machine's answer
  module _ (passes : List ℕ → Bool) (h : ℕ) (decides : DecidesRequest passes f.meta f.counter f.session f.boot (request.Write h (length bytes))
      (decision.Do (plan.Write number image at (length bytes)))) {old_writes new_writes : ℕ → ℕ}
      (touches : TouchesOnly (4096 * first + done_of size) (4096 * (first + blocks_for (done_of (size + length bytes)))) old_writes new_writes) where
    abbrev before : Moment
    before = record { tells = tells; told = s; writes = old_writes; fields = f }

    abbrev behind : Moment
    behind = record { tells = tells; told = t; writes = new_writes; fields = after_it }

    fits_each : FitsEach f passes (request.Write h (length bytes)) bytes
    fits_each E state setting speaks = refl

    pub write-done : Meets {T = Unit {0}} (λ value reply. reply ≡ Success) (Ok tt) passes (call_of (request.Write h (length bytes)) bytes) before behind
    write-done =
        done-meets before behind fitting sound knows passes (request.Write h (length bytes)) bytes fits_each (plan.Write number image at (length bytes))
        decides write-carried (λ value reply. reply ≡ Success) tt
        (λ E state x setting shows. success-says before bytes (plan.Write number image at (length bytes)) tt E state x shows)
        (write-leaves before behind image first size number at (length bytes) left bytes fitting sound knows of room fits first-is size-is (Ok tt) appends
        passes (request.Write h (length bytes)) fits_each decides refl (write-carried {old_writes = old_writes} {new_writes = new_writes}).beside touches)

-- ---- when stopped

module _ (old new : Moment) (image first size number at : ℕ) (left bytes : List ℕ) (fitting : Fitting old.fields) (sound : SessionSound old.fields)
    (knows : IsTrue old.tells → Knows old.fields old.told) (of : IsPlanOf old.fields.session (plan.Write number image at (length bytes)))
    (room : IsTrue old.tells → blocks_needed old.fields.layout * 4096 ≤ length old.told.now)
    (fits : size_of (part_at old.fields.session image) + length bytes ≤ slot_bytes old.fields.layout image)
    (first-is : first ≡ start old.fields.layout (target old.fields) image) (size-is : size ≡ size_of (part_at old.fields.session image)) (cause : FlashStop)
    (appends : IsTrue old.tells → Appends {T = Unit {0}} (Err cause) first size (rest_of old.fields image) bytes left old.told new.told)
    (passes : List ℕ → Bool) (h : ℕ) (decides : DecidesRequest passes old.fields.meta old.fields.counter old.fields.session old.fields.boot
    (request.Write h (length bytes)) (decision.Do (plan.Write number image at (length bytes)))) (tells-same : new.tells ≡ old.tells)
    (beside : SameBeside old.fields new.fields) (touches : TouchesOnly (4096 * first + done_of size)
    (4096 * (first + blocks_for (done_of (size + length bytes)))) old.writes new.writes) where
  pub write-stopped : (r : Stop) → flash_result {T = Unit {0}} (Err r) ≡ Err cause → IsStopped {T = Unit {0}} (Err r)
      → Meets {T = Unit {0}} (λ value reply. reply ≡ Success) (Err r) passes (call_of (request.Write h (length bytes)) bytes) old new
  write-stopped r is stopped =
      stopped-meets (λ value reply. reply ≡ Success) r passes (call_of (request.Write h (length bytes)) bytes) old new stopped
      (subst (λ (result : Result (Unit {0}) FlashStop). LeavesFlash result passes (call_of (request.Write h (length bytes)) bytes) old new) (sym is)
      (write-leaves old new image first size number at (length bytes) left bytes fitting sound knows of room fits first-is size-is (Err cause) appends
      passes (request.Write h (length bytes)) (λ E s setting speaks. refl) decides tells-same beside touches))
