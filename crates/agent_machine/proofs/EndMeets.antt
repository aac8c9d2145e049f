-- What the end of a staging says.
use Rattle.std.proofs.Common.{◌≡◌, inl, inr, ℕ, ◌≤◌, Bool, true, false, List, [], ◌∷◌, length, Option, Some, None, Ok, refl, sym, ap, ◌∙◌, subst, IsTrue, arith}
use Rattle.flash_core.specs.Told.{Told}
use Rattle.fwu_formats.specs.{Layout.Layout, Metadata.Meta, Metadata.MetaRead}
use Rattle.fwu_formats.proofs.SealLaws.{limits}
use Rattle.fwu_model.specs.{Sound.Setting, Calm.IsAtRest, Session.Session, Session.Staged, Session.On, Reply.Success}
use Rattle.fwu_model.specs.{MoveMetas.meta_after, MoveMetas.meta_in, Replica.in_version}
use Rattle.fwu_model.specs.State.{State, Move, Switch, update_bank, after, state_by}
use Rattle.fwu_model.specs.Answer.{answer, staged_package, staged_bits, may_end}
use Rattle.fwu_model.specs.Call as call
use Rattle.marks_core.specs.Marks.{Clears}
use Rattle.replicas.specs.Stores.{Stores}
use Rattle.moves.specs.{Law.CallResult, Law.EndsBy, Moved.Does, Moved.GuardedBy, Moved.IsReady}
use Rattle.moves.proofs.Trials.{clear-guarded}
use Rattle.agent_kept.specs.declared.kinds.Plan.TheVariants as plan
use Rattle.agent_kept.specs.declared.kinds.Decision.TheVariants.{Do}
use Rattle.agent_kept.specs.Kept.{Kept, Restarts, parts_meant, staging_meant, handles_meant}
use Rattle.agent_kept.specs.Plans.{planned, planned_in, package_staged, bits_staged}
use Rattle.agent_kept.specs.declared.kinds.Request.TheVariants as request
use Rattle.agent_kept.proofs.Meant.{staging-on}
use Rattle.agent_state.specs.{Decides.DecidesRequest, Decides.next_bank, Settles.Settles, Settles.bits_kept}
use Rattle.agent_machine.proofs.{Deciding.decides-ends, Beside.ends-spare, Committing.slot-room, Showing.known-speaks}
use Rattle.agent_machine.proofs.Answered.{shown-speaks, leaves-by, done-meets}
use Rattle.agent_machine.proofs.EndingMeets.{ended-may, ends-meet, permitted-in, state-meta}
use Rattle.agent_machine.proofs.Ended.{stored-is, ended-held, EndLeaves, ended-leaves}
use Rattle.agent_machine.specs.{Beside.SparesBlocks, Carries.planned_moves, Fields.Fields, Machine.state_in, Machine.staged_bytes}
use Rattle.agent_machine.specs.{Moment.Moment, Knows.Fitting, Knows.SessionSound, Knows.Knows, Ends.ClearsAndStores}
use Rattle.agent_machine.specs.Meets.{IsSettingOf, LeavesFlash, Meets}

-- a store that was done came after a clear that was done
pub stored-when-done : (L : Layout) (m : Meta) (s t : Told) → ClearsAndStores {T = Unit {0}} (Ok tt) L m s t
    → (mid : Told) × Clears {T = Unit {0}} (Ok tt) 3 s mid × Stores {T = Unit {0}} (Ok tt) L m mid t
stored-when-done L m s t (inl done) = done
stored-when-done L m s t (inr (err, clears)) = absurd cc

-- the same blocks are guarded afterwards
ended-guard : (result : CallResult) (L : Layout) (m : Meta) (s t : Told) → ClearsAndStores result L m s t → t.guard ≡ s.guard
ended-guard result L m s t (inl (mid, clears, stores)) = stores.writes.keeps.guard ∙ clears.keeps.guard
ended-guard result L m s t (inr (err, clears)) = clears.keeps.guard

module _ (f : Fields) (k : Kept) (meta : MetaRead) (passes : List ℕ → Bool) (tells : Bool) (s t : Told) (fitting : Fitting f) (sound : SessionSound f)
    (knows : IsTrue tells → Knows f s) (staging : f.session.staging ≡ true)
    (decides : DecidesRequest passes f.meta f.counter f.session f.boot request.End (Do plan.End))
    (is : meta ≡ record f.meta { meta = meta_after f.meta.meta (Switch (next_bank f.meta.meta) [] (bits_kept f.session)) }) where
  abbrev g : Fields
  g = record f { meta = meta; session = k; trials = 0 }

  abbrev old : (ℕ → ℕ) → Moment
  old writes = record { tells = tells; told = s; writes = writes; fields = f }

  abbrev new : (ℕ → ℕ) → Moment
  new writes = record { tells = tells; told = t; writes = writes; fields = g }

  abbrev state : State
  state = state_in f s.now

  abbrev staged : ℕ → List ℕ
  staged = staged_bytes f s.now

  abbrev p : List (List ℕ)
  p = staged_package (parts_meant f.session staged)

  abbrev bits : List Bool
  bits = staged_bits (parts_meant f.session staged)

  -- ---- what is told

  abbrev plain : Setting
  plain = record { layout = f.layout; files = λ _. None; passes = passes }

  some : 1 ≤ length f.layout.rows
  some = let two = (limits f.layout fitting.layout).fewest_images in omega (arith, two)

  on : staging_meant f.session staged ≡ Some (parts_meant f.session staged)
  on = staging-on f.session staged staging

  may : Knows f s → may_end plain state (parts_meant f.session staged) ≡ true
  may known =
      ended-may plain state f.boot (parts_meant f.session staged) (handles_meant f.session)
      (subst (λ (o : Option (List Staged)). answer plain state (On f.boot o (handles_meant f.session)) call.End ≡ planned plain state f.boot o
      (handles_meant f.session) [] plan.End) on
      (decides plain state staged []
      (shown-speaks f fitting sound plain state passes staged (record { layout = refl; verifier = refl })
      (known-speaks f fitting s known) known.staged.kept).speaks tt))

  ends : Knows f s → EndsBy f.layout state p bits s
  ends known = ends-meet f passes s fitting known (slot-room f fitting sound) some staging (may known)

  state-of : Knows f s → meta_in state ≡ f.meta.meta
  state-of known = state-meta f passes s fitting known (slot-room f fitting sound) some staging (may known)

  stored : Knows f s → meta.meta ≡ meta_after (meta_in state) (Switch (update_bank state) p bits)
  stored known = ap (λ (r : MetaRead). r.meta) is ∙ stored-is f state staged p (sym (state-of known))

  moves-are : planned_moves state (staging_meant f.session staged) plan.End ≡ Switch (update_bank state) p bits ∷ []
  moves-are = ap (λ (o : Option (List Staged)). Switch (update_bank state) (package_staged o) (bits_staged o) ∷ []) on

  -- ---- at any exit

  module _ (result : CallResult) (ended : IsTrue tells → ClearsAndStores result f.layout meta.meta s t) where
    does-told : (E : Setting) → IsSettingOf f passes E → IsTrue tells → IsReady E s state → Does result E state (Switch (update_bank state) p bits ∷ []) t
    does-told E setting told ready =
        let known = knows told in
        elim (ended told) [
          | inl (mid, clears, stores) ↦
              (ends known).does result E mid t setting.layout
              (permitted-in f passes s fitting known (slot-room f fitting sound) some staging
              (may known) E setting.layout setting.verifier) ready.calm ready.guarded clears
              (subst (λ (m : Meta). Stores result f.layout m mid t) (stored known) stores)
          | inr (err, clears) ↦ (ends known).unclear result result E t err setting.layout ready.calm ready.guarded clears
        ]

    guarded-told : IsTrue tells → IsAtRest s → GuardedBy result t
    guarded-told told rest =
        let known = knows told in
        elim (ended told) [
          | inl (mid, clears, stores) ↦ (ends known).guarded result mid t rest clears
              (subst (λ (m : Meta). Stores result f.layout m mid t) (stored known) stores)
          | inr (err, clears) ↦ clear-guarded result f.layout s t known.layout_is rest clears
        ]

    version : Knows f s → meta ≡ in_version 2 meta.meta
    version known = ap (λ (n : ℕ). record { form = n; meta = meta.meta }) (ap (λ (r : MetaRead). r.form) is ∙ known.version)

    pub end-leaves : {old_writes new_writes : ℕ → ℕ} → SparesBlocks f old_writes new_writes
        → LeavesFlash result passes call.End (old old_writes) (new new_writes)
    end-leaves {old_writes = old_writes} {new_writes = new_writes} touches =
        leaves-by (old old_writes) (new new_writes) fitting sound knows passes request.End [] (λ E st setting speaks. tt) plan.End decides result
        (λ told E setting ready. subst (λ (ms : List Move). Does result E state ms t) (sym moves-are) (does-told E setting told ready)) guarded-told
        (λ told. ends-spare f result f.layout meta.meta s t (ended told)) touches
        (λ told. decides-ends result f.layout f.meta meta meta.meta s t (version (knows told)) (ended told))
        (record { tells = refl; layout = refl; boot = refl; counter = refl; lengths = refl; guard = λ told. ended-guard result f.layout meta.meta s t (ended told) })

  -- ---- when done

  module _ (restarts : Restarts false f.session k) (settles : Settles f.session f.meta [] plan.End meta k)
      (ended : IsTrue tells → (mid : Told) × Clears {T = Unit {0}} (Ok tt) 3 s mid × Stores {T = Unit {0}} (Ok tt) f.layout meta.meta mid t) where
    leaves : IsTrue tells → EndLeaves f g s t (after state (Switch (update_bank state) p bits ∷ []))
    leaves told =
        let known = knows told in
        let e = ended told in
        ended-leaves f k meta fitting restarts is s e.0 t known staging (state-of known) p (ends known) e.1 e.2

    pub end-knows : IsTrue tells → Knows g t
    end-knows told = (leaves told).known

    pub end-meets : {old_writes new_writes : ℕ → ℕ} → SparesBlocks f old_writes new_writes
        → Meets {T = Unit {0}} (λ value r. r ≡ Success) (Ok tt) passes call.End (old old_writes) (new new_writes)
    unfolding planned
    end-meets {old_writes = old_writes} {new_writes = new_writes} touches =
        done-meets (old old_writes) (new new_writes) fitting sound knows passes request.End [] (λ E st setting speaks. tt) plan.End decides
        (record {
          tells = refl;
          beside = record { layout = refl; boot = refl; counter = refl; lengths = refl; form = ap (λ (r : MetaRead). r.form) is };
          settles = settles;
          total = λ E st same speaks. tt;
          trials = λ st bytes speaks kept. refl;
          held = λ st bytes speaks kept.
              let stg = staging_meant f.session bytes in
              ended-held f k meta fitting restarts is st
              (record { state = state_by (bits_staged stg); bits = bits_staged stg; held = Some (package_staged stg) }) speaks.meta staging;
          state_is = λ told. (leaves told).state_is ∙ ap (after state) (sym moves-are);
          staged_are = λ told. (leaves told).means;
        })
        (λ value r. r ≡ Success) tt (λ E st x setting shows. ap (λ (y : Session). (planned_in E st y [] plan.End).reply) shows.means)
        (end-leaves (Ok tt) (λ told. inl (ended told)) touches)
