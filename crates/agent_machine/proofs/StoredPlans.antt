-- A plan that may be carried out, whichever it is: what is known after it, and what it is to the machine.
use Rattle.std.proofs.Common.{◌≡◌, ℕ, Bool, true, false, [], Ok, refl, sym, ap, ap₂, ◌∙◌, subst, IsTrue}
use Rattle.flash_core.specs.Told.{Told}
use Rattle.fwu_formats.specs.Metadata.{MetaRead}
use Rattle.moves.specs.Law.{CallResult}
use Rattle.agent_kept.specs.{declared.kinds.Plan.Plan, Kept.Kept}
use Rattle.agent_kept.specs.declared.kinds.Plan.TheVariants as plan
use Rattle.agent_kept.specs.declared.kinds.Decision.TheVariants as decision
use Rattle.agent_state.specs.Settles.{Changes, Settles, SettlesBy, meta_planned}
use Rattle.agent_machine.specs.{Beside.SparesBlocks, Fields.Fields}
use Rattle.agent_machine.specs.Knows.{Fitting, Knows, SessionSound, SomeStaged}
use Rattle.agent_machine.specs.Stored.{CarriesOut, MayCarryOut, StoresIf, is_stored, trials_planned}
use Rattle.agent_machine.proofs.Answered.{shown-speaks}
use Rattle.agent_machine.proofs.Stored.{after_plan, begun-fitting, accepted-fitting, back-fitting}
use Rattle.agent_machine.proofs.StoredKnown.{begun-known, restarted-known, accepted-known, back-known}
use Rattle.agent_machine.proofs.StoredShows.{Parts, SpeaksWell, carried, begun-parts, restarted-parts, accepted-parts, unchanged-parts, back-parts}
use Rattle.agent_kept.proofs.After.{kept-nothing}

module _ (f : Fields) (fitting : Fitting f) where
  pub planned-fitting : (p : Plan) (k : Kept) → MayCarryOut f p → Changes f.session [] p k → Fitting (after_plan f p k)
  planned-fitting (plan.Begin store) k may changes = begun-fitting f fitting store k may changes
  planned-fitting (plan.Accept image store) k may changes = subst (λ (x : Kept). Fitting (after_plan f (plan.Accept image store) x)) (sym changes)
      (accepted-fitting f fitting image store may)
  planned-fitting plan.Back k may changes = subst (λ (x : Kept). Fitting (after_plan f plan.Back x)) (sym changes) (back-fitting f fitting may)
  planned-fitting other k may changes = absurd may

  pub planned-some : (p : Plan) (k : Kept) → MayCarryOut f p → Changes f.session [] p k → ∥ SomeStaged f.session ∥₁ → ∥ SomeStaged k ∥₁
  planned-some (plan.Begin store) k may changes some = ∣ record { staged = λ _. []; kept = kept-nothing k (λ _. []) changes.nothing } ∣₁
  planned-some (plan.Accept image store) k may changes some = subst (λ (x : Kept). ∥ SomeStaged x ∥₁) (sym changes) some
  planned-some plan.Back k may changes some = subst (λ (x : Kept). ∥ SomeStaged x ∥₁) (sym changes) some
  planned-some s k may changes some = absurd may

  module _ (s t : Told) where
    pub planned-known : (p : Plan) (k : Kept) → Knows f s → MayCarryOut f p → Changes f.session [] p k
        → StoresIf {T = Unit {0}} (is_stored p) (Ok tt) f.layout (meta_planned f.session f.meta.meta p) s t → Knows (after_plan f p k) t
    planned-known (plan.Begin true) k knows may changes stores = begun-known f s t fitting knows k may changes stores
    planned-known (plan.Begin false) k knows may changes stores = restarted-known f s t fitting knows k may changes stores.1
    planned-known (plan.Accept image true) k knows may changes stores = subst (λ (x : Kept). Knows (after_plan f (plan.Accept image true) x) t)
        (sym changes) (accepted-known f s t fitting knows image may stores)
    planned-known (plan.Accept image false) k knows may changes stores = subst (λ (x : Kept). Knows (after_plan f (plan.Accept image false) x) t)
        (sym changes) (subst (λ (u : Told). Knows f u) (sym stores.1) knows)
    planned-known plan.Back k knows may changes stores = subst (λ (x : Kept). Knows (after_plan f plan.Back x) t) (sym changes)
        (back-known f s t fitting knows may stores)
    planned-known other k knows may changes stores = absurd may

    module _ (tells : Bool) (result : CallResult) (knows : IsTrue tells → Knows f s) where
      abbrev Settled : Plan → Kept → Type 0
      Settled p k = Settles f.session f.meta [] p (after_plan f p k).meta k

      abbrev Stored : Plan → Type 0
      Stored p = IsTrue tells → StoresIf (is_stored p) result f.layout (meta_planned f.session f.meta.meta p) s t

      planned-parts : (p : Plan) (k : Kept) → MayCarryOut f p → Changes f.session [] p k → Settled p k → Stored p → Parts tells f s t result p k
      planned-parts (plan.Begin true) k may changes settles stores = begun-parts tells f s t result fitting knows k may changes settles stores
      planned-parts (plan.Begin false) k may changes settles stores = restarted-parts tells f s t result fitting knows k changes settles stores
      planned-parts (plan.Accept image true) k may changes settles stores =
          subst (λ (x : Kept). Parts tells f s t result (plan.Accept image true) x) (sym changes)
          (accepted-parts tells f s t result fitting knows image may (subst (Settled (plan.Accept image true)) changes settles) stores)
      planned-parts (plan.Accept image false) k may changes settles stores =
          subst (λ (x : Kept). Parts tells f s t result (plan.Accept image false) x) (sym changes)
          (unchanged-parts tells f s t result fitting knows image may (subst (Settled (plan.Accept image false)) changes settles) stores)
      planned-parts plan.Back k may changes settles stores =
          subst (λ (x : Kept). Parts tells f s t result plan.Back x) (sym changes)
          (back-parts tells f s t result fitting knows may (subst (Settled plan.Back) changes settles) stores)
      planned-parts other k may changes settles stores = absurd may

      pub planned-carried : (p : Plan) (k : Kept) (old_writes new_writes : ℕ → ℕ) → SpeaksWell tells f s t result p k old_writes new_writes
          → MayCarryOut f p → Changes f.session [] p k → Settled p k → Stored p → SparesBlocks f old_writes new_writes
          → CarriesOut result p (record { tells = tells; told = s; writes = old_writes; fields = f })
          (record { tells = tells; told = t; writes = new_writes; fields = after_plan f p k })
      planned-carried p k old_writes new_writes speaks may changes settles stores touches =
          carried tells f s t result p k old_writes new_writes speaks (planned-parts p k may changes settles stores) touches

-- ---- by what a plan was settled on

-- settling such a plan is as it says
planned-settles : (f : Fields) (p : Plan) (m : MetaRead) (k : Kept) → MayCarryOut f p → SettlesBy f.session f.meta [] (decision.Do p) m k
    → Settles f.session f.meta [] p m k
planned-settles f (plan.BeginPartial store named) m k may settles = absurd may
planned-settles f other m k may settles = settles

-- the metadata fits what is kept
module _ (f : Fields) (fitting : Fitting f) (p : Plan) (k : Kept) (m : MetaRead) (trials : ℕ) (may : MayCarryOut f p) (changes : Changes f.session [] p k)
    (m-is : m ≡ record f.meta { meta = meta_planned f.session f.meta.meta p }) (trials-are : trials ≡ trials_planned p m.meta f.trials) where
  abbrev g : Fields
  g = record f { meta = m; session = k; trials = trials }

  fields-are : after_plan f p k ≡ g
  fields-are = sym (ap₂ (λ (x : MetaRead) (n : ℕ). record f { meta = x; session = k; trials = n }) m-is
      (trials-are ∙ ap (λ (x : MetaRead). trials_planned p x.meta f.trials) m-is))

  pub after-fitting : Fitting g
  after-fitting = subst Fitting fields-are (planned-fitting f fitting p k may changes)

  pub after-some : ∥ SomeStaged f.session ∥₁ → ∥ SomeStaged k ∥₁
  after-some some = planned-some f fitting p k may changes some

  module _ (s t : Told) (stored : Bool) (stored-is : stored ≡ is_stored p) where
    stores-planned : (result : CallResult) → StoresIf stored result f.layout m.meta s t
        → StoresIf (is_stored p) result f.layout (meta_planned f.session f.meta.meta p) s t
    stores-planned result stores =
        subst (λ (b : Bool). StoresIf b result f.layout (meta_planned f.session f.meta.meta p) s t) stored-is
        (subst (λ (x : MetaRead). StoresIf stored result f.layout x.meta s t) m-is stores)

    pub after-known : Knows f s → StoresIf {T = Unit {0}} stored (Ok tt) f.layout m.meta s t → Knows g t
    after-known knows stores = subst (λ (x : Fields). Knows x t) fields-are (planned-known f fitting s t p k knows may changes (stores-planned (Ok tt) stores))

    pub after-carried : (tells : Bool) (result : CallResult) {old_writes new_writes : ℕ → ℕ} → SessionSound f → (IsTrue tells → Knows f s)
        → SettlesBy f.session f.meta [] (decision.Do p) m k → (IsTrue tells → StoresIf stored result f.layout m.meta s t)
        → SparesBlocks f old_writes new_writes
        → CarriesOut result p (record { tells = tells; told = s; writes = old_writes; fields = f })
        (record { tells = tells; told = t; writes = new_writes; fields = g })
    after-carried tells result {old_writes = old_writes} {new_writes = new_writes} sound knows settles stores touches =
        subst (λ (x : Fields). CarriesOut result p (record { tells = tells; told = s; writes = old_writes; fields = f })
        (record { tells = tells; told = t; writes = new_writes; fields = x })) fields-are
        (planned-carried f fitting s t tells result knows p k old_writes new_writes
        (λ E x y same shows. shown-speaks f fitting sound E x E.passes shows.staged
        (record { layout = same; verifier = refl }) shows.speaks shows.kept) may changes
        (subst (λ (x : MetaRead). Settles f.session f.meta [] p x k) m-is (planned-settles f p m k may settles)) (λ is. stores-planned result (stores is))
        touches)
