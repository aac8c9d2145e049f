-- What is decided of a begin, an accept or a previous: the plan may be carried out, and the machine's answer is its.
use Rattle.std.proofs.Common.{◌≡◌, ℕ, Bool, true, false, cond, ◌<◌, List, [], ◌∷◌, length, Some, None, refl, sym, ap, ◌∙◌, subst, arith, IsTrue}
use Rattle.std.proofs.Math.Logic.{∥∥₁_elim}
use Rattle.std.specs.Coded.{Coded-set, coded_ℕ, coded_bool}
use Rattle.flash_core.specs.Told.{Told}
use Rattle.fwu_formats.specs.{Layout.ImageRow, Metadata.state_at}
use Rattle.fwu_model.specs.{declared.kinds.Status.Status, Sound.Setting, Session.Session, Answer.answer, Answer.refused}
use Rattle.fwu_model.specs.State.{State, Move, Free, bank, is_invalid, update_bank}
use Rattle.fwu_model.specs.Call as call
use Rattle.agent_kept.specs.{declared.kinds.Request.Request, declared.kinds.Plan.Plan, declared.kinds.Decision.Decision}
use Rattle.agent_kept.specs.Kept.{Kept, session_meant, staging_meant, handles_meant, parts_meant}
use Rattle.agent_kept.specs.Plans.{call_of, planned, planned_in, FitsRequest, DecidesAs}
use Rattle.agent_kept.specs.declared.kinds.Request.TheVariants as request
use Rattle.agent_kept.specs.declared.kinds.Plan.TheVariants as plan
use Rattle.agent_kept.specs.declared.kinds.Decision.TheVariants as decision
use Rattle.agent_state.specs.Decides.{DecidesRequest, cannot_begin_kept}
use Rattle.agent_state.proofs.Machine.{state-is, active-is, cannot-is}
use Rattle.agent_machine.specs.{Fields.Fields, Fields.target, Meets.IsSettingOf, Moment.Moment, Moment.Shows, Moment.Showing}
use Rattle.agent_machine.specs.Knows.{Fitting, SessionSound, SomeStaged}
use Rattle.agent_machine.specs.Stored.{MayBegin, MayAccept, frees}
use Rattle.agent_machine.proofs.{Answered.decided-as, Meeting.success-says, Showing.shows-some, StoredMeets.AnswersBy}
use Rattle.agent_machine.proofs.StoredAnswers.{Accepts, Begins, begins, accepts}
use Rattle.agent_machine.proofs.StoredShows.{target-is}

-- ---- what a decision says of each machine that is shown

module _ (m : Moment) (fitting : Fitting m.fields) (sound : SessionSound m.fields) (passes : List ℕ → Bool) (r : Request)
    (fits : (E : Setting) (s : State) → FitsRequest E s m.fields.boot m.fields.session r []) where
  abbrev f : Fields
  f = m.fields

  abbrev Decided : Decision → Type 0
  Decided d = DecidesRequest passes f.meta f.counter f.session f.boot r d

  pub decided-of : (d : Decision) → Decided d → (E : Setting) (s : State) (x : Session) → IsSettingOf f passes E → Shows m s x
      → DecidesAs E s x (call_of r []) [] d
  decided-of d decides = decided-as m fitting sound passes r [] (λ E s setting speaks. fits E s) d decides

  pub refused-of : (st : Status) → Decided (decision.Refused st) → (E : Setting) (s : State) (x : Session) → IsSettingOf f passes E → Shows m s x
      → answer E s x (call_of r []) ≡ refused st x
  refused-of st decides E s x setting shows = decided-of (decision.Refused st) decides E s x setting shows

  pub planned-of : (p : Plan) → Decided (decision.Do p) → (E : Setting) (s : State) (x : Session) → IsSettingOf f passes E → Shows m s x
      → answer E s x (call_of r []) ≡ planned_in E s x [] p
  planned-of p decides E s x setting shows = decided-of (decision.Do p) decides E s x setting shows

  -- in the words of what is kept
  pub planned-meant : (p : Plan) → Decided (decision.Do p) → (E : Setting) (s : State) (x : Session) → IsSettingOf f passes E
      → (shows : Shows m s x)
      → answer E s (session_meant f.session f.boot shows.staged) (call_of r []) ≡ planned E s f.boot
      (staging_meant f.session shows.staged)
      (handles_meant f.session) [] p
  planned-meant p decides E s x setting shows =
      subst (λ (y : Session). answer E s y (call_of r []) ≡ planned_in E s y [] p) shows.means
      (planned-of p decides E s x setting shows)

-- some machine is shown: a fact of numbers that holds of each holds
module _ (f : Fields) (t : Told) (fitting : Fitting f) (some : ∥ SomeStaged f.session ∥₁) where
  abbrev dark : Moment
  dark = record { tells = false; told = t; writes = λ _. 0; fields = f }

  shown-once : ∥ Showing dark ∥₁
  shown-once = shows-some f fitting false t (λ is. absurd (let e : false ≡ true = is in cc)) some

  pub bools-alike : (a b : Bool) → ((s : State) (x : Session) → Shows dark s x → a ≡ b) → a ≡ b
  bools-alike a b each = ∥∥₁_elim shown-once (Coded-set coded_bool a b) (λ (w : Showing dark). each w.state w.session w.shows)

  pub numbers-alike : (a b : ℕ) → ((s : State) (x : Session) → Shows dark s x → a ≡ b) → a ≡ b
  numbers-alike a b each = ∥∥₁_elim shown-once (Coded-set coded_ℕ a b) (λ (w : Showing dark). each w.state w.session w.shows)

abbrev pub plain-of : Fields → (List ℕ → Bool) → Setting
plain-of f passes = record { layout = f.layout; files = λ _. None; passes = passes }

abbrev moment-of : Bool → Told → (ℕ → ℕ) → Fields → Moment
moment-of tells t writes f = record { tells = tells; told = t; writes = writes; fields = f }

-- ---- begin

module _ (f : Fields) (fitting : Fitting f) (sound : SessionSound f) (passes : List ℕ → Bool) (flags n : ℕ) (p : Plan)
    (decides : DecidesRequest passes f.meta f.counter f.session f.boot (request.Begin flags n) (decision.Do p)) where
  module _ (tells : Bool) (t : Told) {writes : ℕ → ℕ} where
    begins-as : (E : Setting) (s : State) (x : Session) → IsSettingOf f passes E → (shows : Shows (moment-of tells t writes f) s x)
        → Begins E s f.boot (staging_meant f.session shows.staged) (handles_meant f.session) n p
    begins-as E s x setting shows =
        begins E s f.boot (staging_meant f.session shows.staged) (handles_meant f.session) n p
        (planned-meant (moment-of tells t writes f) fitting sound passes (request.Begin flags n) (λ e y. tt) p decides E s x setting
        shows)

    -- the machine's answer is that of the plan to begin
    pub begin-answers : (E : Setting) (s : State) (x : Session) → IsSettingOf f passes E → Shows (moment-of tells t writes f) s x
        → AnswersBy E s x (call.Begin n) (plan.Begin (frees p))
    begin-answers E s x setting shows = record {
      is = subst (λ (y : Session). answer E s y (call.Begin n) ≡ planned_in E s y [] (plan.Begin (frees p))) (sym shows.means)
          (begins-as E s x setting shows).is;
      reply = success-says (moment-of tells t writes f) [] (plan.Begin (frees p)) tt E s x shows;
      may = tt;
    }

  -- the update bank is invalid where nothing is freed
  free-by : (b c : Bool) (u : ℕ) → c ≡ false → cond b [] (Free u ∷ []) ≡ cond c (Free u ∷ []) [] → IsTrue b
  free-by true c u off e = refl
  free-by false true u off e = absurd cc
  free-by false false u off e = absurd (let h : ◌≡◌ {A = List Move} (Free u ∷ []) [] = e in cc)

  -- and the plan to begin may be carried out
  pub begin-may : Told → ∥ SomeStaged f.session ∥₁ → MayBegin f (frees p)
  begin-may t some = record {
    begins = bools-alike f t fitting some (cannot_begin_kept f.meta.meta f.session f.boot) false (λ s x shows.
        cannot-is s f.meta shows.speaks.meta f.session f.boot shows.staged ∙
        (begins-as false t (plain-of f passes) s x (record { layout = refl; verifier = refl }) shows).can);
    free = λ off. bools-alike f t fitting some (is_invalid (state_at f.meta.meta (target f))) true (λ s x shows.
        ap is_invalid (ap (state_at f.meta.meta) (target-is f s shows.speaks fitting) ∙ state-is s f.meta shows.speaks.meta (update_bank s))
        ∙ free-by (is_invalid (bank s (update_bank s)).state) (frees p) (update_bank s) off
        (begins-as false t (plain-of f passes) s x (record { layout = refl; verifier = refl }) shows).moves);
  }

-- ---- accept

module _ (f : Fields) (fitting : Fitting f) (sound : SessionSound f) (passes : List ℕ → Bool) (guid : List ℕ) (p : Plan)
    (decides : DecidesRequest passes f.meta f.counter f.session f.boot (request.Accept guid) (decision.Do p)) where
  module _ (tells : Bool) (t : Told) {writes : ℕ → ℕ} where
    accepts-as : (E : Setting) (s : State) (x : Session) → IsSettingOf f passes E → (shows : Shows (moment-of tells t writes f) s x)
        → Accepts E s f.boot (staging_meant f.session shows.staged) (handles_meant f.session) guid
    accepts-as E s x setting shows =
        accepts E s f.boot (staging_meant f.session shows.staged) (handles_meant f.session) guid p
        (planned-meant (moment-of tells t writes f) fitting sound passes (request.Accept guid) (λ e y. tt) p decides E s x setting
        shows)

    -- a plan to accept is the machine's answer
    pub accept-answers : (E : Setting) (s : State) (x : Session) → IsSettingOf f passes E → Shows (moment-of tells t writes f) s x
        → (image : ℕ) (store : Bool) → p ≡ plan.Accept image store → AnswersBy E s x (call.Accepts guid) (plan.Accept image store)
    accept-answers E s x setting shows image store is = record {
      is = planned-of (moment-of tells t writes f) fitting sound passes (request.Accept guid) (λ e y. tt) p decides E s x setting
          shows
          ∙ ap (planned_in E s x []) is;
      reply = success-says (moment-of tells t writes f) [] (plan.Accept image store) tt E s x shows;
      may = tt;
    }

  no-staging : (k : Kept) (staged : ℕ → List ℕ) → staging_meant k staged ≡ None → k.staging ≡ false
  no-staging k staged none = by k.staging none
    where
      by : (b : Bool) → cond b (Some (parts_meant k staged)) None ≡ None → b ≡ false
      by true e = absurd cc
      by false e = refl

  pub accept-may : Told → ∥ SomeStaged f.session ∥₁ → (image : ℕ) → image < length f.session.rows → MayAccept f image
  accept-may t some image within = record {
    idle = bools-alike f t fitting some f.session.staging false (λ s x shows.
        no-staging f.session shows.staged
        (accepts-as false t (plain-of f passes) s x (record { layout = refl; verifier = refl }) shows).idle);
    booted = numbers-alike f t fitting some f.boot f.meta.meta.active (λ s x shows.
        (accepts-as false t (plain-of f passes) s x (record { layout = refl; verifier = refl }) shows).booted
        ∙ sym (active-is s f.meta shows.speaks.meta));
    within = omega (arith, within, ap (λ (l : List ImageRow). length l) fitting.rows);
  }
