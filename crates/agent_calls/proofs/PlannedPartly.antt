-- What is planned of a partial begin.
use Rattle.std.proofs.Common.{◌≡◌, cond, ℕ, Bool, true, false, List, [], length, take, Option, refl, sym, ap, subst, ◌∙◌}
use Rattle.flash_core.specs.Told.{Told}
use Rattle.fwu_formats.specs.{Layout.ImageRow, Metadata.Meta}
use Rattle.fwu_model.specs.{State.State, Sound.Setting, Reply.Success, declared.kinds.Status.Status}
use Rattle.fwu_model.specs.Session.{Session, On, Staged, Handle}
use Rattle.fwu_model.specs.Answer.{Answer, answer, answer_begin_partial, answered, refused, are_named, begin_moves, begins_with, cannot_begin, copied_parts, image_held, names_unknown}
use Rattle.fwu_model.specs.Call as call
use Rattle.fwu_model.specs.declared.kinds.Status.TheVariants as status
use Rattle.agent_kept.specs.{declared.kinds.Request.Request, declared.kinds.Plan.Plan, Kept.Kept, Kept.staging_meant}
use Rattle.agent_kept.specs.{Kept.handles_meant, Plans.call_of, Plans.planned, Plans.planned_in, Plans.FitsRequest}
use Rattle.agent_kept.specs.declared.kinds.Request.TheVariants as request
use Rattle.agent_kept.specs.declared.kinds.Plan.TheVariants as plan
use Rattle.agent_kept.specs.declared.kinds.Decision.TheVariants as decision
use Rattle.agent_state.specs.{Asked.IsPlanFor, Decides.DecidesRequest}
use Rattle.agent_machine.specs.{Fields.Fields, Moment.Moment, Moment.Shows, Filling.between}
use Rattle.agent_machine.specs.Knows.{Fitting, SessionSound, SomeStaged}
use Rattle.agent_machine.proofs.StoredCalls.{bools-alike, plain-of, planned-of}
use Rattle.agent_calls.specs.Partly.{begins_over, named_in}

-- ---- by the machine's answer

module _ (E : Setting) (s : State) (boot : ℕ) (staging : Option (List Staged)) (handles : List Handle) (types : List (List ℕ)) where
  abbrev x : Session
  x = On boot staging handles

  abbrev begun : (ℕ → List ℕ) → Answer
  begun held = answered Success (begin_moves s) (between boot (copied_parts (are_named E.layout.rows types) held))

  asked-is : answer E s x (call.BeginPartial types) ≡ begins_with E s boot staging handles types (image_held s s.active)
  unfolding answer answer_begin_partial
  asked-is = refl

  -- a refusal asks for no bytes
  on-refused : (bytes : ℕ → List ℕ) (st : Status) → answer E s x (call.BeginPartial types) ≡ refused st x → begins_over E s x types bytes ≡ refused st x
  on-refused bytes st is = by-test (cannot_begin s boot staging) (names_unknown E.layout.rows types) (sym asked-is ∙ is)
    where
      by-test : (cannot unknown : Bool)
          → cond cannot (refused status.Denied x) (cond unknown (refused status.Unknown x) (begun (image_held s s.active))) ≡ refused st x
          → cond cannot (refused status.Denied x) (cond unknown (refused status.Unknown x) (begun bytes)) ≡ refused st x
      by-test true unknown e = e
      by-test false true e = e
      by-test false false e = absurd (let r = ap (λ (a : Answer). a.reply) e in cc)

  -- what is begun names no unknown type
  on-known : (answer E s x (call.BeginPartial types)).reply ≡ Success → names_unknown E.layout.rows types ≡ false
  on-known is = by-test (cannot_begin s boot staging) (names_unknown E.layout.rows types) (sym (ap (λ (a : Answer). a.reply) asked-is) ∙ is)
    where
      by-test : (cannot unknown : Bool)
          → (cond cannot (refused status.Denied x) (cond unknown (refused status.Unknown x) (begun (image_held s s.active)))).reply ≡ Success
          → unknown ≡ false
      by-test true unknown e = absurd cc
      by-test false true e = absurd cc
      by-test false false e = refl

-- a plan to begin in part is done
succeeds : (E : Setting) (s : State) (boot : ℕ) (staging : Option (List Staged)) (handles : List Handle) (store : Bool) (named : List Bool)
    → (planned E s boot staging handles [] (plan.BeginPartial store named)).reply ≡ Success
unfolding planned
succeeds E s boot staging handles store named = refl

-- ---- of what is shown, which is a session that is on

module _ (m : Moment) (E : Setting) (s : State) (x : Session) (shows : Shows m s x) (types : List (List ℕ)) where
  pub refused-partial : (bytes : ℕ → List ℕ) (st : Status) → answer E s x (call.BeginPartial types) ≡ refused st x
      → begins_over E s x types bytes ≡ refused st x
  refused-partial bytes st is =
      subst (λ (y : Session). begins_over E s y types bytes ≡ refused st y) (sym shows.means)
      (on-refused E s m.fields.boot (staging_meant m.fields.session shows.staged) (handles_meant m.fields.session) types bytes st
      (subst (λ (y : Session). answer E s y (call.BeginPartial types) ≡ refused st y) shows.means is))

  known-with : (store : Bool) (named : List Bool) → answer E s x (call.BeginPartial types) ≡ planned_in E s x [] (plan.BeginPartial store named)
      → names_unknown E.layout.rows types ≡ false
  known-with store named is =
      on-known E s m.fields.boot (staging_meant m.fields.session shows.staged) (handles_meant m.fields.session) types
      (ap (λ (a : Answer). a.reply) (subst (λ (y : Session). answer E s y (call.BeginPartial types) ≡ planned_in E s y [] (plan.BeginPartial store named)) shows.means is)
      ∙ succeeds E s m.fields.boot (staging_meant m.fields.session shows.staged) (handles_meant m.fields.session) store named)

-- ---- by the plan

-- it is a plan to begin in part
pub record IsPartial (k : Kept) (types : List (List ℕ)) (p : Plan) : Type 0 where
  pub store : Bool
  pub is : p ≡ plan.BeginPartial store (named_in p)
  pub named : take (length k.rows) (named_in p) ≡ are_named k.rows types

pub partial-plan : (k : Kept) (m : Meta) (flags : ℕ) (list : _) (p : Plan) → IsPlanFor k m (request.BeginPartial flags list) p → IsPartial k list.now p
partial-plan k m flags list (plan.BeginPartial store named) is = record { store = store; is = refl; named = is.1 }
partial-plan k m flags list p is = absurd is

-- so the list names no unknown type
pub plan-known : (f : Fields) (t : Told) (fitting : Fitting f) (sound : SessionSound f) (some : ∥ SomeStaged f.session ∥₁) (passes : List ℕ → Bool)
    (r : Request) (types : List (List ℕ)) → call_of r [] ≡ call.BeginPartial types
    → ((E : Setting) (s : State) → FitsRequest E s f.boot f.session r []) → (p : Plan) → IsPartial f.session types p
    → DecidesRequest passes f.meta f.counter f.session f.boot r (decision.Do p) → names_unknown f.layout.rows types ≡ false
plan-known f t fitting sound some passes r types asks fits p partial decides =
    bools-alike f t fitting some (names_unknown f.layout.rows types) false (λ s x shows.
    let E = plain-of f passes in
    let dark : Moment = record { tells = false; told = t; writes = λ _. 0; fields = f } in
    let is = planned-of dark fitting sound passes r fits p decides E s x (record { layout = refl; verifier = refl }) shows in
    known-with dark E s x shows types partial.store (named_in p)
    (sym (ap (answer E s x) asks) ∙ is ∙ ap (planned_in E s x []) partial.is))

-- and those that the plan names are those that the list names
pub named-are : (f : Fields) (types : List (List ℕ)) (p : Plan) (named : List Bool) (n : ℕ) → Fitting f → IsPartial f.session types p
    → named ≡ named_in p → n ≡ length f.layout.rows → take n named ≡ are_named f.layout.rows types
named-are f types p named n fitting partial is count =
    ap (take n) is ∙ ap (λ (k : ℕ). take k (named_in p)) (count ∙ ap (λ (l : List ImageRow). length l) (sym fitting.rows))
    ∙ partial.named ∙ ap (λ (l : List ImageRow). are_named l types) fitting.rows
