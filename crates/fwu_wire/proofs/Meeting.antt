-- What a call of the agent says, as a reply.
use Rattle.std.proofs.Common.{◌≡◌, ℕ, ◌≤◌, Bool, List, [], ◌++◌, length, take, Result, Ok, Err, refl, sym, ap, subst, ◌∙◌, IsTrue, IsFalse}
use Rattle.std.specs.Prelude.{IfOk, OnOk}
use Rattle.std.proofs.lemmas.List.{length-take-le, take-append-le}
use Rattle.fwu_model.specs.{declared.kinds.Op.Op, declared.kinds.Status.Status, Call.Call, Reply.Reply, Answer.answer, Call.open_call}
use Rattle.fwu_model.specs.declared.kinds.Op.TheVariants as op
use Rattle.fwu_model.specs.Call as call
use Rattle.fwu_model.specs.Reply as reply
use Rattle.agent_kept.specs.declared.kinds.Request.TheVariants as request
use Rattle.agent_kept.specs.Plans.{call_of}
use Rattle.agent_machine.specs.declared.stop.Stop as agents
use Rattle.agent_machine.specs.declared.stop.Stop.TheVariants as agent_stop
use Rattle.agent_machine.specs.{Meets.IsGot, Meets.Meets, Meets.MeetsPrevious, CallGoes.AgentAt, CallGoes.CallGoes, Moment.Moment}
use Rattle.agent_machine.specs.Meets as meets
use Rattle.flash_core.specs.declared.flash.Flash.{Ghosts}
use Rattle.agent_calls.specs.{GoneBack.SomePassed, AnswersCall.IsPreviousCall, AnswersCall.IsReplyOf}
use Rattle.fwu_wire.specs.{Replies.replied, declared.replies.AgentReply.AgentReply, declared.stops.Stop.Stop}
use Rattle.fwu_wire.specs.Taken.{CallMeets, agents_answer, said}
use Rattle.fwu_wire.specs.declared.replies.AgentReply.TheVariants as wire

-- a refusal has no bytes
refused-as : (tells : Bool) (c : Call) (q : Reply) (st : Status) → q ≡ reply.Refused st → IsReplyOf tells c q (reply.Refused st)
refused-as tells (call.Read handle room) q st is = (λ told. is, is)
refused-as tells other q st is = is

-- an agent that isn't gone doesn't answer so
pub here : {T : Type 0} (answer : Result T agents.Stop) (was now : Bool) → meets.GoesBy answer was now → IsFalse was → answer ≡ Err agent_stop.Gone → ⊥
here answer was now goes live is = let gone : IsTrue was = goes.gone.0 is in cc

-- a call that isn't decided by a verdict
pub meets-by : {T : Type 0} (Says : T → Reply → Type 0) (says : T → AgentReply) (answer : Result T agents.Stop) (bytes : List ℕ) (passes : List ℕ → Bool) (c : Call) (old new : Moment)
    → (IsPreviousCall c → ⊥) → (answer ≡ Err agent_stop.Gone → ⊥)
    → ((value : T) → answer ≡ Ok value → (q : Reply) → Says value q → IsReplyOf old.tells c q (replied (says value) bytes))
    → Meets Says answer passes c old new → CallMeets passes c (said says answer) bytes old new
meets-by Says says (Ok value) bytes passes c old new other live same m = record {
  answers = record {
    exact = λ E s x setting shows decided. let a = m.exact E s x setting shows in (same value refl _ a.0, a.1);
    back = λ previous. absurd (other previous);
    permitted = λ previous. absurd (other previous);
    stays = m.leaves.stays;
  };
  leaves = m.leaves;
}
meets-by Says says (Err (agent_stop.Status st)) bytes passes c old new other live same m = record {
  answers = record {
    exact = λ E s x setting shows decided. let a = m.exact E s x setting shows in (refused-as old.tells c _ st a.0, a.1);
    back = λ previous. absurd (other previous);
    permitted = λ previous. absurd (other previous);
    stays = m.leaves.stays;
  };
  leaves = m.leaves;
}
meets-by Says says (Err agent_stop.Lost) bytes passes c old new other live same m = record { answers = tt; leaves = m.leaves }
meets-by Says says (Err agent_stop.Fault) bytes passes c old new other live same m = record { answers = tt; leaves = m.leaves }
meets-by Says says (Err agent_stop.Gone) bytes passes c old new other live same m = absurd (live refl)

-- what tells nothing but that it was done
pub meets-done : (answer : Result (Unit {0}) agents.Stop) (bytes : List ℕ) (passes : List ℕ → Bool) (c : Call) (old new : Moment)
    → (IsPreviousCall c → ⊥) → (answer ≡ Err agent_stop.Gone → ⊥) → ((q : Reply) → q ≡ reply.Success → IsReplyOf old.tells c q reply.Success)
    → Meets (λ value q. q ≡ reply.Success) answer passes c old new → CallMeets passes c (said (λ value. wire.Success) answer) bytes old new
meets-done answer bytes passes c old new other live same m =
    meets-by (λ value q. q ≡ reply.Success) (λ value. wire.Success) answer bytes passes c old new other live (λ value is q says. same q says) m

-- what is decided by the verdict on a bank
pub meets-previous : (answer : Result (Unit {0}) agents.Stop) (bytes : List ℕ) (passes : List ℕ → Bool) (old new : Moment) → (answer ≡ Err agent_stop.Gone → ⊥)
    → MeetsPrevious answer passes old new → OnOk answer (SomePassed passes old.fields.layout.rows old.fields.counter)
    → CallMeets passes call.Previous (said (λ value. wire.Success) answer) bytes old new
meets-previous (Ok value) bytes passes old new live m passed = record {
  answers = record {
    exact = λ E s x setting shows decided. m.exact E s x setting shows decided;
    back = λ previous s x shows. m.shows s x shows;
    permitted = λ previous. passed;
    stays = m.leaves.stays;
  };
  leaves = m.leaves;
}
meets-previous (Err (agent_stop.Status st)) bytes passes old new live m passed = record {
  answers = record {
    exact = λ E s x setting shows decided. m.exact E s x setting shows decided;
    back = λ previous s x shows. m.shows s x shows;
    permitted = λ previous. tt;
    stays = m.leaves.stays;
  };
  leaves = m.leaves;
}
meets-previous (Err agent_stop.Lost) bytes passes old new live m passed = record { answers = tt; leaves = m.leaves }
meets-previous (Err agent_stop.Fault) bytes passes old new live m passed = record { answers = tt; leaves = m.leaves }
meets-previous (Err agent_stop.Gone) bytes passes old new live m passed = absurd (live refl)

-- ---- what each call promises

module _ {A D : Type 0} {g : Ghosts D} (old new : AgentAt A D) where
  -- where it isn't told which reply it was
  pub goes-told : (r : AgentReply) → CallGoes g (agents_answer (Ok r)) old new → CallGoes {T = Unit {0}} g (Ok tt) old new
  goes-told (wire.Refused st) h = record {
    gone = record { gone = (λ is. absurd (cc), λ was. absurd (let e = h.gone.gone.1 was in cc)); later = (λ is. h.gone.later.0 is, λ is. h.gone.later.1 is) };
    untouched = λ is. absurd (cc);
    refused = λ is. absurd is;
    power = h.power;
    size = h.size;
    costs = h.costs;
    unarmed = h.unarmed;
  }
  goes-told other h = h

  -- a refusal leaves what the agent keeps
  pub refused-by : (r : AgentReply) (bytes : List ℕ) → CallGoes g (agents_answer (Ok r)) old new → (st : Status) → replied r bytes ≡ reply.Refused st → new.fields ≡ old.fields
  refused-by (wire.Refused why) bytes h st is = h.refused tt
  refused-by wire.Success bytes h st is = absurd (cc)
  refused-by (wire.Discovered state) bytes h st is = absurd (cc)
  refused-by (wire.Opened handle) bytes h st is = absurd (cc)
  refused-by (wire.Got total count) bytes h st is = absurd (cc)

-- an open, by what it is for
pub meets-open : (answer : Result ℕ agents.Stop) (bytes : List ℕ) (passes : List ℕ → Bool) (guid : List ℕ) (o : Op) (old new : Moment) → (answer ≡ Err agent_stop.Gone → ⊥)
    → Meets (λ handle q. q ≡ reply.Opened handle) answer passes (call_of (request.Open guid o 0) []) old new
    → CallMeets passes (open_call guid o) (said (λ handle. wire.Opened handle) answer) bytes old new
meets-open answer bytes passes guid op.Read old new live m =
    meets-by (λ handle q. q ≡ reply.Opened handle) (λ handle. wire.Opened handle) answer bytes passes (call.OpenRead guid) old new (λ previous. previous) live (λ handle is q says. says) m
meets-open answer bytes passes guid op.Write old new live m =
    meets-by (λ handle q. q ≡ reply.Opened handle) (λ handle. wire.Opened handle) answer bytes passes (call.OpenWrite guid) old new (λ previous. previous) live (λ handle is q says. says) m

-- a read, by what stands in the buffer
pub meets-read : (answer : Result (ℕ × ℕ) agents.Stop) (out behind : List ℕ) (passes : List ℕ → Bool) (handle room : ℕ) (old new : Moment) → (answer ≡ Err agent_stop.Gone → ⊥)
    → IfOk answer (λ v. v.0 ≤ length out) → Meets (IsGot old.tells out) answer passes (call.Read handle room) old new
    → CallMeets passes (call.Read handle room) (said (λ v. wire.Got v.1 v.0) answer) (out ++ behind) old new
meets-read answer out behind passes handle room old new live fits m =
    meets-by (IsGot old.tells out) (λ v. wire.Got v.1 v.0) answer (out ++ behind) passes (call.Read handle room) old new (λ previous. previous) live
    (λ v is q got. got-of v q (subst (λ (r : Result (ℕ × ℕ) agents.Stop). IfOk r (λ w. w.0 ≤ length out)) is fits) got) m
  where
    got-of : (v : ℕ × ℕ) (q : Reply) → v.0 ≤ length out → IsGot old.tells out v q → IsReplyOf old.tells (call.Read handle room) q (reply.Got v.1 (take v.0 (out ++ behind)))
    got-of v q few is =
        let front : take v.0 (out ++ behind) ≡ take v.0 out = take-append-le v.0 out behind few in (
          λ told. is.0 told ∙ ap (reply.Got v.1) (sym front),
          (is.1.0, is.1.1, is.1.2 ∙ sym (ap length front ∙ length-take-le v.0 out few)),
        )

-- where the agent gives no value, it doesn't matter what a value would have said
said-refused : {T : Type 0} (says : T → AgentReply) (why : agents.Stop) → said {T = Unit {0}} (λ value. wire.Success) (Err why) ≡ said says (Err why)
said-refused says (agent_stop.Status st) = refl
said-refused says agent_stop.Lost = refl
said-refused says agent_stop.Fault = refl
said-refused says agent_stop.Gone = refl

pub meets-refused : {T : Type 0} (says : T → AgentReply) (why : agents.Stop) (result : Result AgentReply Stop) (bytes : List ℕ) (passes : List ℕ → Bool) (c : Call) (old new : Moment)
    → result ≡ said {T = Unit {0}} (λ value. wire.Success) (Err why) → CallMeets passes c (said says (Err why)) bytes old new → CallMeets passes c result bytes old new
meets-refused says why result bytes passes c old new is m = subst (λ (r : Result AgentReply Stop). CallMeets passes c r bytes old new) (sym (is ∙ said-refused says why)) m

-- for the call that was asked for, and the reply that was made
pub meets-as : (asked c : Call) (result made : Result AgentReply Stop) (bytes : List ℕ) (passes : List ℕ → Bool) (old new : Moment) → asked ≡ c → result ≡ made
    → CallMeets passes c made bytes old new → CallMeets passes asked result bytes old new
meets-as asked c result made bytes passes old new call_is result_is m =
    subst (λ (x : Call). CallMeets passes x result bytes old new) (sym call_is)
    (subst (λ (r : Result AgentReply Stop). CallMeets passes c r bytes old new) (sym result_is) m)
