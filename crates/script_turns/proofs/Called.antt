-- The turn of a call of the agent, on its device: what each call says, and what its turn left.
use Rattle.std.proofs.Common.{◌≡◌, ◌⊎◌, inl, inr, ℕ, ◌≤◌, Bool, true, false, List, length, Option, Some, Result, Ok, Err, refl, sym, ap, subst, ◌∙◌, IsTrue, IsFalse}
use Rattle.std.specs.Prelude.{is_ok, IfOk, OnOk, []}
use Rattle.std.proofs.lemmas.List.{length-take-le}
use Rattle.flash_core.specs.declared.flash.Flash.{Ghosts}
use Rattle.host_io.specs.Contents.{Directory}
use Rattle.fwu_model.specs.{declared.kinds.Op.Op, State.State, Sound.Setting, Session.Session, Call.Call, Reply.Reply, Reply.Turn, Call.open_call}
use Rattle.fwu_model.specs.{Run.is_stop, Answer.are_named}
use Rattle.fwu_model.specs.declared.kinds.Op.TheVariants as op
use Rattle.fwu_model.specs.Call as call
use Rattle.fwu_model.specs.Reply as reply
use Rattle.agent_kept.specs.declared.kinds.Request.TheVariants as request
use Rattle.agent_kept.specs.Plans.{call_of}
use Rattle.agent_machine.specs.{declared.stop.Stop.Stop, Fields.Fields}
use Rattle.agent_machine.specs.declared.stop.Stop.TheVariants as stop
use Rattle.agent_machine.specs.Moment as agent
use Rattle.agent_machine.specs.Meets.{Answers, GoesBack, GoesBy, IsDone, IsGot, IsRefused, IsStopped, Meets, MeetsPrevious, flash_result}
use Rattle.fwu_formats.specs.Metadata.{MetaRead}
use Rattle.agent_calls.specs.{declared.agent.Agent.Agent, AnswersCall.IsPreviousCall, AnswersCall.IsReplyOf, Copies.BeginsPartly}
use Rattle.agent_calls.specs.{GoneBack.SomePassed, Shown.AgentGoes, Shown.device, Shown.fields, Shown.gone, Shown.moment}
use Rattle.fwu_journal.specs.Shown.{IsShortReply, turn}
use Rattle.script_text.specs.Shown.{shown}
use Rattle.script_text.specs.declared.call.Call.TheVariants as variant
use Rattle.script_turns.specs.{Takes.IsMetaAfter, Powered.TurnMoment, Powered.SameDevice, Stage.on_where, Takes.TakesOn}
use Rattle.script_turns.specs.{Replies.is_there, Replies.moment_where, Replies.reply_by, Turning.IsCallTurn}
use Rattle.script_turns.specs.{Turning.LeavesAgent, Turning.Turns, Turning.quiet_turn, declared.turned.AgentTurn.AgentTurn}
use Rattle.script_turns.proofs.CallTakes.{done_reply, got, on_by, with}
use Rattle.script_turns.proofs.CallTurns.{Called, GoesBackAs, begin-turns, call-turns, is_single}

-- ---- an agent that isn't gone

pub never-gone : {T : Type 0} (result : Result T Stop) (was now : Bool) → GoesBy result was now → IsFalse was → result ≡ Err stop.Gone → ⊥
never-gone result was now goes here gone = let e : IsTrue was = goes.gone.0 gone in cc

-- ---- what a call says

answers-as : {T : Type 0} (Says Tells : T → Reply → Type 0) (result : Result T Stop) (E : Setting) (s : State) (x : Session) (c : Call) (new : agent.Moment)
    → ((value : T) → result ≡ Ok value → (q : Reply) → Says value q → Tells value q) → Answers Says result E s x c new → Answers Tells result E s x c new
answers-as Says Tells (Ok value) E s x c new says answers = (says value refl _ answers.0, answers.1)
answers-as Says Tells (Err (stop.Status st)) E s x c new says answers = answers
answers-as Says Tells (Err other) E s x c new says answers = tt

pub called : {T : Type 0} (Says : T → Reply → Type 0) (says : T → Reply) (result : Result T Stop) (passes : List ℕ → Bool) (c : Call) (old new : agent.Moment)
    → IsTrue (is_single c) → (IsPreviousCall c → ⊥) → ((value : T) → IsFalse (is_stop (says value))) → (result ≡ Err stop.Gone → ⊥)
    → ((value : T) → result ≡ Ok value → (q : Reply) → Says value q → IsReplyOf old.tells c q (says value))
    → Meets Says result passes c old new → Called says result passes c old new
called Says says result passes c old new agents other never here same meets = record {
  single = agents;
  never = never;
  here = here;
  exact = λ E s x setting shows d. answers-as Says (λ value q. IsReplyOf old.tells c q (says value)) result E s x c new same (meets.exact E s x setting shows);
  back = λ previous. absurd (other previous);
  permitted = λ previous value is. absurd (other previous);
  leaves = meets.leaves;
}

goes-back : (result : Result (Unit {0}) Stop) (s : State) (x : Session) (new : agent.Moment) → GoesBack result s x new → GoesBackAs (λ value. reply.Success) result s x new
goes-back (Ok value) s x new goes = goes
goes-back (Err (stop.Status st)) s x new goes = goes
goes-back (Err other) s x new goes = tt

pub called-previous : (result : Result (Unit {0}) Stop) (passes : List ℕ → Bool) (old new : agent.Moment) → (result ≡ Err stop.Gone → ⊥)
    → MeetsPrevious result passes old new → OnOk result (SomePassed passes old.fields.layout.rows old.fields.counter)
    → Called (λ value. reply.Success) result passes call.Previous old new
called-previous result passes old new here meets passed = record {
  single = refl;
  never = λ value. refl;
  here = here;
  exact = λ E s x setting shows d. meets.exact E s x setting shows d;
  back = λ previous s x shows. goes-back result s x new (meets.shows s x shows);
  permitted = λ previous value is. subst (λ (r : Result (Unit {0}) Stop). OnOk r (SomePassed passes old.fields.layout.rows old.fields.counter)) is passed;
  leaves = meets.leaves;
}

-- what was read, by the bytes at the front of the buffer
got-of : (tells : Bool) (handle room : ℕ) (out : List ℕ) (value : ℕ × ℕ) (q : Reply) → value.0 ≤ length out → IsGot tells out value q → IsReplyOf tells (call.Read handle room) q (got out value)
got-of tells handle room out value q fits is = (is.0, (is.1.0, is.1.1, is.1.2 ∙ sym (length-take-le value.0 out fits)))

fits-at : (result : Result (ℕ × ℕ) Stop) (out : List ℕ) (value : ℕ × ℕ) → IfOk result (λ v. v.0 ≤ length out) → result ≡ Ok value → value.0 ≤ length out
fits-at result out value fits is = subst (λ (r : Result (ℕ × ℕ) Stop). IfOk r (λ v. v.0 ≤ length out)) is fits

pub called-read : (tells : Bool) (result : Result (ℕ × ℕ) Stop) (passes : List ℕ → Bool) (handle room : ℕ) (out : List ℕ) (old new : agent.Moment) → old.tells ≡ tells
    → (result ≡ Err stop.Gone → ⊥) → IfOk result (λ v. v.0 ≤ length out)
    → Meets (IsGot tells out) result passes (call.Read handle room) old new → Called (got out) result passes (call.Read handle room) old new
called-read tells result passes handle room out old new told here fits meets =
    called (IsGot tells out) (got out) result passes (call.Read handle room) old new refl (λ previous. previous) (λ value. refl) here
    (λ value is q says. subst (λ (b : Bool). IsReplyOf b (call.Read handle room) q (got out value)) (sym told) (got-of tells handle room out value q (fits-at result out value fits is) says)) meets

-- what tells nothing but that it was done
pub called-done : (result : Result (Unit {0}) Stop) (passes : List ℕ → Bool) (c : Call) (old new : agent.Moment) → IsTrue (is_single c) → (IsPreviousCall c → ⊥)
    → ((q : Reply) → q ≡ reply.Success → IsReplyOf old.tells c q reply.Success) → (result ≡ Err stop.Gone → ⊥)
    → Meets (λ value q. q ≡ reply.Success) result passes c old new → Called (λ value. reply.Success) result passes c old new
called-done result passes c old new agents other same here meets =
    called (λ value q. q ≡ reply.Success) (λ value. reply.Success) result passes c old new agents other (λ value. refl) here (λ value is q says. same q says) meets

-- an open, by what it is for
pub called-open : (result : Result ℕ Stop) (passes : List ℕ → Bool) (guid : List ℕ) (o : Op) (old new : agent.Moment) → (result ≡ Err stop.Gone → ⊥)
    → Meets (λ handle q. q ≡ reply.Opened handle) result passes (call_of (request.Open guid o 0) []) old new → Called (λ handle. reply.Opened handle) result passes (open_call guid o) old new
called-open result passes guid op.Read old new here meets =
    called (λ handle q. q ≡ reply.Opened handle) (λ handle. reply.Opened handle) result passes (call.OpenRead guid) old new refl (λ previous. previous) (λ handle. refl) here (λ handle is q says. says) meets
called-open result passes guid op.Write old new here meets =
    called (λ handle q. q ≡ reply.Opened handle) (λ handle. reply.Opened handle) result passes (call.OpenWrite guid) old new refl (λ previous. previous) (λ handle. refl) here (λ handle is q says. says) meets

pub takes-open : (files : Option Directory) (guid : List ℕ) (o : Op) (f : Fields) (old : TurnMoment) (r : Reply) (new : TurnMoment) → SameDevice old new → TakesOn files (open_call guid o) f old r new
takes-open files guid op.Read f old r new same = same
takes-open files guid op.Write f old r new same = same

pub meta-open : (guid : List ℕ) (o : Op) (f : Fields) (m : MetaRead) → m ≡ f.meta → IsMetaAfter (open_call guid o) f m
meta-open guid op.Read f m same = same
meta-open guid op.Write f m same = same

pub shown-open : (guid : List ℕ) (o : Op) → shown (variant.Open guid o) ≡ open_call guid o
shown-open guid op.Read = refl
shown-open guid op.Write = refl

-- ---- the metadata

meta-of : {T : Type 0} (result : Result T Stop) (old new : MetaRead) (Next : Type 0) → (result ≡ Err stop.Gone → ⊥) → (IsDone result → Next) → (IsRefused result → new ≡ old) → (new ≡ old) ⊎ Next
meta-of (Ok value) old new Next here done refused = inr (done tt)
meta-of (Err (stop.Status st)) old new Next here done refused = inl (refused tt)
meta-of (Err stop.Gone) old new Next here done refused = absurd (here refl)
meta-of (Err other) old new Next here done refused = inr (done tt)

-- where a call that is refused leaves it as it was
pub meta-by : {D T : Type 0} {F : Ghosts D} (a b : Agent D F) (result : Result T Stop) → IsFalse (gone a) → AgentGoes result a b
    → (Next : Type 0) → (IsDone result → Next) → ((fields b).meta ≡ (fields a).meta) ⊎ Next
meta-by a b result live goes Next done =
    meta-of result (fields a).meta (fields b).meta Next (never-gone result _ _ goes.gone live) done (λ refused. ap (λ (f : Fields). f.meta) (goes.refused refused))

pub meta-either : {A B : Type 0} → A ⊎ (A ⊎ B) → A ⊎ B
meta-either (inl same) = inl same
meta-either (inr either) = either

-- ---- what its turn left

on-where-there : {T : Type 0} (result : Result T Stop) → (result ≡ Err stop.Gone → ⊥) → is_ok (flash_result result) ≡ is_there result
on-where-there (Ok value) here = refl
on-where-there (Err stop.Gone) here = absurd (here refl)
on-where-there (Err other) here = refl

-- a stop ends the agent
ends : {T : Type 0} (result : Result T Stop) → IsStopped result → IsTrue (is_there result) → ⊥
ends (Ok value) stopped there = absurd stopped
ends (Err (stop.Status st)) stopped there = absurd stopped
ends (Err other) stopped there = absurd cc

not-gone : {T : Type 0} (result : Result T Stop) (was now : Bool) → GoesBy result was now → IsFalse was → IsTrue (is_there result) → IsFalse now
not-gone result was false goes live there = refl
not-gone result was true goes live there = either (goes.later.0 refl)
  where
    either : IsTrue was ⊎ IsStopped result → IsFalse true
    either (inl gone) = absurd cc
    either (inr stopped) = absurd (ends result stopped there)

-- An agent that isn't gone, its call, and the agent and the turn after it.
module _ {D T : Type 0} {F : Ghosts D} (a b : Agent D F) (done : AgentTurn) (result : Result T Stop) (live : IsFalse (gone a)) (goes : AgentGoes result a b) where
  pub leaves-by : done.here ≡ is_there result → IsShortReply (turn done.turn).reply → LeavesAgent done a b
  leaves-by here_is short = record {
    device = record {
      powered = λ on. goes.power live ∙ on-where-there result (never-gone result _ _ goes.gone live) ∙ sym here_is;
      size = goes.size;
      short = short;
    };
    here = λ there. not-gone result _ _ goes.gone live (sym here_is ∙ there);
  }

  turned-by : (passes : List ℕ → Bool) (files : Option Directory) (faults : ℕ) (c : Call) (r : Reply) → turn done.turn ≡ quiet_turn c r → done.here ≡ is_there result
      → Turns passes F.tells files c (quiet_turn c r) (with (Some (fields a)) a) (with (on_by result (fields b)) b) faults faults
      → Turns passes F.tells files c (turn done.turn) (moment_where true a) (moment_where done.here b) faults faults
  turned-by passes files faults c r turn_is here_is turns =
      subst (λ (on : Option Fields). Turns passes F.tells files c (turn done.turn) (moment_where true a) (with on b) faults faults) (sym (ap (λ (there : Bool). on_where there (fields b)) here_is))
      (subst (λ (t : Turn). Turns passes F.tells files c t (moment_where true a) (with (on_by result (fields b)) b) faults faults) (sym turn_is) turns)

  pub turns-by : (says : T → Reply) (passes : List ℕ → Bool) (c : Call) → turn done.turn ≡ quiet_turn c (reply_by says result) → done.here ≡ is_there result
      → IsMetaAfter c (fields a) (fields b).meta → Called says result passes c (moment a) (moment b)
      → ((files : Option Directory) → TakesOn files c (fields a) (with (Some (fields a)) a) (reply_by says result) (with (on_by result (fields b)) b))
      → IsCallTurn passes c done a b
  turns-by says passes c turn_is here_is after says_it takes files faults =
      let d = device a in
      let e = device b in
      turned-by passes files faults c (reply_by says result) turn_is here_is
      (call-turns says passes F.tells files faults c (fields a) (fields b) (F.told d) (F.told e) (F.writes d) (F.writes e) (F.counts d) (F.counts e) (F.arming d) (F.arming e) (F.on d) (F.on e) (a.power live)
      result says_it after (goes.power live) goes.costs goes.unarmed (takes files))

module _ {D : Type 0} {F : Ghosts D} (a b : Agent D F) (done : AgentTurn) (result : Result (Unit {0}) Stop) (live : IsFalse (gone a)) (goes : AgentGoes result a b) where
  -- of what tells nothing but that it was done
  pub turns-done : (passes : List ℕ → Bool) (c : Call) → turn done.turn ≡ quiet_turn c (done_reply result) → done.here ≡ is_there result
      → IsMetaAfter c (fields a) (fields b).meta → IsTrue (is_single c) → (IsPreviousCall c → ⊥) → ((q : Reply) → q ≡ reply.Success → IsReplyOf F.tells c q reply.Success)
      → Meets (λ value q. q ≡ reply.Success) result passes c (moment a) (moment b)
      → ((files : Option Directory) → TakesOn files c (fields a) (with (Some (fields a)) a) (done_reply result) (with (on_by result (fields b)) b))
      → IsCallTurn passes c done a b
  turns-done passes c turn_is here_is after agents other same meets takes =
      turns-by a b done result live goes (λ value. reply.Success) passes c turn_is here_is after
      (called-done result passes c (moment a) (moment b) agents other same (never-gone result _ _ goes.gone live) meets) takes

  -- of a partial begin
  pub turns-begun : (passes : List ℕ → Bool) (types : List (List ℕ)) → turn done.turn ≡ quiet_turn (call.BeginPartial types) (done_reply result) → done.here ≡ is_there result
      → BeginsPartly types (are_named (fields a).layout.rows types) passes result (moment a) (moment b)
      → ((files : Option Directory) → TakesOn files (call.BeginPartial types) (fields a) (with (Some (fields a)) a) (done_reply result) (with (on_by result (fields b)) b))
      → IsCallTurn passes (call.BeginPartial types) done a b
  turns-begun passes types turn_is here_is begins takes files faults =
      let d = device a in
      let e = device b in
      turned-by a b done result live goes passes files faults (call.BeginPartial types) (done_reply result) turn_is here_is
      (begin-turns passes F.tells files faults types (fields a) (fields b) (F.told d) (F.told e) (F.writes d) (F.writes e) (F.counts d) (F.counts e) (F.arming d) (F.arming e) (F.on d) (F.on e) (a.power live)
      result (never-gone result _ _ goes.gone live) begins (goes.power live) goes.costs goes.unarmed (takes files))
