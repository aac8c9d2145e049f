-- What an answer or a refusal of a call of the agent says, as a reply of the machine.
use Rattle.std.specs.Prelude.{◌≡◌, ℕ, Bool, List, [], ◌∷◌, length, IsTrue, ⊤}
use Rattle.fwu_model.specs.declared.kinds.Status.TheVariants as status
use Rattle.fwu_model.specs.{Sound.Setting, Session.Session, Call.Call, Reply.Reply, Answer.answer}
use Rattle.fwu_model.specs.State.{State, Back, after}
use Rattle.fwu_model.specs.Call as call
use Rattle.fwu_model.specs.Reply as reply
use Rattle.agent_machine.specs.{Fields.Fields, Moment.Moment, Moment.Shows}
use Rattle.agent_machine.specs.Meets.{IsSettingOf, ShowsNext, Stays, may_try}
use Rattle.agent_calls.specs.GoneBack.{SomePassed}

-- a reply that differs in the bytes that were read alone, and has as many
abbrev pub IsGotLike : Reply → Reply → Type 0
IsGotLike q (reply.Got total bytes) = (others : List ℕ) × (q ≡ reply.Got total others) × (length others ≡ length bytes)
IsGotLike q r = q ≡ r

-- A reply is the machine's; that of a read where the content isn't told, but for the bytes.
abbrev pub IsReplyOf : Bool → Call → Reply → Reply → Type 0
IsReplyOf tells (call.Read handle room) q r = (IsTrue tells → q ≡ r) × IsGotLike q r
IsReplyOf tells other q r = q ≡ r

-- Going back is decided by the verdict on a bank, which is known where the content is told.
abbrev pub IsDecided : Bool → Call → Type 0
IsDecided tells call.Previous = IsTrue tells
IsDecided tells other = ⊤

abbrev pub IsPreviousCall : Call → Type 0
IsPreviousCall call.Previous = ⊤
IsPreviousCall other = ⊥

-- On any device: what the session and the numbers refuse is refused, and an answer goes back.
abbrev pub GoesBackBy : Reply → State → Session → Moment → Type 0
GoesBackBy reply.Success s x new = IsTrue (may_try s x) × Shows new (after s (Back ∷ [])) x
GoesBackBy (reply.Refused st) s x new = (st ≡ status.Denied) × Shows new s x
GoesBackBy other s x new = ⊥

-- Where it goes back, some package passed, of a version that is not below the counter that the agent keeps.
abbrev pub PermitsBack : (List ℕ → Bool) → Reply → Fields → Type 0
PermitsBack passes reply.Success f = SomePassed passes f.layout.rows f.counter
PermitsBack passes other f = ⊤

-- An answer or a refusal of a call of the agent is that of each machine that the agent shows, and it shows the machine after it.
pub record AnswersCall (passes : List ℕ → Bool) (c : Call) (r : Reply) (old new : Moment) : Type 0 where
  pub exact : (E : Setting) (s : State) (x : Session) → IsSettingOf old.fields passes E → Shows old s x → IsDecided old.tells c
      → IsReplyOf old.tells c (answer E s x c).reply r × ShowsNext E s x c new
  pub back : IsPreviousCall c → (s : State) (x : Session) → Shows old s x → GoesBackBy r s x new
  pub permitted : IsPreviousCall c → PermitsBack passes r old.fields
  pub stays : Stays old new
