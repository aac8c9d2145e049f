-- A call of the agent whose value says which reply it is.
use Rattle.std.proofs.Common.{◌≡◌, ℕ, List, Option, Some, None, Result, Ok, Err, refl}
use Rattle.std.proofs.lemmas.Result.{IfOk-from_err}
use Rattle.std.specs.Prelude.{IsErr, OnOk, Bool}
use Rattle.flash_core.specs.declared.flash.FlashStop.{FlashStop}
use Rattle.fwu_model.specs.{State.State, State.after, Session.Session, Sound.Setting, Call.Call, Answer.answer}
use Rattle.fwu_model.specs.Reply.{Reply, Refused}
use Rattle.agent_machine.proofs.Going.{leaves-goes}
use Rattle.agent_machine.specs.{declared.stop.Stop.Stop, Moment.Moment, Moment.Shows, Goes.GoesByMoves}
use Rattle.agent_machine.specs.Meets.{Meets, Answers, RepliesByMachine, flash_result}
use Rattle.agent_machine.specs.declared.stop.Stop.TheVariants as stop

-- the machine's reply, where the call was answered or refused
abbrev pub reply_of : {T : Type 0} → (T → Reply) → Result T Stop → Option Reply
reply_of of (Ok x) = Some (of x)
reply_of of (Err (stop.Status st)) = Some (Refused st)
reply_of of (Err cause) = None

-- a call whose value says which reply it is
abbrev pub MeetsAs : {T : Type 0} → (T → Reply) → Result T Stop → (List ℕ → Bool) → Call → Moment → Moment → Type 0
MeetsAs of result passes c old new = Meets (λ value r. r ≡ of value) result passes c old new

replied : {T : Type 0} (E : Setting) (of : T → Reply) (result : Result T Stop) (c : Call) (new : Moment) (s : State) (x : Session) (r : Reply)
    → Answers (λ value a. a ≡ of value) result E s x c new → reply_of of result ≡ Some r → RepliesByMachine E s x c new r
replied E of (Ok v) c new s x r has is = record { reply_is = cc; shows = has.1 }
replied E of (Err (stop.Status st)) c new s x r has is = record { reply_is = cc; shows = has.1 }
replied E of (Err cause) c new s x r has is = absurd cc

on-ok : {P : Type 0} (result : Result (Unit {0}) FlashStop) → P → OnOk result P
on-ok (Ok u) p = p
on-ok (Err e) p = tt

pub call-replies : {T : Type 0} (E : Setting) (of : T → Reply) (result : Result T Stop) (c : Call) (old new : Moment) (s : State) (x : Session)
    → E.layout ≡ old.fields.layout → Shows old s x
    → MeetsAs of result E.passes c old new → (r : Reply) → reply_of of result ≡ Some r → r ≡ (answer E s x c).reply
call-replies E of result c old new s x layout shows meets r is = (replied E of result c new s x r
    (meets.exact E s x (record { layout = layout; verifier = refl }) shows) is).reply_is

pub call-goes : {T : Type 0} (E : Setting) (of : T → Reply) (result : Result T Stop) (c : Call) (old new : Moment) (s : State) (x : Session)
    → E.layout ≡ old.fields.layout → Shows old s x
    → MeetsAs of result E.passes c old new → (r : Reply) → reply_of of result ≡ Some r
    → GoesByMoves E (flash_result result) old new s (answer E s x c).moves (answer E s x c).next
call-goes E of result c old new s x layout shows meets r is =
    leaves-goes E (flash_result result) c old new s x _ layout shows meets.leaves (on-ok (flash_result result)
    (replied E of result c new s x r (meets.exact E s x (record { layout = layout; verifier = refl }) shows) is).shows)

pub call-stopped : {T : Type 0} (E : Setting) (of : T → Reply) (result : Result T Stop) (c : Call) (old new : Moment) (s : State) (x : Session)
    → E.layout ≡ old.fields.layout → Shows old s x
    → MeetsAs of result E.passes c old new → IsErr (flash_result result) → (y : Session)
    → GoesByMoves E (flash_result result) old new s (answer E s x c).moves y
call-stopped E of result c old new s x layout shows meets err y =
    leaves-goes E (flash_result result) c old new s x y layout shows meets.leaves
    (IfOk-from_err (flash_result result) (λ _. Shows new (after s (answer E s x c).moves) y) err)
