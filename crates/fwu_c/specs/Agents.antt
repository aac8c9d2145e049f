-- An agent that begins with a bank which a boot started, and what its flash tells behind what it was asked for.
use Rattle.std.specs.Prelude.{◌≡◌, Bool, Result, OnOk, IsFalse}
use Rattle.flash_core.specs.{Told.Told, declared.flash.FlashStop.FlashStop}
use Rattle.fwu_model.specs.{State.State, State.after, Sound.Setting, Reply.Reply, Answer.Answer, Calm.IsAtRest}
use Rattle.moves.specs.Moved.{Does, GuardedBy, IsReady, IsShown}
use Rattle.early_boot.specs.Started.{Started, started_session}
use Rattle.agent_machine.specs.Moment.{Moment, Shows}
use Rattle.agent_calls.specs.Started.{StartsFrom}

-- It has the fields of the bank, is there, and shows what its flash shows, in the session behind a boot of the bank.
pub record BeginsAgent (b : Started) (m : Moment) (gone : Bool) : Type 0 where
  pub from : StartsFrom b m.fields
  pub here : IsFalse gone
  pub shows : (s : State) → IsShown m.fields.layout m.told.now s → Shows m s (started_session b)

-- From what a flash told to what it tells then, by an answer of the machine: with one of these replies, as the flash went.
pub record MovesByAnswer (IsReply : Reply → Type 0) (E : Setting) (s : State) (a : Answer) (went : Result (Unit {0}) FlashStop)
    (old t : Told) : Type 0 where
  pub reply_is : IsReply a.reply
  -- done or refused, on any flash: it shows the state after all of the moves
  pub shows : OnOk went (IsShown E.layout t.now (after s a.moves))
  -- from a ready flash: each loss leaves the state after a prefix of the moves, and an answer leaves it ready after all
  pub does : IsReady E old s → Does went E s a.moves t
  -- from a flash at rest, sound or not: no loss may harm what is in use
  pub guarded : IsAtRest old → GuardedBy went t
  pub guard_is : t.guard ≡ old.guard
