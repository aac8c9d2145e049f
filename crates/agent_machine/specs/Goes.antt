-- Calls of the agent in a row, as what they do to the machine that it shows.
use Rattle.std.specs.Prelude.{List, ◌++◌, Result, Ok, OnOk, IsErr, IsTrue}
use Rattle.flash_core.specs.declared.flash.FlashStop.{FlashStop}
use Rattle.fwu_model.specs.{Session.Session, Sound.Setting, Calm.IsAtRest}
use Rattle.fwu_model.specs.State.{State, Move, after}
use Rattle.moves.specs.Moved.{Does, GuardedBy, IsReady}
use Rattle.agent_machine.specs.{Moment.Moment, Moment.Shows, Meets.Stays}
use Rattle.agent_machine.specs.Beside.{KeepsSparedByAll, SparesBlocksByAll}

-- From a moment that shows a state to one after these moves, with this session, or stopped on the way.
pub record GoesByMoves (E : Setting) (result : Result (Unit {0}) FlashStop) (old new : Moment) (s : State) (ms : List Move)
    (y : Session) : Type 0 where
  pub shows : OnOk result (Shows new (after s ms) y)
  pub does : IsTrue old.tells → IsReady E old.told s → Does result E s ms new.told
  pub guarded : IsTrue old.tells → IsAtRest old.told → GuardedBy result new.told
  -- on any flash, at any exit
  pub keeps : IsTrue old.tells → KeepsSparedByAll old.fields old.told new.told
  -- on every device, whatever its reads give, at any exit
  pub touches : SparesBlocksByAll old.fields old.writes new.writes
  pub stays : Stays old new

-- ---- laws

pub record CallsGo : Type 0 where
  -- what is done, and what comes next
  pub next : (E : Setting) (result : Result (Unit {0}) FlashStop) (a b c : Moment) (s : State) (ms ns : List Move) (y z : Session)
      → GoesByMoves E (Ok tt) a b s ms y → GoesByMoves E result b c (after s ms) ns z → GoesByMoves E result a c s (ms ++ ns) z
  -- what was stopped did a prefix of whatever was to follow
  pub stopped : (E : Setting) (result : Result (Unit {0}) FlashStop) (a b : Moment) (s : State) (ms ns : List Move) (y z : Session)
      → IsErr result → GoesByMoves E result a b s ms y → GoesByMoves E result a b s (ms ++ ns) z
