-- Calls within a staging, one after another.
use Rattle.std.proofs.Common.{ℕ, [], Some, Result, Ok, Err}
use Rattle.flash_core.specs.declared.flash.FlashStop.TheVariants as flash_stop
use Rattle.fwu_model.specs.{State.State, Sound.Setting, Session.Session, Session.On}
use Rattle.agent_machine.specs.{Moment.Moment, Goes.GoesByMoves}
use Rattle.agent_machine.proofs.Going.{goes-then}
use Rattle.update_client.specs.{declared.stops.SendStop.SendStop, Halts.Halts}
use Rattle.update_client.specs.declared.stops.SendStop.TheVariants.{ReadFailed, Lost, Fault}

-- what was done before a call that halts
pub halts-after : {T : Type 0} (result : Result T SendStop) (E : Setting) (old mid new : Moment) (s : State) (boot : ℕ) (x y : Session) → GoesByMoves E
    (Ok tt) old mid s [] x → Halts result E mid new s boot y → Halts result E old new s boot y
halts-after (Ok v) E old mid new s boot x y first next = goes-then E (Ok tt) old mid new s [] [] x y first next
halts-after (Err ReadFailed) E old mid new s boot x y first next = record {
  parts = next.parts;
  handles = next.handles;
  goes = goes-then E
      (Ok tt) old mid new s [] [] x (On boot (Some next.parts) next.handles) first next.goes;
}
halts-after (Err Lost) E old mid new s boot x y first next = goes-then E (Err flash_stop.Lost) old mid new s [] [] x y first next
halts-after (Err Fault) E old mid new s boot x y first next = goes-then E (Err flash_stop.Failed) old mid new s [] [] x y first next
halts-after (Err q) E old mid new s boot x y first next = absurd next

-- at a stop nothing is said of the session
pub other-end : (T U : Type 0) (stop : SendStop) (E : Setting) (old new : Moment) (s : State) (boot : ℕ) (y z : Session)
    → Halts {T = T} (Err stop) E old new s boot y → Halts {T = U} (Err stop) E old new s boot z
other-end T U Lost E old new s boot y z h = record { shows = tt; does = h.does; guarded = h.guarded; keeps = h.keeps; touches = h.touches; stays = h.stays }
other-end T U Fault E old new s boot y z h = record { shows = tt; does = h.does; guarded = h.guarded; keeps = h.keeps; touches = h.touches; stays = h.stays }
other-end T U q E old new s boot y z h = h
