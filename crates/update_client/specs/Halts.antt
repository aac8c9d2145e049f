-- How the calls of a sending end, within its staging.
use Rattle.std.specs.Prelude.{ℕ, Bool, true, false, List, [], Some, Result, Ok, Err, ⊤}
use Rattle.flash_core.specs.declared.flash.FlashStop.{FlashStop}
use Rattle.flash_core.specs.declared.flash.FlashStop.TheVariants as flash_stop
use Rattle.fwu_model.specs.{State.State, Sound.Setting, Session.Session, Session.On, Session.Staged, Session.Handle}
use Rattle.agent_machine.specs.{declared.stop.Stop.Stop, Moment.Moment, Goes.GoesByMoves}
use Rattle.agent_machine.specs.declared.stop.Stop.TheVariants as stop
use Rattle.update_client.specs.declared.stops.SendStop.{SendStop}
use Rattle.update_client.specs.declared.stops.SendStop.TheVariants.{MissingImage, ImageTooLarge, Begin, End, ReadFailed, Lost, Fault, Gone}

-- an agent's stop, as that of a sending; within a staging none is refused
abbrev pub stopped_as : Stop → SendStop
stopped_as (stop.Status st) = End st
stopped_as stop.Lost = Lost
stopped_as stop.Fault = Fault
stopped_as stop.Gone = Gone

-- the stop of a begin
abbrev pub unbegun_as : Stop → SendStop
unbegun_as (stop.Status st) = Begin st
unbegun_as other = stopped_as other

abbrev pub is_unread : SendStop → Bool
is_unread ReadFailed = true
is_unread other = false

-- whether the flash stopped it
abbrev pub flash_of : {T : Type 0} → Result T SendStop → Result (Unit {0}) FlashStop
flash_of (Err Lost) = Err flash_stop.Lost
flash_of (Err Fault) = Err flash_stop.Failed
flash_of other = Ok tt

-- the staging stands, with whatever was staged
pub record StillStaging (E : Setting) (old new : Moment) (s : State) (boot : ℕ) : Type 0 where
  pub parts : List Staged
  pub handles : List Handle
  pub goes : GoesByMoves E (Ok tt) old new s [] (On boot (Some parts) handles)

-- Calls within a staging: done, and then the session is this one; or a read failed; or the flash stopped it. None is refused.
abbrev pub Halts : {T : Type 0} → Result T SendStop → Setting → Moment → Moment → State → ℕ → Session → Type 0
Halts (Ok x) E old new s boot y = GoesByMoves E (Ok tt) old new s [] y
Halts (Err ReadFailed) E old new s boot y = StillStaging E old new s boot
Halts (Err Lost) E old new s boot y = GoesByMoves E (Err flash_stop.Lost) old new s [] y
Halts (Err Fault) E old new s boot y = GoesByMoves E (Err flash_stop.Failed) old new s [] y
Halts (Err other) E old new s boot y = ⊥

-- the stops of calls within a staging, on any device: no image is at fault, and no begin was refused
abbrev pub StopsWithin : {T : Type 0} → Result T SendStop → Type 0
StopsWithin (Err (MissingImage guid)) = ⊥
StopsWithin (Err (ImageTooLarge guid)) = ⊥
StopsWithin (Err (Begin st)) = ⊥
StopsWithin (Err Gone) = ⊥
StopsWithin other = ⊤

-- and of the end
abbrev pub StopsEnd : {T : Type 0} → Result T SendStop → Type 0
StopsEnd (Err ReadFailed) = ⊥
StopsEnd result = StopsWithin result
