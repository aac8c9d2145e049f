-- What a barrier leaves of what is dirty.
use Rattle.std.proofs.Common.{◌≡◌, sym, subst}
use Rattle.std.specs.Prelude.{Result, Ok, Err, OnOk}
use Rattle.flash_core.specs.{declared.flash.FlashStop.FlashStop, Told.Told, Told.NothingDirty, Told.settled}
use Rattle.flash_core.proofs.Calls.{settle-fresh}

-- after a barrier nothing is dirty
pub settled-clean : {T : Type 0} (result : Result T FlashStop) (t u : Told) → u ≡ settled result t → OnOk result (NothingDirty u)
settled-clean (Ok x) t u is = subst NothingDirty (sym is) (settle-fresh t)
settled-clean (Err stop) t u is = tt
