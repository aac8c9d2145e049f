-- What becomes of a call of a memory device, and what a stop leaves to the next power-on.
use Rattle.std.specs.Prelude.{ℕ, Bool, false, ◌&&◌, if◌then◌else◌, Option, None, Some, length, slice_index, ◌≡◌, ◌<◌, ◌≤◌, min, Result, Ok, Err}
use Rattle.flash_core.specs.{May.Leaves, May.TookEffect, declared.flash.FlashStop.FlashStop}
use Rattle.flash_core.specs.Told.{Told, Operation, is_within, finished, fresh}
use Rattle.flash_core.specs.declared.flash.FlashStop.TheVariants.{Lost, Failed}
use Rattle.flash_devices.specs.declared.meters.Fate.{Fate}
use Rattle.flash_devices.specs.declared.meters.Fate.TheVariants.{Done, Fails, Dies}

-- So many of the first bytes of the operation under way take effect,
-- and the other dirty ranges go back to what was stable, or keep what is now.
pub record Loss : Type 0 where
  pub landed : ℕ
  pub back : Bool

-- nothing takes effect, and nothing goes back
abbrev pub no_loss : Loss
no_loss = record { landed = 0; back = false }

-- whether byte i is one of the first bytes of the operation under way
abbrev pub is_landed : Option Operation → ℕ → ℕ → Bool
is_landed None landed i = false
is_landed (Some op) landed i = is_within op.at landed i

-- the byte that the power-on leaves at a place
abbrev pub left_at : Told → Loss → ℕ → ℕ
left_at t loss i =
    if is_landed t.under loss.landed i then slice_index (finished t) i
    else (if loss.back && t.dirty i then slice_index t.stable i else slice_index t.now i)

-- A power-on leaves this content, of which nothing is dirty or under way. So many bytes of the operation under way took effect, or
-- all where it has fewer.
pub record ComesBack (known : ℕ) (loss : Loss) (old new : Told) : Type 0 where
  pub fresh_now : new ≡ fresh old.guard new.now
  pub leaves : Leaves old new.now
  pub effect : TookEffect old.under known new.now
  pub bytes : (i : ℕ) → i < length old.now → slice_index new.now i ≡ left_at old loss i

-- ---- what becomes of a call

abbrev pub fate_result : Fate → Result (Unit {0}) FlashStop
fate_result Done = Ok tt
fate_result Fails = Err Failed
fate_result (Dies landed known back) = Err Lost

-- as many bytes as are known take effect
abbrev pub Lands : Fate → ℕ → Type 0
Lands Done n = Unit {0}
Lands Fails n = n ≡ 0
Lands (Dies landed known back) n = (n ≡ known) × (known ≤ landed)

-- what an operation of n bytes leaves to the next power-on: no more than its own bytes take effect
abbrev pub loss_in : Fate → ℕ → Loss
loss_in Done n = no_loss
loss_in Fails n = no_loss
loss_in (Dies landed known back) n = record { landed = min n landed; back = back }
