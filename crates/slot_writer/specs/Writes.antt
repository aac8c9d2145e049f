-- How many erases and programs writing an image takes, as an armed loss counts them.
use Rattle.std.specs.Prelude.{if◌then◌else◌, ◌==◌, ◌&&◌, nat_lt, nat_le, ◌≡◌, ℕ, ◌+◌, ◌-◌, ◌*◌, ◌/◌, ◌%◌, ◌<◌, ◌≤◌, Option, Result, OnOk}
use Rattle.std.specs.Option.{ForSome}
use Rattle.base_core.specs.Block.{granule_bytes}
use Rattle.flash_core.specs.{declared.flash.Arming.Arming, declared.flash.Counts.Counts, declared.flash.FlashStop.FlashStop}
use Rattle.flash_core.specs.Counts.{StaysUnarmed, lowered_by}
use Rattle.slot_writer.specs.Slots.{blocks_for, done_of}

-- What a call of so many erases and programs leaves of an arming, on every device: when done, each of them took one off, and none
-- was the armed one. A loss leaves none armed; where none was armed, none is, and none was reached.
pub record SpendsArming {T : Type 0} (result : Result T FlashStop) (writes : ℕ) (armed arming : Option Arming)
    (old new : Counts) : Type 0 where
  pub lowered : OnOk result (arming ≡ lowered_by writes armed)
  pub passed : OnOk result (ForSome armed (λ a. 1 ≤ a.n → writes < a.n))
  pub unarmed : StaysUnarmed result armed arming old new

-- one program of bytes behind those that are done, if there are any, and an erase of each block that they reach first
abbrev pub writes_behind : ℕ → ℕ → ℕ
writes_behind done n = if n == 0 then 0 else (blocks_for (done + n) - blocks_for done) + 1

-- one program where the kept bytes of an image of this length become a whole granule
abbrev pub programs_of_kept : ℕ → ℕ → ℕ
programs_of_kept size n = if nat_lt 0 (size % granule_bytes) && nat_le granule_bytes (size % granule_bytes + n) then 1 else 0

-- one program of all further whole granules, if there are any
abbrev pub programs_of_whole : ℕ → ℕ → ℕ
programs_of_whole size n =
    if nat_lt (granule_bytes * ((size + (granule_bytes - 1)) / granule_bytes)) (done_of (size + n)) then 1 else 0

-- appending so many bytes to an image of this length: an erase of each block that its whole granules reach first, and the programs
abbrev pub writes_to_append : ℕ → ℕ → ℕ
writes_to_append size n =
    (blocks_for (done_of (size + n)) - blocks_for (done_of size)) + (programs_of_kept size n + programs_of_whole size n)

-- ending an image of this length: an erase where the kept bytes begin a block, and one program where some are kept
abbrev pub writes_to_finish : ℕ → ℕ
writes_to_finish size = (blocks_for size - blocks_for (done_of size)) + (if nat_lt 0 (size % granule_bytes) then 1 else 0)
