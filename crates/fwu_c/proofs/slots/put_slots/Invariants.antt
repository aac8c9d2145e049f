use Rattle.std.proofs.Common.{◌≡◌, drop, length, take}
use Rattle.base_core.specs.Bytes.{listed}
use Rattle.fwu_c.specs.Found.{slot_of}
use Rattle.fwu_c.proofs.slots.put_slots.Given as goal

-- the images so far have their slots, and those behind them stay
abbrev pub invariant-loop-image : goal.invariant-loop-image
invariant-loop-image l =
    (take l.image l.slots.slots ≡ listed l.image (slot_of l.layout l.bank)) × (length l.slots.slots ≡ 16)
    × (drop l.image l.slots.slots ≡ drop l.image l.fn.slots.slots)
