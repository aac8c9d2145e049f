use Rattle.std.proofs.Common.{◌≡◌, drop, length, take}
use Rattle.base_core.specs.Bytes.{listed}
use Rattle.early_boot.specs.Numbers.{numbers}
use Rattle.fwu_c.specs.Shows.{TellsNumbers, bank_shown}
use Rattle.fwu_c.proofs.show.show_banks.Given as goal

-- the banks so far are told, those behind them stay, and the numbers and the fault stay
abbrev pub invariant-loop-bank : goal.invariant-loop-bank
invariant-loop-bank l =
    (take l.bank l.shown.bank ≡ listed l.bank (bank_shown l.image l.layout (numbers l.read)))
    × (length l.shown.bank ≡ 4) × TellsNumbers l.layout (numbers l.read) l.shown × (length l.block ≡ 4096)
    × (drop l.bank l.shown.bank ≡ drop l.bank l.fn.shown.bank)
    × (l.shown.layout_fault ≡ l.fn.shown.layout_fault)
