use Rattle.std.proofs.Common.{take}
use Rattle.fwu_model.specs.Text.{bits_text}
use Rattle.fwu_journal.specs.Room.{Grows}
use Rattle.fwu_journal.proofs.numbers.add_bits.Given as goal

abbrev pub invariant-loop-image : goal.invariant-loop-image
invariant-loop-image l = Grows l.fn.text l.text (bits_text (take l.image l.bits))
