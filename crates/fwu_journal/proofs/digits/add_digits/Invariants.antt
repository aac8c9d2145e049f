use Rattle.std.proofs.Common.{take}
use Rattle.hex.specs.Hex.{encode_lower}
use Rattle.fwu_journal.specs.Room.{Grows}
use Rattle.fwu_journal.proofs.digits.add_digits.Given as goal

abbrev pub invariant-loop-byte : goal.invariant-loop-byte
invariant-loop-byte l = Grows l.fn.text l.text (encode_lower (take l.byte-index l.bytes))
