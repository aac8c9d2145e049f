use Rattle.std.proofs.Common.{◌≤◌, ◌*◌, length, map, take}
use Rattle.std.specs.List.{join_with_byte}
use Rattle.fwu_model.specs.Text.{bits_text, comma}
use Rattle.fwu_journal.specs.Room.{Grows}
use Rattle.fwu_journal.proofs.numbers.add_bank_bits.Given as goal

abbrev pub invariant-loop-bank : goal.invariant-loop-bank
invariant-loop-bank l = record {
  grows : Grows l.fn.text l.text (join_with_byte comma (map bits_text (take l.bank l.banks)));
  short : length (join_with_byte comma (map bits_text (take l.bank l.banks))) ≤ 17 * l.bank;
}
