use Rattle.std.proofs.Common.{append-nil, sym, subst, arith}
use Rattle.hex.specs.Hex.{encode_with, lower_digits}
use Rattle.hex.proofs.HexLemmas.{length-encode_with}
use Rattle.fwu_journal.proofs.{Spelled.digits-more, Spelled.length-digits, Grown.grows-then}
use Rattle.fwu_journal.specs.Room.{Grows}
use Rattle.fwu_journal.proofs.digits.add_digits.Goals as goal

pub loop-byte-init : goal.loop-byte-init
unfolding encode_with
loop-byte-init c = record { items = sym (append-nil c.args.text.now.items); len = omega arith; room = omega arith }

pub add_byte-requires : goal.add_byte-requires
add_byte-requires c = omega (arith, c.loop-byte.invariant.len, c.loop-byte.invariant.room, length-digits c.args.bytes.now c.loop-byte.byte-index (omega arith))

pub loop-byte-preserved : goal.loop-byte-preserved
loop-byte-preserved c =
    subst (Grows c.args.text.now c.add_byte.new.text) (sym (digits-more c.args.bytes.now c.loop-byte.byte-index _ (omega arith) cc))
    (grows-then c.loop-byte.invariant c.add_byte.ensures)

pub returns-clause-short : goal.returns-clause-short
returns-clause-short c = omega (arith, length-encode_with lower_digits c.args.bytes.now)
