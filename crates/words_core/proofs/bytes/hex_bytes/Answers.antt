use Rattle.std.proofs.Common.{◌≡◌, false, rules, sym, arith}
use Rattle.std.specs.Prelude.{codes}
use Rattle.fwu_formats.specs.Words.{is_word}
use Rattle.words_core.proofs.Digits.{no_bytes, none-where_odd, none-where_other}
use Rattle.words_core.proofs.bytes.hex_bytes.Goals as goal
use Rattle.words_core.proofs.bytes.hex_bytes.Goals.{then-is_empty-via-then-is_empty, then-is_empty-via-else-is_empty+then-word-ne0, then-is_empty-via-else-is_empty+else-word-ne0+then-not-all_digits}

pub returns-then-is_empty : goal.returns-then-is_empty
returns-then-is_empty c =
    let word = c.args.word.now in
    let other : is_word word (codes "-") ≡ false = sym c.if-is_word.ensures in
    elim c.then-is_empty.branch [
      | then-is_empty-via-then-is_empty w ↦ search rules
      | then-is_empty-via-else-is_empty+then-word-ne0 w ↦ no_bytes word other (none-where_odd word (omega (arith, w.if-word-ne0.true)))
      | then-is_empty-via-else-is_empty+else-word-ne0+then-not-all_digits w ↦ no_bytes word other (none-where_other word (sym w.if-not-all_digits.ensures))
    ]
