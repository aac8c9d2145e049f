use Rattle.std.proofs.Common.{◌≡◌, ◌≤◌, ◌+◌, ◌*◌, ◌^◌, take}
use Rattle.fwu_formats.specs.Words.{digits_value}
use Rattle.words_core.proofs.numbers.value_of.Given as goal

-- the value of the digits so far, which is small
abbrev pub invariant-loop-digit : goal.invariant-loop-digit
invariant-loop-digit l = (l.value ≡ digits_value (take l.digit-index l.word)) × (l.value + 23 ≤ 23 * 10 ^ l.digit-index)
