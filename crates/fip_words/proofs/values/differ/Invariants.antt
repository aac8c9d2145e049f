use Rattle.std.proofs.Common.{◌≡◌, drop}
use Rattle.fwu_formats.specs.Layout.{are_distinct}
use Rattle.fip_words.proofs.values.differ.Given as goal

-- those so far are not among the ones after them
abbrev pub invariant-loop-i : goal.invariant-loop-i
invariant-loop-i l = are_distinct (drop l.i l.guids) ≡ are_distinct l.guids
