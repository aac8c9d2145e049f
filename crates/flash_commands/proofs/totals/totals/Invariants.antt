use Rattle.std.proofs.Common.{◌≡◌, take}
use Rattle.fwu_journal.specs.Shown.{turns}
use Rattle.gen_core.specs.Line.{totals_of}
use Rattle.flash_commands.proofs.totals.totals.Given as goal

-- the totals are those of the turns so far
abbrev pub invariant-loop-index : goal.invariant-loop-index
invariant-loop-index l = record { so_far : l.totals ≡ totals_of (take l.index (turns l.fn.journal)) }
