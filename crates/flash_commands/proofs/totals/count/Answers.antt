use Rattle.std.proofs.Common.{arith, rules}
use Rattle.std.proofs.lemmas.Grind.{common_steps}
use Rattle.flash_commands.proofs.SoakEnding.{counts-on}
use Rattle.flash_commands.proofs.totals.count.Goals.{then-fallback, else-fallback}
use Rattle.flash_commands.proofs.totals.count.Goals as goal

pub returns-after-fallback : goal.returns-after-fallback
returns-after-fallback c journal t was same =
    counts-on journal t _ _ _ (elim c.if-fallback.branch [ then-fallback w ↦ grind (arith, common_steps) | else-fallback w ↦ grind (arith, common_steps) ]) was same

pub returns-in-Lost : goal.returns-in-Lost
returns-in-Lost c journal t was same = counts-on journal t _ _ _ (search rules) was same

pub returns-in_default : goal.returns-in_default
returns-in_default c journal t was same = counts-on journal t _ _ _ (search rules) was same

pub returns-in-Sent : goal.returns-in-Sent
returns-in-Sent c journal t was same = counts-on journal t _ _ _ (search rules) was same
