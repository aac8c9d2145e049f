use Rattle.std.proofs.Common.{ℕ, ◌==◌, not, ap, ◌∙◌}
use Rattle.script_runs.proofs.TopSources.{done-planned}
use Rattle.flash_commands.specs.Showing as show
use Rattle.flash_commands.proofs.FormatFlash.{wakes-clean, wakes-guard}
use Rattle.flash_commands.proofs.showing.show.Goals as goal

pub returns-clause-showed : goal.returns-clause-showed
returns-clause-showed g c given was are good =
    show.found good c.find-found.result.status c.find-found.new.text.items c.find-found.ensures.woken c.find-found.ensures.finds c.find-found.ensures.once c.find-found.ensures.power c.find-found.ensures.writes (rw c.as_slice.ensures.value at c.put_line-status.ensures)

pub returns-clause-power : goal.returns-clause-power
returns-clause-power g c zero = c.find-found.ensures.power ∙ ap (λ (n : ℕ). not (n == 5)) (done-planned _ _ _ _ _ _ _ c.put_line-status.ensures zero)

pub returns-clause-content : goal.returns-clause-content
returns-clause-content g c tells clean = wakes-clean _ _ clean (c.find-found.ensures.woken tells)

pub returns-clause-guard : goal.returns-clause-guard
returns-clause-guard g c tells = wakes-guard (c.find-found.ensures.woken tells)
