use Rattle.std.proofs.Common.{ℕ, List, ap, refl, sym, ◌∙◌, ◌++◌, arith}
use Rattle.script_turns.specs.Powered.{moment}
use Rattle.script_runs.proofs.TopSources.{done-planned, later}
use Rattle.flash_commands.specs.Formatting.{format_status, format_text, starved, tried}
use Rattle.flash_commands.proofs.FormatFlash.{as-planned, format-done}
use Rattle.flash_commands.proofs.formatting.format_flash.Goals as goal

pub returns-clause-formats : goal.returns-clause-formats
returns-clause-formats g c = λ script source sources.
    let r = c.try_format-ended.result in
    rw (← c.as_slice.ensures.value)
    (tried (record { there = λ lacks. lacks; good = tt }) r c.try_format-ended.ensures.tries
    (as-planned (format_text r) _ (format_status r) _ _ _ _ _ _ (c.as_slice-2.ensures.value ∙ c.add_format_line.ensures ∙ ap (λ (l : List ℕ). l ++ format_text r) c.in-Ok.ensures.items) c.status_of.ensures c.put_line-status.ensures)
    c.note_of.ensures)

pub returns-clause-power : goal.returns-clause-power
returns-clause-power g c zero =
    c.try_format-ended.ensures.tries.power ∙ format-done c.try_format-ended.result (sym c.status_of.ensures ∙ done-planned _ _ _ _ _ _ _ c.put_line-status.ensures zero)

-- no memory for the line

pub returns-in_default-clause-formats : goal.returns-in_default-clause-formats
returns-in_default-clause-formats g c = λ script source sources.
    let e = c.refuse.ensures in
    let stuck = e.starved refl in
    starved stuck.0 e.note (ap (moment g.D.Flash) e.flash) (ap g.O.Sink.taken stuck.1, ap g.O.Sink.faults stuck.1) refl

pub returns-in_default-clause-later_sink : goal.returns-in_default-clause-later_sink
returns-in_default-clause-later_sink g c = later _ _ _ _ _ _ _ c.refuse.ensures.prints

pub returns-clause-reads : goal.returns-clause-reads
returns-clause-reads g c = c.try_format-ended.ensures.reads

pub returns-in_default-clause-reads : goal.returns-in_default-clause-reads
returns-in_default-clause-reads g c =
    record { same = refl; unwritten = refl; later = omega arith; spares = λ access other. g.met.H.Files.at_rest c.args.files.now access }
