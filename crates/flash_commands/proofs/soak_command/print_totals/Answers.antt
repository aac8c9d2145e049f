use Rattle.std.proofs.Common.{ℕ, List, ap, subst, ◌∙◌}
use Rattle.gen_core.specs.Line.{totals_line}
use Rattle.host_io.specs.Printed.{Prints}
use Rattle.flash_commands.proofs.soak_command.print_totals.Goals as goal

pub returns-in-Ok : goal.returns-in-Ok
returns-in-Ok g c =
    subst (λ (l : List ℕ). Prints l 0 c.put_line.result (g.O.Sink.taken c.args.sink.now) (g.O.Sink.taken c.put_line.new.sink) (g.O.Sink.faults c.args.sink.now) (g.O.Sink.faults c.put_line.new.sink))
    (c.as_slice.ensures.value ∙ c.in-Ok.ensures ∙ ap (totals_line c.args.rounds) c.totals.ensures) c.put_line.ensures
