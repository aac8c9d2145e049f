use Rattle.std.proofs.Common.{ℕ, List, ap, subst}
use Rattle.host_io.specs.Printed.{Prints}
use Rattle.flash_commands.proofs.SoakEnding.{ends-by}
use Rattle.flash_commands.proofs.soak_command.finish.Goals as goal

pub returns-clause-ended : goal.returns-clause-ended
returns-clause-ended g c all calls old stands =
    let e = c.print_end-status.ensures in
    let text = c.as_slice.ensures.value in
    rw c.into_done.ensures.journal (rw c.into_done.ensures.status (rw c.into_done.ensures.note
    (ends-by _ all c.args.rounds calls _ old _ _ _ _ _ _ _ _ _ e.goes (λ nine. (e.starved nine).0) (λ nine. ap g.O.Sink.taken (e.starved nine).1)
    (λ nine. ap g.O.Sink.faults (e.starved nine).1)
    e.failed
    (λ some lives left. subst (λ (l : List ℕ). Prints l c.args.end.status c.print_end-status.result (g.O.Sink.taken c.args.sink.now) (g.O.Sink.taken c.print_end-status.new.sink) (g.O.Sink.faults c.args.sink.now) (g.O.Sink.faults c.print_end-status.new.sink))
    text (e.stopped some lives left)) stands)))
