use Rattle.std.proofs.Common.{ap, refl}
use Rattle.script_turns.specs.Powered.{moment}
use Rattle.script_runs.specs.WaysByTable.{lacked, ran, starved, stopped}
use Rattle.script_runs.proofs.{RunEnds.sends-front, TopWays.ran-told, TopSources.later}
use Rattle.script_runs.proofs.partitioned.run_by_table.Goals as goal

pub returns-in-Ok-clause-way : goal.returns-in-Ok-clause-way
returns-in-Ok-clause-way g c = λ asked given was are reads told.
    let e = c.run_at.ensures in
    ran c.args.ready.script c.in-Ok.places (moment g.D.Flash c.open.new.flash) e.ran.0 reads c.in-Ok.ensures.opens (ran-told _ _ _ _ _ _ _ _ _ told e.ran.1) e.beside e.touches e.ends.ended e.ends.plain e.ends.printed

pub returns-in-Ok-clause-files : goal.returns-in-Ok-clause-files
returns-in-Ok-clause-files g c = λ none. c.run_at.ensures.keeps.unsent (sends-front _ _ c.run_at.ensures.ends.ended.calls none)

pub returns-in-Err-Lacks-clause-way : goal.returns-in-Err-Lacks-clause-way
returns-in-Err-Lacks-clause-way g c = λ asked given was are reads told.
    let e = c.refuse.ensures in
    let opens = rw c.in-Err-Lacks.field-0-is at c.in-Err-Lacks.ensures.opens in
    rw e.flash (lacked c.args.ready.script c.in-Err-Lacks.lack reads e.no_turns opens.0 opens.1 e.note e.prints)

pub returns-in-Err-Stopped-clause-way : goal.returns-in-Err-Stopped-clause-way
returns-in-Err-Stopped-clause-way g c = λ asked given was are reads told.
    let e = c.refuse-in-Err-Stopped.ensures in
    let opens = rw c.in-Err-Stopped.field-0-is at c.in-Err-Stopped.ensures.opens in
    rw e.flash (stopped c.args.ready.script reads e.no_turns opens e.note e.prints)

pub returns-clause-way : goal.returns-clause-way
returns-clause-way g c = λ asked given was are reads told.
    let e = c.refuse-in-Err-NoMemory.ensures in
    let stuck = e.starved refl in
    let opens = rw c.in-Err-NoMemory.field-0-is at c.in-Err-NoMemory.ensures.opens in
    rw e.flash (starved c.args.ready.script reads e.no_turns opens stuck.0 e.note (ap g.O.Sink.taken stuck.1, ap g.O.Sink.faults stuck.1))

pub returns-in-Err-Lacks-clause-later : goal.returns-in-Err-Lacks-clause-later
returns-in-Err-Lacks-clause-later g c = later _ _ _ _ _ _ _ c.refuse.ensures.prints

pub returns-in-Err-Stopped-clause-later : goal.returns-in-Err-Stopped-clause-later
returns-in-Err-Stopped-clause-later g c = later _ _ _ _ _ _ _ c.refuse-in-Err-Stopped.ensures.prints
