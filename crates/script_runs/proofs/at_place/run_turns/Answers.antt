use Rattle.std.proofs.Common.{Some, ap, refl, subst, sym}
use Rattle.fwu_words.specs.declared.orders.Place.{Place}
use Rattle.script_turns.specs.Powered.{moment}
use Rattle.script_runs.specs.{WaysByTable.GoesAt, Sourced.plain_of, Sourced.text_of, Ways.ran}
use Rattle.script_runs.proofs.Refused.{asks-of, lacks-at, lacks-quiet}
use Rattle.script_runs.proofs.TopSources.{fails-by, later, none-fails, takes-by, takes-run}
use Rattle.script_runs.proofs.{Making.boot-sends, RunEnds.ended-not-long, RunEnds.sends-front, TopWays.ran-told}
use Rattle.script_runs.proofs.at_place.run_turns.Goals as goal

-- ---- no script

pub returns-in-Err-clause-way : goal.returns-in-Err-clause-way
returns-in-Err-clause-way g c = λ given listed told.
    let e = c.refuse.ensures in
    lacks-at _ _ _ _ _ _ _ _ _ _ c.args.order.from given (g.I.Source.left c.args.source.now) (record { files = g.H.Files.faults c.args.files.now; source = g.I.Source.faults c.args.source.now; sink = g.O.Sink.faults c.args.sink.now })
    (record { files = g.H.Files.faults c.args.files.now; source = g.I.Source.faults c.script_of.new.source; sink = g.O.Sink.faults c.refuse.new.sink }) c.in-Err.why c.args.order.place listed c.in-Err.ensures.lacks e.no_turns
    (ap (moment g.D.Flash) e.flash) e.note e.prints
    (λ none. let stuck = e.starved none in (stuck.0, ap g.O.Sink.taken stuck.1, ap g.O.Sink.faults stuck.1))

pub returns-in-Err-clause-note : goal.returns-in-Err-clause-note
returns-in-Err-clause-note g c = λ flash. lacks-quiet _ _ _ _ c.in-Err.why _ c.in-Err.ensures.lacks c.refuse.ensures.note

pub returns-in-Err-clause-source_count : goal.returns-in-Err-clause-source_count
returns-in-Err-clause-source_count g c = rw c.refuse.ensures.no_turns (fails-by _ _ c.refuse.ensures.prints c.in-Err.ensures.count)

pub returns-in-Err-clause-later_sink : goal.returns-in-Err-clause-later_sink
returns-in-Err-clause-later_sink g c = later _ _ _ _ _ _ _ c.refuse.ensures.prints

pub returns-in-Err-clause-takes : goal.returns-in-Err-clause-takes
returns-in-Err-clause-takes g c source = rw c.refuse.ensures.no_turns (takes-by _ _ c.refuse.ensures.prints (c.in-Err.ensures.takes source))

-- ---- on the device

pub returns-in-Flash-clause-way : goal.returns-in-Flash-clause-way
returns-in-Flash-clause-way g c = λ given listed told.
    let e = c.run_script.ensures in
    let from = c.args.order.from in
    let left = g.I.Source.left c.args.source.now in
    subst (λ (p : Place). GoesAt p g.D.Flash g.H.Files g.O.Sink (g.V.Verifier.passes c.args.board.verifier.now) (Some (plain_of from)) (record given { script = text_of from left }) (g.I.Source.faults c.args.source.now)
    (g.I.Source.faults c.script_of.new.source) c.args.board.flash c.args.files.now c.args.sink.now c.run_script.result c.run_script.new.files c.run_script.new.sink) (sym c.in-Flash.is)
    (ran _ e.ran.0 listed (asks-of from) c.in-Ok.ensures.script (ran-told _ _ _ _ _ _ _ _ _ told (rw c.off.ensures.device at e.ran.1)) e.ends.ended e.ends.printed)

pub returns-in-Flash-clause-boot_files : goal.returns-in-Flash-clause-boot_files
returns-in-Flash-clause-boot_files g c = λ boot. c.run_script.ensures.keeps.unsent (sends-front _ _ c.run_script.ensures.ends.ended.calls (boot-sends _ _ _ c.in-Ok.ensures.script boot))

pub returns-in-Flash-clause-source_count : goal.returns-in-Flash-clause-source_count
returns-in-Flash-clause-source_count g c = none-fails _ _ _ _ (c.in-Ok.ensures.count.none refl)

pub returns-in-Flash-clause-takes : goal.returns-in-Flash-clause-takes
returns-in-Flash-clause-takes g c source =
    takes-run _ _ _ _ (c.in-Ok.ensures.takes source) (ended-not-long _ _ _ _ c.run_script.ensures.ends.ended)

-- ---- behind its partition table

pub returns-in-Partitions-clause-way : goal.returns-in-Partitions-clause-way
returns-in-Partitions-clause-way g c = λ given listed told.
    let from = c.args.order.from in
    let left = g.I.Source.left c.args.source.now in
    subst (λ (p : Place). GoesAt p g.D.Flash g.H.Files g.O.Sink (g.V.Verifier.passes c.args.board.verifier.now) (Some (plain_of from)) (record given { script = text_of from left }) (g.I.Source.faults c.args.source.now)
    (g.I.Source.faults c.script_of.new.source) c.args.board.flash c.args.files.now c.args.sink.now c.run_by_table.result c.run_by_table.new.files c.run_by_table.new.sink) (sym c.in-Partitions.is)
    (c.run_by_table.ensures.way (Some (plain_of from)) (record given { script = text_of from left }) (g.I.Source.faults c.args.source.now) (g.I.Source.faults c.script_of.new.source)
    (record { good = listed; asks = asks-of from; has = c.in-Ok.ensures.script }) told)

pub returns-in-Partitions-clause-boot_files : goal.returns-in-Partitions-clause-boot_files
returns-in-Partitions-clause-boot_files g c = λ boot. c.run_by_table.ensures.files (boot-sends _ _ _ c.in-Ok.ensures.script boot)

pub returns-in-Partitions-clause-source_count : goal.returns-in-Partitions-clause-source_count
returns-in-Partitions-clause-source_count g c = none-fails _ _ _ _ (c.in-Ok.ensures.count.none refl)

pub returns-in-Partitions-clause-takes : goal.returns-in-Partitions-clause-takes
returns-in-Partitions-clause-takes g c source = takes-run _ _ _ _ (c.in-Ok.ensures.takes source) c.run_by_table.ensures.not_long
