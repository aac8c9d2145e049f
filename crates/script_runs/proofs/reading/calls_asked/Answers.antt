use Rattle.std.proofs.Common.{subst, sym}
use Rattle.fwu_words.specs.declared.orders.ScriptFrom.{ScriptFrom}
use Rattle.host_io.proofs.Once.{once-none}
use Rattle.script_runs.specs.Sourced.{MakesScript}
use Rattle.script_runs.proofs.Making.{makes-boot, starves-boot}
use Rattle.script_runs.proofs.reading.calls_asked.Goals as goal

pub returns-in-Source : goal.returns-in-Source
returns-in-Source g c =
    subst (λ (f : ScriptFrom). MakesScript g.I.Source f (λ script. script) c.read_whole.result c.args.source.now c.read_whole.new.source) (sym c.in-Source.is) c.read_whole.ensures

-- ---- no read at all

pub returns-in-Ok : goal.returns-in-Ok
returns-in-Ok g c = makes-boot g.I.Source c.args.source.now (once-none g.I.Source g.met.I.Source.at_rest c.args.source.now) c.args.from c.in-Boot.is c.in-Ok.script c.in-Ok.ensures

pub returns-in-Err : goal.returns-in-Err
returns-in-Err g c = starves-boot g.I.Source c.args.source.now (once-none g.I.Source g.met.I.Source.at_rest c.args.source.now) c.args.from c.in-Boot.is
