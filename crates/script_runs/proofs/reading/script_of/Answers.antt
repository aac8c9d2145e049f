use Rattle.std.proofs.Common.{Err, ap}
use Rattle.script_runs.proofs.Making.{lacks, makes, starves, starves-made}
use Rattle.script_runs.proofs.reading.script_of.Goals as goal

pub returns-in-Ok-make : goal.returns-in-Ok-make
returns-in-Ok-make g c =
    let e = c.in-Ok.ensures in
    makes g.I.Source _ _ _ e.boot_alone e.later e.once (λ ready. ready.script) _ e.script e.takes e.count

pub returns-in-Err : goal.returns-in-Err
returns-in-Err g c =
    let e = c.in-Err.ensures in
    lacks g.I.Source _ _ _ e.boot_alone e.later e.once (λ ready. ready.script) c.in-Err.why e.lacks e.takes e.count (λ is. e.starved (ap Err is))

pub returns-in-Err-make : goal.returns-in-Err-make
returns-in-Err-make g c =
    let e = c.in-Ok.ensures in
    starves g.I.Source _ _ _ e.boot_alone e.later e.once (λ ready. ready.script) (starves-made g.I.Source _ _ _ _ _ e)
