use Rattle.std.proofs.Common.{◌∙◌}
use Rattle.script_runs.proofs.TopSources.{at-piece}
use Rattle.script_runs.proofs.refusing.put_bad_script.Goals as goal

pub returns-in-Ok : goal.returns-in-Ok
returns-in-Ok g c = at-piece _ _ _ _ _ _ _ _ (c.as_bytes.ensures.value ∙ c.in-Ok.ensures.ok) c.put_line.ensures
