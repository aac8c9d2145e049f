use Rattle.std.proofs.Common.{ap, sym, ◌∙◌}
use Rattle.script_runs.specs.ByTable.{no_table_line}
use Rattle.script_runs.proofs.TopSources.{at-piece}
use Rattle.script_runs.proofs.refusing.put_no_table.Goals as goal

pub returns-in-Table : goal.returns-in-Table
returns-in-Table g c = at-piece _ _ _ _ _ _ _ _ (ap no_table_line (sym c.in-Table.is)) c.put_line.ensures

pub returns-in-Store : goal.returns-in-Store
returns-in-Store g c = at-piece _ _ _ _ _ _ _ _ (ap no_table_line (sym c.in-Store.is)) c.put_line-in-Store.ensures

pub returns-in-Ok : goal.returns-in-Ok
returns-in-Ok g c = at-piece _ _ _ _ _ _ _ _ (c.as_bytes.ensures.value ∙ c.in-Ok.ensures.ok ∙ ap no_table_line (sym c.in-Replicas.is)) c.put_line-in-Ok.ensures

pub returns-in-TooSmall : goal.returns-in-TooSmall
returns-in-TooSmall g c = at-piece _ _ _ _ _ _ _ _ (ap no_table_line (sym c.in-TooSmall.is)) c.put_line-in-TooSmall.ensures
