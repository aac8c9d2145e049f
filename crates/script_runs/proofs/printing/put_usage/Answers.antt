use Rattle.script_runs.proofs.printing.put_usage.Goals as goal

pub returns : goal.returns
returns g c = rw c.as_slice.ensures at c.put_line.ensures
