use Rattle.script_cmd.proofs.OutcomeLemmas.{usage-reads-no-source}
use Rattle.script_cmd.proofs.laws.usage_reads_no_source.Goals as goal

pub returns : goal.returns
returns c = usage-reads-no-source
