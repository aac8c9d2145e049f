use Rattle.script_cmd.proofs.OutcomeLemmas.{usage-line-is-of-usage}
use Rattle.script_cmd.proofs.laws.usage_line_is_of_usage.Goals as goal

pub returns : goal.returns
returns c = usage-line-is-of-usage
