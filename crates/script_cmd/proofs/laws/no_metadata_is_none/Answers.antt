use Rattle.script_cmd.proofs.OutcomeLemmas.{no-metadata-is-none}
use Rattle.script_cmd.proofs.laws.no_metadata_is_none.Goals as goal

pub returns : goal.returns
returns c = no-metadata-is-none
