use Rattle.gen_core.proofs.Completing.{generated-are-complete}
use Rattle.gen_core.proofs.laws.generated_are_complete.Goals as goal

pub returns : goal.returns
returns c = generated-are-complete
