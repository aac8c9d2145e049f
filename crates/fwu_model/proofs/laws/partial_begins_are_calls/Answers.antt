use Rattle.fwu_model.proofs.CopyCalls.{partial-begins-are-calls}
use Rattle.fwu_model.proofs.laws.partial_begins_are_calls.Goals as goal

pub returns : goal.returns
returns c = partial-begins-are-calls
