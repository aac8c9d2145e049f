use Rattle.fwu_c.proofs.Telling.{told_unmade}
use Rattle.fwu_c.proofs.update.update.Goals as goal

pub returns-in-Err-clause-tells : goal.returns-in-Err-clause-tells
returns-in-Err-clause-tells c = told_unmade _ c.in-Err.why _ _ _ _ c.in-Err.ensures.unmade c.unmade_number.ensures
