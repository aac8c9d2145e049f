use Rattle.fwu_c.proofs.{Booting.made_new, Telling.told_unmade}
use Rattle.fwu_c.proofs.calling.call_on.Goals as goal

pub call_over-requires-clause-new : goal.call_over-requires-clause-new
call_over-requires-clause-new c = let ok = c.in-Ok.ensures in made_new _ _ _ ok.content ok.power ok.image ok.steps ok.unarmed

pub returns-in-Err-clause-tells : goal.returns-in-Err-clause-tells
returns-in-Err-clause-tells c = told_unmade _ c.in-Err.why _ _ _ _ c.in-Err.ensures.unmade c.unmade_number.ensures

pub returns-clause-calls : goal.returns-clause-calls
returns-clause-calls c = λ tells. rw c.in-Ok.ensures.image at (c.call_over.ensures.calls tells)
