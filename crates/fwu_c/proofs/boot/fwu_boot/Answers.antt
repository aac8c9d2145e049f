use Rattle.fwu_c.proofs.{Booting.made_new, Telling.told_unmade}
use Rattle.fwu_c.proofs.boot.fwu_boot.Goals as goal

pub boot_over-requires-clause-new : goal.boot_over-requires-clause-new
boot_over-requires-clause-new c = let ok = c.in-Ok.ensures in made_new _ _ _ ok.content ok.power ok.image ok.steps ok.unarmed

pub returns-in-Err-clause-tells : goal.returns-in-Err-clause-tells
returns-in-Err-clause-tells c = told_unmade _ c.in-Err.why _ _ _ _ c.in-Err.ensures.unmade c.unmade_number.ensures

pub returns-clause-boots : goal.returns-clause-boots
returns-clause-boots c = λ low. rw c.in-Ok.ensures.image at (c.boot_over.ensures.boots low)
