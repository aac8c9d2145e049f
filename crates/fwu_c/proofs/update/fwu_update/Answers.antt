use Rattle.fwu_c.proofs.{Booting.has_flash_size, Booting.made_new, Updating.told_denied}
use Rattle.fwu_c.proofs.Telling.{told_no_room, told_unmade}
use Rattle.fwu_c.proofs.update.fwu_update.Goals as goal

pub shows_trial-requires-clause-new : goal.shows_trial-requires-clause-new
shows_trial-requires-clause-new c = let ok = c.in-Ok.ensures in made_new _ _ _ ok.content ok.power ok.image ok.steps ok.unarmed

pub returns-in-Err-clause-tells : goal.returns-in-Err-clause-tells
returns-in-Err-clause-tells c = told_unmade _ c.in-Err.why _ _ _ _ c.in-Err.ensures.unmade c.unmade_number.ensures

pub returns-in_default-clause-tells : goal.returns-in_default-clause-tells
returns-in_default-clause-tells c = told_no_room _ _ _ _ (has_flash_size _ c.in-Ok.first c.in-Ok.ensures.size)

pub returns-in-Some-true-clause-updates : goal.returns-in-Some-true-clause-updates
returns-in-Some-true-clause-updates c = λ other told.
    absurd (other (rw c.in-Ok.ensures.image at (c.in-Some-true.ensures.trial c.in-Some-true.field-0-test)))

pub returns-in-Some-true-clause-tells : goal.returns-in-Some-true-clause-tells
returns-in-Some-true-clause-tells c = told_denied _ _ _ _ (has_flash_size _ c.in-Ok.first c.in-Ok.ensures.size)

pub returns-clause-tells : goal.returns-clause-tells
returns-clause-tells c = told_no_room _ _ _ _ (has_flash_size _ c.in-Ok.first c.in-Ok.ensures.size)

pub returns-in-Some-false-clause-trial : goal.returns-in-Some-false-clause-trial
returns-in-Some-false-clause-trial c = λ trial told.
    absurd (c.in-Some-false.ensures.other c.in-Some-false.field-0-test (rw c.in-Ok.ensures.image trial))
