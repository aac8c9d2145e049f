use Rattle.std.proofs.Common.{◌∙◌, arith}
use Rattle.std.specs.Prelude.{IsTrue}
use Rattle.agent_calls.specs.Shown.{device, gone, moment}
use Rattle.step_flash.specs.Flash.{image_of, told_of}
use Rattle.fwu_c.proofs.Booting.{begun_as, boot_idle, given, has_flash_size}
use Rattle.fwu_c.proofs.Telling.{idle_starts, keeps_fault, lie_inside, starts_none, told_handed}
use Rattle.fwu_c.proofs.Updating.{boots_end_is, never_idle, outcome_starts, sending_spares, tried_by, tried_places, unbooted_by}
use Rattle.fwu_c.proofs.update.update_over.Goals as goal

pub hand_over-requires : goal.hand_over-requires
hand_over-requires c =
    let i = c.in-Some in
    let up = rw c.in-Some-Ok.field-0-is at c.in-Some-Ok.ensures in
    let starts = λ (none : IsTrue (starts_none c.outcome_number-number.result)).
    outcome_starts i.outcome (rw c.outcome_number-number.ensures at none) in
    record {
      known = rw c.outcome_number-number.ensures i.ensures.ends;
      idle = λ idle. absurd (starts (idle_starts c.outcome_number-number.result idle));
      kept = keeps_fault _ _ _ (up.3.kept.fault (λ one. omega (arith, one))) starts;
    }

pub hand_over-requires-in-Some-Err : goal.hand_over-requires-in-Some-Err
hand_over-requires-in-Some-Err c =
    let none = rw c.in-Some-Err.field-0-is at c.in-Some-Err.ensures in
    record {
      known = boots_end_is _ _ _ _ _ _ none.2;
      idle = λ idle. begun_as c.in-Some-Err.flash (image_of c.args.flash) c.args.sending.file.now
          (boot_idle none.1 (told_of c.args.flash) (told_of c.in-Some-Err.flash) none.2.ends.by_bytes
          (rw none.2.number_is at idle) ∙ c.requires.new.fresh);
      kept = none.2.kept;
    }

pub returns-in-Some-clause-updates : goal.returns-in-Some-clause-updates
returns-in-Some-clause-updates c = λ told.
    let h = c.hand_over in
    let i = c.in-Some in
    let a = c.in-Some-Ok.agent.value in
    let up = rw c.in-Some-Ok.field-0-is at c.in-Some-Ok.ensures in
    tried_by _ _ c.args.flash i.flash c.requires.new h.result _ _ _ _ _ (h.ensures.hands told.1)
    (device a) up.0 up.1 up.3 (sending_spares up.0 (moment a) (gone a) (device a) i.flash up.2 i.ensures.touches)
    i.outcome (i.ensures.installs up.0 up.2) (given _ _ h.ensures.number told.1 ∙ c.outcome_number-number.ensures)
    (h.ensures.given told.1 (never_idle i.outcome h.result (given _ _ h.ensures.number told.1 ∙ c.outcome_number-number.ensures))).0

pub returns-in-Some-clause-tells : goal.returns-in-Some-clause-tells
returns-in-Some-clause-tells c =
    let h = c.hand_over.ensures in
    let i = c.in-Some in
    let a = c.in-Some-Ok.agent.value in
    let up = rw c.in-Some-Ok.field-0-is at c.in-Some-Ok.ensures in
    told_handed (image_of c.args.flash) c.hand_over.result c.outcome_number-number.result _ _ _ _ _ _
    (has_flash_size (image_of c.args.flash) c.args.flash c.args.flash.device.value.size)
    (rw c.outcome_number-number.ensures i.ensures.ends) h.number h.idle h.kept
    (λ not. tried_places _ _ c.args.flash i.flash c.requires.new 0 _ _ _ _ _ (h.hands not) (device a) up.0 up.1 up.3
    (sending_spares up.0 (moment a) (gone a) (device a) i.flash up.2 i.ensures.touches) i.outcome (i.ensures.installs up.0 up.2))
    h.behind h.full h.untouched

pub returns-in-Some-Err-clause-updates : goal.returns-in-Some-Err-clause-updates
returns-in-Some-Err-clause-updates c = λ told.
    let h = c.hand_over-in-Some-Err in
    let none = rw c.in-Some-Err.field-0-is at c.in-Some-Err.ensures in
    unbooted_by _ _ c.args.flash c.in-Some-Err.flash c.requires.new h.result _ _ _ _ _ (h.ensures.hands told.1) _ none.1
    none.2 none.0 (given _ _ h.ensures.number told.1) (λ other. (h.ensures.given told.1 other).0) (λ idle. (h.ensures.idle idle).0)

pub returns-in-Some-Err-clause-tells : goal.returns-in-Some-Err-clause-tells
returns-in-Some-Err-clause-tells c =
    let h = c.hand_over-in-Some-Err.ensures in
    let none = rw c.in-Some-Err.field-0-is at c.in-Some-Err.ensures in
    told_handed (image_of c.args.flash) c.hand_over-in-Some-Err.result c.in-Some-Err.number _ _ _ _ _ _
    (has_flash_size (image_of c.args.flash) c.args.flash c.args.flash.device.value.size) (boots_end_is _ _ _ _ _ _ none.2)
    h.number h.idle h.kept (λ not. lie_inside _ c.args.flash c.in-Some-Err.flash 7 _ c.requires.new (omega arith) none.2.touches
    (h.hands not).lie) h.behind h.full h.untouched
