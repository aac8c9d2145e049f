use Rattle.std.proofs.Common.{[], arith, ◌≡◌, ◌∙◌, refl}
use Rattle.early_boot.specs.Ends.{device_of, ended}
use Rattle.step_flash.specs.Flash.{image_of, told_of}
use Rattle.fwu_c.proofs.Booting.{begun_as, boot_end_is, boot_idle, boots_by, given, has_flash_size}
use Rattle.fwu_c.proofs.Telling.{lie_inside, told_handed}
use Rattle.fwu_c.proofs.boot.boot_over.Goals as goal

pub hand_over-requires-clause-idle : goal.hand_over-requires-clause-idle
hand_over-requires-clause-idle c = λ idle. rw c.into_flash.ensures
    (begun_as (device_of c.boot_in-end.result) (image_of c.args.flash) []
    (boot_idle (ended c.boot_in-end.result) (told_of c.args.flash) (told_of (device_of c.boot_in-end.result))
    (c.boot_in-end.ensures.boots.ends refl).by_bytes (rw c.report_end-number.ensures.number at idle) ∙ c.requires.new.fresh))

pub returns-clause-tells : goal.returns-clause-tells
returns-clause-tells c =
    let h = c.hand_over.ensures in
    let boots = c.boot_in-end.ensures.boots in
    told_handed (image_of c.args.flash) c.hand_over.result c.report_end-number.result _ _ _ _ _ _
    (has_flash_size (image_of c.args.flash) c.args.flash c.args.flash.device.value.size)
    (rw c.report_end-number.ensures.number
    (boot_end_is (ended c.boot_in-end.result) c.args.flash (device_of c.boot_in-end.result) boots.costs))
    h.number h.idle h.kept
    (λ not. lie_inside _ c.args.flash (device_of c.boot_in-end.result) 7 _ c.requires.new (omega arith) boots.touches
    (rw c.into_flash.ensures at (h.hands not)).lie) h.behind h.full h.untouched

pub returns-clause-boots : goal.returns-clause-boots
returns-clause-boots c = λ low.
    let boots = c.boot_in-end.ensures.boots in
    let known : c.hand_over.result ≡ 7 → ⊥ = λ seven. omega (arith, low, seven) in
    boots_by c.args.flash (device_of c.boot_in-end.result) (ended c.boot_in-end.result) c.hand_over.result _ _ _ _ _
    c.requires.new (boots.ends refl) (rw c.into_flash.ensures at (c.hand_over.ensures.hands known)) boots.touches
    boots.touches_fewer (boots.once refl) (given _ _ c.hand_over.ensures.number known ∙ c.report_end-number.ensures.number)
    c.report_end-number.ensures.reports
    (λ other. rw c.into_flash.ensures at ((c.hand_over.ensures.given known other).0)) (λ idle. (c.hand_over.ensures.idle idle).0)
