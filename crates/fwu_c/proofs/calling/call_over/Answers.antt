use Rattle.std.proofs.Common.{[], ◌∙◌, arith}
use Rattle.std.specs.Prelude.{IsTrue}
use Rattle.base_core.specs.Block.{block_bytes}
use Rattle.flash_core.proofs.Touches.{touches_then}
use Rattle.agent_calls.specs.Shown.{device}
use Rattle.step_flash.specs.Flash.{image_of, told_of}
use Rattle.fwu_c.specs.{Calls.call_of, Handed.call_reach}
use Rattle.fwu_c.proofs.Booting.{begun_as, given, has_flash_size}
use Rattle.fwu_c.proofs.Calls.{call_starts, called_by, refused_by, take_up_end_is, take_up_idle}
use Rattle.fwu_c.proofs.Telling.{idle_starts, keeps_fault, lie_inside, starts_none, told_handed, told_no_room}
use Rattle.fwu_c.proofs.calling.call_over.Goals as goal

pub called-flash-requires : goal.called-flash-requires
called-flash-requires c = record { here = (rw c.in-Some-Ok.field-0-is at c.in-Some-Ok.ensures).1.here }

pub hand_over-requires : goal.hand_over-requires
hand_over-requires c =
    let a = c.called-flash in
    let up = rw c.in-Some-Ok.field-0-is at c.in-Some-Ok.ensures in
    let starts = λ (none : IsTrue (starts_none c.call_number-number.result)).
    call_starts a.result.1 (rw c.call_number-number.ensures at none) in
    record {
      known = rw c.call_number-number.ensures a.ensures.ends;
      idle = λ idle. absurd (starts (idle_starts c.call_number-number.result idle));
      kept = keeps_fault _ _ _ (up.2.kept.fault (λ one. omega (arith, one))) starts;
    }

pub returns-in-Some-Ok-clause-calls : goal.returns-in-Some-Ok-clause-calls
returns-in-Some-Ok-clause-calls c = λ tells.
    let h = c.hand_over in
    let a = c.called-flash in
    let up = rw c.in-Some-Ok.field-0-is at c.in-Some-Ok.ensures in
    called_by c.args.asked.bank (call_of c.args.asked.call) c.args.flash a.result.0 c.requires.new h.result _ _ _ _ _
    (h.ensures.hands tells.1) (device c.in-Some-Ok.agent.value) up.0 a.result.1 up.2 (a.ensures.calls up.0 up.1) a.ensures.touches
    (given _ _ h.ensures.number tells.1 ∙ c.call_number-number.ensures)

pub returns-in-Some-Ok-clause-tells : goal.returns-in-Some-Ok-clause-tells
returns-in-Some-Ok-clause-tells c =
    let h = c.hand_over.ensures in
    let a = c.called-flash in
    told_handed (image_of c.args.flash) c.hand_over.result c.call_number-number.result _ _ _ _ _ _
    (has_flash_size (image_of c.args.flash) c.args.flash c.args.flash.device.value.size)
    (rw c.call_number-number.ensures a.ensures.ends) h.number h.idle h.kept
    (λ not. lie_inside _ c.args.flash a.result.0 3 _ c.requires.new (omega arith)
    (touches_then block_bytes call_reach (rw c.in-Some-Ok.field-0-is at c.in-Some-Ok.ensures).2.touches a.ensures.touches)
    (h.hands not).lie) h.behind h.full h.untouched

pub hand_over-requires-in-Some-Err : goal.hand_over-requires-in-Some-Err
hand_over-requires-in-Some-Err c =
    let refuses = rw c.in-Some-Err.field-0-is at c.in-Some-Err.ensures in
    record {
      known = take_up_end_is _ _ _ _ _ _ _ refuses.2;
      idle = λ idle. begun_as c.in-Some-Err.flash (image_of c.args.flash) []
          (take_up_idle c.args.asked.bank refuses.1 (told_of c.args.flash) (told_of c.in-Some-Err.flash)
          refuses.2.ends.by_bytes (rw refuses.2.number_is at idle) ∙ c.requires.new.fresh);
      kept = refuses.2.kept;
    }

pub returns-in-Some-Err-clause-calls : goal.returns-in-Some-Err-clause-calls
returns-in-Some-Err-clause-calls c = λ tells.
    let h = c.hand_over-in-Some-Err in
    let refuses = rw c.in-Some-Err.field-0-is at c.in-Some-Err.ensures in
    refused_by c.args.asked.bank (call_of c.args.asked.call) c.args.flash c.in-Some-Err.flash c.requires.new h.result _ _ _ _ _
    (h.ensures.hands tells.1) c.in-Some-Err.number refuses.1 refuses.2 refuses.0 (given _ _ h.ensures.number tells.1)

pub returns-in-Some-Err-clause-tells : goal.returns-in-Some-Err-clause-tells
returns-in-Some-Err-clause-tells c =
    let h = c.hand_over-in-Some-Err.ensures in
    let refuses = rw c.in-Some-Err.field-0-is at c.in-Some-Err.ensures in
    told_handed (image_of c.args.flash) c.hand_over-in-Some-Err.result c.in-Some-Err.number _ _ _ _ _ _
    (has_flash_size (image_of c.args.flash) c.args.flash c.args.flash.device.value.size) (take_up_end_is _ _ _ _ _ _ _ refuses.2)
    h.number h.idle h.kept (λ not. lie_inside _ c.args.flash c.in-Some-Err.flash 3 _ c.requires.new (omega arith) refuses.2.touches
    (h.hands not).lie) h.behind h.full h.untouched

pub returns-in-None-clause-tells : goal.returns-in-None-clause-tells
returns-in-None-clause-tells c = told_no_room _ _ _ _ (has_flash_size (image_of c.args.flash) c.args.flash c.args.flash.device.value.size)
