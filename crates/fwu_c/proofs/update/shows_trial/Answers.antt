use Rattle.std.proofs.Common.{refl, sym, ◌∙◌}
use Rattle.early_boot.specs.Numbers.{numbers}
use Rattle.step_flash.specs.Flash.{image_of}
use Rattle.fwu_c.proofs.Booting.{start_now}
use Rattle.fwu_c.proofs.Updating.{no_layout_no_trial, no_metadata_no_trial, no_trial_by, trial_by}
use Rattle.fwu_c.proofs.update.shows_trial.Goals as goal

pub returns-in-Ok-clause-trial : goal.returns-in-Ok-clause-trial
returns-in-Ok-clause-trial c = λ on.
    let now = start_now (image_of c.args.flash) _ _ c.requires.new.fresh in
    trial_by _ (numbers c.in-Ok.shown) (rw now at (c.in-Ok.ensures.numbers refl)) (sym c.is_on_trial.ensures ∙ on)

pub returns-in-Ok-clause-other : goal.returns-in-Ok-clause-other
returns-in-Ok-clause-other c = λ off.
    let now = start_now (image_of c.args.flash) _ _ c.requires.new.fresh in
    no_trial_by _ (numbers c.in-Ok.shown) (rw now at (c.in-Ok.ensures.numbers refl)) (sym c.is_on_trial.ensures ∙ off)

pub returns-in-Err-Layout-clause-other : goal.returns-in-Err-Layout-clause-other
returns-in-Err-Layout-clause-other c = λ off.
    let now = start_now (image_of c.args.flash) _ _ c.requires.new.fresh in
    no_layout_no_trial _ c.in-Err-Layout.field-0-0
    (rw (c.in-Err-Layout.field-0-is, now) at (c.in-Err-Layout.ensures.nothing refl))

pub returns-in-Err-Metadata-clause-other : goal.returns-in-Err-Metadata-clause-other
returns-in-Err-Metadata-clause-other c = λ off.
    let now = start_now (image_of c.args.flash) _ _ c.requires.new.fresh in
    let nothing = rw (c.in-Err-Metadata.field-0-is, now) at (c.in-Err-Metadata.ensures.nothing refl) in
    no_metadata_no_trial _ nothing.0 nothing.1 nothing.2
