use Rattle.std.proofs.Common.{arith, rules, sym, subst, ap, refl, ◌≡◌, ◌∙◌, ◌*◌, ◌%◌, ◌+◌, ◌≤◌, List}
use Rattle.std.specs.Option.{ForSome}
use Rattle.base_core.specs.Block.{blank, block_bytes}
use Rattle.step_flash.specs.{Guard.start_with, Steps.under_of, Steps.erase_step, Steps.run_with, declared.step.Step.Step}
use Rattle.step_flash.specs.Device.{after_steps, none_under}
use Rattle.step_flash.specs.Writes.{IsArmed}
use Rattle.step_flash.proofs.{Armings.arming_noted, Armings.lowered_ahead, Armings.undue_by, Calls.put_noted, Places.step_touches}
use Rattle.step_flash.proofs.Noted.{Fits, erase_fits, run_push}
use Rattle.step_flash.proofs.device.StepDevice.erase.Goals as goal

pub invariant_of-self-2 : goal.invariant_of-self-2
invariant_of-self-2 c =
    let s = c.args.self.now in
    let at = block_bytes * c.args.block in
    let noted = c.note_erase.ensures.noted c.if-not-note_erase.false in
    let whole : at % block_bytes ≡ 0 = omega arith in
    let fits : at + block_bytes ≤ block_bytes * s.blocks = omega (arith, c.requires.inside) in
    let f = subst (λ (x : List Step). Fits s.blocks s.file.bytes.now s.room.items (start_with s.image.now s.file.bytes.now) x) (sym noted)
    (erase_fits s.blocks s.file.bytes.now s.room.items (start_with s.image.now s.file.bytes.now) s.steps.items at whole fits
    (record { inside = s.inside; doable = s.doable; theirs = s.theirs; sound = s.sound })) in
    record {
      sizes = s.sizes;
      size = s.size;
      inside = f.inside;
      doable = f.doable;
      few = c.note_erase.ensures.few s.few;
      theirs = f.theirs;
      idle = s.idle;
      ahead = subst (λ a. ForSome a IsArmed) (sym c.lowered-self.ensures) (lowered_ahead s.arming s.ahead (c.is_ready.ensures.undue c.if-not-is_ready.false));
      sound = f.sound;
    }

pub returns-clause-writes : goal.returns-clause-writes
returns-clause-writes c =
    let s = c.args.self.now in
    let at = block_bytes * c.args.block in
    let t = start_with s.image.now s.file.bytes.now in
    record {
      call = record {
        content = λ _. put_noted (under_of s.stopped) s.live at (blank block_bytes) (after_steps s) _ (none_under s.stopped (s.idle c.requires.on)) (c.is_ready.ensures.live c.if-not-is_ready.false)
            (ap (λ (x : List Step). run_with s.file.bytes.now s.room.items t x) (c.note_erase.ensures.noted c.if-not-note_erase.false) ∙ run_push s.file.bytes.now s.room.items t s.steps.items (erase_step at));
        power = search rules;
        size = refl;
        arming = arming_noted s.arming _ s.most s.steps.items _ (erase_step at) c.lowered-self.ensures (c.note_erase.ensures.noted c.if-not-note_erase.false) refl;
        counts = search rules;
      };
      reached = record {
        not_done = λ due. undue_by s.arming s.most s.steps.items s.few (c.is_ready.ensures.undue c.if-not-is_ready.false) due;
        counted = λ due lost. absurd (cc);
        only = λ _. refl;
        lost = λ _ lost. absurd (cc);
      };
      landed = refl;
    }

pub returns-clause-noted : goal.returns-clause-noted
returns-clause-noted c =
    let noted = c.note_erase.ensures.noted c.if-not-note_erase.false in
    record {
      noted = search rules;
      room = refl;
      stopped = search rules;
      touches = step_touches c.args.self.now.steps.items _ _ noted;
    }
