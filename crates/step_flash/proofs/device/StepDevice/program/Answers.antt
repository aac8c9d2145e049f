use Rattle.std.proofs.Common.{rules, ◌≡◌, ◌∙◌, ap, sym, subst, refl, ◌+◌, ◌≤◌, ℕ, Bool, List, length, slice_range, true}
use Rattle.std.specs.Option.{ForSome}
use Rattle.step_flash.specs.{Guard.start_with, Steps.under_of, Steps.TakesProgram, Steps.run_with}
use Rattle.step_flash.specs.Device.{after_steps, back_on, none_under}
use Rattle.step_flash.specs.Writes.{IsArmed}
use Rattle.step_flash.proofs.{Armings.arming_programmed, Armings.lowered_ahead, Armings.undue_by, Calls.put_noted, Places.program_touches}
use Rattle.step_flash.proofs.Noted.{Fits, program_fits, program_run}
use Rattle.step_flash.proofs.device.StepDevice.program.Goals as goal

pub invariant_of-self-2 : goal.invariant_of-self-2
invariant_of-self-2 c =
    let s = c.args.self.now in
    let new = c.note_program.new in
    let same : new.file.bytes.now ≡ s.file.bytes.now = c.note_program.ensures.file in
    let live : s.live ≡ true = c.is_ready.ensures.live c.if-not-is_ready.false in
    let takes : TakesProgram (after_steps s) c.args.at (length c.args.bytes.now) =
    record {
      place = c.requires.takes.place;
      granules = c.requires.takes.granules;
      some = c.requires.takes.some;
      erased = ap (λ (b : Bool). slice_range (back_on b (after_steps s)).now c.args.at (c.args.at + length c.args.bytes.now)) (sym live) ∙ c.requires.takes.erased;
    } in
    let f = subst (λ (p : List ℕ). Fits s.blocks p new.room.items (start_with s.image.now p) new.steps.items) (sym same)
    (program_fits s.blocks c.args.at s.file.bytes.now c.args.bytes.now (start_with s.image.now s.file.bytes.now) s.steps.items new.steps.items s.room.items new.room.items
    c.requires.inside takes (record { inside = s.inside; doable = s.doable; theirs = s.theirs; sound = s.sound }) (c.note_program.ensures.noted c.if-not-note_program.false)) in
    record {
      sizes = s.sizes;
      size = s.size;
      inside = f.inside;
      doable = f.doable;
      few = c.note_program.ensures.few s.few;
      theirs = f.theirs;
      idle = s.idle;
      ahead = subst (λ a. ForSome a IsArmed) (sym c.lowered-self.ensures) (lowered_ahead s.arming s.ahead (c.is_ready.ensures.undue c.if-not-is_ready.false));
      sound = f.sound;
    }

pub returns-clause-writes : goal.returns-clause-writes
returns-clause-writes c =
    let s = c.args.self.now in
    let new = c.note_program.new in
    let same : new.file.bytes.now ≡ s.file.bytes.now = c.note_program.ensures.file in
    record {
      call = record {
        content = λ _. put_noted (under_of s.stopped) s.live c.args.at c.args.bytes.now (after_steps s) _ (none_under s.stopped (s.idle c.requires.on)) (c.is_ready.ensures.live c.if-not-is_ready.false)
            (ap (λ (f : List ℕ). run_with f new.room.items (start_with s.image.now f) new.steps.items) same
            ∙ program_run s.blocks c.args.at s.file.bytes.now c.args.bytes.now (start_with s.image.now s.file.bytes.now) s.steps.items new.steps.items s.room.items new.room.items
            (record { inside = s.inside; doable = s.doable; theirs = s.theirs; sound = s.sound }) (c.note_program.ensures.noted c.if-not-note_program.false));
        power = search rules;
        size = refl;
        arming = arming_programmed _ c.args.at c.args.bytes.now s.arming _ s.most s.steps.items _ _ _ c.lowered-self.ensures (c.note_program.ensures.noted c.if-not-note_program.false);
        counts = search rules;
      };
      reached = record {
        not_done = λ due. undue_by s.arming s.most s.steps.items s.few (c.is_ready.ensures.undue c.if-not-is_ready.false) due;
        counted = λ due lost. absurd (cc);
        only = λ _. refl;
        lost = λ _ lost. absurd (cc);
      };
      landed = refl;
    }

pub returns-clause-noted : goal.returns-clause-noted
returns-clause-noted c =
    let noted = c.note_program.ensures.noted c.if-not-note_program.false in
    record {
      noted = search rules;
      stopped = search rules;
      touches = program_touches _ c.args.at c.args.bytes.now c.args.self.now.steps.items _ _ _ noted;
    }
