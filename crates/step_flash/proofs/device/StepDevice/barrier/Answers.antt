use Rattle.std.proofs.Common.{inl, inr, sym, subst, ap, refl, rules, ◌∙◌, List}
use Rattle.std.proofs.lemmas.Bool.{cases_Bool}
use Rattle.step_flash.specs.{Guard.start_with, Steps.barrier_step, Steps.run_with, Steps.under_of, declared.step.Step.Step}
use Rattle.step_flash.specs.Device.{after_steps, none_under}
use Rattle.step_flash.proofs.{Armings.arming_settled, Places.barrier_meets_none, Places.step_touches, Calls.settle_noted}
use Rattle.step_flash.proofs.Noted.{Fits, barrier_fits, run_push}
use Rattle.step_flash.proofs.device.StepDevice.barrier.Goals as goal

pub invariant_of-self : goal.invariant_of-self
invariant_of-self c =
    let s = c.args.self.now in
    let t = start_with s.image.now s.file.bytes.now in
    let was : Fits s.blocks s.file.bytes.now s.room.items t s.steps.items = record { inside = s.inside; doable = s.doable; theirs = s.theirs; sound = s.sound } in
    let f : Fits s.blocks s.file.bytes.now s.room.items t c.note_barrier.new.steps.items = elim (cases_Bool c.note_barrier.result) [
      | inl done ↦ subst (λ (x : List Step). Fits s.blocks s.file.bytes.now s.room.items t x) (sym (c.note_barrier.ensures.noted done))
          (barrier_fits s.blocks s.file.bytes.now s.room.items t s.steps.items was)
      | inr full ↦ subst (λ (x : List Step). Fits s.blocks s.file.bytes.now s.room.items t x) (sym (c.note_barrier.ensures.same full)) was
    ] in
    record { sizes = s.sizes; size = s.size; inside = f.inside; doable = f.doable; few = c.note_barrier.ensures.few s.few; theirs = f.theirs; idle = s.idle; ahead = s.ahead; sound = f.sound }

pub returns-clause-settles : goal.returns-clause-settles
returns-clause-settles c =
    let s = c.args.self.now in
    let t = start_with s.image.now s.file.bytes.now in
    record {
      call = record {
        content = λ _. settle_noted (under_of s.stopped) s.live (after_steps s) _ (none_under s.stopped (s.idle c.requires.on)) c.if-not-self.false
            (ap (λ (x : List Step). run_with s.file.bytes.now s.room.items t x) (c.note_barrier.ensures.noted c.if-not-note_barrier.false) ∙ run_push s.file.bytes.now s.room.items t s.steps.items barrier_step);
        power = search rules;
        size = refl;
        arming = arming_settled s.arming s.most s.steps.items _ (c.note_barrier.ensures.noted c.if-not-note_barrier.false);
        counts = search rules;
      };
      reached = search rules;
      writes = barrier_meets_none s.steps.items _ (c.note_barrier.ensures.noted c.if-not-note_barrier.false);
    }

pub returns-clause-noted : goal.returns-clause-noted
returns-clause-noted c =
    let noted = c.note_barrier.ensures.noted c.if-not-note_barrier.false in
    record {
      noted = search rules;
      room = refl;
      stopped = search rules;
      touches = step_touches c.args.self.now.steps.items _ _ noted;
    }
