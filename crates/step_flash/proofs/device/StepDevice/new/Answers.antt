use Rattle.std.proofs.Common.{arith, rules, ap, sym, subst, ◌*◌, ◌∙◌, ◌≡◌, List, ℕ, length, true, None}
use Rattle.base_core.specs.Block.{block_bytes}
use Rattle.flash_core.specs.Told.{Told, IsSound}
use Rattle.step_flash.specs.{Guard.guard_with, Guard.start_with, Steps.under_as, Writes.writes_in, declared.step.Step.Step}
use Rattle.step_flash.specs.Steps.{AreDoable, room_bytes, run_with}
use Rattle.step_flash.proofs.{Calls.start_idle, ReadBack.run_none, Places.none_met, Room.no_room_bytes, Sounds.sound_fresh}
use Rattle.step_flash.proofs.device.StepDevice.new.Goals as goal

pub invariant_of-result : goal.invariant_of-result
invariant_of-result c =
    let blocks = c.in_ok-blocks.blocks in
    let image = c.args.image.now in
    let fits : length image ≡ block_bytes * blocks = search rules in
    let file = c.args.file.now in
    let had : c.new.result.bytes.now ≡ file = c.new.ensures in
    let begun = start_with image c.new.result.bytes.now in
    let none : run_with c.new.result.bytes.now c.new-3.result.items begun c.new-2.result.items ≡ begun =
    ap (λ (ss : List Step). run_with c.new.result.bytes.now c.new-3.result.items begun ss) c.new-2.ensures.items
    ∙ run_none c.new.result.bytes.now c.new-3.result.items begun in
    record {
      sizes = search rules;
      size = fits;
      inside = λ k d h. absurd (grind (arith, h, c.new-2.ensures.items));
      doable = subst (AreDoable c.new.result.bytes.now c.new-3.result.items begun) (sym c.new-2.ensures.items) tt;
      few = grind (arith, c.new-2.ensures.items);
      theirs = ap (λ (r : List ℕ). length r) c.new-3.ensures.items ∙ sym (ap (λ (ss : List Step). room_bytes ss) c.new-2.ensures.items ∙ no_room_bytes);
      idle = λ on. search rules;
      ahead = λ x e. absurd (cc);
      sound = subst (λ t. IsSound blocks true t) (sym none) (sound_fresh blocks (guard_with image c.new.result.bytes.now) image fits);
    }

pub returns-clause-content : goal.returns-clause-content
returns-clause-content c =
    let image = c.args.image.now in
    let file = c.args.file.now in
    let had : c.new.result.bytes.now ≡ file = c.new.ensures in
    let begun = start_with image c.new.result.bytes.now in
    let none : run_with c.new.result.bytes.now c.new-3.result.items begun c.new-2.result.items ≡ begun =
    ap (λ (ss : List Step). run_with c.new.result.bytes.now c.new-3.result.items begun ss) c.new-2.ensures.items
    ∙ run_none c.new.result.bytes.now c.new-3.result.items begun in
    ap (λ (t : Told). under_as None t) none ∙ start_idle image c.new.result.bytes.now ∙ ap (λ (p : List ℕ). start_with image p) had

pub returns-clause-unwritten : goal.returns-clause-unwritten
returns-clause-unwritten c = λ b. ap (λ (ss : List Step). writes_in ss b) c.new-2.ensures.items ∙ none_met b
