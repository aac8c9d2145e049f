use Rattle.std.proofs.Common.{arith, rules, ap, sym, subst, ◌∙◌, ◌≡◌, ◌<◌, ◌+◌, ◌*◌, ℕ, List, length, take, get_or, slice_range}
use Rattle.std.proofs.lemmas.List.{get_or_default, get_or-take, length-take-le}
use Rattle.base_core.specs.Block.{block_bytes}
use Rattle.flash_core.specs.Told.{Told}
use Rattle.flash_core.proofs.Calls.{now-fresh}
use Rattle.step_flash.specs.{Guard.guard_with, Guard.start_with, Steps.IsInsideWith, Steps.run_step, Steps.run_with}
use Rattle.step_flash.proofs.ReadBack.{run_none, run_more, run_size}
use Rattle.step_flash.proofs.device.StepDevice.fill.Goals as goal

pub loop-step-init : goal.loop-step-init
loop-step-init c =
    let s = c.args.self.now in
    let copied : c.copy_from_slice.new.self ≡ slice_range s.image.now c.args.at (c.args.at + length c.args.out.now) = search rules in
    (search rules, copied ∙ ap (λ (x : List ℕ). slice_range x c.args.at (c.args.at + length c.args.out.now)) (sym (ap (λ (x : Told). x.now) (run_none s.file.bytes.now s.room.items (start_with s.image.now s.file.bytes.now)) ∙ now-fresh (guard_with s.image.now s.file.bytes.now) s.image.now)))

pub loop-step-preserved : goal.loop-step-preserved
loop-step-preserved c =
    let s = c.args.self.now in
    let p = s.file.bytes.now in
    let t = start_with s.image.now p in
    let i = c.loop-step.step-index in
    let ss = s.steps.items in
    let inside : i < length ss = search rules in
    let before = run_with p s.room.items t (take i ss) in
    let size : length before.now ≡ block_bytes * s.blocks =
    run_size p s.room.items (block_bytes * s.blocks) t (take i ss) (ap (λ (x : List ℕ). length x) (now-fresh (guard_with s.image.now p) s.image.now) ∙ s.size)
    (λ k d h.
    let low : k < i = omega (arith, h, length-take-le i ss (omega (arith, inside))) in
    subst (IsInsideWith (length p) (length s.room.items) (block_bytes * s.blocks)) (sym (get_or-take i ss k d low)) (s.inside k d (omega (arith, low, inside)))) in
    let n = length c.args.out.now in
    let at = c.args.at in
    let laid = c.lay.ensures.laid before size (c.loop-step.invariant.1 ∙ ap (λ m. slice_range before.now at (at + m)) (sym c.loop-step.invariant.0)) in
    let by_room : c.lay.new.out ≡ slice_range (run_step p s.room.items before (get_or ss i (record { kind = 0; at = 0; length = 0; from = 0 }))).now at (at + n) = grind (arith, laid, c.loop-step.invariant.0, c.deref.ensures.value, c.deref-step-items.ensures.value, get_or_default) in
    (search rules, by_room ∙ ap (λ (u : Told). slice_range u.now at (at + n)) (sym (run_more p s.room.items t ss i _ inside)))
