use Rattle.std.proofs.Common.{arith, rules, ap, sym, ◌∙◌, ◌≡◌, ◌==◌, ◌+◌, ◌*◌, List, ℕ, length, false, slice_range, eq-eqb}
use Rattle.std.proofs.lemmas.Bool.{false≢true}
use Rattle.base_core.specs.Block.{block_bytes}
use Rattle.base_core.proofs.Blocks.{length-blank}
use Rattle.flash_core.specs.Told.{overwritten}
use Rattle.step_flash.specs.Steps.{source_of}
use Rattle.step_flash.proofs.Slices.{length-part}
use Rattle.step_flash.proofs.ReadBack.{now_erased, now_settled, now_programmed, stands}
use Rattle.step_flash.proofs.device.lay.Goals as goal

pub returns-then-step-eq-ERASE-clause-laid : goal.returns-then-step-eq-ERASE-clause-laid
returns-then-step-eq-ERASE-clause-laid c = λ t size was.
    let s = c.args.step.now in
    let e : s.kind ≡ 1 = search rules in
    let long : length c.blank_block.result.now ≡ block_bytes = ap (λ (x : List ℕ). length x) c.blank_block.ensures ∙ length-blank block_bytes in
    c.overlay.ensures.laid t.now (omega (arith, c.requires.place, size)) (omega (arith, c.requires.inside.place, c.requires.inside.block e, size, long)) was
    ∙ ap (λ (x : List ℕ). slice_range (overwritten s.at x t.now) c.args.at (c.args.at + length c.args.out.now)) c.blank_block.ensures
    ∙ ap (λ (x : List ℕ). slice_range x c.args.at (c.args.at + length c.args.out.now)) (sym (now_erased c.args.file.now c.args.room.now t s e))

pub returns-then-step-eq-BARRIER-clause-laid : goal.returns-then-step-eq-BARRIER-clause-laid
returns-then-step-eq-BARRIER-clause-laid c = λ t size was.
    let s = c.args.step.now in
    let e : s.kind ≡ 3 = search rules in
    was ∙ ap (λ (x : List ℕ). slice_range x c.args.at (c.args.at + length c.args.out.now)) (sym (now_settled c.args.file.now c.args.room.now t s e))

pub returns-clause-laid : goal.returns-clause-laid
returns-clause-laid c = λ t size was.
    let s = c.args.step.now in
    let one : (s.kind == 1) ≡ false = search rules in
    let three : (s.kind == 3) ≡ false = search rules in
    let source = source_of c.args.file.now c.args.room.now s in
    let fits = stands c.args.file.now c.args.room.now (block_bytes * c.args.blocks) s c.requires.inside (λ e. false≢true (sym one ∙ eq-eqb s.kind 1 e)) in
    let made : c.source_of.result.now ≡ source = c.source_of.ensures in
    let long : length (slice_range c.source_of.result.now s.from (s.from + s.length)) ≡ s.length =
    ap (λ (x : List ℕ). length (slice_range x s.from (s.from + s.length))) made ∙ length-part source s.from s.length fits in
    c.overlay-2.ensures.laid t.now (omega (arith, c.requires.place, size)) (omega (arith, c.requires.inside.place, long, size)) was
    ∙ ap (λ (x : List ℕ). slice_range (overwritten s.at (slice_range x s.from (s.from + s.length)) t.now) c.args.at (c.args.at + length c.args.out.now)) made
    ∙ ap (λ (x : List ℕ). slice_range x c.args.at (c.args.at + length c.args.out.now)) (sym (now_programmed c.args.file.now c.args.room.now t s one three))
