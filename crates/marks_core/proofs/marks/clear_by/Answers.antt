use Rattle.std.proofs.Common.{◌+◌, ◌*◌, Bool, ◌∙◌, ap, sym, subst}
use Rattle.std.specs.Prelude.{Ok}
use Rattle.base_core.specs.Block.{blank}
use Rattle.flash_core.specs.{Counts.lowered, Told.put, Told.halt, Told.settled}
use Rattle.flash_core.proofs.Touches.{touches_none, touches_still, touches_then}
use Rattle.fwu_formats.specs.Image.{is_blank}
use Rattle.marks_core.specs.Marks.{Clears, TakesClear}
use Rattle.marks_core.proofs.Counting.{was_clear, clear_stopped, cleared, takes_erase}
use Rattle.marks_core.proofs.marks.clear_by.Goals as goal

pub returns-then-all_erased-clause-clears : goal.returns-then-all_erased-clause-clears
returns-then-all_erased-clause-clears g c tells =
    let b = c.args.block in
    let s = g.D.Flash.told c.args.flash.now in
    subst (Clears (Ok tt) b s) (sym (c.in_ok-read_block.ensures.content tells))
    (was_clear b _ _ s (g.met.D.Flash.sound c.args.flash.now tells) c.requires.inside tt c.read_block.new.out (c.in_ok-read_block.ensures.bytes tells) (sym c.all_erased.ensures ∙ c.if-all_erased.true))

pub returns-in_err-erase-clause-clears : goal.returns-in_err-erase-clause-clears
returns-in_err-erase-clause-clears g c tells =
    let b = c.args.block in
    let s = g.D.Flash.told c.args.flash.now in
    let content = c.in_err-erase.ensures.content tells ∙ ap (halt (4096 * b) (blank 4096)) (c.in_ok-read_block.ensures.content tells) in
    subst (Clears c.from_residual-in_err-erase.result b s) (sym content)
    (clear_stopped b _ _ s (g.met.D.Flash.sound c.args.flash.now tells) c.requires.inside c.from_residual-in_err-erase.result c.from_residual-in_err-erase.ensures.0
    c.read_block.new.out (c.in_ok-read_block.ensures.bytes tells) (sym c.all_erased.ensures ∙ c.if-all_erased.false))

pub returns-clause-clears : goal.returns-clause-clears
returns-clause-clears g c tells =
    let b = c.args.block in
    let s = g.D.Flash.told c.args.flash.now in
    let content = c.barrier.ensures.content tells ∙ ap (settled c.barrier.result) (c.in_ok-erase.ensures.content tells ∙ ap (put (4096 * b) (blank 4096)) (c.in_ok-read_block.ensures.content tells)) in
    subst (Clears c.barrier.result b s) (sym content)
    (cleared b _ _ s (g.met.D.Flash.sound c.args.flash.now tells) c.requires.inside c.barrier.result
    c.read_block.new.out (c.in_ok-read_block.ensures.bytes tells) (sym c.all_erased.ensures ∙ c.if-all_erased.false))

pub returns-then-all_erased-clause-once : goal.returns-then-all_erased-clause-once
returns-then-all_erased-clause-once g c tells =
    let clear = sym (ap is_blank (c.in_ok-read_block.ensures.bytes tells)) ∙ sym c.all_erased.ensures ∙ c.if-all_erased.true in
    subst (λ (b : Bool). TakesClear b (g.D.Flash.arming c.args.flash.now) (g.D.Flash.arming c.read_block.new.flash)) (sym clear) c.in_ok-read_block.ensures.arming

pub returns-clause-once : goal.returns-clause-once
returns-clause-once g c tells =
    let unclear = sym (ap is_blank (c.in_ok-read_block.ensures.bytes tells)) ∙ sym c.all_erased.ensures ∙ c.if-all_erased.false in
    takes_erase c.barrier.result _ _ _ _ unclear (c.in_ok-erase.ensures.arming ∙ ap lowered c.in_ok-read_block.ensures.arming) c.barrier.ensures.arming

pub returns-in_err-erase-clause-touches : goal.returns-in_err-erase-clause-touches
returns-in_err-erase-clause-touches g c =
    touches_then (4096 * c.args.block) (4096 * c.args.block + 4096) (touches_none (4096 * c.args.block) (4096 * c.args.block + 4096) c.in_ok-read_block.ensures.writes) c.in_err-erase.ensures.touches

pub returns-clause-touches : goal.returns-clause-touches
returns-clause-touches g c =
    touches_still (4096 * c.args.block) (4096 * c.args.block + 4096) (touches_then (4096 * c.args.block) (4096 * c.args.block + 4096) (touches_none (4096 * c.args.block) (4096 * c.args.block + 4096) c.in_ok-read_block.ensures.writes) c.in_ok-erase.ensures.touches) c.barrier.ensures.writes
