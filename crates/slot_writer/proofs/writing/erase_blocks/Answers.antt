use Rattle.std.proofs.Common.{◌+◌, ◌-◌, ◌*◌, ◌≤◌, length, ◌∙◌, sym, subst, ap, arith}
use Rattle.std.proofs.lemmas.Result.{err_from_is_err_and}
use Rattle.std.specs.Prelude.{is_err, Ok}
use Rattle.flash_core.proofs.{Costs.spends_then, Touches.touches_then, Touches.touches_wider}
use Rattle.slot_writer.specs.Slots.{Erases}
use Rattle.slot_writer.proofs.{Erasing.erase_stopped, Erasing.erase_more, Spending.spends_one, Spending.spends_then_arming}
use Rattle.slot_writer.proofs.writing.erase_blocks.Goals as goal

pub returns-in_err-erase-clause-erases : goal.returns-in_err-erase-clause-erases
returns-in_err-erase-clause-erases g c tells =
    let b = c.loop-block.block in
    let s = g.D.Flash.told c.args.flash.now in
    let room : 4096 * c.args.end ≤ length s.now = omega (arith, c.requires.inside, (g.met.D.Flash.sound c.args.flash.now tells).size) in
    let p = err_from_is_err_and c.from_residual.result c.from_residual.ensures.1 in
    subst (Erases c.from_residual.result c.args.first c.args.end s) (sym (c.in_err-erase.ensures.content tells))
    (erase_stopped c.args.first c.args.end b s _ (omega arith) (omega arith) room _ tt (c.loop-block.invariant.erases tells) c.from_residual.result (ap is_err p.1))

pub loop-block-preserved : goal.loop-block-preserved
loop-block-preserved g c = record {
  on = c.in_ok-erase.ensures.power;
  size = c.in_ok-erase.ensures.size ∙ c.loop-block.invariant.size;
  costs = spends_then tt (Ok tt) _ _ _ c.loop-block.invariant.costs c.in_ok-erase.ensures.counts;
  arming =
      spends_then_arming tt (Ok tt) (c.loop-block.block - c.args.first) 1 _ _ _ _ _ _ _ (omega arith) c.loop-block.invariant.costs.cuts c.loop-block.invariant.arming
      (spends_one (Ok tt) _ _ _ _ c.in_ok-erase.ensures.arming c.in_ok-erase.ensures.reached);
  touches =
      touches_then (4096 * c.args.first) (4096 * c.args.end) c.loop-block.invariant.touches
      (touches_wider (4096 * c.loop-block.block) (4096 * c.loop-block.block + 4096) (4096 * c.args.first) (4096 * c.args.end) (omega arith) (omega arith) c.in_ok-erase.ensures.touches);
  erases = λ tells.
      let b = c.loop-block.block in
      let s = g.D.Flash.told c.args.flash.now in
      let room : 4096 * c.args.end ≤ length s.now = omega (arith, c.requires.inside, (g.met.D.Flash.sound c.args.flash.now tells).size) in
      subst (Erases (Ok tt) c.args.first (b + 1) s) (sym (c.in_ok-erase.ensures.content tells))
      (erase_more c.args.first c.args.end b s _ (omega arith) (omega arith) room _ tt (c.loop-block.invariant.erases tells));
}
