use Rattle.std.proofs.Common.{◌+◌, ◌-◌, ◌*◌, ◌∙◌, sym, subst, arith, rules}
use Rattle.std.specs.Prelude.{Ok}
use Rattle.base_core.specs.Block.{blank}
use Rattle.base_core.proofs.Blocks.{length-blank}
use Rattle.flash_core.specs.{Told.Told, May.Keeps}
use Rattle.flash_core.proofs.{Calls.keeps_wider, Costs.spends_then, Spent.spent_both, Spent.spent_one, Unarmed.unarmed_spent}
use Rattle.flash_core.proofs.Touches.{touches_then, touches_wider}
use Rattle.flash_format.specs.Places.{OnlyErased, Erased}
use Rattle.flash_format.proofs.{Recorded.only_erase, Ranges.keeps_written, Ranges.erased_more, Stopped.unarmed_then}
use Rattle.flash_format.proofs.erasing.erase_behind.Goals as goal

pub returns-in_err-erase-clause-writes : goal.returns-in_err-erase-clause-writes
returns-in_err-erase-clause-writes g c = record {
  keeps = λ tells.
      let s = g.D.Flash.told c.args.flash.now in
      let m = g.D.Flash.told c.loop-block.flash in
      let b = c.loop-block.block in
      let before = c.loop-block.invariant.keeps tells in
      let size = (g.met.D.Flash.sound c.args.flash.now tells).size in
      let wide = keeps_wider 4096 (4096 * b) 4096 (4096 * c.args.count) s m (omega arith) (omega arith) before in
      subst (Keeps 4096 (4096 * c.args.count) s) (sym (c.erase.ensures.content tells))
      (keeps_written c.erase.result 4096 (4096 * c.args.count) (4096 * b) (blank 4096) s m (omega (arith, c.loop-block.auto.block)) (omega (arith, length-blank 4096)) (omega (arith, length-blank 4096, size)) wide);
  goes = search rules;
  spent = search rules;
  touches =
      let b = c.loop-block.block in
      touches_then 4096 (4096 * c.args.count) (touches_wider 4096 (4096 * b) 4096 (4096 * c.args.count) (omega arith) (omega arith) c.loop-block.invariant.touches)
      (touches_wider (4096 * b) (4096 * b + 4096) 4096 (4096 * c.args.count) (omega (arith, c.loop-block.auto.block)) (omega arith) c.erase.ensures.touches);
}

pub returns-in_err-erase-clause-only : goal.returns-in_err-erase-clause-only
returns-in_err-erase-clause-only g c tells =
    let s = g.D.Flash.told c.args.flash.now in
    let m = g.D.Flash.told c.loop-block.flash in
    let b = c.loop-block.block in
    let size = (g.met.D.Flash.sound c.loop-block.flash tells).size in
    let many = (g.met.D.Flash.sizes c.loop-block.flash).0 in
    subst (OnlyErased s) (sym (c.erase.ensures.content tells)) (only_erase b m (omega (arith, size, many)) (omega (arith, size, c.loop-block.invariant.same_size)) c.erase.result s (c.loop-block.invariant.only tells))

pub loop-block-preserved : goal.loop-block-preserved
loop-block-preserved g c =
    let b = c.loop-block.block in
    let s = g.D.Flash.told c.args.flash.now in
    let m = g.D.Flash.told c.loop-block.flash in
    record {
      on = c.in_ok-erase.ensures.power;
      same_size = c.in_ok-erase.ensures.size ∙ c.loop-block.invariant.same_size;
      keeps = λ tells.
          let size = (g.met.D.Flash.sound c.args.flash.now tells).size in
          let wide = keeps_wider 4096 (4096 * b) 4096 (4096 * (b + 1)) s m (omega arith) (omega arith) (c.loop-block.invariant.keeps tells) in
          subst (Keeps 4096 (4096 * (b + 1)) s) (sym (c.erase.ensures.content tells))
          (keeps_written c.erase.result 4096 (4096 * (b + 1)) (4096 * b) (blank 4096) s m (omega (arith, c.loop-block.auto.block)) (omega (arith, length-blank 4096)) (omega (arith, length-blank 4096, size)) wide);
      touches =
          touches_then 4096 (4096 * (b + 1)) (touches_wider 4096 (4096 * b) 4096 (4096 * (b + 1)) (omega arith) (omega arith) c.loop-block.invariant.touches)
          (touches_wider (4096 * b) (4096 * b + 4096) 4096 (4096 * (b + 1)) (omega (arith, c.loop-block.auto.block)) (omega arith) c.erase.ensures.touches);
      erased = λ tells.
          let size = (g.met.D.Flash.sound c.loop-block.flash tells).size in
          subst (λ (t : Told). Erased 4096 (4096 * (b + 1)) t.now) (sym (c.in_ok-erase.ensures.content tells))
          (erased_more 4096 b m (omega (arith, size, c.loop-block.invariant.same_size)) (c.loop-block.invariant.erased tells));
      only = λ tells.
          let size = (g.met.D.Flash.sound c.loop-block.flash tells).size in
          let many = (g.met.D.Flash.sizes c.loop-block.flash).0 in
          subst (OnlyErased s) (sym (c.erase.ensures.content tells)) (only_erase b m (omega (arith, size, many)) (omega (arith, size, c.loop-block.invariant.same_size)) c.erase.result s (c.loop-block.invariant.only tells));
      costs = spends_then tt (Ok tt) _ _ _ c.loop-block.invariant.costs c.in_ok-erase.ensures.counts;
      spent = spent_both (b - 1) 1 (b + 1 - 1) _ _ _ (omega (arith, c.loop-block.auto.block)) c.loop-block.invariant.spent (spent_one _ _ c.in_ok-erase.ensures.arming);
      unarmed = unarmed_then _ _ _ _ (g.D.Flash.counts c.args.flash.now) (g.D.Flash.counts c.loop-block.flash) (g.D.Flash.counts c.erase.new.self) c.loop-block.invariant.unarmed
          (unarmed_spent c.erase.result _ _ _ _ c.erase.ensures.arming c.erase.ensures.reached);
    }
