use Rattle.std.proofs.Common.{◌≤◌, length, sym, ap, subst, ◌∙◌, arith, rules, ◌*◌, ◌+◌}
use Rattle.std.specs.Prelude.{IsTrue}
use Rattle.base_core.specs.Block.{blank}
use Rattle.base_core.proofs.Blocks.{length-blank}
use Rattle.flash_core.specs.{Told.Told, May.Keeps, Touches.TouchesOnly}
use Rattle.flash_core.proofs.{Calls.keeps_same, Spent.spent_barrier, Spent.spent_one, Touches.touches_still, Touches.touches_wider}
use Rattle.flash_format.specs.Places.{OnlyErased, Erased}
use Rattle.flash_format.proofs.Recorded.{only_erase, only_same, only_settled, on_ok_from, keeps_settled, now_settled, clean_after}
use Rattle.flash_format.proofs.Ranges.{keeps_written, erased_more}
use Rattle.flash_format.proofs.erasing.erase_layout.Given as given
use Rattle.flash_format.proofs.erasing.erase_layout.Goals.{After-erase}
use Rattle.flash_format.proofs.erasing.erase_layout.Goals as goal

module _ (g : given.Over) (c : After-erase g) where
  abbrev old : Told
  old = g.D.Flash.told c.args.flash.now

  room : IsTrue g.D.Flash.tells → 32768 ≤ length old.now
  room tells =
      let size = (g.met.D.Flash.sound c.args.flash.now tells).size in
      let many = (g.met.D.Flash.sizes c.args.flash.now).0 in
      omega (arith, size, many)

  keeps : IsTrue g.D.Flash.tells → Keeps 0 4096 old (g.D.Flash.told c.erase.new.self)
  keeps tells =
      subst (Keeps 0 4096 old) (sym (c.erase.ensures.content tells))
      (keeps_written c.erase.result 0 4096 0 (blank 4096) old old (omega arith) (omega (arith, length-blank 4096)) (omega (arith, length-blank 4096, room tells)) (keeps_same 0 4096 old))

  touched : TouchesOnly 0 4096 (g.D.Flash.writes c.args.flash.now) (g.D.Flash.writes c.erase.new.self)
  touched = touches_wider (4096 * 0) (4096 * 0 + 4096) 0 4096 (omega arith) (omega arith) c.erase.ensures.touches

  only : IsTrue g.D.Flash.tells → OnlyErased old (g.D.Flash.told c.erase.new.self)
  only tells = subst (OnlyErased old) (sym (c.erase.ensures.content tells)) (only_erase 0 old (room tells) (omega (arith, room tells)) c.erase.result old (only_same old))

pub returns-in_err-erase-clause-writes : goal.returns-in_err-erase-clause-writes
returns-in_err-erase-clause-writes g c =
    let p = (goal.at.returns-in_err-erase-clause-writes g c).After-erase in
    record { keeps = keeps g p; goes = search rules; spent = search rules; touches = touched g p }

pub returns-clause-writes : goal.returns-clause-writes
returns-clause-writes g c =
    let p = (goal.at.returns-clause-writes g c).After-erase in
    record {
      keeps = λ tells. subst (Keeps 0 4096 (old g p)) (sym (c.barrier.ensures.content tells)) (keeps_settled c.barrier.result 0 4096 (old g p) (g.D.Flash.told c.erase.new.self) (keeps g p tells));
      goes = search rules;
      spent = spent_barrier c.barrier.result 1 _ _ _ (spent_one _ _ c.in_ok-erase.ensures.arming) c.barrier.ensures.arming;
      touches = touches_still 0 4096 (touched g p) c.barrier.ensures.writes;
    }

pub returns-clause-erased : goal.returns-clause-erased
returns-clause-erased g c = on_ok_from _ c.barrier.result (λ tells.
    let p = (goal.at.returns-clause-erased g c).After-erase in
    let now = ap (λ (u : Told). u.now) (c.barrier.ensures.content tells) ∙ now_settled c.barrier.result (g.D.Flash.told c.erase.new.self) in
    let there = subst (λ (u : Told). Erased 0 4096 u.now) (sym (c.in_ok-erase.ensures.content tells)) (erased_more 0 0 (old g p) (omega (arith, room g p tells)) (λ i above below. absurd (omega (arith, below)))) in
    subst (Erased 0 4096) (sym now) there)

pub returns-clause-clean : goal.returns-clause-clean
returns-clause-clean g c = clean_after _ c.barrier.result (g.D.Flash.told c.erase.new.self) (g.D.Flash.told c.barrier.new.self) c.barrier.ensures.content

pub returns-in_err-erase-clause-only : goal.returns-in_err-erase-clause-only
returns-in_err-erase-clause-only g c = only g (goal.at.returns-in_err-erase-clause-only g c).After-erase

pub returns-clause-only : goal.returns-clause-only
returns-clause-only g c = λ tells.
    let p = (goal.at.returns-clause-only g c).After-erase in
    subst (OnlyErased (old g p)) (sym (c.barrier.ensures.content tells)) (only_settled c.barrier.result (old g p) (g.D.Flash.told c.erase.new.self) (only g p tells))
