use Rattle.std.proofs.Common.{◌+◌, ◌*◌, ℕ, List, length, inl, inr, ap, sym, subst, ◌∙◌, arith}
use Rattle.std.specs.Prelude.{IsTrue}
use Rattle.flash_core.specs.{Told.Told, Told.NothingDirty, May.Keeps, Touches.TouchesOnly}
use Rattle.flash_core.proofs.Calls.{keeps_wider, keeps_then, settle-fresh}
use Rattle.flash_core.proofs.Touches.{touches_still, touches_then, touches_wider}
use Rattle.fwu_formats.specs.{Layout.slot_total, Layout.blocks_needed, Package.Entry}
use Rattle.flash_format.specs.{Places.IsBare, Places.OnlyErased, Places.AllStand, Places.Erased, Formatted.IsBlank}
use Rattle.flash_format.proofs.{Ranges.erased_stays, Plans.bank_within, writing.fill.Goals.After-write_bank}
use Rattle.flash_format.proofs.Recorded.{only_above, only_settled, bare_settled, bare_stays, keeps_settled, now_settled}
use Rattle.flash_format.proofs.writing.fill.Given as given
use Rattle.flash_format.proofs.writing.fill.Goals as goal

pub write_bank-requires-clause-erased : goal.write_bank-requires-clause-erased
write_bank-requires-clause-erased g c = λ tells i above below.
    let enough = bank_within c.args.plan.now.layout c.rows-rows.ensures.fit in
    c.in_ok-erase_all.ensures.erased tells i (omega arith) (omega (arith, below, enough, c.blocks-2.ensures))

module _ (g : given.Over) (c : After-write_bank g) where
  abbrev high : ℕ
  high = 4096 * blocks_needed c.args.plan.now.layout

  abbrev told_then : Told
  told_then = g.D.Flash.told c.write_bank.new.flash

  keeps : IsTrue g.D.Flash.tells → Keeps 0 high (g.D.Flash.told c.args.flash.now) told_then
  keeps tells =
      let L = c.args.plan.now.layout in
      let s = g.D.Flash.told c.args.flash.now in
      let m = g.D.Flash.told c.erase_all.new.flash in
      let enough = bank_within L c.rows-rows.ensures.fit in
      let first = subst (λ (k : ℕ). Keeps 0 (4096 * k) s m) c.blocks-2.ensures (c.erase_all.ensures.writes.keeps tells) in
      keeps_then 0 high s m told_then first (keeps_wider 32768 (4096 * (8 + slot_total L.rows)) 0 high m told_then (omega arith) (omega (arith, enough)) (c.write_bank.ensures.writes.keeps tells))

  touched : TouchesOnly 0 high (g.D.Flash.writes c.args.flash.now) (g.D.Flash.writes c.write_bank.new.flash)
  touched =
      let L = c.args.plan.now.layout in
      let enough = bank_within L c.rows-rows.ensures.fit in
      touches_then 0 high (touches_wider 0 (4096 * c.blocks-2.result) 0 high (omega arith) (omega (arith, c.blocks-2.ensures)) c.erase_all.ensures.writes.touches)
      (touches_wider 32768 (4096 * (8 + slot_total L.rows)) 0 high (omega arith) (omega (arith, enough)) c.write_bank.ensures.writes.touches)

  only : IsTrue g.D.Flash.tells → OnlyErased (g.D.Flash.told c.args.flash.now) told_then
  only tells =
      let size = (g.met.D.Flash.sound c.erase_all.new.flash tells).size in
      let many = (g.met.D.Flash.sizes c.erase_all.new.flash).0 in
      only_above (4096 * (8 + slot_total c.args.plan.now.layout.rows)) (g.D.Flash.told c.args.flash.now) (g.D.Flash.told c.erase_all.new.flash) told_then
      (omega (arith, size, many)) (c.erase_all.ensures.clears.only tells) (c.write_bank.ensures.writes.keeps tells) (c.write_bank.ensures.writes.left tells)

  bare : IsTrue g.D.Flash.tells → IsBare told_then
  bare tells =
      bare_stays 32768 (4096 * (8 + slot_total c.args.plan.now.layout.rows)) (g.D.Flash.told c.erase_all.new.flash) told_then (omega arith)
      (c.write_bank.ensures.writes.keeps tells) (c.in_ok-erase_all.ensures.bare tells)

pub returns-in_err-write_bank-clause-keeps : goal.returns-in_err-write_bank-clause-keeps
returns-in_err-write_bank-clause-keeps g c = keeps g (goal.at.returns-in_err-write_bank-clause-keeps g c).After-write_bank

pub returns-in_err-barrier-clause-keeps : goal.returns-in_err-barrier-clause-keeps
returns-in_err-barrier-clause-keeps g c = λ tells.
    let p = (goal.at.returns-in_err-barrier-clause-keeps g c).After-write_bank in
    let s = g.D.Flash.told c.args.flash.now in
    subst (Keeps 0 (high g p) s) (sym (c.barrier.ensures.content tells)) (keeps_settled c.barrier.result 0 (high g p) s (told_then g p) (keeps g p tells))

pub returns-clause-keeps : goal.returns-clause-keeps
returns-clause-keeps g c = λ tells.
    let p = (goal.at.returns-clause-keeps g c).After-write_bank in
    let s = g.D.Flash.told c.args.flash.now in
    subst (Keeps 0 (high g p) s) (sym (c.barrier.ensures.content tells)) (keeps_settled c.barrier.result 0 (high g p) s (told_then g p) (keeps g p tells))

pub returns-in_err-write_bank-clause-touches : goal.returns-in_err-write_bank-clause-touches
returns-in_err-write_bank-clause-touches g c = touched g (goal.at.returns-in_err-write_bank-clause-touches g c).After-write_bank

pub returns-in_err-barrier-clause-touches : goal.returns-in_err-barrier-clause-touches
returns-in_err-barrier-clause-touches g c =
    let p = (goal.at.returns-in_err-barrier-clause-touches g c).After-write_bank in
    touches_still 0 (high g p) (touched g p) c.barrier.ensures.writes

pub returns-clause-touches : goal.returns-clause-touches
returns-clause-touches g c =
    let p = (goal.at.returns-clause-touches g c).After-write_bank in
    touches_still 0 (high g p) (touched g p) c.barrier.ensures.writes

pub returns-clause-erased : goal.returns-clause-erased
returns-clause-erased g c = λ tells.
    let L = c.args.plan.now.layout in
    let m = g.D.Flash.told c.erase_all.new.flash in
    let n = g.D.Flash.told c.write_bank.new.flash in
    let enough = bank_within L c.rows-rows.ensures.fit in
    let now = ap (λ (t : Told). t.now) (c.barrier.ensures.content tells) ∙ now_settled c.barrier.result n in
    let before : Erased 0 32768 m.now = λ i above below. c.in_ok-erase_all.ensures.erased tells i above (omega (arith, below, enough, c.blocks-2.ensures)) in
    subst (Erased 0 32768) (sym now) (erased_stays 0 32768 32768 (4096 * (8 + slot_total L.rows)) m n (inl (omega arith)) (c.write_bank.ensures.writes.keeps tells) before)

pub returns-clause-filled : goal.returns-clause-filled
returns-clause-filled g c = λ tells.
    let L = c.args.plan.now.layout in
    let m = g.D.Flash.told c.erase_all.new.flash in
    let n = g.D.Flash.told c.write_bank.new.flash in
    let enough = bank_within L c.rows-rows.ensures.fit in
    let high = 4096 * (8 + slot_total L.rows) in
    let now = ap (λ (t : Told). t.now) (c.barrier.ensures.content tells) ∙ now_settled c.barrier.result n in
    let all : Erased 0 (4096 * blocks_needed L) m.now = subst (λ (k : ℕ). Erased 0 (4096 * k) m.now) c.blocks-2.ensures (c.in_ok-erase_all.ensures.erased tells) in
    record {
      bytes = λ file told.
          let there = subst (λ (es : List Entry). AllStand (length L.rows) L file es n.now) c.as_slice.ensures (c.in_ok-write_bank.ensures.bytes tells file told) in
          subst (AllStand (length L.rows) L file c.args.plan.now.entries) (sym now) there;
      blank = subst (IsBlank L) (sym now) (record {
        front = erased_stays 12288 32768 32768 high m n (inl (omega arith)) (c.write_bank.ensures.writes.keeps tells) (λ i above below. all i (omega arith) (omega (arith, below, enough)));
        banks = erased_stays high (4096 * blocks_needed L) 32768 high m n (inr (omega arith)) (c.write_bank.ensures.writes.keeps tells) (λ i above below. all i (omega arith) below);
      });
      clean = subst NothingDirty (sym (c.in_ok-barrier.ensures.content tells)) (settle-fresh n);
    }

pub returns-in_err-write_bank-clause-clears : goal.returns-in_err-write_bank-clause-clears
returns-in_err-write_bank-clause-clears g c =
    let p = (goal.at.returns-in_err-write_bank-clause-clears g c).After-write_bank in
    record { only = only g p; first = λ tells. inr (bare g p tells) }

pub returns-in_err-barrier-clause-clears : goal.returns-in_err-barrier-clause-clears
returns-in_err-barrier-clause-clears g c =
    let p = (goal.at.returns-in_err-barrier-clause-clears g c).After-write_bank in
    let s = g.D.Flash.told c.args.flash.now in
    record {
      only = λ tells. subst (OnlyErased s) (sym (c.barrier.ensures.content tells)) (only_settled c.barrier.result s (told_then g p) (only g p tells));
      first = λ tells. inr (subst IsBare (sym (c.barrier.ensures.content tells)) (bare_settled c.barrier.result (told_then g p) (bare g p tells)));
    }

pub returns-clause-clears : goal.returns-clause-clears
returns-clause-clears g c =
    let p = (goal.at.returns-clause-clears g c).After-write_bank in
    let s = g.D.Flash.told c.args.flash.now in
    record {
      only = λ tells. subst (OnlyErased s) (sym (c.barrier.ensures.content tells)) (only_settled c.barrier.result s (told_then g p) (only g p tells));
      first = λ tells. inr (subst IsBare (sym (c.barrier.ensures.content tells)) (bare_settled c.barrier.result (told_then g p) (bare g p tells)));
    }

pub returns-clause-bare : goal.returns-clause-bare
returns-clause-bare g c = λ tells.
    let p = (goal.at.returns-clause-bare g c).After-write_bank in
    subst IsBare (sym (c.barrier.ensures.content tells)) (bare_settled c.barrier.result (told_then g p) (bare g p tells))
