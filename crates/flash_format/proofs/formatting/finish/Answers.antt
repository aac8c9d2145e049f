use Rattle.std.proofs.Common.{inl, sym, subst, arith, rules}
use Rattle.std.specs.Prelude.{IsTrue}
use Rattle.flash_core.specs.{Told.Told, Told.NothingDirty, May.Keeps}
use Rattle.flash_core.proofs.Calls.{keeps_same}
use Rattle.flash_format.specs.Formatted.{HasAtMost, IsWholeFormat}
use Rattle.flash_format.proofs.{Recorded.bare_fresh, Recorded.bare_unlaid, Recorded.ordered_before, Stopped.handed-on}
use Rattle.flash_format.proofs.Formats.{formatted, refused, whole_after, whole_before, unlaid}
use Rattle.flash_format.proofs.formatting.finish.Given as given
use Rattle.flash_format.proofs.formatting.finish.Goals.{After-write_records}
use Rattle.flash_format.proofs.formatting.finish.Goals as goal

pub returns-in_err-version-clause-refused : goal.returns-in_err-version-clause-refused
returns-in_err-version-clause-refused g c =
    rw (handed-on c.from_residual.result c.in_err-version.field-0.0 c.from_residual.ensures.1) (λ found is tells.
    let s = g.D.Flash.told c.args.flash.now in
    let size = (g.met.D.Flash.sound c.args.flash.now tells).size in
    let many = (g.met.D.Flash.sizes c.args.flash.now).0 in
    refused (g.V.Verifier.passes c.args.verifier.now) c.args.layout.now found s (g.D.Flash.told c.check_bank.new.flash) (c.check_bank.ensures.content tells) (omega (arith, size, many)) (c.requires.erased tells)
    (c.in_err-version.ensures.found found is tells) (c.in_err-version.ensures.refuses.bad found is))

pub returns-clause-made : goal.returns-clause-made
returns-clause-made g c = record {
  passed = search rules;
  formatted =
      λ tells.
      let s = g.D.Flash.told c.args.flash.now in
      let t = g.D.Flash.told c.write_records.new.flash in
      let size = (g.met.D.Flash.sound c.args.flash.now tells).size in
      let many = (g.met.D.Flash.sizes c.args.flash.now).0 in
      let keeps = subst (λ (m : Told). Keeps 0 12288 m t) (c.check_bank.ensures.content tells) (c.write_records.ensures.writes.keeps tells) in
      formatted (g.V.Verifier.passes c.args.verifier.now) c.args.layout.now c.in_ok-version.version s t c.rows-rows.ensures.fit (omega (arith, size, many)) (c.requires.erased tells) (c.in_ok-version.ensures.good tells) keeps
      (c.in_ok-write_records.ensures.both tells) (c.in_ok-write_records.ensures.layout tells) (c.in_ok-write_records.ensures.clean tells);
  spelled = search rules;
}

pub returns-in_err-version-clause-ordered : goal.returns-in_err-version-clause-ordered
returns-in_err-version-clause-ordered g c =
    λ tells clean.
    let s = g.D.Flash.told c.args.flash.now in
    let size = (g.met.D.Flash.sound c.args.flash.now tells).size in
    let many = (g.met.D.Flash.sizes c.args.flash.now).0 in
    let keeps = subst (Keeps 4096 12288 s) (sym (c.check_bank.ensures.content tells)) (keeps_same 4096 12288 s) in
    ordered_before c.args.layout.now 4096 s (g.D.Flash.told c.check_bank.new.flash) (omega arith) (omega (arith, size, many)) (λ i above below. c.requires.erased tells i above (omega (arith, below))) clean keeps

pub returns-in_err-version-clause-whole : goal.returns-in_err-version-clause-whole
returns-in_err-version-clause-whole g c =
    λ tells clean.
    let L = c.args.layout.now in
    let passes = g.V.Verifier.passes c.args.verifier.now in
    let s = g.D.Flash.told c.args.flash.now in
    let size = (g.met.D.Flash.sound c.args.flash.now tells).size in
    let many = (g.met.D.Flash.sizes c.args.flash.now).0 in
    let bare = bare_fresh s (λ i above below. c.requires.erased tells i above (omega (arith, below))) clean in
    subst (IsWholeFormat passes L) (sym (c.check_bank.ensures.content tells)) (whole_before passes L s (λ image may. bare_unlaid s image (omega (arith, size, many)) bare may))

module _ (g : given.Over) (c : After-write_records g) where
  whole : IsTrue g.D.Flash.tells → NothingDirty (g.D.Flash.told c.args.flash.now) → IsWholeFormat (g.V.Verifier.passes c.args.verifier.now) c.args.layout.now (g.D.Flash.told c.write_records.new.flash)
  whole tells clean =
      let s = g.D.Flash.told c.args.flash.now in
      let t = g.D.Flash.told c.write_records.new.flash in
      let same = c.check_bank.ensures.content tells in
      let size = (g.met.D.Flash.sound c.args.flash.now tells).size in
      let many = (g.met.D.Flash.sizes c.args.flash.now).0 in
      whole_after (g.V.Verifier.passes c.args.verifier.now) c.args.layout.now c.in_ok-version.version s t c.rows-rows.ensures.fit (omega (arith, size, many)) (c.requires.erased tells) clean (c.in_ok-version.ensures.good tells)
      (subst (λ (m : Told). Keeps 0 12288 m t) same (c.write_records.ensures.writes.keeps tells)) (c.write_records.ensures.ordered tells (subst NothingDirty (sym same) clean))

pub returns-in_err-write_records-clause-whole : goal.returns-in_err-write_records-clause-whole
returns-in_err-write_records-clause-whole g c = whole g (goal.at.returns-in_err-write_records-clause-whole g c).After-write_records

pub returns-clause-whole : goal.returns-clause-whole
returns-clause-whole g c = whole g (goal.at.returns-clause-whole g c).After-write_records

pub returns-in_err-version-clause-at_most : goal.returns-in_err-version-clause-at_most
returns-in_err-version-clause-at_most g c =
    λ tells.
    let s = g.D.Flash.told c.args.flash.now in
    let size = (g.met.D.Flash.sound c.args.flash.now tells).size in
    let many = (g.met.D.Flash.sizes c.args.flash.now).0 in
    subst (λ (u : Told). HasAtMost c.args.layout.now u.now) (sym (c.check_bank.ensures.content tells)) (inl (unlaid s.now (omega (arith, size, many)) (λ i above below. c.requires.erased tells i above (omega (arith, below)))))
