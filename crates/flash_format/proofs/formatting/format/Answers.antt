use Rattle.std.proofs.Common.{◌≡◌, ◌*◌, ℕ, List, ap, sym, subst, arith, Option, Result, Ok, Err, rules}
use Rattle.host_io.proofs.Reading.{reads-then}
use Rattle.std.specs.Prelude.{IsTrue}
use Rattle.flash_core.specs.{Told.Told, May.Keeps, Touches.TouchesOnly, Counts.lowered_by}
use Rattle.host_io.specs.Contents.{Directory}
use Rattle.fwu_formats.specs.{Layout.Layout, Layout.blocks_needed, Layout.fits_layout, Package.Toc, Package.toc_of}
use Rattle.fwu_model.specs.Answer.{images_of}
use Rattle.fip_tables.specs.Files.{Tells}
use Rattle.image_check.specs.Passed.{HasPassed}
use Rattle.flash_format.specs.{Stops.FormatFinishes, declared.formatting.Formatted.Formatted, declared.stops.FormatStop.FormatStop}
use Rattle.flash_format.specs.{declared.stops.FormatStop.TheVariants.Input, declared.stops.InputFault.TheVariants.Incomplete}
use Rattle.flash_format.specs.Formatted.{asked_layout, HoldsImages, IsBlank, IsInOrder, IsRefusedFormat}
use Rattle.flash_format.specs.Choosing.{IsFilled, FormatTakes, writes_to_format}
use Rattle.flash_format.proofs.{Formats.not_refused, Taking.pieces_fit, Stopped.handed-on}
use Rattle.flash_format.proofs.Given.{IsFitted, fitted_is, hold_given, finishes_err}
use Rattle.flash_format.proofs.formatting.format.Given as given
use Rattle.flash_format.proofs.formatting.format.Goals.{After-carry_out}
use Rattle.flash_format.proofs.formatting.format.Goals as goal

pub carry_out-requires-clause-ready : goal.carry_out-requires-clause-ready
carry_out-requires-clause-ready g c =
    let inside = (fitted_is (asked_layout c.args.banks c.args.rows.now) c.blocks-2.result c.in_ok-plan.plan.layout c.in_ok-plan.ensures.fits).inside in
    record { on = search rules; room = omega (arith, inside, c.blocks-2.ensures) }

module _ (g : given.Over) (c : After-carry_out g) where
  -- the layout that was asked for, and that of the plan, which is the same
  abbrev L : Layout
  L = asked_layout c.args.banks c.args.rows.now

  abbrev K : Layout
  K = c.in_ok-plan.plan.layout

  abbrev told_then : Told
  told_then = g.D.Flash.told c.carry_out.new.flash

  fit : IsFitted L c.blocks-2.result K
  fit = fitted_is L c.blocks-2.result K c.in_ok-plan.ensures.fits

  abbrev Filled : Type 0
  Filled = IsTrue g.D.Flash.tells → IsFilled (g.H.Files.contents c.plan.new.files) c.args.name.now K c.in_ok-plan.plan.entries told_then

  images : Filled → IsTrue g.D.Flash.tells → (file : List ℕ) (toc : Toc) → Tells (g.H.Files.contents c.args.files.now) c.args.name.now file → toc_of file ≡ Ok toc → HoldsImages L (images_of L.rows file toc) told_then.now
  images filled tells file toc told has =
      let size = (g.met.D.Flash.sound c.carry_out.new.flash tells).size in
      let here : Tells (g.H.Files.contents c.plan.new.files) c.args.name.now file = subst (λ (d : Option Directory). Tells d c.args.name.now file) (sym c.plan.ensures.reads.files.same) told in
      hold_given (g.H.Files.contents c.args.files.now) c.args.name.now L K c.blocks-2.result file toc c.in_ok-plan.plan.entries told_then.now fit (omega (arith, size, c.carry_out.ensures.goes.size, c.blocks-2.ensures))
      c.in_ok-plan.ensures.plans told has ((filled tells).bytes file here)

  blank : Filled → IsTrue g.D.Flash.tells → IsBlank L told_then.now
  blank filled tells = subst (λ (l : Layout). IsBlank l told_then.now) fit.is (filled tells).blank

  keeps : IsTrue g.D.Flash.tells → Keeps 0 (4096 * blocks_needed L) (g.D.Flash.told c.args.flash.now) told_then
  keeps tells = subst (λ (l : Layout). Keeps 0 (4096 * blocks_needed l) (g.D.Flash.told c.args.flash.now) told_then) fit.is (c.carry_out.ensures.keeps tells)

  touched : TouchesOnly 0 (4096 * blocks_needed L) (g.D.Flash.writes c.args.flash.now) (g.D.Flash.writes c.carry_out.new.flash)
  touched = subst (λ (l : Layout). TouchesOnly 0 (4096 * blocks_needed l) (g.D.Flash.writes c.args.flash.now) (g.D.Flash.writes c.carry_out.new.flash)) fit.is c.carry_out.ensures.touches

  ordered : IsTrue g.D.Flash.tells → IsInOrder (g.V.Verifier.passes c.args.verifier.now) L (g.D.Flash.told c.args.flash.now) told_then
  ordered tells = subst (λ (l : Layout). IsInOrder (g.V.Verifier.passes c.args.verifier.now) l (g.D.Flash.told c.args.flash.now) told_then) fit.is (c.carry_out.ensures.ordered tells)

  takes : (records : ℕ) → g.D.Flash.arming c.carry_out.new.flash ≡ lowered_by (writes_to_format K c.in_ok-plan.plan.entries records) (g.D.Flash.arming c.args.flash.now)
      → FormatTakes (g.H.Files.contents c.args.files.now) c.args.name.now K records (g.D.Flash.arming c.args.flash.now) (g.D.Flash.arming c.carry_out.new.flash)
  takes records taken =
      let plans = c.in_ok-plan.ensures.plans in
      record { entries = c.in_ok-plan.plan.entries; few = pieces_fit K.rows c.in_ok-plan.plan.entries plans.count plans.fit; exact = plans.chosen; taken = taken }

pub returns-in_err-version-clause-refused : goal.returns-in_err-version-clause-refused
returns-in_err-version-clause-refused g c =
    rw (handed-on c.from_residual-in_err-version.result c.in_err-version.field-0.0 c.from_residual-in_err-version.ensures.1)
    (λ found is tells.
    let p = (goal.at.returns-in_err-version-clause-refused g c).After-carry_out in
    let stop : c.in_err-version.field-0.0 ≡ Input (Incomplete found) = cc in
    subst (λ (l : Layout). IsRefusedFormat (g.V.Verifier.passes c.args.verifier.now) l found (told_then g p).now) (fit g p).is (c.in_err-version.ensures.refused found (ap Err stop) tells))

pub returns-in_err-version-clause-images : goal.returns-in_err-version-clause-images
returns-in_err-version-clause-images g c =
    rw (handed-on c.from_residual-in_err-version.result c.in_err-version.field-0.0 c.from_residual-in_err-version.ensures.1) (
    let p = (goal.at.returns-in_err-version-clause-images g c).After-carry_out in
    finishes_err ℕ Formatted c.in_err-version.field-0.0 (Filled g p) _ (images g p) c.in_err-version.ensures.filled)

pub returns-in_err-version-clause-deserved : goal.returns-in_err-version-clause-deserved
returns-in_err-version-clause-deserved g c =
    rw (handed-on c.from_residual-in_err-version.result c.in_err-version.field-0.0 c.from_residual-in_err-version.ensures.1)
    (λ found is tells file toc told has complete passed.
    let p = (goal.at.returns-in_err-version-clause-deserved g c).After-carry_out in
    let passes = g.V.Verifier.passes c.args.verifier.now in
    let stop : c.in_err-version.field-0.0 ≡ Input (Incomplete found) = cc in
    let end : ◌≡◌ {A = Result ℕ FormatStop} (Err c.in_err-version.field-0.0) (Err (Input (Incomplete found))) = ap Err stop in
    let refused = subst (λ (l : Layout). IsRefusedFormat passes l found (told_then g p).now) (fit g p).is (c.in_err-version.ensures.refused found end tells) in
    let filled = subst (λ (r : Result ℕ FormatStop). FormatFinishes r (Filled g p)) end c.in_err-version.ensures.filled in
    not_refused passes (L g p) found (images_of (L g p).rows file toc) (told_then g p).now (subst (λ (l : Layout). IsTrue (fits_layout l)) (fit g p).is (fit g p).fits) refused (images g p filled tells file toc told has) complete passed)

pub returns-in_err-version-clause-keeps : goal.returns-in_err-version-clause-keeps
returns-in_err-version-clause-keeps g c = keeps g (goal.at.returns-in_err-version-clause-keeps g c).After-carry_out

pub returns-clause-images : goal.returns-clause-images
returns-clause-images g c = images g (goal.at.returns-clause-images g c).After-carry_out c.in_ok-version.ensures.filled

pub returns-clause-keeps : goal.returns-clause-keeps
returns-clause-keeps g c = keeps g (goal.at.returns-clause-keeps g c).After-carry_out

pub returns-in_err-version-clause-touches : goal.returns-in_err-version-clause-touches
returns-in_err-version-clause-touches g c = touched g (goal.at.returns-in_err-version-clause-touches g c).After-carry_out

pub returns-clause-touches : goal.returns-clause-touches
returns-clause-touches g c = touched g (goal.at.returns-clause-touches g c).After-carry_out

pub returns-in_err-version-clause-blank : goal.returns-in_err-version-clause-blank
returns-in_err-version-clause-blank g c =
    rw (handed-on c.from_residual-in_err-version.result c.in_err-version.field-0.0 c.from_residual-in_err-version.ensures.1) (
    let p = (goal.at.returns-in_err-version-clause-blank g c).After-carry_out in
    finishes_err ℕ Formatted c.in_err-version.field-0.0 (Filled g p) _ (blank g p) c.in_err-version.ensures.filled)

pub returns-clause-blank : goal.returns-clause-blank
returns-clause-blank g c = blank g (goal.at.returns-clause-blank g c).After-carry_out c.in_ok-version.ensures.filled

pub returns-in_err-version-clause-ordered : goal.returns-in_err-version-clause-ordered
returns-in_err-version-clause-ordered g c = ordered g (goal.at.returns-in_err-version-clause-ordered g c).After-carry_out

pub returns-clause-ordered : goal.returns-clause-ordered
returns-clause-ordered g c = ordered g (goal.at.returns-clause-ordered g c).After-carry_out

pub returns-clause-spent : goal.returns-clause-spent
returns-clause-spent g c = takes g (goal.at.returns-clause-spent g c).After-carry_out 3 c.in_ok-version.ensures.spent

pub returns-in_err-version-clause-worn : goal.returns-in_err-version-clause-worn
returns-in_err-version-clause-worn g c =
    rw (handed-on c.from_residual-in_err-version.result c.in_err-version.field-0.0 c.from_residual-in_err-version.ensures.1)
    (λ found is.
    let p = (goal.at.returns-in_err-version-clause-worn g c).After-carry_out in
    let stop : c.in_err-version.field-0.0 ≡ Input (Incomplete found) = cc in
    subst (λ (l : Layout). FormatTakes (g.H.Files.contents c.args.files.now) c.args.name.now l 0 (g.D.Flash.arming c.args.flash.now) (g.D.Flash.arming c.carry_out.new.flash))
    (fit g p).is (takes g p 0 (c.in_err-version.ensures.worn found (ap Err stop))))

pub returns-in_err-version-clause-refuses : goal.returns-in_err-version-clause-refuses
returns-in_err-version-clause-refuses g c =
    let p = (goal.at.returns-in_err-version-clause-refuses g c).After-carry_out in
    record {
      bad =
          rw (handed-on c.from_residual-in_err-version.result c.in_err-version.field-0.0 c.from_residual-in_err-version.ensures.1)
          (λ found is.
          let stop : c.in_err-version.field-0.0 ≡ Input (Incomplete found) = cc in
          c.in_err-version.ensures.refuses.bad found (ap Err stop));
      seen =
          rw (handed-on c.from_residual-in_err-version.result c.in_err-version.field-0.0 c.from_residual-in_err-version.ensures.1)
          (λ found is.
          let stop : c.in_err-version.field-0.0 ≡ Input (Incomplete found) = cc in
          subst (λ (l : Layout). HasPassed (g.V.Verifier.passes c.args.verifier.now) l.rows 0 found) (fit g p).is (c.in_err-version.ensures.refuses.seen found (ap Err stop)));
    }

pub returns-in_err-version-clause-reads : goal.returns-in_err-version-clause-reads
returns-in_err-version-clause-reads g c = record {
  files = reads-then g.H.Files _ g.met.H.Files.joins _ _ _ c.plan.ensures.reads.files c.carry_out.ensures.reads.files;
  once = search rules;
  cause = search rules;
}

pub returns-clause-reads : goal.returns-clause-reads
returns-clause-reads g c = record {
  files = reads-then g.H.Files _ g.met.H.Files.joins _ _ _ c.plan.ensures.reads.files c.carry_out.ensures.reads.files;
  once = search rules;
  cause = search rules;
}
