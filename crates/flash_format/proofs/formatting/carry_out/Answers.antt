use Rattle.std.proofs.Common.{◌≡◌, ℕ, length, ap, subst, arith, Result, Err}
use Rattle.std.specs.Prelude.{IsTrue, OnOk}
use Rattle.flash_format.specs.{Places.IsBare, Choosing.IsFilled, Stops.flash_result, declared.stops.FormatStop.FormatStop}
use Rattle.flash_format.specs.declared.stops.FormatStop.TheVariants.{ReadFailed}
use Rattle.flash_core.specs.Told.{NothingDirty}
use Rattle.flash_format.proofs.{Given.finishes_more, Stopped.handed-on}
use Rattle.flash_format.proofs.Recorded.{bare_is_unlaid, blank_stays, images_stay, in_order_before, in_order_filled}
use Rattle.flash_format.proofs.formatting.carry_out.Goals as goal

pub returns-in_err-fill-clause-failed : goal.returns-in_err-fill-clause-failed
returns-in_err-fill-clause-failed g c =
    rw (handed-on c.from_residual.result c.in_err-fill.field-0.0 c.from_residual.ensures.1) (λ is tells.
    let t = g.D.Flash.told c.fill.new.flash in
    let size = (g.met.D.Flash.sound c.fill.new.flash tells).size in
    let many = (g.met.D.Flash.sizes c.fill.new.flash).0 in
    let stop : c.in_err-fill.field-0.0 ≡ ReadFailed = cc in
    let bare = subst (λ (r : Result (Unit {0}) FormatStop). OnOk (flash_result r) (IsTrue g.D.Flash.tells → IsBare t)) (ap Err stop) c.in_err-fill.ensures.bare in
    bare_is_unlaid t (omega (arith, size, many)) (bare tells))

pub returns-clause-filled : goal.returns-clause-filled
returns-clause-filled g c =
    let L = c.args.plan.now.layout in
    let count = length L.rows in
    let entries = c.args.plan.now.entries in
    let s = g.D.Flash.told c.fill.new.flash in
    let t = g.D.Flash.told c.finish.new.flash in
    let A : Type 0 = IsTrue g.D.Flash.tells → NothingDirty s → NothingDirty t in
    let B : Type 0 = IsTrue g.D.Flash.tells → IsFilled (g.H.Files.contents c.args.files.now) c.args.name.now L entries t in
    finishes_more ℕ c.finish.result A B
    (λ clean tells.
    let keeps = c.finish.ensures.keeps tells in
    let filled = c.in_ok-fill.ensures.filled tells in
    record {
      bytes = λ file told. images_stay count L file entries s t keeps (filled.bytes file told);
      blank = blank_stays L s t keeps filled.blank;
      clean = clean tells filled.clean;
    })
    c.finish.ensures.clean

pub returns-in_err-fill-clause-ordered : goal.returns-in_err-fill-clause-ordered
returns-in_err-fill-clause-ordered g c =
    λ tells.
    let t = g.D.Flash.told c.fill.new.flash in
    let size = (g.met.D.Flash.sound c.fill.new.flash tells).size in
    let many = (g.met.D.Flash.sizes c.fill.new.flash).0 in
    in_order_before (g.V.Verifier.passes c.args.verifier.now) c.args.plan.now.layout (g.D.Flash.told c.args.flash.now) t (omega (arith, size, many)) (c.fill.ensures.clears.only tells) (c.fill.ensures.clears.first tells)

pub returns-clause-ordered : goal.returns-clause-ordered
returns-clause-ordered g c = λ tells.
    let s = g.D.Flash.told c.fill.new.flash in
    let t = g.D.Flash.told c.finish.new.flash in
    let filled = c.in_ok-fill.ensures.filled tells in
    let clean = filled.clean in
    in_order_filled (g.V.Verifier.passes c.args.verifier.now) c.args.plan.now.layout (g.D.Flash.told c.args.flash.now) s t clean (c.finish.ensures.keeps tells) filled.blank (c.finish.ensures.ordered tells clean) (c.finish.ensures.whole tells clean) (c.finish.ensures.at_most tells)
