use Rattle.std.proofs.Common.{◌≡◌, ◌⊎◌, inl, inr, ℕ, ◌+◌, ◌*◌, ◌<◌, ◌≤◌, length, slice_range, ◌∙◌, ap, sym, subst, arith, rules}
use Rattle.std.proofs.lemmas.Bool.{cases_lt}
use Rattle.std.specs.Prelude.{IsTrue, IsFalse}
use Rattle.flash_core.specs.Told.{Told}
use Rattle.base_core.specs.Block.{granule}
use Rattle.fwu_formats.specs.Image.{is_blank}
use Rattle.marks_core.proofs.Counting.{granule_read, marks_is, marks_all}
use Rattle.marks_core.proofs.marks.count.Goals as goal

pub returns-then-all_erased-clause-marks : goal.returns-then-all_erased-clause-marks
returns-then-all_erased-clause-marks g c tells =
    let s = g.D.Flash.told c.args.flash.now in
    let place = c.loop-place.place in
    let read = subst (λ (t : Told). c.read.new.out ≡ slice_range t.now (4096 * c.args.block + 16 * place) (4096 * c.args.block + 16 * place + length c.loop-place.bytes)) (c.loop-place.invariant.reads.content tells) (c.in_ok-read.ensures.bytes tells) in
    let bytes : c.read.new.out ≡ granule c.args.block place s.now = granule_read c.args.block place (length c.loop-place.bytes) s.now c.read.new.out c.loop-place.invariant.size read in
    sym (marks_is s.now c.args.block c.args.limit place c.loop-place-test.true (c.loop-place.invariant.marks tells) (ap is_blank (sym bytes) ∙ sym c.all_erased.ensures ∙ c.if-all_erased.true))

pub loop-place-preserved : goal.loop-place-preserved
loop-place-preserved g c = record {
  reads = search rules;
  size = search rules;
  marks = λ tells k lt. upto tells k (cases_lt k c.loop-place.place) lt;
}
  where
    upto : IsTrue g.D.Flash.tells → (k : ℕ) → (k < c.loop-place.place) ⊎ (c.loop-place.place ≤ k) → k < c.loop-place.place + 1 → IsFalse (is_blank (granule c.args.block k (g.D.Flash.told c.args.flash.now).now))
    upto tells k (inl below) lt = c.loop-place.invariant.marks tells k below
    upto tells k (inr above) lt =
        let s = g.D.Flash.told c.args.flash.now in
        let place = c.loop-place.place in
        let read = subst (λ (t : Told). c.read.new.out ≡ slice_range t.now (4096 * c.args.block + 16 * place) (4096 * c.args.block + 16 * place + length c.loop-place.bytes)) (c.loop-place.invariant.reads.content tells) (c.in_ok-read.ensures.bytes tells) in
        let bytes : c.read.new.out ≡ granule c.args.block place s.now = granule_read c.args.block place (length c.loop-place.bytes) s.now c.read.new.out c.loop-place.invariant.size read in
        let here : place ≡ k = omega arith in
        subst (λ j. IsFalse (is_blank (granule c.args.block j s.now))) here (ap is_blank (sym bytes) ∙ sym c.all_erased.ensures ∙ c.if-all_erased.false)

pub returns-clause-marks : goal.returns-clause-marks
returns-clause-marks g c tells = sym (marks_all (g.D.Flash.told c.args.flash.now).now c.args.block c.args.limit (λ k lt. c.loop-place.invariant.marks tells k (omega arith)))
