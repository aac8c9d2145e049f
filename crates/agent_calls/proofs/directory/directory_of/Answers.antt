use Rattle.std.proofs.Common.{◌≡◌, ℕ, ◌≤◌, ◌++◌, List, length, take, refl, ap, ◌∙◌, arith}
use Rattle.std.specs.Prelude.{flat_map}
use Rattle.base_core.specs.Bytes.{listed}
use Rattle.fwu_formats.specs.Layout.{ImageRow}
use Rattle.fwu_formats.proofs.OneSpelling.{listed-more}
use Rattle.meta_layout.proofs.Fits.{meta-fits, row-length}
use Rattle.agent_machine.specs.Fields.{directory_size}
use Rattle.agent_machine.specs.Directory.{directory_head, directory_row_by, directory_by}
use Rattle.agent_calls.proofs.Listing.{row-by, row-small}
use Rattle.agent_calls.proofs.directory.directory_of.Goals as goal

pub bit-bit-requires-clause-below : goal.bit-bit-requires-clause-below
bit-bit-requires-clause-below c =
    let fits = meta-fits c.args.layout.now c.args.meta.now.meta c.requires.fit in
    omega (arith, fits.bits, c.requires.bank)

pub bit-bit-requires-clause-within : goal.bit-bit-requires-clause-within
bit-bit-requires-clause-within c =
    let fits = meta-fits c.args.layout.now c.args.meta.now.meta c.requires.fit in
    let count : length c.rows-rows.result.now ≡ length c.args.layout.now.rows = ap (λ (l : List ImageRow). length l) c.rows-rows.ensures.value in
    omega (arith, row-length c.args.layout.now c.args.meta.now.meta c.args.bank fits c.requires.bank, count, c.loop-image-test.true)

pub overflow_mul-shown : goal.overflow_mul-shown
overflow_mul-shown c =
    let small = row-small c.args.layout.now c.rows-rows.result.now c.loop-image.image c.index-rows-image.result c.rows-rows.ensures.fit
    c.rows-rows.ensures.value c.loop-image-test.true c.index-rows-image.is in
    omega (arith, small)

pub loop-image-preserved : goal.loop-image-preserved
loop-image-preserved c = record {
  size = c.put_row-end.ensures.size ∙ c.loop-image.invariant.size;
  place = omega (arith, c.put_row-end.ensures.next_is, c.loop-image.invariant.place);
  front =
      listed-more (directory_row_by c.args.layout.now c.args.meta.now.meta c.args.bank c.args.lengths.now c.args.manifest.now) c.loop-image.image
      (directory_head c.args.layout.now c.args.bank) (take c.loop-image.end c.loop-image.out) (take c.put_row-end.result c.put_row-end.new.out)
      c.loop-image.invariant.front
      (c.put_row-end.ensures.front
      ∙ ap (λ (l : List ℕ). take c.loop-image.end c.loop-image.out ++ l)
      (row-by c.args.layout.now c.args.meta.now.meta c.args.bank c.args.lengths.now c.args.manifest.now c.loop-image.image c.index-rows-image.result
      c.rows-rows.result.now _ c.version_of-version.result c.bit-bit.result
      c.index-rows-image.is c.rows-rows.ensures.value c.loop-image-test.true refl c.version_of-version.ensures c.bit-bit.ensures));
}

pub returns-clause-spelled : goal.returns-clause-spelled
unfolding directory_by
returns-clause-spelled c =
    let L = c.args.layout.now in
    let count : length c.rows-rows.result.now ≡ length L.rows = ap (λ (l : List ImageRow). length l) c.rows-rows.ensures.value in
    let low : c.loop-image.image ≤ length c.rows-rows.result.now = c.loop-image.auto.image-end in
    let high : length c.rows-rows.result.now ≤ c.loop-image.image = c.loop-image-test.false in
    let same : c.loop-image.image ≡ length L.rows = omega (arith, count, low, high) in
    let size : directory_size (length L.rows) ≡ c.loop-image.end = omega (arith, c.loop-image.invariant.place, same) in
    ap (λ (n : ℕ). take n c.loop-image.out) size ∙ c.loop-image.invariant.front
    ∙ ap (λ (n : ℕ). directory_head L c.args.bank
    ++ flat_map (directory_row_by L c.args.meta.now.meta c.args.bank c.args.lengths.now c.args.manifest.now) (listed n (λ k. k))) same
