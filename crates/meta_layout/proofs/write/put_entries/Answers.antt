use Rattle.std.proofs.Common.{◌≡◌, ◌+◌, ◌<◌, ◌++◌, List, length, take, ap, ◌∙◌, arith}
use Rattle.fwu_formats.specs.{Layout.ImageRow, Metadata.entry_bytes}
use Rattle.fwu_formats.proofs.OneSpelling.{listed-more}
use Rattle.meta_layout.proofs.Writes.{has-bits, entry-bytes}
use Rattle.meta_layout.proofs.write.put_entries.Goals as goal

pub put_entry-end-requires-clause-bits : goal.put_entry-end-requires-clause-bits
put_entry-end-requires-clause-bits c =
    let rows : length c.rows-rows.result.now ≡ length c.args.layout.now.rows = ap (λ (l : List ImageRow). length l) c.rows-rows.ensures.value in
    let below : c.loop-image.image < length c.rows-rows.result.now = c.loop-image-test.true in
    has-bits c.args.layout.now c.args.meta.now.meta c.loop-image.image c.banks-banks.result c.requires.fit c.banks-banks.ensures.value (omega (arith, rows, below))

pub loop-image-preserved : goal.loop-image-preserved
loop-image-preserved c = record {
  place = omega (arith, c.put_entry-end.ensures.next_is, c.loop-image.invariant.place);
  front = listed-more (entry_bytes c.args.layout.now c.args.meta.now.meta) c.loop-image.image (take c.args.at c.args.out.now) (take c.loop-image.end c.loop-image.out) (take c.put_entry-end.result c.put_entry-end.new.out)
      c.loop-image.invariant.front
      (c.put_entry-end.ensures.front
      ∙ ap (λ l. take c.loop-image.end c.loop-image.out ++ l)
      (entry-bytes c.args.layout.now c.args.meta.now.meta c.loop-image.image c.index-rows-image.result c.rows-rows.result.now c.banks-banks.result
      c.index-rows-image.is c.rows-rows.ensures.value c.loop-image-test.true c.banks-banks.ensures.value));
}
