use Rattle.std.proofs.Common.{map}
use Rattle.fwu_formats.specs.Layout.{are_distinct}
use Rattle.meta_layout.proofs.ImageRows.{apart-more, apart-not}
use Rattle.meta_layout.proofs.rows.are_apart.Goals as goal

pub loop-index-preserved : goal.loop-index-preserved
loop-index-preserved c =
    apart-more c.args.rows.now c.loop-index.index c.index-rows-index.result c.has_type.result c.loop-index-test.true
    c.index-rows-index.is
    c.has_type.ensures (are_distinct (map (λ r. r.guid) c.args.rows.now)) c.loop-index.invariant c.if-has_type.false

pub returns-then-has_type : goal.returns-then-has_type
returns-then-has_type c =
    apart-not c.args.rows.now c.loop-index.index c.index-rows-index.result c.has_type.result c.loop-index-test.true
    c.index-rows-index.is
    c.has_type.ensures (are_distinct (map (λ r. r.guid) c.args.rows.now)) c.loop-index.invariant c.if-has_type.true
