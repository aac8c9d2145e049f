use Rattle.std.proofs.Common.{◌+◌, ap, arith}
use Rattle.fwu_formats.specs.Package.{Entry}
use Rattle.fip_tables.proofs.Filled.{next-ends}
use Rattle.fip_tables.proofs.frame.gaps_of.Goals as goal

pub overflow_add-end : goal.overflow_add-end
overflow_add-end c =
    let ends = next-ends c.args.entries.now c.loop-entry.end c.loop-entry.entry-index c.entry-item.result c.loop-entry-test.true c.entry-item.is c.loop-entry.invariant.order in
    omega (arith, ap (λ (e : Entry). e.offset + e.size) c.entry.view_is, ends)
