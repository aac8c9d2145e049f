use Rattle.std.proofs.Common.{List, subst}
use Rattle.fwu_formats.specs.Layout.{ImageRow}
use Rattle.fip_tables.specs.Images.{AreImages}
use Rattle.flash_format.proofs.Plans.{plan_from}
use Rattle.flash_format.proofs.planning.plan_of.Goals as goal

pub returns-clause-plans : goal.returns-clause-plans
returns-clause-plans g c =
    let toc = c.in_ok-toc.toc in
    let chosen = subst (λ (rows : List ImageRow). AreImages rows toc c.in_ok-entries.entries) c.rows.ensures.value c.in_ok-entries.ensures in
    plan_from _ c.args.name.now c.args.layout toc c.in_ok-entries.entries chosen c.in_ok-toc.ensures.ends c.in_ok-toc.ensures.told c.in_ok-toc.ensures.there
