use Rattle.std.proofs.Common.{Some, sym}
use Rattle.fwu_formats.specs.Package.{Toc}
use Rattle.fip_making.specs.Payloads.{made_by}
use Rattle.fip_making.proofs.{Packings.gives-same, Tables.gives-err, Refusing.handed-on}
use Rattle.fip_making.proofs.Conversions.{has-items, opened-capsule, package-err, package-of}
use Rattle.fip_making.proofs.capsules.package_of_capsule.Goals as goal

pub returns-clause-whole : goal.returns-clause-whole
returns-clause-whole g c = c.package_of_items.ensures.whole _ (has-items _ _ c.args.from.now c.in_ok-toc.toc c.read_enclosed.ensures.reads.files.same (λ told e. c.in_ok-toc.ensures.told told e))

pub returns-clause-told : goal.returns-clause-told
returns-clause-told g c = λ told e.
    let o = opened-capsule told c.args.from.now c.in_ok-toc.toc (c.in_ok-toc.ensures.told told e) in
    gives-same (made_by told) _ _ _ _ c.package_of_items.result (λ r. absurd r)
    (package-of told c.args.align c.args.from.now c.in_ok-toc.toc o)
    (c.package_of_items.ensures.told told (has-items _ (Some told) c.args.from.now c.in_ok-toc.toc (sym e) (λ d k. c.in_ok-toc.ensures.told d k)))

pub returns-in_err-toc-clause-told : goal.returns-in_err-toc-clause-told
returns-in_err-toc-clause-told g c =
    rw (handed-on c.from_residual.result c.in_err-toc.field-0.0 c.from_residual.ensures.1) (λ told e.
    gives-err (λ (t : Toc). t) (made_by told) _ _ _ _ c.in_err-toc.field-0.0 (λ r. r) (package-err told c.args.align c.args.from.now _) (c.in_err-toc.ensures.told told e))
