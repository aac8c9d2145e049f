use Rattle.std.proofs.Common.{◌∙◌, List, ap, length, map, subst, sym}
use Rattle.std.specs.List.{All}
use Rattle.fwu_formats.specs.Package.{Part, Toc}
use Rattle.fip_making.specs.{Payloads.IsElsewhere, Payloads.IsThere, Payloads.part_told, Values.pack_value, declared.payloads.Payload.Payload}
use Rattle.fip_making.proofs.Makings.{makes-as}
use Rattle.fip_making.proofs.making.repacked.Goals as goal

pub returns : goal.returns
returns c =
    let all = c.as_slice.ensures.value in
    makes-as (λ told has. subst (All (IsThere told)) (sym all) (c.in-Ok.ensures.there told has))
    (λ access other. subst (λ (ps : List Payload). IsElsewhere ps access) (sym all) (c.in-Ok.ensures.elsewhere access other))
    (λ told has. ap (λ (ps : List Part). pack_value c.args.toc.now.serial c.args.toc.now.flags ps c.args.align) (sym (ap (map (part_told told)) all ∙ c.in-Ok.ensures.told told))
    ∙ ap (λ (t : Toc). pack_value t.serial t.flags (map (part_told told) c.as_slice.result.now) c.args.align) (sym c.toc.view_is))
    (sym (ap length all ∙ c.in-Ok.ensures.count)) c.packed.ensures
