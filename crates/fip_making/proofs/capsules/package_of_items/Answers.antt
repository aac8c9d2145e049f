use Rattle.std.proofs.Common.{◌∙◌, ◌≢◌, List, ap, length, map, subst, sym}
use Rattle.std.specs.List.{All}
use Rattle.fwu_formats.specs.Package.{Part, Toc}
use Rattle.host_io.specs.Access.{Asks}
use Rattle.fip_making.specs.{Payloads.HasEntry, Payloads.IsThere, Payloads.file_bytes, Payloads.part_told, Values.pack_value}
use Rattle.fip_making.proofs.{Makings.makes-as, Packings.none-there, Repacking.kept-updated}
use Rattle.fip_making.proofs.capsules.package_of_items.Goals as goal

pub returns : goal.returns
returns c =
    let entries = c.as_slice-entries.ensures ∙ ap (λ (t : Toc). t.entries) c.toc.view_is in
    let none = c.as_slice.ensures.value ∙ c.new-none.ensures.items in
    makes-as (λ told has. (none-there (IsThere told) c.as_slice.result.now none, subst (All (HasEntry told c.args.from.now)) (sym entries) has))
    (λ access other. (other, none-there (λ p. access ≢ Asks p.file.now) c.as_slice.result.now none))
    (λ told has. ap (λ (ps : List Part). pack_value c.args.toc.now.serial c.args.toc.now.flags ps c.args.align)
    (kept-updated (file_bytes told c.args.from.now) (map (part_told told) c.as_slice.result.now) c.as_slice-entries.result.now c.args.toc.now.entries entries (ap (map (part_told told)) none)))
    (ap length (sym entries)) c.repacked.ensures
