use Rattle.std.proofs.Common.{◌∙◌, ◌≢◌, Bool, List, ap, length, map, sym}
use Rattle.std.specs.Prelude.{filter, not}
use Rattle.fwu_formats.specs.Package.{Entry, Part, Toc}
use Rattle.host_io.specs.Access.{Asks}
use Rattle.fip_making.specs.Payloads.{HasEntry, IsThere, file_bytes, part_told}
use Rattle.fip_making.specs.Values.{has_type_among, pack_value}
use Rattle.fip_making.proofs.{Makings.makes-as, Packings.none-there, Repacking.kept-all, Repacking.kept-updated}
use Rattle.fip_making.proofs.making.without.Goals as goal

pub returns : goal.returns
returns c =
    let is-kept : Entry → Bool = λ e. not (has_type_among c.args.guids.now e) in
    let kept = c.as_slice-2.ensures.value ∙ c.in_ok-kept.ensures ∙ ap (filter is-kept) (c.as_slice.ensures ∙ ap (λ (t : Toc). t.entries) c.toc.view_is) in
    let none = c.as_slice-3.ensures.value ∙ c.new-none.ensures.items in
    makes-as (λ told has. (none-there (IsThere told) c.as_slice-3.result.now none, kept-all (HasEntry told c.args.from.now) is-kept c.args.toc.now.entries c.as_slice-2.result.now kept has))
    (λ access other. (other, none-there (λ p. access ≢ Asks p.file.now) c.as_slice-3.result.now none))
    (λ told has. ap (λ (ps : List Part). pack_value c.args.toc.now.serial c.args.toc.now.flags ps c.args.align)
    (kept-updated (file_bytes told c.args.from.now) (map (part_told told) c.as_slice-3.result.now) c.as_slice-2.result.now (filter is-kept c.args.toc.now.entries) kept (ap (map (part_told told)) none)))
    (sym (ap length kept)) c.repacked.ensures
