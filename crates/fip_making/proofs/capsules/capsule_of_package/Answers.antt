use Rattle.std.proofs.Common.{◌∙◌, [], List, Some, ap, map, subst, sym}
use Rattle.std.specs.List.{All}
use Rattle.fwu_formats.specs.Package.{Entry, Toc}
use Rattle.fip_making.specs.{Payloads.HasEntry, Payloads.file_bytes, Payloads.made_by, Values.enclose_value, Values.kept_part}
use Rattle.fip_making.proofs.{Packings.gives-same, Repacking.has-entries, Repacking.opened, Tables.gives-err, Refusing.handed-on}
use Rattle.fip_making.proofs.Conversions.{capsule-err, capsule-of}
use Rattle.fip_making.proofs.capsules.capsule_of_package.Goals as goal

pub returns-clause-whole : goal.returns-clause-whole
returns-clause-whole g c =
    let entries = c.as_slice.ensures ∙ ap (λ (t : Toc). t.entries) c.toc.view_is in
    c.capsule_of_entries.ensures.whole _ (subst (All (HasEntry (g.H.Files.contents c.table_with.new.files) c.args.from.now)) (sym entries)
    (has-entries _ _ c.args.from.now [] c.in_ok-toc.toc c.table_with.ensures.reads.files.same (λ told e. c.in_ok-toc.ensures.told told e)))

pub returns-clause-told : goal.returns-clause-told
returns-clause-told g c = λ told e.
    let o = opened told c.args.from.now [] c.in_ok-toc.toc (c.in_ok-toc.ensures.told told e) in
    let entries = c.as_slice.ensures ∙ ap (λ (t : Toc). t.entries) c.toc.view_is in
    gives-same (made_by told) _ _ _ _ c.capsule_of_entries.result (λ r. absurd r)
    (capsule-of told c.args.from.now c.in_ok-toc.toc o ∙ ap (λ (es : List Entry). enclose_value (map (kept_part (file_bytes told c.args.from.now)) es)) (sym entries))
    (c.capsule_of_entries.ensures.told told (subst (All (HasEntry (Some told) c.args.from.now)) (sym entries)
    (has-entries _ (Some told) c.args.from.now [] c.in_ok-toc.toc (sym e) (λ d k. c.in_ok-toc.ensures.told d k))))

pub returns-in_err-toc-clause-told : goal.returns-in_err-toc-clause-told
returns-in_err-toc-clause-told g c =
    rw (handed-on c.from_residual.result c.in_err-toc.field-0.0 c.from_residual.ensures.1) (λ told e.
    gives-err (λ (t : Toc). t) (made_by told) _ _ _ _ c.in_err-toc.field-0.0 (λ r. r) (capsule-err told c.args.from.now _) (c.in_err-toc.ensures.told told e))
