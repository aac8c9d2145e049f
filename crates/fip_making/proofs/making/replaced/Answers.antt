use Rattle.std.proofs.Common.{◌≡◌, ◌∙◌, All, List, Option, ℕ, Some, ap, map, subst, sym}
use Rattle.std.proofs.lemmas.Result.{IfOk-weaker}
use Rattle.host_io.specs.Contents.{Directory}
use Rattle.fwu_formats.specs.Package.{Entry, Toc}
use Rattle.fip_words.specs.Order.{part_view}
use Rattle.fip_making.specs.{Payloads.HasEntry, Payloads.IsElsewhere, Payloads.file_bytes, Payloads.made_by, Payloads.part_told, Values.parts_in, declared.payloads.Payload.Payload}
use Rattle.fip_making.proofs.{Packings.there-of-files, Packings.gives-same, Repacking.replaced-value}
use Rattle.fip_making.proofs.making.replaced.Goals as goal

-- the entries' payloads, in files that stayed as they were
entries-in : (start now : Option Directory) (name : List ℕ) (es entries : List Entry) → now ≡ start → es ≡ entries → All (HasEntry start name) entries → All (HasEntry now name) es
entries-in start now name es entries same is all =
    subst (All (HasEntry now name)) (sym is) (subst (λ (o : Option Directory). All (HasEntry o name) entries) (sym same) all)

pub returns-in-Ok-clause-whole : goal.returns-in-Ok-clause-whole
returns-in-Ok-clause-whole g c =
    let entries = c.as_slice-entries.ensures ∙ ap (λ (t : Toc). t.entries) c.toc.view_is in
    let same = c.payloads_of_files.ensures.reads.files.same in
    c.repacked.ensures.whole _ (
      there-of-files _ _ c.in-Ok.new.items c.as_slice.result.now same c.as_slice.ensures.value c.in-Ok.ensures.there,
      entries-in _ _ c.args.from.now c.as_slice-entries.result.now c.args.toc.now.entries same entries c.requires,
    )

pub returns-in-Ok-clause-told : goal.returns-in-Ok-clause-told
returns-in-Ok-clause-told g c = λ told e.
    let entries = c.as_slice-entries.ensures ∙ ap (λ (t : Toc). t.entries) c.toc.view_is in
    gives-same (made_by told) _ _ _ _ c.repacked.result (λ r. absurd r)
    (replaced-value (parts_in told (map part_view c.args.named.now)) c.args.toc.now.serial c.args.toc.now.flags c.args.align (file_bytes told c.args.from.now) (map (part_told told) c.as_slice.result.now)
    (map (part_told told) c.in-Ok.new.items) c.as_slice-entries.result.now c.args.toc.now.entries (c.in-Ok.ensures.told told e) (ap (map (part_told told)) c.as_slice.ensures.value) entries)
    (c.repacked.ensures.told told (
      there-of-files _ (Some told) c.in-Ok.new.items c.as_slice.result.now (sym e) c.as_slice.ensures.value c.in-Ok.ensures.there,
      entries-in _ (Some told) c.args.from.now c.as_slice-entries.result.now c.args.toc.now.entries (sym e) entries c.requires,
    ))

pub returns-in-Ok-clause-pieces : goal.returns-in-Ok-clause-pieces
returns-in-Ok-clause-pieces g c =
    IfOk-weaker c.repacked.result _ _ (λ m none access other. none access (other.0, subst (λ (ps : List Payload). IsElsewhere ps access) (sym c.as_slice.ensures.value) (c.in-Ok.ensures.elsewhere access other.1))) c.repacked.ensures.pieces
