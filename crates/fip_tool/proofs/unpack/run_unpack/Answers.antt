use Rattle.std.proofs.Common.{◌≡◌, ◌∙◌, ◌≤◌, ◌+◌, ℕ, All, List, ap, filter, length, map, subst, sym, refl, Some}
use Rattle.std.specs.Prelude.{◌==◌, ◌||◌}
use Rattle.fwu_formats.specs.Package.{Entry, Toc}
use Rattle.fip_words.specs.Order.{unpack}
use Rattle.fip_tool.specs.{Lines.unpacked_line, Wrote.IsTexts, Done.DidIn, Steps.Makes}
use Rattle.fip_tool.specs.Tool.{chosen, unpack_steps, unpack_value}
use Rattle.fip_making.specs.Values.{has_type_among}
use Rattle.fip_tool.proofs.{Did.made-steps, Did.refused, WritingLemmas.tears-since, WroteLemmas.texts-behind}
use Rattle.fip_tool.proofs.DoneBy.{done-texts, done-unread}
use Rattle.fip_tool.proofs.UnpackLemmas.{none-for-chosen, unpack-err, unpack-of, chosen-filter}
use Rattle.fip_making.proofs.{Refusing.late-of-entries, Refusing.handed-on, Tables.gives-err, Tables.rose-still}
use Rattle.fip_making.proofs.Repacking.{opened, stored-of, there-of}
use Rattle.fip_tool.proofs.unpack.run_unpack.Goals as goal

pub unpack_entries-requires-clause-stored : goal.unpack_entries-requires-clause-stored
unpack_entries-requires-clause-stored g c = λ bytes tells.
    subst (λ (l : List Entry). All (λ e. e.offset + e.size ≤ length bytes) l) (sym (c.as_slice-entries.ensures ∙ ap (λ (t : Toc). t.entries) c.toc.view_is))
    (stored-of _ _ c.args.from.now c.args.names.now c.in_ok-toc.toc c.table_with.ensures.reads.files.same (λ told e. c.in_ok-toc.ensures.told told e) bytes tells)

pub unpack_entries-requires-clause-there : goal.unpack_entries-requires-clause-there
unpack_entries-requires-clause-there g c = there-of _ _ c.args.from.now c.args.names.now c.in_ok-toc.toc c.table_with.ensures.reads.files.same (λ told e. c.in_ok-toc.ensures.told told e)

pub returns-in_err-toc : goal.returns-in_err-toc
returns-in_err-toc g c =
    let e = c.in_err-toc.ensures in
    rw (handed-on c.from_residual.result c.in_err-toc.field-0.0 c.from_residual.ensures.1) (done-unread c.in_err-toc.field-0.0 e.reads (λ access other. other.0) (λ refuses access other. e.reads.files.spares access other)
    (λ told is.
    refused (λ v. unpack_steps c.args.prefix.now v.0 v.1) (λ (v : List ℕ × List Entry). v) (unpack_value told c.args.from.now c.args.names.now) told _ _ _ _ _ _ c.in_err-toc.field-0.0
    (gives-err (λ (t : Toc). t) (λ (v : List ℕ × List Entry). v) _ _ _ _ c.in_err-toc.field-0.0 (λ r. r) (unpack-err told c.args.from.now c.args.names.now c.in_err-toc.field-0.0) (e.told told is))
    (e.reads.files.same ∙ is) refl)
    e.reads.refusals.0)

pub returns : goal.returns
returns g c =
    let read = c.in_ok-toc.ensures in
    let put = c.unpack_entries.ensures in
    let same = chosen-filter c.args.names.now c.as_slice-entries.result.now ∙ ap (chosen c.args.names.now) (c.as_slice-entries.ensures ∙ ap (λ (t : Toc). t.entries) c.toc.view_is) in
    done-texts (texts-behind (λ texts. texts ≡ map (unpacked_line c.args.prefix.now) (filter (λ e. (length c.args.names.now == 0) || has_type_among c.args.names.now e) c.as_slice-entries.result.now))
    (IsTexts (Some (unpack c.args.from.now c.args.prefix.now c.args.names.now)))
    (λ texts t. (c.in_ok-toc.toc, read.table, read.all, t ∙ ap (map (unpacked_line c.args.prefix.now)) same)) read.reads.only.quiet c.table_with.ensures.reads.files.unwritten put.texts)
    (λ w. w) late-of-entries
    (λ told is.
    let o = opened told c.args.from.now c.args.names.now c.in_ok-toc.toc (read.told told is) in
    made-steps (λ v. unpack_steps c.args.prefix.now v.0 v.1) _ _ told _ _ _ _ _ _ _ _ c.unpack_entries.result (unpack-of told c.args.from.now c.args.names.now c.in_ok-toc.toc o) (λ r. rose-still _ _ _ (sym read.reads.only.quiet) r)
    (λ r. tears-since (g.H.Files.writes c.unpack_entries.new.files) c.table_with.ensures.reads.files.unwritten r)
    (subst (λ (l : List Entry). DidIn g.H.Files g.O.Sink (Makes (unpack_steps c.args.prefix.now o.bytes l)) told c.table_with.new.files c.unpack_entries.new.files c.args.sink.now c.unpack_entries.new.sink c.unpack_entries.result)
    same (put.told told o.bytes (c.table_with.ensures.reads.files.same ∙ is) o.is)))
    (λ access other. g.met.H.Files.joins _ _ _ access (c.table_with.ensures.reads.files.spares access other.0) (put.spares access other.0 (none-for-chosen c.args.prefix.now c.args.names.now c.in_ok-toc.toc.entries _ access same other.1)))
