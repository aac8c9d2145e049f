use Rattle.std.proofs.Common.{◌∙◌, ap, sym}
use Rattle.std.proofs.lemmas.Result.{IfOk-weaker}
use Rattle.host_io.proofs.Reading.{reads-wider}
use Rattle.fwu_formats.specs.Package.{Toc}
use Rattle.fip_making.specs.{Payloads.made_by, Values.first_missing}
use Rattle.fip_making.proofs.{Packings.gives-same, Tables.gives-err, Tables.rose-from, ReadsBy.alone-then}
use Rattle.fip_making.proofs.{ReadsBy.alone-wider, Refusing.packing-as, Refusing.late-of-entries, Refusing.handed-on}
use Rattle.fip_making.proofs.Repacking.{has-entries, opened, types-are, update-err, update-of}
use Rattle.fip_making.proofs.making.updated.Goals as goal

pub replaced-requires : goal.replaced-requires
replaced-requires g c = has-entries _ _ c.args.from.now c.as_slice.result.now c.in_ok-toc.toc c.table_with.ensures.reads.files.same (λ told e. c.in_ok-toc.ensures.told told e)

pub returns-clause-told : goal.returns-clause-told
returns-clause-told g c = λ told e.
    let o = opened told c.args.from.now c.as_slice.result.now c.in_ok-toc.toc (c.in_ok-toc.ensures.told told e) in
    gives-same (made_by told) _ _ _ _ c.replaced.result (λ r. rose-from _ _ _ c.table_with.ensures.reads.files.later r)
    (update-of told c.args.align c.args.from.now c.args.named.now c.as_slice.result.now c.in_ok-toc.toc o (c.as_slice.ensures.value ∙ c.in_ok-types.ensures))
    (c.replaced.ensures.told told (c.table_with.ensures.reads.files.same ∙ e))

pub returns-clause-count : goal.returns-clause-count
returns-clause-count g c =
    let same = types-are c.args.named.now ∙ sym (c.as_slice.ensures.value ∙ c.in_ok-types.ensures) in
    IfOk-weaker c.replaced.result _ _ (λ m e. (c.in_ok-toc.toc, c.in_ok-toc.ensures.table, ap (first_missing c.in_ok-toc.toc) same ∙ c.in_ok-toc.ensures.all, e)) c.replaced.ensures.count

pub returns-in_err-toc-clause-told : goal.returns-in_err-toc-clause-told
returns-in_err-toc-clause-told g c =
    rw (handed-on c.from_residual-in_err-toc.result c.in_err-toc.field-0.0 c.from_residual-in_err-toc.ensures.1) (λ told e.
    gives-err (λ (t : Toc). t) (made_by told) _ _ _ _ c.in_err-toc.field-0.0 (λ r. r)
    (update-err told c.args.align c.args.from.now c.args.named.now c.as_slice.result.now _ (c.as_slice.ensures.value ∙ c.in_ok-types.ensures)) (c.in_err-toc.ensures.told told e))

pub returns-clause-reads : goal.returns-clause-reads
returns-clause-reads g c =
    alone-then g.met.H.Files.joins (reads-wider g.H.Files _ _ (λ access other. other.0) _ _ c.table_with.ensures.reads.files) c.in_ok-toc.ensures.reads.only.quiet (packing-as late-of-entries)
    (alone-wider (λ access other. other.1) c.replaced.ensures.reads)
