use Rattle.std.proofs.Common.{◌∙◌}
use Rattle.host_io.proofs.Reading.{reads-then as reads-after}
use Rattle.fip_making.proofs.ReadsBy.{alone-done, alone-then, reads-no-table}
use Rattle.fip_making.proofs.Tables.{gives-err, size-err, sized, table-ok, table-stop, tells}
use Rattle.fip_making.proofs.Refusing.{handed-on, toc-needs-none, toc-of-package}
use Rattle.fip_making.specs.{Stops.IsPackageStop, Stops.Unstarved, Stops.stop_of_table}
use Rattle.fwu_formats.proofs.Tables.{ends-below}
use Rattle.fip_making.proofs.table.read_package.Goals as goal

pub returns-in_err-size-clause-told : goal.returns-in_err-size-clause-told
returns-in_err-size-clause-told g c =
    rw (handed-on c.from_residual.result c.in_err-size.field-0.0 c.from_residual.ensures.1) (λ told e.
    gives-err (λ n. n) (λ t. t) _ _ _ _ c.in_err-size.field-0.0 (λ r. r) (size-err told c.args.name.now _) (c.in_err-size.ensures.told told e))

pub returns-clause-told : goal.returns-clause-told
returns-clause-told g c = λ told e.
    let s = sized told c.args.name.now c.in_ok-size.size (c.in_ok-size.ensures.told told e) in
    let is = c.in_ok-toc.ensures.told s.0 (tells _ told c.args.name.now s.0 (c.size_of.ensures.reads.files.same ∙ e) s.1) in
    table-ok told c.args.name.now s.0 c.in_ok-size.size c.in_ok-toc.toc s.1 s.2 is

pub returns-in_err-toc-clause-told : goal.returns-in_err-toc-clause-told
returns-in_err-toc-clause-told g c = λ told e.
    let s = sized told c.args.name.now c.in_ok-size.size (c.in_ok-size.ensures.told told e) in
    rw (handed-on c.from_residual-in_err-toc.result (stop_of_table c.in_err-toc.field-0.0) c.from_residual-in_err-toc.ensures.1)
    (table-stop told c.args.name.now s.0 _ _ _ _ c.in_err-toc.field-0.0 c.size_of.ensures.reads.files.later (c.size_of.ensures.reads.files.same ∙ e) s.1
    (c.in_err-toc.ensures.told s.0 (tells _ told c.args.name.now s.0 (c.size_of.ensures.reads.files.same ∙ e) s.1)) c.in_err-toc.ensures.cause.failed)

pub returns-clause-ends : goal.returns-clause-ends
returns-clause-ends g c = let s = c.in_ok-toc.ensures.some in ends-below s.bytes c.in_ok-toc.toc s.short s.answer

pub returns-clause-reads : goal.returns-clause-reads
returns-clause-reads g c =
    alone-then g.met.H.Files.joins c.size_of.ensures.reads.files c.in_ok-size.ensures.reads.only.quiet (λ s own. own)
    (alone-done {IsOwn = Unstarved IsPackageStop} c.in_ok-toc.ensures.reads c.in_ok-toc.ensures.cause.done)

pub returns-in_err-toc-clause-reads : goal.returns-in_err-toc-clause-reads
returns-in_err-toc-clause-reads g c =
    let e = c.in_err-toc in
    rw (handed-on c.from_residual-in_err-toc.result (stop_of_table e.field-0.0) c.from_residual-in_err-toc.ensures.1) (record {
      only = reads-no-table e.field-0.0 c.size_of.ensures.reads.files.same c.in_ok-size.ensures.reads.only.quiet e.ensures.cause;
      files = reads-after g.H.Files _ g.met.H.Files.joins _ _ _ c.size_of.ensures.reads.files e.ensures.reads;
      refusals = (toc-of-package e.field-0.0, toc-needs-none e.field-0.0);
    })
