use Rattle.std.proofs.Common.{◌≢◌, List, Some, ℕ, ap, refl, subst, ◌∙◌}
use Rattle.std.proofs.lemmas.Result.{IfErr-weaker}
use Rattle.host_io.specs.{Access.Access, Access.Asks, declared.writes.Writes.Writes}
use Rattle.fip_words.specs.Order as asks
use Rattle.fip_making.specs.{Stops.IsPackageStop, Stops.IsLate}
use Rattle.fip_tool.specs.{Wrote.IsTexts, Done.PrintedIn, Tool.info_value, Wrote.files_with}
use Rattle.fip_tool.proofs.{Did.printed-text, Faults.faults-none, Refusing.late-alone, WroteLemmas.wrote-printed}
use Rattle.fip_making.proofs.Refusing.{late-of-package}
use Rattle.fip_tool.proofs.top.info.Goals as goal

pub returns-clause-done : goal.returns-clause-done
returns-clause-done g c =
    let read = c.in_ok-text.ensures in
    let put = c.print.ensures in
    let printed = subst (λ (l : List ℕ). PrintedIn g.O.Sink l c.args.sink.now c.print.new.sink c.print.result) c.as_slice.ensures.value put.printed in record {
      told = λ told e other. printed-text (info_value told c.args.name.now) c.in_ok-text.text.items told _ _ _ _ _ _ _ (read.told told e) (read.reads.files.same ∙ e) printed;
      wrote =
          wrote-printed (IsTexts (Some (asks.info c.args.name.now))) (files_with (Some (asks.info c.args.name.now))) c.in_ok-text.text.items (c.in_ok-text.text.items, read.listed, refl)
          _ _ _ _ _ c.print.result (ap (λ (w : Writes). w.done) read.reads.files.unwritten) printed;
      file_count = faults-none read.reads.only.quiet;
      cause = λ e none. absurd (rw e at put.printed);
      refusals = IfErr-weaker c.print.result IsLate IsPackageStop late-of-package put.late;
      spares = read.reads.files.spares;
      alone = late-alone c.print.result (λ s. (access : Access) → access ≢ Asks c.args.name.now → g.H.Files.spares c.args.files.now c.file_info.new.files access) put.late;
      later = put.later;
      sink_count = put.count;
    }
