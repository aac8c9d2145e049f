use Rattle.std.proofs.Common.{◌∙◌, Some, List, ℕ, refl, subst, sym, Some}
use Rattle.std.proofs.lemmas.Result.{IfErr-weaker}
use Rattle.base_core.specs.Counts.{Rose}
use Rattle.fip_tool.proofs.{Faults.source-printed, Faults.printed-quiet, WroteLemmas.wrote-printed}
use Rattle.fip_words.specs.Order as asks
use Rattle.fip_tool.specs.{Wrote.IsListing, Wrote.IsTexts, Steps.PrintedText, Wrote.files_with}
use Rattle.fip_making.specs.{Stops.IsLate, Stops.IsOfSource}
use Rattle.fip_making.proofs.Refusing.{late-of-source}
use Rattle.fip_tool.proofs.top.info_of_source.Goals as goal

pub returns : goal.returns
returns g c =
    let read = c.in_ok-text.ensures in
    let put = c.print.ensures in record {
      listed = λ told.
          let both = source-printed _ _ _ _ (Rose (g.I.Source.faults c.args.source.now) (g.I.Source.faults c.source_info.new.source)) _ read.given.0 c.in_ok-text.text.items c.print.result read.given.2
          (subst (λ (l : List ℕ). PrintedText (g.O.Sink.taken c.args.sink.now) (g.O.Sink.taken c.print.new.sink) (Rose (g.O.Sink.faults c.args.sink.now) (g.O.Sink.faults c.print.new.sink)) l c.print.result)
          c.as_slice.ensures.value put.printed) in
          (read.given.0, read.given.1, refl, both.0, both.1);
      once = read.source.once;
      wrote = λ count. wrote-printed (IsTexts (Some asks.info_of_source)) (files_with (Some asks.info_of_source)) c.as_slice.result.now (c.as_slice.result.now, subst IsListing (sym c.as_slice.ensures.value) read.listed, refl) _ _ _ count count c.print.result refl put.printed;
      cause = λ e. absurd (rw e at put.printed);
      later = put.later;
      source_count = read.source.count ∙ printed-quiet _ _ _ _ c.print.result _ put.printed;
      sink_count = put.count;
      refusals = IfErr-weaker c.print.result IsLate IsOfSource late-of-source put.late;
    }
