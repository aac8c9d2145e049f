use Rattle.std.proofs.Common.{Ok, Err, map, refl, string_bytes}
use Rattle.base_core.specs.Counts.{Rose}
use Rattle.fip_tool.proofs.Converted.{converted}
use Rattle.fip_words.specs.Order.{asked}
use Rattle.fip_tool.specs.Steps.{MayTear}
use Rattle.fip_tool.proofs.top.fip_top.Goals as goal

pub returns-in-Ok-clause-ended : goal.returns-in-Ok-clause-ended
returns-in-Ok-clause-ended g c = record { result = Ok tt; between = c.run.new.sink; done = c.in-Ok.ensures; told = (refl, refl) }

pub returns-in-Err-clause-ended : goal.returns-in-Err-clause-ended
returns-in-Err-clause-ended g c = record {
  result = Err c.in-Err.stop;
  between = c.run.new.sink;
  done = c.in-Err.ensures;
  told = (c.report.result, c.report.ensures.reported, c.status.ensures);
}

pub returns-in-Ok-clause-converts : goal.returns-in-Ok-clause-converts
returns-in-Ok-clause-converts g c = λ told e none.
    converted (asked (map string_bytes c.args.words.now)) told _ _ _ (Rose (g.H.Files.faults c.args.files.now) (g.H.Files.faults c.run.new.files))
    (MayTear (g.H.Files.writes c.args.files.now) (g.H.Files.writes c.run.new.files)) (Rose (g.O.Sink.faults c.args.sink.now) (g.O.Sink.faults c.run.new.sink)) (c.in-Ok.ensures.done.told told e)
