use Rattle.std.proofs.Common.{ap, refl, sym}
use Rattle.script_turns.specs.Powered.{moment_of}
use Rattle.script_cmd.specs.Here.{served}
use Rattle.script_cmd.proofs.{ServeAccount.sink-later, ServeTop.at-device, ServeTop.serves-source, TopLists.no-list-named}
use Rattle.script_cmd.proofs.serving_command.serve_source.Goals as goal

pub returns-clause-way : goal.returns-clause-way
returns-clause-way g c =
    let d = g.D.Flash in
    let e = c.serve-serving.ensures in
    served no-list-named c.requires.unarmed (ap g.H.Files.faults e.files) c.serve-serving.result.end c.status.ensures c.note_of.ensures.noted
    (serves-source _ _ _ _ _ _ _ _ _ _ (moment_of c.off.result) (moment_of c.serve-serving.result.serving.powered)
    (at-device d _ _ _ _ c.off.ensures.on c.off.ensures.device)
    (at-device d _ _ _ _ refl (sym c.into_flash.ensures)) e.serves e.holds)

pub returns-clause-later_source : goal.returns-clause-later_source
returns-clause-later_source g c = c.serve-serving.ensures.holds.source_count.later

pub returns-clause-later_sink : goal.returns-clause-later_sink
returns-clause-later_sink g c = sink-later _ _ _ _ _ _ _ c.serve-serving.ensures.serves
