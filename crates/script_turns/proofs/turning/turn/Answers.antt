use Rattle.std.proofs.Common.{◌≡◌, Some, sym, ap, subst}
use Rattle.std.specs.Prelude.{IsSome}
use Rattle.fwu_model.specs.Call.{Call}
use Rattle.fwu_journal.specs.Shown.{turn}
use Rattle.script_text.specs.Shown.{shown}
use Rattle.script_turns.specs.{Powered.moment_of, Stage.shown_on, Turning.Turns, declared.stage.Stage.Stage}
use Rattle.script_turns.proofs.Staying.{fits-stage, fitting, the-is}
use Rattle.script_turns.proofs.turning.turn.Goals as goal

pub returns-in-Boot-clause-turns : goal.returns-in-Boot-clause-turns
returns-in-Boot-clause-turns g c =
    let files = g.H.Files.contents c.args.files.now in
    let faults = g.H.Files.faults c.args.files.now in
    subst (λ (what : Call). Turns (g.V.Verifier.passes c.args.verifier.now) g.D.Flash.tells files what (turn c.boot_in.result) (moment_of c.args.powered.now)
    (moment_of c.boot_in.new.powered) faults faults) (sym (ap shown c.in-Boot.is)) (c.boot_in.ensures.turns files faults)

pub returns-in-Boot-clause-fits : goal.returns-in-Boot-clause-fits
returns-in-Boot-clause-fits g c = fitting c.boot_in.new.powered

pub returns-in-Some-clause-fits : goal.returns-in-Some-clause-fits
returns-in-Some-clause-fits g c = fits-stage c.stage_turn.new.stage

pub returns-in-Some-clause-missing : goal.returns-in-Some-clause-missing
returns-in-Some-clause-missing g c lacks some =
    let is : c.args.powered.now.inside ≡ Some c.in-Some.stage = cc in
    c.stage_turn.ensures.turns.lacking lacks
    (subst (λ (s : Stage _ g.D.Flash). IsSome (shown_on s)) (the-is c.args.powered.now.inside c.args.powered.now.there c.in-Some.stage is) some)
