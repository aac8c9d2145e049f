use Rattle.std.proofs.Common.{◌∙◌, ◌∷◌, ◌++◌, ℕ, List, ap, refl, subst, []}
use Rattle.fwu_model.specs.Call as call
use Rattle.fwu_model.specs.Reply.{Turn}
use Rattle.fwu_journal.specs.Shown.{turn, turns}
use Rattle.script_turns.specs.{Powered.moment_of, Turning.Turns}
use Rattle.serving.specs.Scene.{run_of, scene}
use Rattle.serving.proofs.Starts.{boots-by}
use Rattle.serving.proofs.starting.boot.Goals as goal

pub returns-clause-boots : goal.returns-clause-boots
returns-clause-boots g c =
    let passes = g.V.Verifier.passes c.args.verifier.now in
    let files = g.H.Files.contents c.args.files.now in
    let faults = g.H.Files.faults c.args.files.now in
    let old = c.args.serving.now in
    let after = c.turn-boot.new.powered in
    let t : Turn = turn c.turn-boot.result in
    let same = ap g.H.Files.faults (c.turn-boot.ensures.files refl) in
    boots-by (scene passes g.D.Flash.tells files faults) t (run_of old) (record { moment = moment_of after; journal = turns c.add.new.self }) c.end_by-started.result
    (record {
      turns = subst (λ (n : ℕ). Turns passes g.D.Flash.tells files call.Boot t (moment_of old.powered) (moment_of after) faults n) same c.turn-boot.ensures.turns;
      fits = c.turn-boot.ensures.fits;
      unsent = refl;
      uncut = refl;
      kept = c.add.ensures.adds ∙ ap (λ (j : List Turn). j ++ t ∷ []) c.make_room.ensures.stays;
    }) c.end_by-started.ensures
