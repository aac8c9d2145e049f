use Rattle.std.proofs.Common.{ℕ, ap, subst}
use Rattle.fwu_journal.specs.Shown.{turn, turns}
use Rattle.script_text.specs.Shown.{shown}
use Rattle.script_turns.specs.{Powered.moment_of, Turning.Turns}
use Rattle.serving.specs.Scene.{run_of, scene}
use Rattle.serving.proofs.Starts.{acts-by}
use Rattle.serving.proofs.acting.do_turn.Goals as goal

pub returns-clause-acts : goal.returns-clause-acts
returns-clause-acts g c =
    let passes = g.V.Verifier.passes c.args.verifier.now in
    let files = g.H.Files.contents c.args.files.now in
    let faults = g.H.Files.faults c.args.files.now in
    let call = shown c.args.call in
    let old = c.args.serving.now in
    let after = c.turn-next.new.powered in
    let same = ap g.H.Files.faults (c.turn-next.ensures.files c.requires.served.unsent) in
    acts-by (scene passes g.D.Flash.tells files faults) call (turn c.turn-next.result) (run_of old) (record { moment = moment_of after; journal = turns c.add.new.self }) c.answer-answered.new.out c.answer-answered.result
    (record {
      turns = subst (λ (n : ℕ). Turns passes g.D.Flash.tells files call (turn c.turn-next.result) (moment_of old.powered) (moment_of after) faults n) same c.turn-next.ensures.turns;
      fits = c.turn-next.ensures.fits;
      unsent = c.requires.served.unsent;
      uncut = c.requires.served.uncut;
      kept = c.add.ensures.adds;
    }) c.answer-answered.ensures.goes c.answer-answered.ensures.bytes c.answer-answered.ensures.ends
