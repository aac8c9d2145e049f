use Rattle.std.proofs.Common.{false, refl, rules}
use Rattle.script_text.specs.Shown.{shown}
use Rattle.script_turns.proofs.{Quiets.turns-alone, Quiets.off-turn, Staying.seen-here, Staying.shows-here, SendTurns.moment-as}
use Rattle.script_turns.proofs.SendTurns.{turns-as}
use Rattle.script_turns.proofs.turning.live_turn.Goals as goal

pub returns-then-not-live : goal.returns-then-not-live
returns-then-not-live g c =
    let live = c.args.live.now in
    let off = moment-as live.agent live.here false cc in
    turns-alone g.H.Files g.met.H.Files.at_rest _ _ _ _ _ _ _ refl
    (λ files faults. turns-as _ _ _ _ _ _ c.turn_of.ensures off off (off-turn _ _ _ _ _ _ _ _ _ (shown c.args.call) c.requires.asks))
    (record { powered = λ on. c.requires.powered; size = refl; short = search rules })

pub invariant_of-live : goal.invariant_of-live
invariant_of-live g c =
    let here = c.agent_turn-turn.ensures.leaves.here in
    let a = c.agent_turn-turn.new.agent in
    record { not_gone = here; shows = λ there. shows-here a (here there); seen = λ there. seen-here a (here there) }
