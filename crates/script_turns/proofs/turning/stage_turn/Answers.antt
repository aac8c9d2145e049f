use Rattle.std.proofs.Common.{refl, sym, ap, ◌∙◌}
use Rattle.script_text.specs.Shown.{shown}
use Rattle.script_turns.proofs.Quiets.{turns-alone}
use Rattle.script_turns.proofs.turning.stage_turn.Goals as goal

pub returns-in-Show : goal.returns-in-Show
returns-in-Show g c =
    turns-alone g.H.Files g.met.H.Files.at_rest _ _ _ _ _ _ _ (ap shown c.in-Show.is) (c.show_turn.ensures.turns (g.V.Verifier.passes c.args.verifier.now))
    (record { powered = λ on. c.requires.powered; size = refl; short = c.show_turn.ensures.short })

pub returns-in-NoCall : goal.returns-in-NoCall
returns-in-NoCall g c =
    turns-alone g.H.Files g.met.H.Files.at_rest _ _ _ _ _ _ _ (ap shown c.in-NoCall.is) (c.no_call_turn.ensures.turns (g.V.Verifier.passes c.args.verifier.now))
    (record { powered = λ on. c.requires.powered; size = refl; short = c.no_call_turn.ensures.short })

pub returns-in-Cut : goal.returns-in-Cut
returns-in-Cut g c =
    let cut = c.cut_turn.ensures in
    turns-alone g.H.Files g.met.H.Files.at_rest _ _ _ _ _ _ _ (ap shown c.in-Cut.is) (cut.turns (g.V.Verifier.passes c.args.verifier.now))
    (record { powered = λ on. cut.power ∙ c.requires.powered ∙ sym cut.has; size = cut.size; short = cut.short })
