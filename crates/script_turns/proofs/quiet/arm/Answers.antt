use Rattle.std.proofs.Common.{◌∙◌, IsTrue}
use Rattle.script_turns.proofs.Staying.{seen-here, shows-here}
use Rattle.script_turns.proofs.quiet.arm.Goals as goal

pub invariant_of-live : goal.invariant_of-live
invariant_of-live g c =
    let a = c.arm-in-On.new.self in
    let there = λ (here : IsTrue c.in-On.live.here). c.arm-in-On.ensures.gone ∙ c.in-On.live.not_gone here in
    record { not_gone = there; shows = λ here. shows-here a (there here); seen = λ here. seen-here a (there here) }
