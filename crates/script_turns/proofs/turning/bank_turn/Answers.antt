use Rattle.std.proofs.Common.{◌≡◌, ◌⊎◌, inl, inr, Option, None, refl, rules, ap}
use Rattle.flash_core.specs.declared.flash.Flash.{Ghosts}
use Rattle.agent_machine.specs.Fields.{Fields}
use Rattle.script_text.specs.Shown.{shown}
use Rattle.script_turns.specs.Powered.{moment, moment_in, moment_on}
use Rattle.script_turns.specs.{Stage.device, Stage.shown_on, declared.stage.Fresh.Fresh, declared.stage.Stage.Stage}
use Rattle.script_turns.specs.declared.stage.Stage.TheVariants as stage
use Rattle.script_turns.proofs.{Quiets.turns-alone, Quiets.off-turn, SendTurns.turns-as}
use Rattle.script_turns.proofs.turning.bank_turn.Goals as goal

module _ {D : Type 0} {F : Ghosts D} (s : Stage D F) where
  not-booted : ((x : D) × (s ≡ stage.Off x)) ⊎ ((x : Fresh D F) × (s ≡ stage.Fresh x)) → shown_on s ≡ None
  not-booted (inl off) = ap (λ (t : Stage D F). shown_on t) off.1
  not-booted (inr fresh) = ap (λ (t : Stage D F). shown_on t) fresh.1

  moment-off : shown_on s ≡ None → moment_in s ≡ moment F (device s)
  moment-off none = ap (λ (o : Option Fields). moment_on F o (device s)) none

pub returns-in-Off : goal.returns-in-Off
returns-in-Off g c =
    let s = c.args.stage.now in
    let off = moment-off s (not-booted s c.in-Off.is) in
    turns-alone g.H.Files g.met.H.Files.at_rest _ _ _ _ _ _ _ refl
    (λ files faults. turns-as _ _ _ _ _ _ c.turn_of.ensures off off (off-turn _ _ _ _ _ _ _ _ _ (shown c.args.call) c.requires.asks))
    (record { powered = λ on. c.requires.powered; size = refl; short = search rules })
