-- Which blocks the calls of a sending erase or program.
use Rattle.std.proofs.Common.{◌∙◌, inl, inr, ℕ, Bool, List, Result, refl, sym, subst, IsFalse}
use Rattle.std.proofs.lemmas.Bool.{cases_Bool}
use Rattle.flash_core.specs.{declared.flash.Flash.Ghosts, declared.flash.FlashStop.FlashStop}
use Rattle.fwu_model.specs.Call.{Call}
use Rattle.agent_machine.specs.{declared.stop.Stop.Stop, Beside.SparesBlocksByAll, Meets.LeavesFlash, Moment.Moment}
use Rattle.agent_machine.proofs.Beside.{blocks-further, blocks-once}
use Rattle.agent_calls.specs.{declared.agent.Agent.Agent, Copies.BeginsPartly}
use Rattle.agent_calls.specs.Shown.{AgentGoes, device, fields, gone}
use Rattle.update_client.specs.Images.{SparesOthers}

-- no call
pub spares-none : (m : Moment) → SparesOthers m m
spares-none m = record { layout = refl; boot = refl; touches = λ b spared. refl }

-- one call
pub spares-left : {result : Result (Unit {0}) FlashStop} {passes : List ℕ → Bool} {c : Call} {old new : Moment} → LeavesFlash result passes c old new
    → SparesOthers old new
spares-left {old = old} leaves = record {
  layout = leaves.stays.layout;
  boot = leaves.stays.boot;
  touches = blocks-once old.fields leaves.touches;
}

-- and one more behind it
pub spares-then : {a b c : Moment} → SparesOthers a b → SparesOthers b c → SparesOthers a c
spares-then {a = a} {b = b} one two = record {
  layout = two.layout ∙ one.layout;
  boot = two.boot ∙ one.boot;
  touches = blocks-further a.fields b.fields one.layout one.boot one.touches two.touches;
}

-- a partial begin
pub begun-spares : {types : List (List ℕ)} {named : List Bool} {passes : List ℕ → Bool} {result : Result (Unit {0}) Stop} {old new : Moment}
    → BeginsPartly types named passes result old new → SparesOthers old new
begun-spares begins = record { layout = begins.stays.layout; boot = begins.stays.boot; touches = begins.touches }

-- An agent that is gone does nothing.
pub gone-spares : {D T : Type 0} {F : Ghosts D} (result : Result T Stop) (a b : Agent D F) → AgentGoes result a b
    → (IsFalse (gone a) → SparesBlocksByAll (fields a) (F.writes (device a)) (F.writes (device b)))
    → SparesBlocksByAll (fields a) (F.writes (device a)) (F.writes (device b))
gone-spares {F = F} result a b goes here = elim (cases_Bool (gone a)) [
  | inl there ↦ subst (λ (x : Agent _ F). SparesBlocksByAll (fields a) (F.writes (device a)) (F.writes (device x)))
      (sym (goes.untouched (goes.gone.gone.1 there))) (λ n spared. refl)
  | inr not ↦ here not
]
