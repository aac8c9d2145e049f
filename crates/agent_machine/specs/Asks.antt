-- Which requests ask a verifier, and which plans need the flash.
use Rattle.std.specs.Prelude.{ℕ, List, Bool, true, Some, Result, Ok, Err}
use Rattle.fwu_model.specs.declared.kinds.Status.{Status}
use Rattle.agent_kept.specs.{declared.kinds.Request.Request, declared.kinds.Plan.Plan}
use Rattle.agent_kept.specs.declared.kinds.Decision.TheVariants.{Do, Refused}
use Rattle.agent_kept.specs.declared.kinds.Request.TheVariants as request
use Rattle.agent_kept.specs.declared.kinds.Plan.TheVariants as plan
use Rattle.agent_state.specs.{Asked.IsPlanFor, Decides.DecidesRequest, Settles.IsPlanOf}
use Rattle.agent_machine.specs.Fields.{Fields}

-- no verifier is asked
abbrev pub AsksNoVerifier : Request → Type 0
AsksNoVerifier request.End = ⊥
AsksNoVerifier request.Previous = ⊥
AsksNoVerifier other = Unit {0}

-- Nothing of a plan is done on the flash: what is kept changes alone.
abbrev pub IsQuietPlan : Plan → Type 0
IsQuietPlan (plan.Begin true) = ⊥
-- images are copied on the flash
IsQuietPlan (plan.BeginPartial store named) = ⊥
IsQuietPlan (plan.Write h image at n) = ⊥
IsQuietPlan (plan.Commit h (Some image) bit) = ⊥
IsQuietPlan plan.End = ⊥
IsQuietPlan (plan.Accept image true) = ⊥
IsQuietPlan plan.Back = ⊥
IsQuietPlan other = Unit {0}

-- the plan for a request, or its refusal, is what is decided of it
abbrev pub PlansAs : (List ℕ → Bool) → Fields → Request → Result Plan Status → Type 0
PlansAs passes f r (Ok p) = DecidesRequest passes f.meta f.counter f.session f.boot r (Do p)
PlansAs passes f r (Err st) = DecidesRequest passes f.meta f.counter f.session f.boot r (Refused st)

-- a plan is of what is kept
abbrev pub IsPlannedIn : Fields → Result Plan Status → Type 0
IsPlannedIn f (Ok p) = IsPlanOf f.session p
IsPlannedIn f (Err st) = Unit {0}

-- and one for the request
abbrev pub IsPlannedFor : Fields → Request → Result Plan Status → Type 0
IsPlannedFor f r (Ok p) = IsPlanFor f.session f.meta.meta r p
IsPlannedFor f r (Err st) = Unit {0}
