-- What a decision has of the request: a plan of the request's own kind, with the numbers that the request and what is kept give.
use Rattle.std.specs.Prelude.{◌≡◌, ◌+◌, ◌-◌, not, min, ◌==◌, Some, length, take}
use Rattle.fwu_formats.specs.{Layout.find_image, Metadata.Meta, Metadata.state_at, Metadata.bit_at}
use Rattle.fwu_model.specs.{State.is_invalid, Answer.are_named}
use Rattle.agent_kept.specs.{declared.kinds.Request.Request, declared.kinds.Decision.Decision, declared.kinds.Plan.Plan}
use Rattle.agent_kept.specs.Kept.{Kept, part_at, handle_kept, size_of}
use Rattle.agent_kept.specs.declared.kinds.Request.TheVariants as request
use Rattle.agent_kept.specs.declared.kinds.Decision.TheVariants as decision
use Rattle.agent_kept.specs.declared.kinds.Plan.TheVariants as plan
use Rattle.agent_kept.specs.declared.parts.Handle.TheVariants as handle
use Rattle.agent_state.specs.Decides.{next_bank, lowest_free_kept}

-- the plan is one for the request
abbrev pub IsPlanFor : Kept → Meta → Request → Plan → Type 0
IsPlanFor k m request.Discover plan.Tell = Unit {0}
-- the update bank is made invalid where it isn't
IsPlanFor k m (request.Begin flags count) (plan.Begin store) = store ≡ not (is_invalid (state_at m (next_bank m)))
-- and each image that the list names
IsPlanFor k m (request.BeginPartial flags list) (plan.BeginPartial store named) =
    (store ≡ not (is_invalid (state_at m (next_bank m)))) × (take (length k.rows) named ≡ are_named k.rows list.now)
-- with the total that came with the request
IsPlanFor k m (request.Open guid o size) (plan.Open number image p total) =
    (number ≡ lowest_free_kept k + 1) × (image ≡ find_image k.rows guid) × (p ≡ o) × (total ≡ size)
-- all of the bytes, behind those of the image that the handle writes
IsPlanFor k m (request.Write h size) (plan.Write number image at n) =
    (number ≡ h) × (handle_kept k (h - 1) ≡ handle.Writes image) × (at ≡ size_of (part_at k image)) × (n ≡ size)
-- as many bytes as there are from the handle's place on, and fit
IsPlanFor k m (request.Read h room) (plan.Read number image at n total) =
    (number ≡ h) × (handle_kept k (h - 1) ≡ handle.Reads image at total) × (n ≡ min room (total - at))
IsPlanFor k m (request.Commit h req most) (plan.Commit number written bit) = (number ≡ h) × (bit ≡ (req == 0))
IsPlanFor k m request.End plan.End = Unit {0}
IsPlanFor k m request.Cancel plan.Cancel = Unit {0}
-- the bit is set where it isn't
IsPlanFor k m (request.Accept guid) (plan.Accept image store) =
    (find_image k.rows guid ≡ Some image) × (store ≡ not (bit_at m m.active image))
IsPlanFor k m r p = ⊥

-- a decision is one for the request: only going back waits for a verdict, on the previous bank
abbrev pub IsFor : Kept → Meta → Request → Decision → Type 0
IsFor k m r (decision.Do p) = IsPlanFor k m r p
IsFor k m request.Previous (decision.ByVerdict b) = b ≡ m.previous
IsFor k m r (decision.ByVerdict b) = ⊥
IsFor k m r (decision.Refused st) = Unit {0}
