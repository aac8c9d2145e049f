-- What is decided of a request, in the words of the machine.
use Rattle.std.specs.Prelude.{◌≡◌, ℕ, ◌+◌, ◌-◌, Bool, if◌then◌else◌, List, [], ◌∷◌, take, drop, length, Option, Some, None, slice_set}
use Rattle.fwu_model.specs.{declared.kinds.Status.TheVariants.Denied, declared.kinds.Op.Op, State.State, State.Free, State.Switch}
use Rattle.fwu_model.specs.{State.Accept, State.Back, State.bank, State.update_bank, Sound.Setting, Call.Call, MoveMetas.meta_in}
use Rattle.fwu_model.specs.Session.{Session, On, Staged, Handle, nothing_staged, no_handles}
use Rattle.fwu_model.specs.Answer.{Answer, answer, answered, refused, agent_state, with_appended, with_committed, content, copied_parts, image_held, staged_package, staged_bits, may_go_back}
use Rattle.fwu_model.specs.declared.kinds.Op.TheVariants as op
use Rattle.fwu_formats.specs.Metadata.{MetaRead}
use Rattle.fwu_model.specs.Session as session
use Rattle.fwu_model.specs.Call as call
use Rattle.fwu_model.specs.Reply as reply
use Rattle.agent_kept.specs.{declared.kinds.Request.Request, declared.kinds.Plan.Plan, declared.kinds.Decision.Decision}
use Rattle.agent_kept.specs.Kept.{Kept, IsKept, HasTotals, handle_kept}
use Rattle.agent_kept.specs.declared.kinds.Request.TheVariants as request
use Rattle.agent_kept.specs.declared.kinds.Plan.TheVariants as plan
use Rattle.agent_kept.specs.declared.kinds.Decision.TheVariants as decision
use Rattle.agent_kept.specs.declared.parts.Handle.TheVariants as handle

-- the call that is requested, with the bytes of a write
abbrev pub call_of : Request → List ℕ → Call
call_of request.Discover bytes = call.Discover
call_of (request.Begin flags n) bytes = call.Begin n
call_of (request.BeginPartial flags list) bytes = call.BeginPartial list.now
call_of (request.Open guid op total) bytes = call.open_call guid op
call_of (request.Write h n) bytes = call.Write h bytes
call_of (request.Read h room) bytes = call.Read h room
call_of (request.Commit h req most) bytes = call.Commit h req
call_of request.End bytes = call.End
call_of request.Cancel bytes = call.Cancel
call_of (request.Accept guid) bytes = call.Accepts guid
call_of request.Previous bytes = call.Previous

-- ---- what a plan is to the machine

abbrev pub with_open : Option (List Staged) → ℕ → Option (List Staged)
with_open None image = None
with_open (Some parts) image = Some (slice_set parts image (session.Open []))

abbrev pub opened_handle : Option ℕ → Op → Handle
opened_handle image op.Read = session.Reads image 0
opened_handle None op.Write = session.Reads None 0
opened_handle (Some image) op.Write = session.Writes image

abbrev pub opened_staging : Option (List Staged) → Option ℕ → Op → Option (List Staged)
opened_staging staging image op.Read = staging
opened_staging staging None op.Write = staging
opened_staging staging (Some image) op.Write = with_open staging image

abbrev pub committed_staging : Option (List Staged) → Option ℕ → Bool → Option (List Staged)
committed_staging staging None bit = staging
committed_staging staging (Some image) bit = with_committed staging image bit

abbrev pub package_staged : Option (List Staged) → List (List ℕ)
package_staged None = []
package_staged (Some parts) = staged_package parts

abbrev pub bits_staged : Option (List Staged) → List Bool
bits_staged None = []
bits_staged (Some parts) = staged_bits parts

-- the answer to a call by the plan for it; the bytes are those of a write
unfoldable pub planned : Setting → State → ℕ → Option (List Staged) → List Handle → List ℕ → Plan → Answer
planned E s boot staging handles bytes plan.Tell = answered (reply.Discovered (agent_state s staging)) [] (On boot staging handles)
planned E s boot staging handles bytes (plan.Begin store) =
    answered reply.Success (if store then Free (update_bank s) ∷ [] else []) (On boot (nothing_staged E) no_handles)
-- the images that are named alone are left to be staged
planned E s boot staging handles bytes (plan.BeginPartial store named) =
    answered reply.Success (if store then Free (update_bank s) ∷ [] else [])
    (On boot (Some (copied_parts (take (length E.layout.rows) named) (image_held s s.active))) no_handles)
planned E s boot staging handles bytes (plan.Open h image o total) =
    answered (reply.Opened h) [] (On boot (opened_staging staging image o) (slice_set handles (h - 1) (opened_handle image o)))
planned E s boot staging handles bytes (plan.Write h image at n) =
    answered reply.Success [] (On boot (with_appended staging image bytes) handles)
planned E s boot staging handles bytes (plan.Read h image at n total) =
    answered (reply.Got total (take n (drop at (content E s boot image)))) []
    (On boot staging (slice_set handles (h - 1) (session.Reads image (at + n))))
planned E s boot staging handles bytes (plan.Commit h image bit) =
    answered reply.Success [] (On boot (committed_staging staging image bit) (slice_set handles (h - 1) session.Free))
planned E s boot staging handles bytes plan.End =
    answered reply.Success (Switch (update_bank s) (package_staged staging) (bits_staged staging) ∷ []) (On boot None no_handles)
planned E s boot staging handles bytes plan.Cancel = answered reply.Success [] (On boot None no_handles)
planned E s boot staging handles bytes (plan.Accept image store) =
    answered reply.Success (if store then Accept image ∷ [] else []) (On boot staging handles)
planned E s boot staging handles bytes plan.Back = answered reply.Success (Back ∷ []) (On boot staging handles)

abbrev pub planned_in : Setting → State → Session → List ℕ → Plan → Answer
planned_in E s session.Off bytes p = answered reply.IsOff [] session.Off
planned_in E s (On boot staging handles) bytes p = planned E s boot staging handles bytes p

-- ---- a decision

-- the answer to a call where the verdict on the previous bank decides
abbrev pub by_verdict : Session → Bool → Answer
by_verdict session good = if good then answered reply.Success (Back ∷ []) session else refused Denied session

-- The decision is the machine's.
abbrev pub DecidesAs : Setting → State → Session → Call → List ℕ → Decision → Type 0
DecidesAs E s session c bytes (decision.Refused st) = answer E s session c ≡ refused st session
DecidesAs E s session c bytes (decision.Do p) = answer E s session c ≡ planned_in E s session bytes p
DecidesAs E s session c bytes (decision.ByVerdict b) = (b ≡ s.previous)
    × (answer E s session c ≡ by_verdict session (may_go_back E s (bank s b).held))

-- The machine that a decision speaks of. Its setting and state have the metadata and the counter that are given, and what is kept
-- of the session fits the bytes of the staged images.
pub record Speaks (E : Setting) (s : State) (passes : List ℕ → Bool) (m : MetaRead) (counter : ℕ) (k : Kept) (boot : ℕ)
    (staged : ℕ → List ℕ) : Type 0 where
  pub rows : k.rows ≡ E.layout.rows
  pub banks : length s.banks ≡ E.layout.banks
  pub verifier : E.passes ≡ passes
  pub meta : m.meta ≡ meta_in s
  pub counter_is : counter ≡ s.counter
  pub kept : IsKept k staged

-- The same, and each reader has the total of what it reads: this a settled decision keeps.
pub record SpeaksWhole (E : Setting) (s : State) (passes : List ℕ → Bool) (m : MetaRead) (counter : ℕ) (k : Kept) (boot : ℕ)
    (staged : ℕ → List ℕ) : Type 0 where
  pub speaks : Speaks E s passes m counter k boot staged
  pub totals : HasTotals E s boot k

-- the request fits the call: a write has the length of its bytes, and a read's handle, where it reads, the total of what it reads
abbrev pub FitsRequest : Setting → State → ℕ → Kept → Request → List ℕ → Type 0
FitsRequest E s boot k (request.Write h n) bytes = n ≡ length bytes
FitsRequest E s boot k (request.Read h room) bytes = (image : Option ℕ) (at total : ℕ)
    → handle_kept k (h - 1) ≡ handle.Reads image at total → total ≡ length (content E s boot image)
FitsRequest E s boot k other bytes = Unit {0}
