-- A staging that begins with the images of the active bank, but for some that are named.
use Rattle.std.specs.Prelude.{ℕ, Bool, true, false, replicate, nat_lt, if◌then◌else◌, List, [], length, slice_index_or}
use Rattle.base_core.specs.Bytes.{listed}
use Rattle.fwu_model.specs.{State.State, Sound.Setting, Answer.Answer, Answer.answered, Answer.begins_with, Answer.copied_part}
use Rattle.fwu_model.specs.Session.{Session, Off, On, Staged, Nothing}
use Rattle.fwu_model.specs.Reply as reply
use Rattle.agent_kept.specs.declared.kinds.Plan.{Plan}
use Rattle.agent_kept.specs.declared.kinds.Plan.TheVariants as plan

-- the images that a plan to begin in part names
abbrev pub named_in : Plan → List Bool
named_in (plan.BeginPartial store named) = named
named_in other = replicate 16 false

-- what is staged once the first images are copied that aren't named
abbrev pub copied_first : List Bool → ℕ → (ℕ → List ℕ) → List Staged
copied_first named k bytes =
    listed (length named) (λ i. if nat_lt i k then copied_part (slice_index_or named i true) (bytes i) else Nothing)

-- the machine's answer, where the images that aren't named have these bytes
abbrev pub begins_over : Setting → State → Session → List (List ℕ) → (ℕ → List ℕ) → Answer
begins_over E s Off types bytes = answered reply.IsOff [] Off
begins_over E s (On boot staging handles) types bytes = begins_with E s boot staging handles types bytes
