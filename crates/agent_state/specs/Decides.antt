-- What each part of a decision promises.
use Rattle.std.specs.Prelude.{IsTrue, ℕ, ◌+◌, ◌%◌, Bool, ◌&&◌, ◌||◌, not, ◌==◌, if◌then◌else◌, List, length, Option, nat_le}
use Rattle.std.specs.List.{position_or_len}
use Rattle.fwu_model.specs.declared.kinds.Status.TheVariants as status
use Rattle.fwu_model.specs.{declared.kinds.Op.Op, State.State, State.is_valid, State.is_accepted, Sound.Setting}
use Rattle.fwu_formats.specs.Metadata.{Meta, MetaRead, state_at, fits_meta}
use Rattle.agent_kept.specs.{declared.kinds.Request.Request, declared.kinds.Decision.Decision, Sound.is_free_kept, Kept.Kept}
use Rattle.agent_kept.specs.{Kept.session_meant, Plans.DecidesAs, Plans.Speaks, Plans.FitsRequest, Plans.call_of}
use Rattle.agent_kept.specs.declared.kinds.Decision.TheVariants.{Refused, Do}
use Rattle.agent_kept.specs.declared.kinds.Plan.TheVariants as plan

-- the metadata is of a layout with these images
abbrev pub IsMetaOf : Kept → Meta → Type 0
IsMetaOf k m = IsTrue (fits_meta (record { banks = length m.states; rows = k.rows }) m)

-- The decision of a request is the machine's, in each setting and state that is spoken of.
abbrev pub DecidesRequest : (List ℕ → Bool) → MetaRead → ℕ → Kept → ℕ → Request → Decision → Type 0
DecidesRequest passes m counter k boot request d =
    (E : Setting) (s : State) (staged : ℕ → List ℕ) (bytes : List ℕ) → Speaks E s passes m counter k boot staged
    → FitsRequest E s boot k request bytes
    → DecidesAs E s (session_meant k boot staged) (call_of request bytes) bytes d

-- whatever the verifier and the counter are
abbrev pub DecidesByMeta : MetaRead → Kept → ℕ → Request → Decision → Type 0
DecidesByMeta m k boot request d = (passes : List ℕ → Bool) (counter : ℕ) → DecidesRequest passes m counter k boot request d

-- and whatever the metadata is
abbrev pub DecidesBySession : Kept → Request → Decision → Type 0
DecidesBySession k request d = (m : MetaRead) (boot : ℕ) → DecidesByMeta m k boot request d

-- ---- what is tested

-- the bank that the next package goes to
abbrev pub next_bank : Meta → ℕ
next_bank m = (m.active + 1) % length m.states

-- nothing is staged, and the active bank is on trial
abbrev pub is_trial_kept : Meta → Kept → Bool
is_trial_kept m k = not k.staging && is_valid (state_at m m.active)

abbrev pub cannot_begin_kept : Meta → Kept → ℕ → Bool
cannot_begin_kept m k boot = is_trial_kept m k || not (boot == m.active)

-- nothing is staged, and there is something to go back from
abbrev pub may_leave_kept : Meta → Kept → ℕ → Bool
may_leave_kept m k boot = not k.staging && (is_valid (state_at m m.active) || not (boot == m.active))

-- there is another bank to go back to
abbrev pub has_other_kept : Meta → Bool
has_other_kept m = not (m.previous == m.active) && is_accepted (state_at m m.previous)

-- ---- the lowest free handle

abbrev pub lowest_free_kept : Kept → ℕ
lowest_free_kept k = position_or_len is_free_kept k.handles

abbrev pub opened_as : Kept → Option ℕ → Op → ℕ → Decision
opened_as k image op total =
    if nat_le 32 (lowest_free_kept k) then Refused status.Busy else Do (plan.Open (lowest_free_kept k + 1) image op total)
