-- What settling a decision leaves of the metadata and of what is kept of a session.
use Rattle.std.specs.Prelude.{◌≡◌, ℕ, ◌+◌, ◌-◌, ◌<◌, ◌≤◌, Bool, true, false, if◌then◌else◌, ◌==◌, List, [], ◌++◌, length, map, Some, None}
use Rattle.fwu_model.specs.declared.kinds.Op.TheVariants as op
use Rattle.fwu_formats.specs.Metadata.{Meta, MetaRead}
use Rattle.fwu_model.specs.{Sound.Setting, Answer.content, MoveMetas.meta_after}
use Rattle.fwu_model.specs.State.{State, Free, Switch, Accept, Back, after}
use Rattle.agent_kept.specs.{declared.parts.Part.Part, declared.kinds.Plan.Plan, declared.kinds.Decision.Decision, Judged.parts_of}
use Rattle.agent_kept.specs.Kept.{Kept, part_at, handle_kept, size_of, slot_room_of, is_part_open, session_meant, with_handle, Restarts, OpensPart, AppendsPart, CommitsPart}
use Rattle.agent_kept.specs.Plans.{SpeaksWhole, planned_in}
use Rattle.agent_kept.specs.declared.parts.Part.TheVariants as part
use Rattle.agent_kept.specs.declared.parts.Handle.TheVariants as handle
use Rattle.agent_kept.specs.declared.kinds.Plan.TheVariants as plan
use Rattle.agent_kept.specs.declared.kinds.Decision.TheVariants as decision
use Rattle.agent_state.specs.Decides.{next_bank}

-- ---- what a decision is settled on

-- the number of a handle
abbrev pub IsNumber : ℕ → Type 0
IsNumber number = (1 ≤ number) × (number ≤ 32)

-- a plan is of what is kept: its handles and images are those of the session, and there is room for a write
abbrev pub IsPlanOf : Kept → Plan → Type 0
IsPlanOf k (plan.Open number image op.Read total) = IsNumber number
IsPlanOf k (plan.Open number None op.Write total) = ⊥
IsPlanOf k (plan.Open number (Some image) op.Write total) =
    IsNumber number × (image < length k.rows) × (k.staging ≡ true) × (is_part_open (part_at k image) ≡ false)
IsPlanOf k (plan.Write number image at n) =
    (image < length k.rows) × (k.staging ≡ true) × (is_part_open (part_at k image) ≡ true)
    × (size_of (part_at k image) + n ≤ slot_room_of k.rows image)
IsPlanOf k (plan.Read number image at n total) = IsNumber number × (handle_kept k (number - 1) ≡ handle.Reads image at total)
    × (at + n ≤ total)
IsPlanOf k (plan.Commit number None bit) = IsNumber number
IsPlanOf k (plan.Commit number (Some image) bit) =
    IsNumber number × (image < length k.rows) × (k.staging ≡ true) × (is_part_open (part_at k image) ≡ true)
    × (handle_kept k (number - 1) ≡ handle.Writes image)
IsPlanOf k plan.End = k.staging ≡ true
IsPlanOf k (plan.Accept image store) = image < length k.rows
IsPlanOf k other = Unit {0}

abbrev pub IsDecisionOf : Kept → Decision → Type 0
IsDecisionOf k (decision.Do p) = IsPlanOf k p
IsDecisionOf k other = Unit {0}

-- a write comes with its bytes
abbrev pub HasBytes : Plan → List ℕ → Type 0
HasBytes (plan.Write number image at n) bytes = n ≡ length bytes
HasBytes other bytes = Unit {0}

-- ---- the session

abbrev pub Changes : Kept → List ℕ → Plan → Kept → Type 0
Changes k bytes (plan.Begin store) new = Restarts true k new
-- as of a begin: the copies are plans of their own
Changes k bytes (plan.BeginPartial store named) new = Restarts true k new
Changes k bytes (plan.Open number image op.Read total) new = new ≡ with_handle k number (handle.Reads image 0 total)
Changes k bytes (plan.Open number None op.Write total) new = ⊥
Changes k bytes (plan.Open number (Some image) op.Write total) new = OpensPart k image (number - 1) new
Changes k bytes (plan.Write number image at n) new = AppendsPart k image bytes new
Changes k bytes (plan.Read number image at n total) new = new ≡ with_handle k number (handle.Reads image (at + n) total)
Changes k bytes (plan.Commit number None bit) new = new ≡ with_handle k number handle.Free
Changes k bytes (plan.Commit number (Some image) bit) new = CommitsPart k image (number - 1) bit new
Changes k bytes plan.End new = Restarts false k new
Changes k bytes plan.Cancel new = Restarts false k new
Changes k bytes other new = new ≡ k

-- a refusal, and what waits for a verdict, changes nothing
abbrev pub ChangesBy : Kept → List ℕ → Decision → Kept → Type 0
ChangesBy k bytes (decision.Do p) new = Changes k bytes p new
ChangesBy k bytes other new = new ≡ k

-- ---- the metadata

abbrev pub bit_kept : Part → Bool
bit_kept (part.Committed size digest bit) = bit
bit_kept other = false

-- the bits of the images that are committed
abbrev pub bits_kept : Kept → List Bool
bits_kept k = map bit_kept (parts_of k)

-- the metadata after a plan: that of its move, or the same
abbrev pub meta_planned : Kept → Meta → Plan → Meta
meta_planned k m (plan.Begin store) = if store then meta_after m (Free (next_bank m)) else m
meta_planned k m (plan.BeginPartial store named) = if store then meta_after m (Free (next_bank m)) else m
meta_planned k m plan.End = meta_after m (Switch (next_bank m) [] (bits_kept k))
meta_planned k m (plan.Accept image store) = if store then meta_after m (Accept image) else m
meta_planned k m plan.Back = meta_after m Back
meta_planned k m other = m

abbrev pub meta_settled : Kept → Meta → Decision → Meta
meta_settled k m (decision.Do p) = meta_planned k m p
meta_settled k m other = m

-- ---- the machine

-- with these bytes of an image
abbrev pub with_bytes : (ℕ → List ℕ) → ℕ → List ℕ → ℕ → List ℕ
with_bytes staged image bytes i = if i == image then bytes else staged i

-- the bytes of the staged images after a plan: a write puts bytes behind those of its image,
-- and an image that is opened for writing has none
abbrev pub staged_after : Plan → List ℕ → (ℕ → List ℕ) → ℕ → List ℕ
staged_after (plan.Write number image at n) bytes staged = with_bytes staged image (staged image ++ bytes)
staged_after (plan.Open number (Some image) op.Write total) bytes staged = with_bytes staged image []
staged_after other bytes staged = staged

-- what is opened for reading has this total
abbrev pub HasTotal : Setting → State → ℕ → Plan → Type 0
HasTotal E s boot (plan.Open number image op.Read total) = total ≡ length (content E s boot image)
HasTotal E s boot other = Unit {0}

-- The machine that was spoken of is spoken of after the plan:
-- its state is that after the moves, and the session that is meant is the next one.
pub record SettlesIn (E : Setting) (s : State) (passes : List ℕ → Bool) (counter boot : ℕ) (staged : ℕ → List ℕ) (bytes : List ℕ)
    (p : Plan) (k : Kept) (m new_meta : MetaRead) (new : Kept) : Type 0 where
  pub spoken : SpeaksWhole E (after s (planned_in E s (session_meant k boot staged) bytes p).moves) passes new_meta counter new boot
      (staged_after p bytes staged)
  pub next : session_meant new boot (staged_after p bytes staged) ≡ (planned_in E s (session_meant k boot staged) bytes p).next

-- in each setting and state that is spoken of
abbrev pub Settles : Kept → MetaRead → List ℕ → Plan → MetaRead → Kept → Type 0
Settles k m bytes p new_meta new =
    (E : Setting) (s : State) (passes : List ℕ → Bool) (counter boot : ℕ) (staged : ℕ → List ℕ)
    → SpeaksWhole E s passes m counter k boot staged → HasTotal E s boot p
    → SettlesIn E s passes counter boot staged bytes p k m new_meta new

abbrev pub SettlesBy : Kept → MetaRead → List ℕ → Decision → MetaRead → Kept → Type 0
-- A partial begin is settled as a begin. Each image that isn't named is then opened, written and committed, by plans of their own.
SettlesBy k m bytes (decision.Do (plan.BeginPartial store named)) new_meta new = Settles k m bytes (plan.Begin store) new_meta new
SettlesBy k m bytes (decision.Do p) new_meta new = Settles k m bytes p new_meta new
SettlesBy k m bytes other new_meta new = Unit {0}
