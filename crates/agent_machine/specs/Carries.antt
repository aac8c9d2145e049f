-- What a plan leaves that was carried out, beside what it leaves of the session.
use Rattle.std.specs.Prelude.{◌≡◌, ℕ, ◌<◌, Bool, if◌then◌else◌, List, [], ◌∷◌, length, Option, IsTrue}
use Rattle.fwu_model.specs.declared.kinds.Op.TheVariants as op
use Rattle.fwu_formats.specs.Metadata.{state_at}
use Rattle.fwu_model.specs.{Session.Staged, Sound.Setting}
use Rattle.fwu_model.specs.State.{State, Move, Free, Switch, Accept, Back, bank, update_bank, after, is_invalid, is_accepted}
use Rattle.agent_kept.specs.{declared.kinds.Plan.Plan, Plans.package_staged, Plans.bits_staged}
use Rattle.agent_kept.specs.Kept.{Kept, IsKept, part_at, part_meant, staging_meant}
use Rattle.agent_kept.specs.declared.kinds.Plan.TheVariants as plan
use Rattle.agent_state.specs.Settles.{HasTotal, Settles, staged_after}
use Rattle.agent_machine.specs.{Machine.state_in, Machine.staged_bytes, Moment.Moment, Moment.SpeaksOf}
use Rattle.agent_machine.specs.Fields.{Fields, target, total_of, IsImageOrDirectory}

-- of the images of the layout these bytes mean the same, where what is kept has some of them
abbrev pub MeansSame : Kept → (ℕ → List ℕ) → (ℕ → List ℕ) → Type 0
MeansSame k staged other = (i : ℕ) → i < length k.rows → part_meant (part_at k i) (other i) ≡ part_meant (part_at k i) (staged i)

-- the moves of a plan
abbrev pub planned_moves : State → Option (List Staged) → Plan → List Move
planned_moves s stg (plan.Begin store) = if store then Free (update_bank s) ∷ [] else []
planned_moves s stg (plan.BeginPartial store named) = if store then Free (update_bank s) ∷ [] else []
planned_moves s stg plan.End = Switch (update_bank s) (package_staged stg) (bits_staged stg) ∷ []
planned_moves s stg (plan.Accept image store) = if store then Accept image ∷ [] else []
planned_moves s stg plan.Back = Back ∷ []
planned_moves s stg other = []

-- all that is kept beside the session, the metadata, the number of trials and the kept rests is the same
pub record SameBeside (f g : Fields) : Type 0 where
  pub layout : g.layout ≡ f.layout
  pub boot : g.boot ≡ f.boot
  pub counter : g.counter ≡ f.counter
  pub lengths : g.lengths ≡ f.lengths
  pub form : g.meta.form ≡ f.meta.form

-- what the device that tells its content shows before
abbrev pub state_before : Moment → State
state_before m = state_in m.fields m.told.now

abbrev pub staging_before : Moment → Option (List Staged)
staging_before m = staging_meant m.fields.session (staged_bytes m.fields m.told.now)

-- What a plan leaves that was carried out: what is kept is settled, and what the device tells is what the machine has then.
pub record CarriedOut (p : Plan) (bytes : List ℕ) (old new : Moment) : Type 0 where
  pub tells : new.tells ≡ old.tells
  pub beside : SameBeside old.fields new.fields
  pub settles : Settles old.fields.session old.fields.meta bytes p new.fields.meta new.fields.session
  -- what is opened for reading has its total
  pub total : (E : Setting) (s : State) → E.layout ≡ old.fields.layout → SpeaksOf old.fields s → HasTotal E s old.fields.boot p
  -- in each state that the fields speak of: the number of trials, and the lengths of what the booted bank holds
  pub trials : (s : State) (staged : ℕ → List ℕ) → SpeaksOf old.fields s → IsKept old.fields.session staged
      → new.fields.trials ≡ (after s (planned_moves s (staging_meant old.fields.session staged) p)).trials
  pub held : (s : State) (staged : ℕ → List ℕ) → SpeaksOf old.fields s → IsKept old.fields.session staged
      → (bank (after s (planned_moves s (staging_meant old.fields.session staged) p)) old.fields.boot).held
      ≡ (bank s old.fields.boot).held
  -- where the device tells its content
  pub state_is : IsTrue old.tells
      → state_in new.fields new.told.now ≡ after (state_before old) (planned_moves (state_before old) (staging_before old) p)
  pub staged_are : IsTrue old.tells
      → MeansSame new.fields.session (staged_after p bytes (staged_bytes old.fields old.told.now))
      (staged_bytes new.fields new.told.now)

-- What is opened for reading is there, and has its total. A staging begins only where it may: from the active bank, which is
-- accepted, into an invalid one.
abbrev pub MayKeep : Bool → Fields → Plan → Type 0
MayKeep tells f (plan.Begin store) =
    (f.boot ≡ f.meta.meta.active) × IsTrue (is_invalid (state_at f.meta.meta (target f)))
    × (IsTrue tells → IsTrue (is_accepted (state_at f.meta.meta f.meta.meta.active)))
MayKeep tells f (plan.Open number image op.Read total) = (total ≡ total_of f image) × IsImageOrDirectory f image
MayKeep tells f other = Unit {0}
