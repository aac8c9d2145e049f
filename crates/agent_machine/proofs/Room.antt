-- A slot's blocks, and the fields with another session.
use Rattle.std.proofs.Common.{◌≡◌, inl, inr, ℕ, ◌+◌, ◌*◌, ◌<◌, ◌≤◌, true, false, List, [], length, get_or, set, Option, Some, None, sym, ap, ◌∙◌, subst, arith, IsTrue}
use Rattle.std.proofs.lemmas.Bool.{cases_eq, cases_lt}
use Rattle.std.proofs.lemmas.List.{length-set, get_or-set_same, get_or-set_other, get_or_past}
use Rattle.std.specs.Prelude.{Result}
use Rattle.flash_core.specs.{declared.flash.FlashStop.FlashStop, Told.Told, May.Keeps, Touches.TouchesOnly}
use Rattle.flash_core.proofs.Calls.{keeps_wider}
use Rattle.fwu_formats.specs.Layout.{ImageRow, Layout, start, slot_bytes, blocks_needed, fits_layout}
use Rattle.fwu_formats.specs.Metadata.{state_at, fits_meta}
use Rattle.fwu_formats.proofs.Written.{rows-limits, rows-fit}
use Rattle.fwu_model.specs.State.{is_invalid}
use Rattle.meta_layout.proofs.Fits.{meta-fits}
use Rattle.agent_state.specs.Decides.{IsMetaOf}
use Rattle.slot_writer.specs.Slots.{Appends, blocks_for, done_of}
use Rattle.agent_kept.specs.{declared.parts.Handle.Handle, Kept.Kept, Kept.HasNothing, Kept.handle_kept, Kept.slot_room_of}
use Rattle.agent_kept.specs.declared.parts.Handle.TheVariants.{Free, Reads, Writes}
use Rattle.agent_machine.specs.{Beside.KeepsSpared, Beside.SparesBlocks, Knows.Fitting, Knows.SessionSound, Knows.Knows}
use Rattle.agent_machine.specs.Fields.{Fields, total_of, target, with_session}
use Rattle.agent_machine.proofs.{Beside.slot-blocks, Beside.slot-spares, Staging.StaysKnown, Staging.stays-known}
use Rattle.agent_machine.proofs.Answered.{IsImageOrDirectory, layout-limits}
pub use Rattle.agent_machine.proofs.Staging.{slot-inside}

pub slot-small : (L : Layout) (image : ℕ) → IsTrue (fits_layout L) → image < length L.rows → slot_bytes L image ≤ 1048576
slot-small L image h lt = let small = (rows-limits (record { guid = []; slots = 0 }) L.rows (rows-fit L h) image lt).slots in omega (arith, small)

-- also where there is no such image
pub slots-small : (L : Layout) → IsTrue (fits_layout L) → (image : ℕ) → slot_room_of L.rows image ≤ 1048576
slots-small L h image = elim (cases_lt image (length L.rows)) [
  | inl lt ↦ slot-small L image h lt
  | inr past ↦ let none : (get_or L.rows image (record { guid = []; slots = 0 })).slots ≡ 0 = ap (λ (r : ImageRow). r.slots)
      (get_or_past L.rows image (record { guid = []; slots = 0 }) past) in omega (arith, none)
]

-- ---- readers

-- a reader is of what is there, and has its total
abbrev pub ReadsWell : Fields → Handle → Type 0
ReadsWell f h = (image : Option ℕ) (at total : ℕ) → h ≡ Reads image at total → (total ≡ total_of f image) × IsImageOrDirectory f image

pub free-well : (f : Fields) → ReadsWell f Free
free-well f image at total e = absurd cc

pub writer-well : (f : Fields) (image : ℕ) → ReadsWell f (Writes image)
writer-well f image target at total e = absurd cc

pub old-readers : (f : Fields) → Fitting f → (place : ℕ) → ReadsWell f (handle_kept f.session place)
old-readers f fitting place None at total is = (fitting.readers place None at total is, tt)
old-readers f fitting place (Some image) at total is = (fitting.readers place (Some image) at total is, fitting.readable place image at total is)

-- one handle changes
pub set-readers : (f : Fields) (handles : List Handle) (place : ℕ) (h : Handle) → ((other : ℕ) → ReadsWell f (get_or handles other Free)) → ReadsWell f h
    → (other : ℕ) → ReadsWell f (get_or (set handles place h) other Free)
set-readers f handles place h each well other = elim (cases_eq other place) [
  | inl same ↦ subst (λ (i : ℕ). ReadsWell f (get_or (set handles place h) i Free)) (sym same) here
  | inr ne ↦ subst (ReadsWell f) (sym (get_or-set_other handles place other h Free ne)) (each other)
]
  where
    here : ReadsWell f (get_or (set handles place h) place Free)
    here = elim (cases_lt place (length handles)) [
      | inl below ↦ subst (ReadsWell f) (sym (get_or-set_same handles place h Free below)) well
      | inr past ↦ subst (ReadsWell f) (sym (get_or_past (set handles place h) place Free (omega (arith, past, length-set handles place h)))) (free-well f)
    ]

-- ---- the fields with another session

-- where an update is staged then, it may be
abbrev pub MayStage : Fields → Kept → Type 0
MayStage f k = k.staging ≡ true → (f.boot ≡ f.meta.meta.active) × IsTrue (is_invalid (state_at f.meta.meta (target f)))

pub staged-before : (f : Fields) (k : Kept) → Fitting f → k.staging ≡ f.session.staging → MayStage f k
staged-before f k fitting same is = (fitting.active (sym same ∙ is), fitting.free (sym same ∙ is))

pub fitting-again : (f : Fields) (k : Kept) (rests : List (List ℕ)) → Fitting f → k.rows ≡ f.session.rows → MayStage f k
    → (k.staging ≡ false → HasNothing k) → length rests ≡ 16 → ((place : ℕ) → ReadsWell f (handle_kept k place)) → Fitting (with_session f k rests)
fitting-again f k rests fitting rows may idle count readers = record {
  layout = fitting.layout;
  meta = fitting.meta;
  boot = fitting.boot;
  rows = rows ∙ fitting.rows;
  lengths = fitting.lengths;
  within = fitting.within;
  rests = count;
  active = λ is. (may is).0;
  free = λ is. (may is).1;
  idle = idle;
  readers = λ place image at total is. (readers place image at total is).0;
  readable = λ place image at total is. (readers place (Some image) at total is).1;
}

-- ---- the metadata is of the kept images' layout

pub meta-of-session : (f : Fields) → Fitting f → IsMetaOf f.session f.meta.meta
meta-of-session f fitting =
    let whole = meta-fits f.layout f.meta.meta fitting.meta in
    subst (λ (rs : List ImageRow). IsTrue (fits_meta (record { banks = length f.meta.meta.states; rows = rs }) f.meta.meta)) (sym fitting.rows)
    (subst (λ (b : ℕ). IsTrue (fits_meta (record { banks = b; rows = f.layout.rows }) f.meta.meta)) (sym whole.states) fitting.meta)

pub rows-some : (f : Fields) → Fitting f → 1 ≤ length f.session.rows
rows-some f fitting =
    let limits = layout-limits f.layout fitting.layout in
    let count : length f.session.rows ≡ length f.layout.rows = ap (λ (l : List ImageRow). length l) fitting.rows in
    omega (arith, limits.rows, count)

-- ---- what was appended stays in the slot, at any exit

module _ {T : Type 0} (result : Result T FlashStop) (f : Fields) (image first size : ℕ) (rest bytes left : List ℕ) (s t : Told)
    (at : first ≡ start f.layout (target f) image) (fits : size + length bytes ≤ slot_bytes f.layout image)
    (appends : Appends result first size rest bytes left s t) where
  appends-keeps : Keeps (4096 * start f.layout (target f) image)
      (4096 * start f.layout (target f) image + slot_bytes f.layout image) s t
  appends-keeps =
      keeps_wider (4096 * first + done_of size) (4096 * (first + blocks_for (done_of (size + length bytes))))
      (4096 * start f.layout (target f) image)
      (4096 * start f.layout (target f) image + slot_bytes f.layout image) s t (omega (arith, at))
      (omega (arith, at, fits)) appends.keeps

  pub appends-stay : Fitting f → SessionSound f → Knows f s → IsTrue (is_invalid (state_at f.meta.meta (target f)))
      → image < length f.layout.rows
      → blocks_needed f.layout * 4096 ≤ length s.now → StaysKnown f image s t
  appends-stay fitting sound knows invalid within room =
      stays-known f image s t fitting sound knows invalid within room appends-keeps

  -- nor does anything change beside the update bank
  pub appends-spare : f.boot ≡ f.meta.meta.active → KeepsSpared f s t
  appends-spare active = slot-spares f image s t active appends-keeps

-- nor is any other block erased or programmed
pub appends-blocks : (f : Fields) (image first size : ℕ) (bytes : List ℕ) {old_writes new_writes : ℕ → ℕ} → f.boot ≡ f.meta.meta.active
    → first ≡ start f.layout (target f) image → size + length bytes ≤ slot_bytes f.layout image
    → TouchesOnly (4096 * first + done_of size) (4096 * (first + blocks_for (done_of (size + length bytes)))) old_writes new_writes
    → SparesBlocks f old_writes new_writes
appends-blocks f image first size bytes active at fits touches =
    slot-blocks f image (4096 * first + done_of size) (4096 * (first + blocks_for (done_of (size + length bytes)))) active (omega (arith, at))
    (omega (arith, at, fits)) touches
