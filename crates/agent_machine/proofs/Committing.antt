-- An image is committed: what the agent knows afterwards.
use Rattle.std.proofs.Common.{◌≡◌, ◌≢◌, inl, inr, ℕ, ◌+◌, ◌*◌, ◌<◌, ◌≤◌, Bool, List, length, Ok, sym, ap, ap₂, ◌∙◌, subst, arith, IsTrue}
use Rattle.std.proofs.lemmas.Bool.{cases_eq}
use Rattle.std.specs.Prelude.{Result}
use Rattle.flash_core.specs.{declared.flash.FlashStop.FlashStop, Told.Told, May.Keeps, Touches.TouchesOnly}
use Rattle.flash_core.proofs.Calls.{keeps_wider, quiet_fresh}
use Rattle.sha2.specs.declared.Sha256.{Sha256}
use Rattle.fwu_formats.specs.{Layout.ImageRow, Layout.start, Layout.slot_bytes, Layout.blocks_needed, Metadata.state_at}
use Rattle.fwu_model.specs.State.{is_invalid}
use Rattle.slot_writer.specs.Slots.{FinishesImage, IsBlankAhead, blocks_for, done_of}
use Rattle.agent_kept.specs.declared.parts.Part.{Part}
use Rattle.agent_kept.specs.declared.parts.Part.TheVariants.{Nothing, Open, Committed}
use Rattle.agent_kept.specs.Kept.{Kept, IsKept, CommitsPart, CommitsTo, part_at, part_meant, size_of}
use Rattle.agent_kept.proofs.After.{kept-committed, open-committed}
use Rattle.agent_machine.specs.{Beside.KeepsSpared, Beside.SparesBlocks, Knows.Fitting, Knows.SessionSound, Knows.Knows}
use Rattle.agent_machine.specs.Fields.{Fields, target, rest_of, with_session}
use Rattle.agent_machine.specs.Machine.{state_in, staged_bytes, part_bytes}
use Rattle.agent_machine.proofs.{Beside.slot-blocks, Beside.slot-spares, Answered.MeansSame, Answered.kept-same}
use Rattle.agent_machine.proofs.{Staging.StaysKnown, Staging.stays-known, Writing.known-again}
pub use Rattle.agent_machine.proofs.Staging.{slot-room}

-- what ending an image leaves of the others, at any exit
module _ {T : Type 0} (result : Result T FlashStop) (f : Fields) (image size : ℕ) (s t : Told)
    (fits : size ≤ slot_bytes f.layout image)
    (finishes : FinishesImage result (start f.layout (target f) image) size (rest_of f image) s t) where
  finish-keeps : Keeps (4096 * start f.layout (target f) image) (4096 * start f.layout (target f) image + slot_bytes f.layout image)
      s t
  finish-keeps =
      let first : ℕ = start f.layout (target f) image in
      keeps_wider (4096 * first + done_of size) (4096 * (first + blocks_for size)) (4096 * first)
      (4096 * first + slot_bytes f.layout image) s t
      (omega arith) (omega (arith, fits)) finishes.keeps

  pub finish-stays : Fitting f → SessionSound f → Knows f s → IsTrue (is_invalid (state_at f.meta.meta (target f)))
      → image < length f.layout.rows
      → blocks_needed f.layout * 4096 ≤ length s.now → StaysKnown f image s t
  finish-stays fitting sound knows invalid within room =
      stays-known f image s t fitting sound knows invalid within room finish-keeps

  -- nor does anything change beside the update bank
  pub finish-spares : f.boot ≡ f.meta.meta.active → KeepsSpared f s t
  finish-spares active = slot-spares f image s t active finish-keeps

ended : (size : ℕ) (hasher : Sha256) (bit : Bool) (q : Part) → CommitsTo (Open size hasher) q bit → (digest : List ℕ) × (q ≡ Committed size digest bit)
ended size hasher bit Nothing c = absurd c
ended size hasher bit (Open n other) c = absurd c
ended size hasher bit (Committed n digest b) c = (digest, ap₂ (λ (m : ℕ) (x : Bool). Committed m digest x) c.0 c.1)

-- what a flash has of an agent's images after a commit
pub record CommitLeaves (f : Fields) (k : Kept) (s t : Told) : Type 0 where
  pub known : Knows (with_session f k f.rests) t
  pub state_is : state_in (with_session f k f.rests) t.now ≡ state_in f s.now
  pub means : MeansSame k (staged_bytes f s.now) (staged_bytes (with_session f k f.rests) t.now)

module _ (f : Fields) (k : Kept) (image place size : ℕ) (hasher : Sha256) (bit : Bool) (s t : Told) (fitting : Fitting f) (sound : SessionSound f)
    (knows : Knows f s)
    (invalid : IsTrue (is_invalid (state_at f.meta.meta (target f))))
    (within : image < length f.layout.rows) (room : blocks_needed f.layout * 4096 ≤ length s.now) (was : part_at f.session image ≡ Open size hasher)
    (commits : CommitsPart f.session image place bit k)
    (finishes : FinishesImage {T = Unit {0}} (Ok tt) (start f.layout (target f) image) size (rest_of f image) s t) where
  abbrev g : Fields
  g = with_session f k f.rests

  abbrev first : ℕ
  first = start f.layout (target f) image

  fits : size ≤ slot_bytes f.layout image
  fits = omega (arith, ap size_of was, slot-room f fitting sound image within)

  stays : StaysKnown f image s t
  stays = finish-stays {T = Unit {0}} (Ok tt) f image size s t fits finishes fitting sound knows invalid within room

  part : (digest : List ℕ) × (part_at k image ≡ Committed size digest bit)
  part = ended size hasher bit (part_at k image) (subst (λ (p : Part). CommitsTo p (part_at k image) bit) was commits.part)

  image-same : staged_bytes g t.now image ≡ staged_bytes f s.now image
  image-same =
      ap (λ (p : Part). part_bytes first p (rest_of f image) t.now) part.1 ∙ finishes.written
      ∙ ap (λ (p : Part). part_bytes first p (rest_of f image) s.now) (sym was)

  others-same : (other : ℕ) → other ≢ image → other < length f.layout.rows → staged_bytes g t.now other ≡ staged_bytes f s.now other
  others-same other ne lt = ap (λ (p : Part). part_bytes (start f.layout (target f) other) p (rest_of f other) t.now) (commits.others other ne)
      ∙ stays.others other ne lt

  committed-bytes : (other : ℕ) → other < length f.layout.rows → staged_bytes g t.now other ≡ staged_bytes f s.now other
  committed-bytes other lt = elim (cases_eq other image) [
    | inl same ↦ subst (λ (j : ℕ). staged_bytes g t.now j ≡ staged_bytes f s.now j) (sym same) image-same
    | inr ne ↦ others-same other ne lt
  ]

  rows-same : length k.rows ≡ length f.layout.rows
  rows-same = ap (λ (l : List ImageRow). length l) (commits.rows ∙ fitting.rows)

  within-kept : image < length f.session.rows
  within-kept = omega (arith, within, ap (λ (l : List ImageRow). length l) fitting.rows)

  committed-means : MeansSame k (staged_bytes f s.now) (staged_bytes g t.now)
  committed-means i lt = ap (part_meant (part_at k i)) (committed-bytes i (omega (arith, lt, rows-same)))

  kept-after : IsKept k (staged_bytes g t.now)
  kept-after =
      kept-same k (staged_bytes f s.now) (staged_bytes g t.now) (omega (arith, within, rows-same)) committed-means
      (kept-committed f.session k image place bit (staged_bytes f s.now) knows.staged.kept within-kept commits)

  committed-knows : Knows g t
  committed-knows = known-again f k f.rests image s t knows stays commits.staging (record {
    kept = kept-after;
    ahead = λ other n h lt is. elim (cases_eq other image) [
      | inl same ↦ absurd (open-committed n size h part.0 bit (sym is ∙ ap (λ (j : ℕ). part_at k j) same ∙ part.1))
      | inr ne ↦ stays.ahead other n h ne lt (sym (commits.others other ne) ∙ is)
    ];
    padded = λ other n d b lt is. elim (cases_eq other image) [
      | inl same ↦
          let e : size ≡ n = ap size_of (sym part.1 ∙ ap (λ (j : ℕ). part_at k j) (sym same) ∙ is) in
          subst (λ (j : ℕ). IsBlankAhead (start f.layout (target f) j) n t.now) (sym same) (subst (λ (j : ℕ). IsBlankAhead first j t.now) e finishes.padded)
      | inr ne ↦ stays.padded other n d b ne lt (sym (commits.others other ne) ∙ is)
    ];
    sure = λ other n d b lt is. quiet_fresh _ _ t finishes.stable;
  })

  pub committed : CommitLeaves f k s t
  committed = record { known = committed-knows; state_is = stays.state_is; means = committed-means }

-- nor is any other block erased or programmed
pub finish-blocks : (f : Fields) (image size : ℕ) {old_writes new_writes : ℕ → ℕ} → f.boot ≡ f.meta.meta.active → size ≤ slot_bytes f.layout image
    → TouchesOnly (4096 * start f.layout (target f) image + done_of size) (4096 * (start f.layout (target f) image + blocks_for size)) old_writes
    new_writes → SparesBlocks f old_writes new_writes
finish-blocks f image size active fits touches =
    let first : ℕ = start f.layout (target f) image in
    slot-blocks f image (4096 * first + done_of size) (4096 * (first + blocks_for size)) active (omega arith) (omega (arith, fits)) touches
