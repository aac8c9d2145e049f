-- What no call of the agent changes.
use Rattle.std.proofs.Common.{◌≡◌, ◌⊎◌, inl, inr, ℕ, ◌+◌, ◌*◌, ◌%◌, ◌<◌, ◌≤◌, take, Result, Ok, refl, sym, ap, ◌∙◌, subst, arith}
use Rattle.flash_core.specs.{Told.Told, May.Keeps, Touches.TouchesOnly, declared.flash.FlashStop.FlashStop}
use Rattle.fwu_formats.specs.{Layout.Layout, Layout.slot_bytes, Layout.slot_total, Layout.start, Metadata.Meta}
use Rattle.fwu_formats.proofs.Same.{slots-fit}
use Rattle.marks_core.specs.Marks.{Clears}
use Rattle.replicas.specs.Stores.{Stores}
use Rattle.agent_machine.specs.{Ends.ClearsAndStores, Fields.Fields, Fields.target}
use Rattle.agent_machine.specs.Beside.{IsBesideBank, IsSpared, IsSparedByAll, KeepsSpared, KeepsSparedByAll, KeepsWhere, SparesBlocks, SparesBlocksByAll, SparesBlocksWhere}

-- ---- bytes that are kept

pub spared-same : (P : ℕ → Type 0) (s : Told) → KeepsWhere P s s
spared-same P s = record { size = refl; now = λ i spared. refl; sure = λ i spared sure. sure }

pub spared-told : (P : ℕ → Type 0) (s t : Told) → t ≡ s → KeepsWhere P s t
spared-told P s t is = subst (KeepsWhere P s) (sym is) (spared-same P s)

pub spared-then : (P : ℕ → Type 0) (s t u : Told) → KeepsWhere P s t → KeepsWhere P t u → KeepsWhere P s u
spared-then P s t u one two = record {
  size = two.size ∙ one.size;
  now = λ i spared. two.now i spared ∙ one.now i spared;
  sure = λ i spared sure. two.sure i spared (one.sure i spared sure);
}

-- fewer bytes are spared
pub spared-fewer : (P Q : ℕ → Type 0) (s t : Told) → ((i : ℕ) → Q i → P i) → KeepsWhere P s t → KeepsWhere Q s t
spared-fewer P Q s t fewer kept = record {
  size = kept.size;
  now = λ i spared. kept.now i (fewer i spared);
  sure = λ i spared sure. kept.sure i (fewer i spared) sure;
}

-- nothing changes but from low to high
pub spared-outside : (P : ℕ → Type 0) (low high : ℕ) (s t : Told) → ((i : ℕ) → P i → (i < low) ⊎ (high ≤ i)) → Keeps low high s t → KeepsWhere P s t
spared-outside P low high s t outside keeps = record {
  size = keeps.size;
  now = λ i spared. keeps.now i (outside i spared);
  sure = λ i spared sure. keeps.sure i (outside i spared) sure;
}

-- ---- blocks that no erase or program touched

pub blocks-still : (P : ℕ → Type 0) {a b : ℕ → ℕ} → b ≡ a → SparesBlocksWhere P a b
blocks-still P same n spared = ap (λ (writes : ℕ → ℕ). writes n) same

pub blocks-then : (P : ℕ → Type 0) {a b c : ℕ → ℕ} → SparesBlocksWhere P a b → SparesBlocksWhere P b c → SparesBlocksWhere P a c
blocks-then P one two n spared = two n spared ∙ one n spared

-- fewer blocks are spared
pub blocks-fewer : (P Q : ℕ → Type 0) {a b : ℕ → ℕ} → ((i : ℕ) → Q i → P i) → SparesBlocksWhere P a b → SparesBlocksWhere Q a b
blocks-fewer P Q fewer one n spared = one n (fewer (4096 * n) spared)

-- ---- the blocks of the metadata

module _ (f : Fields) where
  beside-replicas : (i : ℕ) → IsSpared f i → (i < 4096 * 1) ⊎ (4096 * 3 ≤ i)
  beside-replicas i spared = elim (spared.0) [ inl low ↦ inl low | inr high ↦ inr (omega (arith, high)) ]

  beside-marks : (i : ℕ) → IsSpared f i → (i < 4096 * 3) ⊎ (4096 * 3 + 4096 ≤ i)
  beside-marks i spared = elim (spared.0) [ inl low ↦ inl (omega (arith, low)) | inr high ↦ inr (omega (arith, high)) ]

  -- a store of metadata
  pub stores-spare : {T : Type 0} (result : Result T FlashStop) (L : Layout) (m : Meta) (s t : Told) → Stores result L m s t → KeepsSpared f s t
  stores-spare result L m s t stores = spared-outside (IsSpared f) (4096 * 1) (4096 * 3) s t beside-replicas stores.writes.keeps

  -- a clear of the marks
  pub clears-spare : {T : Type 0} (result : Result T FlashStop) (s t : Told) → Clears result 3 s t → KeepsSpared f s t
  clears-spare result s t clears = spared-outside (IsSpared f) (4096 * 3) (4096 * 3 + 4096) s t beside-marks clears.keeps

  -- and both
  pub ends-spare : {T : Type 0} (result : Result T FlashStop) (L : Layout) (m : Meta) (s t : Told) → ClearsAndStores result L m s t → KeepsSpared f s t
  ends-spare result L m s t (inl (mid, clears, stores)) =
      spared-then (IsSpared f) s mid t (clears-spare {T = Unit {0}} (Ok tt) s mid clears) (stores-spare result L m mid t stores)
  ends-spare result L m s t (inr (err, clears)) = clears-spare result s t clears

-- ---- and by the counts, on every device

module _ (f : Fields) {a b : ℕ → ℕ} where
  pub metadata-blocks : TouchesOnly (4096 * 1) (4096 * 3) a b → SparesBlocks f a b
  metadata-blocks touches n spared =
      touches n (elim (spared.0) [ inl low ↦ inl (omega (arith, low)) | inr high ↦ inr (omega (arith, high)) ])

-- ---- a slot of the update bank

slot-inside : (L : Layout) (bank image i : ℕ) → IsBesideBank L bank i
    → (i < 4096 * start L bank image) ⊎ (4096 * start L bank image + slot_bytes L image ≤ i)
slot-inside L bank image i (inl low) =
    let none : slot_total (take 0 L.rows) ≡ 0 = refl in
    inl (omega (arith, low, none))
slot-inside L bank image i (inr high) =
    let next : (bank + 1) * slot_total L.rows ≡ bank * slot_total L.rows + slot_total L.rows = grind arith in
    inr (omega (arith, high, next, slots-fit L.rows image))

-- what is written in a slot of a staging, which is of the active bank
pub slot-spares : (f : Fields) (image : ℕ) (s t : Told) → f.boot ≡ f.meta.meta.active
    → Keeps (4096 * start f.layout (target f) image) (4096 * start f.layout (target f) image + slot_bytes f.layout image) s t
    → KeepsSpared f s t
slot-spares f image s t active keeps =
    spared-outside (IsSpared f) (4096 * start f.layout (target f) image) (4096 * start f.layout (target f) image + slot_bytes f.layout image) s t
    (λ i spared. slot-inside f.layout (target f) image i (spared.1 active)) keeps

-- and by the counts
pub slot-blocks : (f : Fields) (image low high : ℕ) {a b : ℕ → ℕ} → f.boot ≡ f.meta.meta.active → 4096 * start f.layout (target f) image ≤ low
    → high ≤ 4096 * start f.layout (target f) image + slot_bytes f.layout image → TouchesOnly low high a b → SparesBlocks f a b
slot-blocks f image low high active above below touches n spared =
    touches n (elim (slot-inside f.layout (target f) image (4096 * n) (spared.1 active)) [
      | inl before ↦ inl (omega (arith, before, above))
      | inr behind ↦ inr (omega (arith, behind, below))
    ])

-- ---- calls in a row

spared-by-one : (f : Fields) (i : ℕ) → IsSparedByAll f.layout f.boot i → IsSpared f i
spared-by-one f i spared = (
  spared.0,
  λ active. subst (λ (b : ℕ). IsBesideBank f.layout ((b + 1) % f.layout.banks) i) active spared.1,
)

-- one call
pub spared-once : (f : Fields) (s t : Told) → KeepsSpared f s t → KeepsSparedByAll f s t
spared-once f s t kept = spared-fewer (IsSpared f) (IsSparedByAll f.layout f.boot) s t (spared-by-one f) kept

-- and further ones, with the same layout and bank
pub spared-further : (f g : Fields) (s t u : Told) → g.layout ≡ f.layout → g.boot ≡ f.boot → KeepsSparedByAll f s t → KeepsSparedByAll g t u
    → KeepsSparedByAll f s u
spared-further f g s t u layout boot one two =
    spared-then (IsSparedByAll f.layout f.boot) s t u one
    (subst (λ (L : Layout). KeepsWhere (IsSparedByAll L f.boot) t u) layout
    (subst (λ (b : ℕ). KeepsWhere (IsSparedByAll g.layout b) t u) boot two))

pub blocks-once : (f : Fields) {a b : ℕ → ℕ} → SparesBlocks f a b → SparesBlocksByAll f a b
blocks-once f one = blocks-fewer (IsSpared f) (IsSparedByAll f.layout f.boot) (spared-by-one f) one

pub blocks-further : (f g : Fields) {a b c : ℕ → ℕ} → g.layout ≡ f.layout → g.boot ≡ f.boot → SparesBlocksByAll f a b → SparesBlocksByAll g b c
    → SparesBlocksByAll f a c
blocks-further f g {b = b} {c = c} layout boot one two =
    blocks-then (IsSparedByAll f.layout f.boot) one
    (subst (λ (L : Layout). SparesBlocksWhere (IsSparedByAll L f.boot) b c) layout
    (subst (λ (n : ℕ). SparesBlocksWhere (IsSparedByAll g.layout n) b c) boot two))
