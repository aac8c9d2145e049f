-- A repair of a table leaves the flash that its partitions are.
use Rattle.std.proofs.Common.{◌≡◌, ◌⊎◌, inl, inr, ℕ, ◌+◌, ◌-◌, ◌*◌, ◌/◌, ◌<◌, ◌≤◌, List, Ok, sym, ◌∙◌, ap, subst, arith, refl}
use Rattle.std.proofs.lemmas.Bool.{cases_lt, lt-ltb, le-ltb}
use Rattle.flash_core.specs.{Told.Told, Told.NothingDirty, Told.fresh, May.Keeps, May.May}
use Rattle.gpt_core.specs.{declared.layout.Places.Places, declared.table.WhichTable.WhichTable, Places.behind, Places.byte_behind}
use Rattle.gpt_core.specs.{Places.through, PlacesOf.places_of, Repair.StaysBeside, Repair.TouchesToMend, Table.Table}
use Rattle.gpt_core.specs.{Table.blocks_of, Table.entry_number_of, View.view_of, View.writes_seen}
use Rattle.gpt_core.specs.declared.table.WhichTable.TheVariants.{Same, RepairPrimary, RepairBackup}
use Rattle.flash_core.proofs.OneCall.{sure_settled}
use Rattle.gpt_core.proofs.{Stepping.image_is_now, Seen.by_block, Seen.through-same, Viewed.now-view, Viewed.view-fresh}
use Rattle.gpt_core.proofs.Placing.{Within, places_within}

-- the view of a device with nothing dirty has nothing dirty
pub view-clean : (p : Places) (t : Told) → NothingDirty t → NothingDirty (view_of p t)
view-clean p t clean = ap (view_of p) clean ∙ view-fresh p t t.now ∙ ap (fresh (view_of p t).guard) (sym (now-view p t))

-- no block of the flash lies in a copy of the table
between : (blocks e : ℕ) (p : Places) (b : ℕ) → Within blocks e p → b < p.store_blocks → (2 + e ≤ behind p b) × (behind p b + 2 + e ≤ blocks)
between blocks e p b within =
    by_block p (λ k c. k < p.store_blocks → (2 + e ≤ c) × (c + 2 + e ≤ blocks)) b (λ _. within.zero) (λ _. within.one)
    (λ _ _ below. (omega (arith, within.store), omega (arith, below, within.store)))

-- what is repaired lies beside the blocks of the flash
lies_beside : (blocks : ℕ) (t : Table) (p : Places) → places_of blocks t ≡ Ok p → (b : ℕ) → b < p.store_blocks
    → (4096 * (2 + blocks_of (entry_number_of t)) ≤ 4096 * behind p b) × (4096 * behind p b + 4096 ≤ 4096 * (blocks - 1 - blocks_of (entry_number_of t)))
lies_beside blocks t p gives b below =
    let block = between blocks (blocks_of (entry_number_of t)) p b (places_within blocks t p gives) below in
    (omega (arith, block), omega (arith, block))

bytes_beside : (blocks : ℕ) (t : Table) (p : Places) → places_of blocks t ≡ Ok p → (i : ℕ) → i < 4096 * p.store_blocks
    → (4096 * (2 + blocks_of (entry_number_of t)) ≤ byte_behind p i) × (byte_behind p i < 4096 * (blocks - 1 - blocks_of (entry_number_of t)))
unfolding byte_behind
bytes_beside blocks t p gives i below =
    let block = lies_beside blocks t p gives (i / 4096) (omega (arith, below)) in
    (omega (arith, block), omega (arith, block))

-- what changed bytes that aren't seen is seen as before, and so is each image that a loss may leave of it
module _ (p : Places) (s u : Told) (low high : ℕ) (keeps : Keeps low high s u) (was : NothingDirty s)
    (out : (i : ℕ) → i < 4096 * p.store_blocks → (byte_behind p i < low) ⊎ (high ≤ byte_behind p i)) where
  view-kept : NothingDirty u → view_of p u ≡ view_of p s
  view-kept clean =
      ap (view_of p) (clean ∙ ap (λ (g : List ℕ). fresh g u.now) keeps.guard)
      ∙ view-fresh p s u.now
      ∙ ap (fresh (view_of p s).guard) (through-same p u.now s.now (λ i below. keeps.now (byte_behind p i) (out i below)))
      ∙ sym (view-fresh p s s.now)
      ∙ ap (view_of p) (sym was)

  image-kept : (image : List ℕ) → May u image → through p image ≡ through p s.now
  image-kept image may =
      through-same p image s.now (λ i below. let at = byte_behind p i in
      may.leaves.sure at (keeps.sure at (out i below) (sure_settled s was at)) ∙ keeps.now at (out i below))

pub repair-keeps : (blocks : ℕ) (t : Table) (which : WhichTable) (p : Places) (s u : Told) (image : List ℕ) → places_of blocks t ≡ Ok p → NothingDirty s
    → StaysBeside blocks t which s u → May u image → through p image ≡ through p s.now
repair-keeps blocks t Same p s u image gives was beside may = ap (through p) (image_is_now s image was (subst (λ (v : Told). May v image) beside may))
repair-keeps blocks t RepairPrimary p s u image gives was beside may =
    image-kept p s u _ _ beside was (λ i below. inr (bytes_beside blocks t p gives i below).0) image may
repair-keeps blocks t RepairBackup p s u image gives was beside may =
    image-kept p s u _ _ beside was (λ i below. inl (bytes_beside blocks t p gives i below).1) image may

pub repair-leaves : (blocks : ℕ) (t : Table) (which : WhichTable) (p : Places) (s u : Told) → places_of blocks t ≡ Ok p → NothingDirty s → NothingDirty u
    → StaysBeside blocks t which s u → view_of p u ≡ view_of p s
repair-leaves blocks t Same p s u gives was clean beside = ap (view_of p) beside
repair-leaves blocks t RepairPrimary p s u gives was clean beside =
    view-kept p s u _ _ beside was (λ i below. inr (bytes_beside blocks t p gives i below).0) clean
repair-leaves blocks t RepairBackup p s u gives was clean beside =
    view-kept p s u _ _ beside was (λ i below. inl (bytes_beside blocks t p gives i below).1) clean

-- counts that are the same at the blocks of the flash are seen as the same
seen_same : (p : Places) (old new : ℕ → ℕ) → ((b : ℕ) → b < p.store_blocks → new (behind p b) ≡ old (behind p b)) → writes_seen p new ≡ writes_seen p old
seen_same p old new same = λ k b. at b k
  where
    at : (b : ℕ) → writes_seen p new b ≡ writes_seen p old b
    at b = elim (cases_lt b p.store_blocks) [
      | inl within ↦ rw (lt-ltb b p.store_blocks within) (same b within)
      | inr past ↦ rw (le-ltb b p.store_blocks past) refl
    ]

pub repair-spares : (blocks : ℕ) (t : Table) (which : WhichTable) (p : Places) (old new : ℕ → ℕ) → places_of blocks t ≡ Ok p
    → TouchesToMend blocks t which old new → writes_seen p new ≡ writes_seen p old
repair-spares blocks t Same p old new gives same = ap (writes_seen p) same
repair-spares blocks t RepairPrimary p old new gives only = seen_same p old new (λ b below. only (behind p b) (inr (lies_beside blocks t p gives b below).0))
repair-spares blocks t RepairBackup p old new gives only = seen_same p old new (λ b below. only (behind p b) (inl (lies_beside blocks t p gives b below).1))
