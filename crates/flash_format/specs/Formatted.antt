-- What a flash shows that was formatted, and what one holds whose package was refused.
use Rattle.std.specs.Prelude.{◌≡◌, ◌⊎◌, ◌+◌, ◌-◌, ◌*◌, ◌<◌, ℕ, Bool, true, false, List, [], ◌∷◌, ◌++◌, length, replicate, Some, None, Ok, IsErr, IsTrue, slice_index_or}
use Rattle.base_core.specs.Block.{block_bytes, blank, block}
use Rattle.flash_core.specs.{declared.flash.Flash.Ghosts, May.Keeps, May.May, Replaces.padded}
use Rattle.flash_core.specs.Told.{Told, NothingDirty, fresh}
use Rattle.fwu_formats.specs.{Metadata.first_meta, Metadata.replica_bytes, Image.layout_seen, Image.package_in, Image.slot}
use Rattle.fwu_formats.specs.Layout.{ImageRow, Layout, blocks_needed, layout_bytes, slot_bytes, slot_total}
use Rattle.fwu_formats.specs.Manifest.{is_complete, manifest_part, version}
use Rattle.fwu_formats.specs.declared.kinds.BankState.TheVariants.{Accepted, Invalid}
use Rattle.fwu_model.specs.{Seen.seen, Seen.SoundFlash, State.State, State.Bank, Sound.Setting}
use Rattle.fwu_model.specs.Replica.{BothHold, in_version}
use Rattle.flash_format.specs.Places.{OnlyErased, Erased}
use Rattle.image_check.specs.{Law.verdict_may_start, Passed.HasPassed, Verdict.verdict_on, declared.bank.Verdict.Verdict}
use Rattle.image_check.specs.declared.bank.Verdict.TheVariants.{Good}

-- the layout that so many banks and these rows ask for
abbrev pub asked_layout : ℕ → List ImageRow → Layout
asked_layout banks rows = record { banks = banks; rows = rows }

-- a bank that holds an accepted package, and one that holds none
abbrev pub full_bank : Layout → List (List ℕ) → Bank
full_bank L p = record { state = Accepted; bits = replicate (length L.rows) true; held = Some p }

abbrev pub empty_bank : Layout → Bank
empty_bank L = record { state = Invalid; bits = replicate (length L.rows) false; held = None }

-- the state after a format: bank 0 is active and before, and holds the package
abbrev pub first_state : Layout → List (List ℕ) → State
first_state L p =
    record
    { form = 2; active = 0; previous = 0; banks = full_bank L p ∷ replicate (L.banks - 1) (empty_bank L); trials = 0; counter = 0 }

-- the flash has the layout and its first metadata, with nothing dirty,
-- and bank 0 holds a complete package of this version that passes
pub record IsFormatted (passes : List ℕ → Bool) (L : Layout) (v : ℕ) (t : Told) : Type 0 where
  pub layout : layout_seen t.now ≡ Ok L
  pub replicas : BothHold L (in_version 2 (first_meta L)) t.now
  pub clean : NothingDirty t
  pub installed : List (List ℕ)
  pub held : package_in L t.now 0 ≡ Some installed
  pub complete : IsTrue (is_complete L.rows installed)
  pub passed : IsTrue (passes (manifest_part installed))
  pub version_is : version installed ≡ v
  pub shows : seen t.now ≡ Some (first_state L installed)
  pub sound : (E : Setting) → E.layout ≡ L → E.passes ≡ passes → SoundFlash E t.now

-- the layout and the first metadata stand in their one spelling, with erased bytes behind them
pub record IsSpelled (L : Layout) (image : List ℕ) : Type 0 where
  pub layout : block 0 image ≡ padded (layout_bytes L)
  pub zero : block 1 image ≡ padded (replica_bytes L (first_meta L))
  pub one : block 2 image ≡ padded (replica_bytes L (first_meta L))

-- A flash was made with this layout, and its package has this version.
pub record IsMade {D : Type 0} (g : Ghosts D) (passes : List ℕ → Bool) (L : Layout) (v : ℕ) (new : D) : Type 0 where
  -- On any device the version is that of some complete package whose manifest passes.
  pub passed : HasPassed passes L.rows 0 (Good v)
  -- Where it tells: what it shows, and that it is sound.
  pub formatted : IsTrue g.tells → IsFormatted passes L v (g.told new)
  pub spelled : IsTrue g.tells → IsSpelled L (g.told new).now

-- the flash has no layout, and no loss leaves one
pub record IsUnlaid (t : Told) : Type 0 where
  pub now : IsErr (layout_seen t.now)
  pub left : (image : List ℕ) → May t image → IsErr (layout_seen image)

-- The images stand in the slots of bank 0, with erased bytes behind them. Where they are a complete package, it is the one that
-- bank 0 holds. (Where an image has more bytes than its row says, the package in bank 0 has the first of them,
-- and the images themselves are none.)
pub record HoldsImages (L : Layout) (images : List (List ℕ)) (image : List ℕ) : Type 0 where
  pub slots : (i : ℕ) → i < length L.rows
      → slot L image 0 i ≡ slice_index_or images i [] ++ blank (slot_bytes L i - length (slice_index_or images i []))
  pub held : IsTrue (is_complete L.rows images) → package_in L image 0 ≡ Some images

-- the flash has no layout, and this is the verdict on bank 0, which isn't good
pub record IsRefusedFormat (passes : List ℕ → Bool) (L : Layout) (found : Verdict) (image : List ℕ) : Type 0 where
  pub blank : IsErr (layout_seen image)
  -- and the first eight blocks are erased
  pub front : Erased 0 (block_bytes * 8) image
  pub found_is : verdict_on passes 0 L image 0 ≡ found
  pub bad : verdict_may_start found ≡ false

-- blocks 3 to 7 are erased, and so are the banks behind bank 0
pub record IsBlank (L : Layout) (image : List ℕ) : Type 0 where
  pub front : Erased (block_bytes * 3) (block_bytes * 8) image
  pub banks : Erased (block_bytes * (8 + slot_total L.rows)) (block_bytes * blocks_needed L) image

-- the image has this layout, or none
abbrev pub HasAtMost : Layout → List ℕ → Type 0
HasAtMost L image = IsErr (layout_seen image) ⊎ (layout_seen image ≡ Ok L)

-- both replicas are those of the first metadata
abbrev pub HoldFirst : Layout → List ℕ → Type 0
HoldFirst L image = BothHold L (in_version 2 (first_meta L)) image

-- each image that the next power-on may leave has no layout, or both replicas
abbrev pub IsOrdered : Layout → Told → Type 0
IsOrdered L t = (image : List ℕ) → May t image → IsErr (layout_seen image) ⊎ HoldFirst L image

-- each image that the next power-on may leave with this layout is, with power on, a flash that was formatted
abbrev pub IsWholeFormat : (List ℕ → Bool) → Layout → Told → Type 0
IsWholeFormat passes L t = (image : List ℕ) → May t image → layout_seen image ≡ Ok L
    → (v : ℕ) × IsFormatted passes L v (fresh t.guard image)

-- What a format that led from s to t did is in order: block 0 is erased first, and the layout is written last.
pub data IsInOrder (passes : List ℕ → Bool) (L : Layout) (s t : Told) : Type 0 where
  -- from byte 4096 on all is as it was, and block 0 was erased at most
  begun : OnlyErased s t → Keeps 0 block_bytes s t → IsInOrder passes L s t
  -- no loss leaves a layout, and the first eight blocks were erased at most
  bared : OnlyErased s t → ((image : List ℕ) → May t image → IsErr (layout_seen image)) → IsInOrder passes L s t
  -- Each loss leaves blocks 3 to 7 and the banks behind bank 0 erased, and a layout only with both replicas. It leaves this one
  -- only on a flash that is formatted whole, and no other layout is there.
  filled : ((image : List ℕ) → May t image → IsBlank L image) → IsOrdered L t → IsWholeFormat passes L t → HasAtMost L t.now
      → IsInOrder passes L s t
