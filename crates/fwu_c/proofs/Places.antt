-- Where the steps of an update lie, by what its boot and its sending count.
use Rattle.std.proofs.Common.{◌≡◌, ◌≢◌, ◌⊎◌, ◌∙◌, inl, inr, All, List, ℕ, ◌+◌, ◌*◌, ◌%◌, ◌<◌, ◌≤◌, IsTrue, arith}
use Rattle.std.proofs.lemmas.Bool.{cases_lt}
use Rattle.std.proofs.Math.Nat.{mod-lt}
use Rattle.base_core.specs.Block.{block_bytes}
use Rattle.flash_core.specs.Touches.{TouchesOnly}
use Rattle.fwu_formats.specs.{Layout.Layout, Layout.fits_layout, Layout.slot_total, Layout.start, Places.counter_block}
use Rattle.fwu_formats.proofs.SealLaws.{limits}
use Rattle.fwu_model.proofs.Banks.{next-other}
use Rattle.moves.proofs.Staged.{banks-order}
use Rattle.image_check.proofs.OfBank.{some_blocks}
use Rattle.agent_machine.specs.Beside.{IsBesideBank, IsSparedByAll}
use Rattle.step_flash.specs.{declared.flash.StepFlash.StepFlash, Flash.block_count, Flash.writes_of}
use Rattle.step_flash.specs.{declared.step.Step.Step, Writes.LiesBeside, Writes.LiesWithin}
use Rattle.step_flash.proofs.Places.{none_behind}
use Rattle.fwu_c.specs.Handed.{boot_reach}

-- the bank behind one is another one
other-follows : (banks bank : ℕ) → 2 ≤ banks → (bank + 1) % banks ≢ bank
other-follows banks bank two = elim (cases_lt bank banks) [
  | inl below ↦ next-other banks bank two below
  | inr behind ↦ λ same. let less : (bank + 1) % banks < banks = mod-lt (bank + 1) (omega (arith, two)) in omega (arith, less, same, behind)
]

-- the bank behind one
abbrev pub update-bank : Layout → ℕ → ℕ
update-bank L bank = (bank + 1) % L.banks

-- a bank begins behind block 6
pub behind-front : (L : Layout) (bank : ℕ) → 7 < start L bank 0
behind-front L bank = omega arith

-- steps that lie before the end of a bank, and beside what is between block 6 and the bank
pub either-place : (L : Layout) (bank : ℕ) (steps : List Step) → All (LiesWithin block_bytes (block_bytes * start L (bank + 1) 0)) steps
    → All (LiesBeside boot_reach (block_bytes * start L bank 0)) steps
    → All (λ s. LiesWithin block_bytes boot_reach s ⊎ LiesWithin (block_bytes * start L bank 0) (block_bytes * start L (bank + 1) 0) s) steps
either-place L bank steps within beside = λ k d lt. elim (within k d lt) [
  | inl barrier ↦ inl (inl barrier)
  | inr place ↦ elim (beside k d lt) [
    | inl barrier ↦ inl (inl barrier)
    | inr (inl low) ↦ inl (inr (place.0, low))
    | inr (inr high) ↦ inr (inr (high, place.1))
  ]
]

module _ (L : Layout) (bank : ℕ) (fits : IsTrue (fits_layout L)) where
  abbrev next : ℕ
  next = update-bank L bank

  two : 2 ≤ L.banks
  two = (limits L fits).fewest_banks

  -- a bank has a block
  pub has-blocks : start L bank 0 < start L (bank + 1) 0
  has-blocks =
      let more : (bank + 1) * slot_total L.rows ≡ bank * slot_total L.rows + slot_total L.rows = grind arith in
      omega (arith, more, some_blocks L fits)

  -- a block of the bank in use lies beside blocks 1 to 3, and beside the bank behind its own
  pub in-use-spared : (k : ℕ) → start L bank 0 ≤ k → k < start L (bank + 1) 0 → IsSparedByAll L bank (block_bytes * k)
  in-use-spared k above below = (inr (omega (arith, above)), beside)
    where
      beside : IsBesideBank L next (block_bytes * k)
      beside = elim (cases_lt bank next) [
        | inl before ↦ let order = banks-order L bank next before in inl (omega (arith, order, below))
        | inr more ↦ elim (cases_lt next bank) [
          | inl behind ↦ let order = banks-order L next bank behind in inr (omega (arith, order, above))
          | inr less ↦ let same : next ≡ bank = omega (arith, more, less) in absurd (other-follows L.banks bank two same)
        ]
      ]

  -- and so does block 0
  pub layout-spared : (k : ℕ) → k ≡ 0 → IsSparedByAll L bank (block_bytes * k)
  layout-spared k first = (inl (omega (arith, first)), inl (omega (arith, first)))

  -- and block 4, which lies between them
  pub marks-spared : IsSparedByAll L bank (block_bytes * counter_block)
  marks-spared = (inr (omega arith), inl (omega arith))

  module _ (first mid d : StepFlash) (none : (k : ℕ) → writes_of first k ≡ 0)
      (booted : TouchesOnly block_bytes boot_reach (writes_of first) (writes_of mid))
      (sent : (k : ℕ) → IsSparedByAll L bank (block_bytes * k) → writes_of d k ≡ writes_of mid k) where
    -- no block of the bank in use is counted
    pub in-use-unwritten : (k : ℕ) → start L bank 0 ≤ k → k < start L (bank + 1) 0 → writes_of d k ≡ 0
    in-use-unwritten k above below =
        sent k (in-use-spared k above below) ∙ booted k (inr (omega (arith, above))) ∙ none k

    -- nor one between block 6 and the bank behind it
    pub between-unwritten : (k : ℕ) → 7 ≤ k → k < start L next 0 → writes_of d k ≡ 0
    between-unwritten k above below =
        sent k (inr (omega (arith, above)), inl (omega (arith, below))) ∙ booted k (inr (omega (arith, above))) ∙ none k

    -- nor block 0, nor one behind that bank
    pub behind-untouched : TouchesOnly block_bytes (block_bytes * start L (next + 1) 0) (λ b. 0) (writes_of d)
    behind-untouched k (inl low) =
        let zero : k ≡ 0 = omega (arith, low) in sent k (layout-spared k zero) ∙ booted k (inl (omega (arith, low))) ∙ none k
    behind-untouched k (inr high) = sent k (inr (omega (arith, high)), inr high) ∙ booted k (inr (omega (arith, high))) ∙ none k

    -- nor block 0
    pub update-touches : TouchesOnly block_bytes (block_bytes * block_count d) (λ b. 0) (writes_of d)
    update-touches k (inl low) =
        let zero : k ≡ 0 = omega (arith, low) in sent k (layout-spared k zero) ∙ booted k (inl (omega (arith, low))) ∙ none k
    update-touches k (inr high) = let s = d.device.value in none_behind _ _ s.blocks s.steps.items k s.inside (omega (arith, high))
