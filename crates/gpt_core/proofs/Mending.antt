-- The heart of a repair: each of its steps, at any loss, leaves images in which the same table decides.
use Rattle.std.proofs.Common.{◌≡◌, ◌⊎◌, inl, inr, ℕ, ◌+◌, ◌*◌, ◌<◌, ◌≤◌, List, length, get_or, Some, None, sym, ◌∙◌, arith, subst}
use Rattle.std.specs.Prelude.{Result, Ok, Err}
use Rattle.base_core.specs.{Block.block, Block.blank, Seal.Sealed}
use Rattle.base_core.proofs.{Blocks.same_block, Seals.blank_unsealed}
use Rattle.flash_core.specs.{Told.Told, Told.NothingDirty, Told.put, Told.halt, Told.written, Told.overwritten, May.May, May.Keeps}
use Rattle.flash_core.proofs.{Images.length-overwritten, OneCall.one_call_left, OneCall.one_call_outside, OneCall.sure_settled}
use Rattle.gpt_core.specs.{declared.table.TableCopy.TableCopy, Repair.Ready}
use Rattle.gpt_core.specs.declared.table.TableCopy.TheVariants.{Primary, Backup}
use Rattle.gpt_core.specs.Table.{Table, blocks_of, header_at, other, entries_at, copy_in, DecidesTable, BothSay, entry_number_of}
use Rattle.gpt_core.proofs.Copies.{block_beside, none_unsealed, copy_from, copy_to, header_within, entries_within, within_image, copies_apart, copy_stays, table_roomy, primary_decides, backup_decides}

-- ---- with one copy, or with both

pub decides_without : (w : TableCopy) (blocks : ℕ) (image : List ℕ) (t : Table) → copy_in w blocks image ≡ None → copy_in (other w) blocks image ≡ Some t → DecidesTable blocks t image
decides_without Primary blocks image t none is = backup_decides blocks image t none is
decides_without Backup blocks image t none is = primary_decides blocks image t is

pub decides_with : (w : TableCopy) (blocks : ℕ) (image : List ℕ) (t : Table) → copy_in w blocks image ≡ Some t → copy_in (other w) blocks image ≡ Some t → DecidesTable blocks t image
decides_with Primary blocks image t is _ = primary_decides blocks image t is
decides_with Backup blocks image t _ is = primary_decides blocks image t is

pub both_say : (w : TableCopy) (blocks : ℕ) (image : List ℕ) (t : Table) → copy_in w blocks image ≡ Some t → copy_in (other w) blocks image ≡ Some t → BothSay blocks t image
both_say Primary blocks image t one two Primary = one
both_say Primary blocks image t one two Backup = two
both_say Backup blocks image t one two Primary = two
both_say Backup blocks image t one two Backup = one

-- a call that was stopped, and one that was done
abbrev call_stopped : Result (Unit {0}) (Unit {0})
call_stopped = Err tt

abbrev call_done : Result (Unit {0}) (Unit {0})
call_done = Ok tt

-- the copy w is written; the other one says the table
module _ (w : TableCopy) (blocks : ℕ) (t : Table) where
  abbrev pub low : ℕ
  low = copy_from w blocks (blocks_of (entry_number_of t))

  abbrev pub high : ℕ
  high = copy_to w blocks (blocks_of (entry_number_of t))

  abbrev pub head_at : ℕ
  head_at = header_at w blocks

  module _ (image : List ℕ) (size : length image ≡ 4096 * blocks) (says : copy_in (other w) blocks image ≡ Some t) where
    room : 3 + 2 * blocks_of (entry_number_of t) ≤ blocks
    room = (table_roomy (other w) blocks image t size says).apart

    -- what changes nothing outside the copy w leaves the other one
    pub other_stays : (image' : List ℕ) → length image' ≡ length image → ((i : ℕ) → (i < low) ⊎ (high ≤ i) → get_or image' i 0 ≡ get_or image i 0) → copy_in (other w) blocks image' ≡ Some t
    other_stays image' size' outside =
        copy_stays (other w) blocks image t size says image' size'
        (λ i above below. sym (outside i (apart i above below (copies_apart w blocks (blocks_of (entry_number_of t)) room))))
      where
        apart : (i : ℕ) → copy_from (other w) blocks (blocks_of (entry_number_of t)) ≤ i → i < copy_to (other w) blocks (blocks_of (entry_number_of t))
            → (high ≤ copy_from (other w) blocks (blocks_of (entry_number_of t))) ⊎ (copy_to (other w) blocks (blocks_of (entry_number_of t)) ≤ low) → (i < low) ⊎ (high ≤ i)
        apart i above below (inl l) = inr (omega (arith, l, above))
        apart i above below (inr r) = inl (omega (arith, r, below))

    pub head_inside : 4096 * head_at + 4096 ≤ length image
    head_inside = omega (arith, (header_within w blocks (blocks_of (entry_number_of t)) room).1, within_image w blocks (blocks_of (entry_number_of t)) room, size)

    pub head_out : (i : ℕ) → (i < low) ⊎ (high ≤ i) → (i < 4096 * head_at) ⊎ (4096 * head_at + 4096 ≤ i)
    head_out i (inl l) = inl (omega (arith, l, (header_within w blocks (blocks_of (entry_number_of t)) room).0))
    head_out i (inr r) = inr (omega (arith, r, (header_within w blocks (blocks_of (entry_number_of t)) room).1))

  -- a blank header's block is no copy
  pub none_blank : (image : List ℕ) → block head_at image ≡ blank 4096 → copy_in w blocks image ≡ None
  none_blank image is = none_unsealed w blocks image (λ sealed. blank_unsealed 4096 (omega arith) (subst Sealed is sealed))

  -- a step that writes the header's block of a device that is ready
  module _ (s : Told) (ready : Ready w blocks t s) (bytes : List ℕ) (short : length bytes ≤ 4096) where
    pub inside : 4096 * head_at + 4096 ≤ length s.now
    inside = head_inside s.now ready.size ready.says

    pub done_size : length (overwritten (4096 * head_at) bytes s.now) ≡ length s.now
    done_size = length-overwritten (4096 * head_at) bytes s.now (omega (arith, inside, short))

    -- the other copy stays
    pub says_done : copy_in (other w) blocks (overwritten (4096 * head_at) bytes s.now) ≡ Some t
    says_done =
        other_stays s.now ready.size ready.says _ done_size
        (λ i out. block_beside head_at bytes s.now i short inside (head_out s.now ready.size ready.says i out))

    -- the block is erased then, or the copy says the table
    module _ (after : (block head_at (overwritten (4096 * head_at) bytes s.now) ≡ blank 4096) ⊎ (copy_in w blocks (overwritten (4096 * head_at) bytes s.now) ≡ Some t)) where
      pub decides_done : DecidesTable blocks t (overwritten (4096 * head_at) bytes s.now)
      decides_done = elim after [
        | inl erased ↦ decides_without w blocks _ t (none_blank _ erased) says_done
        | inr written ↦ decides_with w blocks _ t written says_done
      ]

      decides : (result : Result (Unit {0}) (Unit {0})) (image : List ℕ) → May (written result (4096 * head_at) bytes s) image → length image ≡ length s.now → DecidesTable blocks t image
      decides result image may same_size =
          let above : 4096 * head_at ≤ 4096 * head_at = omega arith in
          let below : 4096 * head_at + length bytes ≤ 4096 * head_at + 4096 = omega (arith, short) in
          let outside = one_call_outside head_at (4096 * head_at) bytes s above below inside ready.nothing result image may in
          elim (one_call_left head_at (4096 * head_at) bytes s above below inside ready.nothing result image ready.guarded may) [
            | inl is ↦ subst (DecidesTable blocks t) (sym is) ready.decides
            | inr (inl is) ↦ subst (DecidesTable blocks t) (sym is) decides_done
            | inr (inr none) ↦ decides_without w blocks image t (none_unsealed w blocks image none)
                (other_stays s.now ready.size ready.says image same_size (λ i out. outside i (head_out s.now ready.size ready.says i out)))
          ]

      -- THE LAW of a header's step: stopped or done, the same table decides in each image that a loss may leave.
      pub header_stopped : (image : List ℕ) → May (halt (4096 * head_at) bytes s) image → DecidesTable blocks t image
      unfolding halt
      header_stopped image may = decides call_stopped image may may.leaves.size

      pub header_done : (image : List ℕ) → May (put (4096 * head_at) bytes s) image → DecidesTable blocks t image
      unfolding put
      header_done image may = decides call_done image may (may.leaves.size ∙ done_size)

  -- the blocks of the entries lie in the copy, and beside its header
  module _ (apart : 3 + 2 * blocks_of (entry_number_of t) ≤ blocks) where
    abbrev from : ℕ
    from = 4096 * entries_at w blocks (blocks_of (entry_number_of t))

    abbrev to : ℕ
    to = from + 4096 * blocks_of (entry_number_of t)

    pub entries_wide : (i : ℕ) → (i < low) ⊎ (high ≤ i) → (i < from) ⊎ (to ≤ i)
    entries_wide i (inl l) = inl (omega (arith, l, (entries_within w blocks (blocks_of (entry_number_of t)) apart).0))
    entries_wide i (inr r) = inr (omega (arith, r, (entries_within w blocks (blocks_of (entry_number_of t)) apart).1))

    pub entries_beside : (c : TableCopy) (i : ℕ) → 4096 * header_at c blocks ≤ i → i < 4096 * header_at c blocks + 4096
        → (i < 4096 * entries_at c blocks (blocks_of (entry_number_of t)))
        ⊎ (4096 * entries_at c blocks (blocks_of (entry_number_of t)) + 4096 * blocks_of (entry_number_of t) ≤ i)
    entries_beside Primary i a b = inl (omega (arith, b))
    entries_beside Backup i a b = inr (omega (arith, a, apart))

  -- an image that differs in the entries alone has the other copy, and the blank block
  pub entries_kept : (s image : List ℕ) → length s ≡ 4096 * blocks → copy_in (other w) blocks s ≡ Some t → block head_at s ≡ blank 4096 → length image ≡ length s
      → ((i : ℕ) → (i < 4096 * entries_at w blocks (blocks_of (entry_number_of t))) ⊎ (4096 * entries_at w blocks (blocks_of (entry_number_of t)) + 4096 * blocks_of (entry_number_of t) ≤ i)
      → get_or image i 0 ≡ get_or s i 0)
      → (block head_at image ≡ blank 4096) × (copy_in (other w) blocks image ≡ Some t)
  entries_kept s image size says empty same_size there = (
    same_block head_at image s (omega (arith, head_inside s size says, same_size)) (sym same_size) (λ i a b. there i (entries_beside (room s size says) w i a b)) ∙ empty,
    other_stays s size says image same_size (λ i out. there i (entries_wide (room s size says) i out)),
  )

  -- THE LAW of the entries: while the header's block is blank, whatever is done to the entries, the table of the other copy decides.
  pub entries_step : (s u : Told) (image : List ℕ) → NothingDirty s → length s.now ≡ 4096 * blocks → copy_in (other w) blocks s.now ≡ Some t → block head_at s.now ≡ blank 4096
      → Keeps (4096 * entries_at w blocks (blocks_of (entry_number_of t))) (4096 * entries_at w blocks (blocks_of (entry_number_of t)) + 4096 * blocks_of (entry_number_of t)) s u → May u image → DecidesTable blocks t image
  entries_step s u image nothing size says empty keeps may =
      let kept = entries_kept s.now image size says empty (may.leaves.size ∙ keeps.size)
      (λ i out. may.leaves.sure i (keeps.sure i out (sure_settled s nothing i)) ∙ keeps.now i out) in
      decides_without w blocks image t (none_blank image kept.0) kept.1
