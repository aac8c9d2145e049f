-- Copies of a table in an image: what a valid one is, what keeps it, and that a block without a seal is none.
use Rattle.std.proofs.Common.{◌≡◌, ◌⊎◌, inl, inr, ℕ, ◌+◌, ◌-◌, ◌*◌, ◌<◌, ◌≤◌, Bool, true, false, ◌&&◌, ◌||◌, ◌==◌, if◌then◌else◌, List, ◌++◌, length, get_or, take, drop, Option, Some, None, sym, ◌∙◌, ap, arith, refl, subst, leb-true, eqb-true, eq-eqb}
use Rattle.std.proofs.lemmas.Bool.{cases_Bool, and_parts, or_right}
use Rattle.std.proofs.lemmas.List.{append-nil, drop_all, length-take-le, length-drop}
use Rattle.std.specs.Prelude.{IsTrue, slice_range, nat_le}
use Rattle.base_core.specs.{Block.block, Bytes.num_at, Bytes.overwritten, Crc.crc}
use Rattle.base_core.specs.Seal.{Sealed, has_table_seal, has_own_seal, has_v1_seal, is_sealed}
use Rattle.base_core.proofs.{Blocks.length-block, Blocks.same_block, Spelled.same_refl}
use Rattle.base_core.proofs.Images.{block-overwritten_front, overwritten_below, overwritten_above}
use Rattle.flash_core.proofs.Calls.{same_range}
use Rattle.gpt_core.specs.declared.table.TableCopy.{TableCopy}
use Rattle.gpt_core.specs.declared.table.TableCopy.TheVariants.{Primary, Backup}
use Rattle.gpt_core.specs.declared.table.WhichTable.TheVariants.{Same, RepairPrimary, RepairBackup}
use Rattle.gpt_core.specs.Table.{Table, blocks_of, header_at, other, entries_at, number_in, header_has_fields, is_roomy, is_header, table_entries_in, partition_table_of, checked_table, copy_in, same_table, DecidesTable, entry_number_of}
pub use Rattle.gpt_core.specs.Table.{copy_from, copy_to}

-- ---- a valid copy

pub table_by : (d d' : List ℕ) (f f' l l' : ℕ) (e e' : List ℕ) → d ≡ d' → f ≡ f' → l ≡ l' → e ≡ e'
    → ◌≡◌ {A = Table} (record { disk = d; first = f; last = l; entries = e }) (record { disk = d'; first = f'; last = l'; entries = e' })
table_by d d' f f' l l' e e' a b c h = rw (a, b, c, h) refl

pub if_some : {X : Type 0} (b : Bool) (o : Option X) (v : X) → (if b then o else None) ≡ Some v → (b ≡ true) × (o ≡ Some v)
if_some true o v e = (refl, e)
if_some false o v e = absurd (cc)

pub record Valid (copy : TableCopy) (blocks : ℕ) (image : List ℕ) (t : Table) : Type 0 where
  pub header : IsTrue (is_header copy blocks (block (header_at copy blocks) image))
  pub checks : num_at 4 (block (header_at copy blocks) image) 88 ≡ crc (table_entries_in copy blocks (block (header_at copy blocks) image) image)
  pub is : partition_table_of (block (header_at copy blocks) image) (table_entries_in copy blocks (block (header_at copy blocks) image) image) ≡ t

pub some_is : {X : Type 0} (a b : X) → Some a ≡ Some b → a ≡ b
some_is a b e = cc

pub valid_parts : (copy : TableCopy) (blocks : ℕ) (image : List ℕ) (t : Table) → copy_in copy blocks image ≡ Some t → Valid copy blocks image t
unfolding copy_in
valid_parts copy blocks image t e =
    let header = block (header_at copy blocks) image in
    let outer = if_some (is_header copy blocks header) (checked_table header (table_entries_in copy blocks header image)) t e in
    let inner = if_some (num_at 4 header 88 == crc (table_entries_in copy blocks header image)) (Some (partition_table_of header (table_entries_in copy blocks header image))) t outer.1 in
    record { header = outer.0; checks = eqb-true _ _ inner.0; is = some_is _ _ inner.1 }

pub valid_from : (copy : TableCopy) (blocks : ℕ) (image : List ℕ) (t : Table) → Valid copy blocks image t → copy_in copy blocks image ≡ Some t
unfolding copy_in
valid_from copy blocks image t valid =
    let header = block (header_at copy blocks) image in
    rw (valid.header, eq-eqb (num_at 4 header 88) (crc (table_entries_in copy blocks header image)) valid.checks) (ap Some valid.is)

-- a block without a seal is no header
pub none_unsealed : (copy : TableCopy) (blocks : ℕ) (image : List ℕ) → (Sealed (block (header_at copy blocks) image) → ⊥) → copy_in copy blocks image ≡ None
unfolding copy_in is_sealed
none_unsealed copy blocks image none = elim (cases_Bool (is_header copy blocks (block (header_at copy blocks) image))) [
  | inl yes_ ↦
      let header = block (header_at copy blocks) image in
      let first = and_parts (has_table_seal header && header_has_fields copy blocks header) (is_roomy blocks (number_in header)) yes_ in
      let second = and_parts (has_table_seal header) (header_has_fields copy blocks header) first.0 in
      absurd (none (or_right (has_own_seal header || has_v1_seal header) (has_table_seal header) second.0))
  | inr no_ ↦ rw no_ refl
]

pub record Roomy (blocks number : ℕ) : Type 0 where
  pub some : 1 ≤ number
  pub few : number ≤ 128
  pub apart : 3 + 2 * blocks_of number ≤ blocks

pub valid_roomy : (copy : TableCopy) (blocks : ℕ) (header : List ℕ) → IsTrue (is_header copy blocks header) → Roomy blocks (number_in header)
valid_roomy copy blocks header h =
    let room = (and_parts (has_table_seal header && header_has_fields copy blocks header) (is_roomy blocks (number_in header)) h).1 in
    let outer = and_parts (nat_le 1 (number_in header) && nat_le (number_in header) 128) (nat_le (3 + 2 * blocks_of (number_in header)) blocks) room in
    let inner = and_parts (nat_le 1 (number_in header)) (nat_le (number_in header) 128) outer.0 in
    record { some = leb-true _ _ inner.0; few = leb-true _ _ inner.1; apart = leb-true _ _ outer.1 }

-- ---- where a copy stands

-- the header lies in it, and the entries
pub header_within : (copy : TableCopy) (blocks e : ℕ) → 3 + 2 * e ≤ blocks → (copy_from copy blocks e ≤ 4096 * header_at copy blocks) × (4096 * header_at copy blocks + 4096 ≤ copy_to copy blocks e)
header_within Primary blocks e apart = (omega arith, omega arith)
header_within Backup blocks e apart = (omega (arith, apart), omega (arith, apart))

pub entries_within : (copy : TableCopy) (blocks e : ℕ) → 3 + 2 * e ≤ blocks → (copy_from copy blocks e ≤ 4096 * entries_at copy blocks e) × (4096 * entries_at copy blocks e + 4096 * e ≤ copy_to copy blocks e)
entries_within Primary blocks e apart = (omega arith, omega arith)
entries_within Backup blocks e apart = (omega (arith, apart), omega (arith, apart))

pub within_image : (copy : TableCopy) (blocks e : ℕ) → 3 + 2 * e ≤ blocks → copy_to copy blocks e ≤ 4096 * blocks
within_image Primary blocks e apart = omega (arith, apart)
within_image Backup blocks e apart = omega arith

-- both copies are apart
pub copies_apart : (copy : TableCopy) (blocks e : ℕ) → 3 + 2 * e ≤ blocks → (copy_to copy blocks e ≤ copy_from (other copy) blocks e) ⊎ (copy_to (other copy) blocks e ≤ copy_from copy blocks e)
copies_apart Primary blocks e apart = inl (omega (arith, apart))
copies_apart Backup blocks e apart = inr (omega (arith, apart))

-- ---- a valid copy stays where its bytes do

-- bytes that are written leave those beside them
pub overwritten_beside : (at : ℕ) (bytes image : List ℕ) (i : ℕ) → at + length bytes ≤ length image → (i < at) ⊎ (at + length bytes ≤ i)
    → get_or (overwritten at bytes image) i 0 ≡ get_or image i 0
overwritten_beside at bytes image i fits (inl low) = overwritten_below at bytes image fits i 0 low
overwritten_beside at bytes image i fits (inr high) = overwritten_above at bytes image fits i 0 high

-- those in a block leave those beside the block
pub block_beside : (b : ℕ) (bytes image : List ℕ) (i : ℕ) → length bytes ≤ 4096 → 4096 * b + 4096 ≤ length image → (i < 4096 * b) ⊎ (4096 * b + 4096 ≤ i)
    → get_or (overwritten (4096 * b) bytes image) i 0 ≡ get_or image i 0
block_beside b bytes image i short long (inl low) = overwritten_below (4096 * b) bytes image (omega arith) i 0 low
block_beside b bytes image i short long (inr high) = overwritten_above (4096 * b) bytes image (omega arith) i 0 (omega arith)

-- a whole block that is written is there
pub block_over : (b : ℕ) (bytes image : List ℕ) → length bytes ≡ 4096 → 4096 * b + 4096 ≤ length image → block b (overwritten (4096 * b) bytes image) ≡ bytes
block_over b bytes image whole long =
    block-overwritten_front b bytes image (omega (arith, whole)) long
    ∙ ap (λ (l : List ℕ). bytes ++ l) (drop_all (length bytes) (block b image) (omega (arith, whole, length-block b image long)))
    ∙ append-nil bytes

module _ (copy : TableCopy) (blocks : ℕ) (image : List ℕ) (t : Table) (size : length image ≡ 4096 * blocks) (valid : copy_in copy blocks image ≡ Some t) where
  abbrev head : List ℕ
  head = block (header_at copy blocks) image

  parts : Valid copy blocks image t
  parts = valid_parts copy blocks image t valid

  roomy : Roomy blocks (number_in head)
  roomy = valid_roomy copy blocks head parts.header

  length_entries : length (table_entries_in copy blocks head image) ≡ number_in head * 128
  unfolding table_entries_in
  length_entries =
      let at = 4096 * entries_at copy blocks (blocks_of (number_in head)) in
      let width : at + number_in head * 128 - at ≡ number_in head * 128 = omega arith in
      ap (λ n. length (take n (drop at image))) width
      ∙ length-take-le (number_in head * 128) (drop at image)
      (omega (arith, length-drop at image, size, (entries_within copy blocks (blocks_of (number_in head)) roomy.apart).1, within_image copy blocks (blocks_of (number_in head)) roomy.apart))

  -- the number in the header is that of the table
  pub number_is : number_in head ≡ entry_number_of t
  number_is =
      let count = ap (λ (u : Table). length u.entries) parts.is in
      let entries = length_entries in
      let total : length t.entries ≡ number_in head * 128 = sym count ∙ entries in
      rw total (omega arith)

  pub entries_whole : length t.entries ≡ entry_number_of t * 128
  entries_whole =
      let count = ap (λ (u : Table). length u.entries) parts.is in
      let entries = length_entries in
      let total : length t.entries ≡ number_in head * 128 = sym count ∙ entries in
      total ∙ ap (λ n. n * 128) number_is

  pub table_roomy : Roomy blocks (entry_number_of t)
  table_roomy = subst (Roomy blocks) number_is roomy

  pub copy_stays : (image' : List ℕ) → length image' ≡ length image
      → ((i : ℕ) → copy_from copy blocks (blocks_of (entry_number_of t)) ≤ i → i < copy_to copy blocks (blocks_of (entry_number_of t)) → get_or image i 0 ≡ get_or image' i 0)
      → copy_in copy blocks image' ≡ Some t
  unfolding copy_in table_entries_in
  copy_stays image' size' same =
      let e = blocks_of (entry_number_of t) in
      let hw = header_within copy blocks e table_roomy.apart in
      let ew = entries_within copy blocks e table_roomy.apart in
      let inside = within_image copy blocks e table_roomy.apart in
      let header : block (header_at copy blocks) image' ≡ head =
      sym (same_block (header_at copy blocks) image image' (omega (arith, hw.1, inside, size)) size'
      (λ i low high. same i (omega (arith, low, hw.0)) (omega (arith, high, hw.1)))) in
      let e_is : blocks_of (number_in head) ≡ e = ap blocks_of number_is in
      let at = 4096 * entries_at copy blocks (blocks_of (number_in head)) in
      let at_is : at ≡ 4096 * entries_at copy blocks e = ap (λ k. 4096 * entries_at copy blocks k) e_is in
      let short : number_in head * 128 ≤ 4096 * e = (let n = number_is in rw (← n) (omega arith)) in
      let entries : slice_range image at (at + number_in head * 128) ≡ slice_range image' at (at + number_in head * 128) =
      same_range at (at + number_in head * 128) image image' (sym size') (omega (arith, at_is, short, ew.1, inside, size, size'))
      (λ i low high. same i (omega (arith, low, at_is, ew.0)) (omega (arith, high, at_is, short, ew.1))) in
      ap (λ (h : List ℕ). if is_header copy blocks h then checked_table h (table_entries_in copy blocks h image') else None) header
      ∙ ap (λ (es : List ℕ). if is_header copy blocks head then checked_table head es else None) (sym entries)
      ∙ valid

-- ---- what decides

pub same_table_refl : (t : Table) → IsTrue (same_table t t)
same_table_refl t = rw (same_refl t.disk, eq-eqb t.first t.first refl, eq-eqb t.last t.last refl, same_refl t.entries) refl

pub primary_decides : (blocks : ℕ) (image : List ℕ) (t : Table) → copy_in Primary blocks image ≡ Some t → DecidesTable blocks t image
primary_decides blocks image t is = go (copy_in Backup blocks image) refl
  where
    go : (o : Option Table) → copy_in Backup blocks image ≡ o → DecidesTable blocks t image
    go None e = (RepairBackup, rw (is, e) refl)
    go (Some u) e = ((if same_table t u then Same else RepairBackup), rw (is, e) refl)

pub backup_decides : (blocks : ℕ) (image : List ℕ) (t : Table) → copy_in Primary blocks image ≡ None → copy_in Backup blocks image ≡ Some t → DecidesTable blocks t image
backup_decides blocks image t none is = (RepairPrimary, rw (none, is) refl)
