-- The header that is written reads back as this copy of the table.
use Rattle.std.proofs.Common.{◌≡◌, ◌⊎◌, inl, inr, ℕ, ◌+◌, ◌*◌, ◌<◌, ◌≤◌, List, ◌++◌, length, take, drop, replicate, refl, sym, ap, ◌∙◌, arith, subst, append_assoc, length-append}
use Rattle.std.proofs.lemmas.List.{drop-drop, length-replicate, drop-replicate}
use Rattle.std.specs.Prelude.{IsTrue, codes}
use Rattle.base_core.specs.{Block.block, Crc.crc, Seal.has_table_seal}
use Rattle.base_core.specs.Bytes.{num, le, num_at, part, overwritten, same_bytes}
use Rattle.flash_core.proofs.{Calls.same_range, Images.length-overwritten}
use Rattle.base_core.proofs.{Seals.table_from, Lists.take-front, Lists.drop-front}
use Rattle.base_core.proofs.Spelled.{num-le4, num-le8, crc-below}
use Rattle.gpt_core.specs.{declared.table.TableCopy.TableCopy, Repair.Spells}
use Rattle.gpt_core.specs.declared.table.TableCopy.TheVariants.{Primary, Backup}
use Rattle.gpt_core.specs.Table.{Table, FitsTable, blocks_of, entry_number_of, number_in, header_at, other, entries_at, table_entries_in, header_lead, header_places, header_back, header_with, header_bytes}
use Rattle.gpt_core.proofs.CopyFacts.{said}
use Rattle.gpt_core.proofs.Copies.{block_beside, block_over, header_within, entries_within, within_image}

-- ---- pieces one after another

fifth : (a s m d b z : List ℕ) → ((((a ++ s) ++ m) ++ d) ++ b) ++ z ≡ ((a ++ s) ++ m) ++ (d ++ (b ++ z))
fifth a s m d b z = simp append_assoc

first : (a s m d b z : List ℕ) → ((((a ++ s) ++ m) ++ d) ++ b) ++ z ≡ a ++ (s ++ (m ++ (d ++ (b ++ z))))
first a s m d b z = simp append_assoc

third : (a s m d b z : List ℕ) → ((((a ++ s) ++ m) ++ d) ++ b) ++ z ≡ (a ++ s) ++ ((m ++ (d ++ b)) ++ z)
third a s m d b z = simp append_assoc

joined : (a o m d b : List ℕ) → (a ++ o) ++ (m ++ (d ++ b)) ≡ (((a ++ o) ++ m) ++ d) ++ b
joined a o m d b = simp append_assoc

summed_of : (a s m d b o z : List ℕ) → length a ≡ 16 → length s ≡ 4 → length (m ++ (d ++ b)) ≡ 72
    → (take 16 (((((a ++ s) ++ m) ++ d) ++ b) ++ z) ++ o) ++ take 72 (drop 20 (((((a ++ s) ++ m) ++ d) ++ b) ++ z)) ≡ (((a ++ o) ++ m) ++ d) ++ b
summed_of a s m d b o z la ls lr =
    let one : take 16 (((((a ++ s) ++ m) ++ d) ++ b) ++ z) ≡ a = ap (take 16) (first a s m d b z) ∙ take-front 16 a (s ++ (m ++ (d ++ (b ++ z)))) la in
    let lead : length (a ++ s) ≡ 20 = length-append a s ∙ omega (arith, la, ls) in
    let two : take 72 (drop 20 (((((a ++ s) ++ m) ++ d) ++ b) ++ z)) ≡ m ++ (d ++ b) =
    ap (λ (l : List ℕ). take 72 (drop 20 l)) (third a s m d b z) ∙ ap (take 72) (drop-front 20 (a ++ s) ((m ++ (d ++ b)) ++ z) lead) ∙ take-front 72 (m ++ (d ++ b)) z lr in
    rw (one, two) (joined a o m d b)

-- ---- the fields

module _ (w : TableCopy) (blocks : ℕ) (t : Table) (sum : ℕ) (z : List ℕ) (disk : length t.disk ≡ 16) where
  abbrev head : List ℕ
  head = header_with w blocks t sum ++ z

  abbrev back : List ℕ
  back = header_back w blocks t

  length-lead : length header_lead ≡ 16
  unfolding header_lead
  length-lead = refl

  length-places : length (header_places w blocks t) ≡ 36
  unfolding header_places
  length-places = refl

  length-back : length back ≡ 20
  unfolding header_back
  length-back = refl

  length-rest : length (header_places w blocks t ++ (t.disk ++ back)) ≡ 72
  length-rest = length-append (header_places w blocks t) (t.disk ++ back) ∙ omega (arith, length-append t.disk back, disk, length-places, length-back)

  length-front : length ((header_lead ++ le 4 sum) ++ header_places w blocks t) ≡ 56
  length-front = length-append (header_lead ++ le 4 sum) (header_places w blocks t) ∙ omega (arith, length-append header_lead (le 4 sum), length-lead, length-places)

  pub length-header : length (header_with w blocks t sum) ≡ 92
  length-header =
      length-append (((header_lead ++ le 4 sum) ++ header_places w blocks t) ++ t.disk) back
      ∙ omega (arith, length-append ((header_lead ++ le 4 sum) ++ header_places w blocks t) t.disk, disk, length-front, length-back)

  from-disk : drop 56 head ≡ t.disk ++ (back ++ z)
  from-disk = ap (drop 56) (fifth header_lead (le 4 sum) (header_places w blocks t) t.disk back z) ∙ drop-front 56 ((header_lead ++ le 4 sum) ++ header_places w blocks t) (t.disk ++ (back ++ z)) length-front

  behind-disk : drop 72 head ≡ back ++ z
  behind-disk = sym (drop-drop 16 56 head) ∙ ap (drop 16) from-disk ∙ drop-front 16 t.disk (back ++ z) disk

  pub disk-is : part head 56 72 ≡ t.disk
  disk-is = ap (take 16) from-disk ∙ take-front 16 t.disk (back ++ z) disk

  behind : (k n : ℕ) → num_at n head (72 + k) ≡ num_at n (back ++ z) k
  behind k n = ap (λ (l : List ℕ). num (take n l)) (sym (drop-drop k 72 head) ∙ ap (drop k) behind-disk)

  pub revision-is : num_at 4 head 8 ≡ 65536
  unfolding header_lead
  revision-is = num-le4 65536 (omega arith)

  pub size-is : num_at 4 head 12 ≡ 92
  unfolding header_lead
  size-is = num-le4 92 (omega arith)

  pub sum-is : sum < 4294967296 → num_at 4 head 16 ≡ sum
  unfolding header_lead
  sum-is low = num-le4 sum low

  pub zero-is : num_at 4 head 20 ≡ 0
  unfolding header_lead header_places
  zero-is = num-le4 0 (omega arith)

  pub own-is : header_at w blocks < 18446744073709551616 → num_at 8 head 24 ≡ header_at w blocks
  unfolding header_lead header_places
  own-is low = num-le8 (header_at w blocks) low

  pub other-is : header_at (other w) blocks < 18446744073709551616 → num_at 8 head 32 ≡ header_at (other w) blocks
  unfolding header_lead header_places
  other-is low = num-le8 (header_at (other w) blocks) low

  pub first-is : t.first < 18446744073709551616 → num_at 8 head 40 ≡ t.first
  unfolding header_lead header_places
  first-is low = num-le8 t.first low

  pub last-is : t.last < 18446744073709551616 → num_at 8 head 48 ≡ t.last
  unfolding header_lead header_places
  last-is low = num-le8 t.last low

  pub place-is : entries_at w blocks (blocks_of (entry_number_of t)) < 18446744073709551616 → num_at 8 head 72 ≡ entries_at w blocks (blocks_of (entry_number_of t))
  unfolding header_back
  place-is low = behind 0 8 ∙ num-le8 (entries_at w blocks (blocks_of (entry_number_of t))) low

  pub number-is : entry_number_of t < 4294967296 → num_at 4 head 80 ≡ entry_number_of t
  unfolding header_back
  number-is low = behind 8 4 ∙ num-le4 (entry_number_of t) low

  pub entry-is : num_at 4 head 84 ≡ 128
  unfolding header_back
  entry-is = behind 12 4 ∙ num-le4 128 (omega arith)

  pub check-is : num_at 4 head 88 ≡ crc t.entries
  unfolding header_back
  check-is = behind 16 4 ∙ num-le4 (crc t.entries) (crc-below t.entries)

  -- the bytes that the checksum is of
  pub summed : part head 0 16 ++ replicate 4 0 ++ part head 20 92 ≡ header_with w blocks t 0
  summed = summed_of header_lead (le 4 sum) (header_places w blocks t) t.disk back (replicate 4 0) z length-lead refl length-rest

-- ---- the block

module _ (w : TableCopy) (blocks : ℕ) (t : Table) (is : FitsTable blocks t) (few : blocks ≤ 65536) (disk : length t.disk ≡ 16) where
  abbrev sum : ℕ
  sum = crc (header_with w blocks t 0)

  abbrev bytes : List ℕ
  bytes = header_bytes w blocks t

  abbrev zeros : List ℕ
  zeros = replicate 4004 0

  pub length-bytes : length bytes ≡ 4096
  length-bytes =
      let tail : length zeros ≡ 4004 = length-replicate {A = ℕ} 4004 0 in
      length-append (header_with w blocks t sum) zeros ∙ omega (arith, length-header w blocks t sum zeros disk, tail)

  begins : IsTrue (same_bytes (take 8 bytes) (codes "EFI PART"))
  unfolding header_lead
  begins = refl

  seal : IsTrue (has_table_seal bytes)
  seal = table_from bytes (record {
    begins = begins;
    fits = omega (arith, length-bytes);
    checks = sum-is w blocks t sum zeros disk (crc-below (header_with w blocks t 0)) ∙ ap crc (sym (summed w blocks t sum zeros disk));
  })

  number : number_in bytes ≡ entry_number_of t
  number = number-is w blocks t sum zeros disk (omega (arith, is.number.1))

  low-header : (c : TableCopy) → header_at c blocks < 18446744073709551616
  low-header Primary = omega arith
  low-header Backup = omega (arith, few)

  low-entries : (c : TableCopy) (e : ℕ) → entries_at c blocks e < 18446744073709551616
  low-entries Primary e = omega arith
  low-entries Backup e = omega (arith, few)

  place : num_at 8 bytes 72 ≡ entries_at w blocks (blocks_of (number_in bytes))
  place = place-is w blocks t sum zeros disk (low-entries w (blocks_of (entry_number_of t))) ∙ ap (λ (n : ℕ). entries_at w blocks (blocks_of n)) (sym number)

  -- THE LAW of the header: over an erased block, in front of the entries, it makes the copy say the table.
  pub spells : t.first < 18446744073709551616 → t.last < 18446744073709551616 → Spells w blocks t bytes
  unfolding table_entries_in
  spells low_first low_last image size empty stands =
      let e = blocks_of (entry_number_of t) in
      let hw = header_within w blocks e is.apart in
      let ew = entries_within w blocks e is.apart in
      let inside = within_image w blocks e is.apart in
      let at = 4096 * header_at w blocks in
      let image' = overwritten at bytes image in
      let long : at + 4096 ≤ length image = omega (arith, hw.1, inside, size) in
      let block_is : block (header_at w blocks) image' ≡ bytes = block_over (header_at w blocks) bytes image length-bytes long in
      let size' : length image' ≡ length image = length-overwritten at bytes image (omega (arith, length-bytes, long)) in
      let from = 4096 * entries_at w blocks e in
      let count : length t.entries ≡ entry_number_of t * 128 = is.whole in
      let entries : part image' from (from + length t.entries) ≡ t.entries =
      sym (same_range from (from + length t.entries) image image' (sym size') (omega (arith, count, ew.1, inside, size, size'))
      (λ i low high. sym (block_beside (header_at w blocks) bytes image i (omega (arith, length-bytes)) long (clear w i low (omega (arith, high, count)))))) ∙ stands in
      let same : table_entries_in w blocks bytes image' ≡ t.entries =
      ap (λ (n : ℕ). part image' (4096 * entries_at w blocks (blocks_of n)) (4096 * entries_at w blocks (blocks_of n) + n * 128)) number
      ∙ ap (λ (n : ℕ). part image' from (from + n)) (sym count) ∙ entries in
      said w blocks image' t (record {
        header = bytes;
        stands = block_is;
        sealed = seal;
        revision = revision-is w blocks t sum zeros disk;
        size = size-is w blocks t sum zeros disk;
        zero_field = zero-is w blocks t sum zeros disk;
        own_place = own-is w blocks t sum zeros disk (low-header w);
        other_place = other-is w blocks t sum zeros disk (low-header (other w));
        usable = (first-is w blocks t sum zeros disk low_first, last-is w blocks t sum zeros disk low_last);
        disk = disk-is w blocks t sum zeros disk;
        number = (omega (arith, number, is.number.0), omega (arith, number, is.number.1));
        entry_size = entry-is w blocks t sum zeros disk;
        entry_place = place;
        entries = same;
        checks = check-is w blocks t sum zeros disk;
        apart = subst (λ (n : ℕ). 3 + 2 * blocks_of n ≤ blocks) (sym number) is.apart;
      })
    where
      clear : (c : TableCopy) (i : ℕ) → 4096 * entries_at c blocks (blocks_of (entry_number_of t)) ≤ i → i < 4096 * entries_at c blocks (blocks_of (entry_number_of t)) + entry_number_of t * 128
          → (i < 4096 * header_at c blocks) ⊎ (4096 * header_at c blocks + 4096 ≤ i)
      clear Primary i low high = inr (omega (arith, low))
      clear Backup i low high = inl (omega (arith, low, high, is.apart))

-- ---- writing it

five : (f a b c d e : List ℕ) → ((((f ++ a) ++ b) ++ c) ++ d) ++ e ≡ f ++ ((((a ++ b) ++ c) ++ d) ++ e)
five f a b c d e = simp append_assoc

pub put_five : (f x1 x2 x3 x4 x5 a b c d e : List ℕ) → x1 ≡ f ++ a → x2 ≡ x1 ++ b → x3 ≡ x2 ++ c → x4 ≡ x3 ++ d → x5 ≡ x4 ++ e → x5 ≡ f ++ ((((a ++ b) ++ c) ++ d) ++ e)
put_five f x1 x2 x3 x4 x5 a b c d e h1 h2 h3 h4 h5 = rw (h5, h4, h3, h2, h1) (five f a b c d e)

fourth : (f a b c d : List ℕ) → (((f ++ a) ++ b) ++ c) ++ d ≡ f ++ (((a ++ b) ++ c) ++ d)
fourth f a b c d = simp append_assoc

pub put_four : (f x1 x2 x3 x4 a b c d : List ℕ) → x1 ≡ f ++ a → x2 ≡ x1 ++ b → x3 ≡ x2 ++ c → x4 ≡ x3 ++ d → x4 ≡ f ++ (((a ++ b) ++ c) ++ d)
put_four f x1 x2 x3 x4 a b c d h1 h2 h3 h4 = rw (h4, h3, h2, h1) (fourth f a b c d)

-- over zeros
pub over_zeros : (header out : List ℕ) → length header ≡ 92 → out ≡ overwritten 0 header (replicate 4096 0) → out ≡ header ++ replicate 4004 0
unfolding overwritten
over_zeros header out is e =
    let n : 0 + length header ≡ 92 = omega (arith, is) in
    e ∙ ap (λ (k : ℕ). header ++ drop k (replicate 4096 0)) n ∙ ap (λ (l : List ℕ). header ++ l) (drop-replicate 92 4096 0)
