-- What the code reads of a copy is what the copy says.
use Rattle.std.proofs.Common.{◌≡◌, ℕ, ◌+◌, ◌*◌, ◌≤◌, true, false, List, length, Option, Some, None, refl, sym, ap, ◌∙◌, arith, subst}
use Rattle.std.specs.Prelude.{slice_range, ◌==◌}
use Rattle.base_core.specs.{Block.block, Bytes.num_at, Crc.crc}
use Rattle.gpt_core.specs.declared.table.TableCopy.{TableCopy}
use Rattle.gpt_core.specs.Table.{Table, FitsTable, blocks_of, entry_number_of, number_in, header_at, entries_at, is_header, table_entries_in, partition_table_of, checked_table, copy_in}
use Rattle.gpt_core.proofs.Copies.{valid_roomy, if_some, some_is}

pub entries_read : (w : TableCopy) (blocks : ℕ) (header image : List ℕ) (place e number : ℕ) → place ≡ entries_at w blocks e → e ≡ blocks_of number → number ≡ number_in header
    → slice_range image (4096 * place) (4096 * place + number * 128) ≡ table_entries_in w blocks header image
unfolding table_entries_in
entries_read w blocks header image place e number p b n = rw (p, b, n) refl

pub no_header : (w : TableCopy) (blocks : ℕ) (image header : List ℕ) → header ≡ block (header_at w blocks) image → is_header w blocks header ≡ false → ◌≡◌ {A = Option Table} None (copy_in w blocks image)
unfolding copy_in
no_header w blocks image header stands no_ = let fails = subst (λ (h : List ℕ). is_header w blocks h ≡ false) stands no_ in rw fails refl

pub copy_read : (w : TableCopy) (blocks : ℕ) (image header entries : List ℕ) → header ≡ block (header_at w blocks) image → is_header w blocks header ≡ true → entries ≡ table_entries_in w blocks header image
    → checked_table header entries ≡ copy_in w blocks image
unfolding copy_in
copy_read w blocks image header entries stands yes_ es =
    let holds = subst (λ (h : List ℕ). is_header w blocks h ≡ true) stands yes_ in
    rw holds (ap (checked_table header) es ∙ ap (λ (h : List ℕ). checked_table h (table_entries_in w blocks h image)) stands)

-- a table that was read has room in both copies
pub table_fits : (w : TableCopy) (blocks : ℕ) (header entries : List ℕ) (t : Table) → is_header w blocks header ≡ true → length entries ≡ number_in header * 128 → checked_table header entries ≡ Some t → FitsTable blocks t
table_fits w blocks header entries t yes_ count is =
    let room = valid_roomy w blocks header yes_ in
    let inner = if_some (num_at 4 header 88 == crc entries) (Some (partition_table_of header entries)) t is in
    let same : entries ≡ t.entries = ap (λ (u : Table). u.entries) (some_is _ _ inner.1) in
    let total : length t.entries ≡ number_in header * 128 = sym (ap length same) ∙ count in
    let number : entry_number_of t ≡ number_in header = rw total (omega arith) in
    record {
      number = (omega (arith, number, room.some), omega (arith, number, room.few));
      whole = total ∙ ap (λ (n : ℕ). n * 128) (sym number);
      apart = subst (λ (n : ℕ). 3 + 2 * blocks_of n ≤ blocks) (sym number) room.apart;
    }
