-- The pieces of a package's images, as an armed loss counts them.
use Rattle.std.proofs.Common.{◌≡◌, ℕ, suc, ◌+◌, ◌*◌, ◌<◌, ◌≤◌, List, [], ◌∷◌, length, get_or, take, ap, arith}
use Rattle.std.proofs.lemmas.List.Sums.{sum_by-cons, sum_by_more}
use Rattle.std.proofs.lemmas.List.{take_all}
use Rattle.fwu_formats.specs.{Layout.ImageRow, Layout.slot_total, Package.Entry, Layout.no_row}
use Rattle.fip_tables.specs.Images.{no_entry}
use Rattle.flash_format.specs.Choosing.{pieces_in, block_pieces_of}

-- one image more
pub pieces_more : (entries : List Entry) (k : ℕ) → k < length entries → pieces_in (take (k + 1) entries) ≡ pieces_in (take k entries) + block_pieces_of (get_or entries k no_entry).size
pieces_more entries k below = sum_by_more (λ (e : Entry). block_pieces_of e.size) entries k no_entry below

pub pieces_all : (entries : List Entry) (k : ℕ) → length entries ≤ k → pieces_in (take k entries) ≡ pieces_in entries
pieces_all entries k all = ap pieces_in (take_all k entries all)

-- images that fit their slots have no more pieces than these have blocks
pub pieces_fit : (rows : List ImageRow) (entries : List Entry) → length entries ≡ length rows → ((k : ℕ) → k < length rows → (get_or entries k no_entry).size ≤ 4096 * (get_or rows k no_row).slots) → pieces_in entries ≤ slot_total rows
pieces_fit [] [] count fit = omega arith
pieces_fit [] (e ∷ entries) count fit = absurd (omega (arith, count))
pieces_fit (row ∷ rows) [] count fit = absurd (omega (arith, count))
pieces_fit (row ∷ rows) (e ∷ entries) count fit =
    let first : e.size ≤ 4096 * row.slots = fit 0 (omega arith) in
    let rest = pieces_fit rows entries (omega (arith, count)) (λ k below. fit (suc k) (omega (arith, below))) in
    let pieces : pieces_in (e ∷ entries) ≡ block_pieces_of e.size + pieces_in entries = sum_by-cons (λ (x : Entry). block_pieces_of x.size) e entries in
    let slots : slot_total (row ∷ rows) ≡ row.slots + slot_total rows = sum_by-cons (λ (r : ImageRow). r.slots) row rows in
    omega (arith, first, rest, pieces, slots)
