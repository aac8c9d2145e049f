-- A row of the directory, as it is written.
use Rattle.std.proofs.Common.{◌≡◌, ℕ, ◌*◌, ◌<◌, ◌≤◌, Bool, List, [], ◌++◌, length, get_or, ap, ◌∙◌, arith, IsTrue}
use Rattle.std.proofs.lemmas.List.{get_or_default}
use Rattle.base_core.specs.Bytes.{le}
use Rattle.fwu_formats.specs.Layout.{ImageRow, Layout, fits_layout}
use Rattle.fwu_formats.specs.Metadata.{Meta, bit_number, bit_at}
use Rattle.fwu_formats.proofs.Written.{rows-fit, rows-limits}
use Rattle.agent_machine.specs.Directory.{version_by, directory_row_by}

abbrev no_row : ImageRow
no_row = record { guid = []; slots = 0 }

pub row-by : (L : Layout) (m : Meta) (bank : ℕ) (lengths manifest : List ℕ) (image : ℕ) (row : ImageRow) (rows : List ImageRow) (bytes version : ℕ) (bit : Bool)
    → row ≡ get_or rows image row → rows ≡ L.rows → image < length rows → bytes ≡ get_or lengths image 0 → version ≡ version_by manifest image
    → bit ≡ bit_at m bank image
    → (row.guid ++ le 4 (4096 * row.slots) ++ le 4 bytes ++ le 4 version ++ le 4 (bit_number bit)) ≡ directory_row_by L m bank lengths manifest image
row-by L m bank lengths manifest image row rows bytes version bit is same lt sized numbered set =
    let here : row ≡ get_or L.rows image no_row = is ∙ get_or_default rows image row no_row lt ∙ ap (λ (l : List ImageRow). get_or l image no_row) same in
    ap (λ (r : ImageRow). r.guid ++ le 4 (4096 * r.slots) ++ le 4 bytes ++ le 4 version ++ le 4 (bit_number bit)) here
    ∙ ap (λ (n : ℕ). (get_or L.rows image no_row).guid ++ le 4 (4096 * (get_or L.rows image no_row).slots) ++ le 4 n ++ le 4 version ++ le 4 (bit_number bit))
    sized
    ∙ ap (λ (n : ℕ). (get_or L.rows image no_row).guid ++ le 4 (4096 * (get_or L.rows image no_row).slots) ++ le 4 (get_or lengths image 0) ++ le 4 n ++ le 4
    (bit_number bit)) numbered
    ∙ ap (λ (b : Bool). (get_or L.rows image no_row).guid ++ le 4 (4096 * (get_or L.rows image no_row).slots) ++ le 4 (get_or lengths image 0) ++ le 4
    (version_by manifest image) ++ le 4 (bit_number b)) set

-- a slot has at most 256 blocks
pub row-small : (L : Layout) (rows : List ImageRow) (image : ℕ) (row : ImageRow) → IsTrue (fits_layout L) → rows ≡ L.rows → image < length rows
    → row ≡ get_or rows image row → row.slots ≤ 256
row-small L rows image row fits same lt is =
    let count : length rows ≡ length L.rows = ap (λ (l : List ImageRow). length l) same in
    let small = (rows-limits no_row L.rows (rows-fit L fits) image (omega (arith, lt, count))).slots in
    let here : row.slots ≡ (get_or L.rows image no_row).slots = ap (λ (r : ImageRow). r.slots)
    (is ∙ get_or_default rows image row no_row lt ∙ ap (λ (l : List ImageRow). get_or l image no_row) same) in
    omega (arith, small, here)
