-- A record is read from the front of its block.
use Rattle.std.proofs.Common.{◌≡◌, ℕ, ◌+◌, ◌-◌, ◌*◌, ◌≤◌, List, length, take, drop, refl, sym, ap, ◌∙◌, arith, leb, le-leb, length-drop}
use Rattle.std.proofs.lemmas.List.{length-take-le, take-take}
use Rattle.std.specs.Prelude.{slice_range}
use Rattle.base_core.specs.Block.{block}
use Rattle.fwu_formats.specs.Counter.{is_record}
use Rattle.fwu_formats.proofs.Spell.{num_front, part_front}
use Rattle.marks_core.specs.Marks.{value_in}

-- whether bytes are a record, and its value, depends on their first 32 alone
record_front : (bytes : List ℕ) → 32 ≤ length bytes → is_record (take 32 bytes) ≡ is_record bytes
unfolding is_record
record_front bytes long =
    let size : length (take 32 bytes) ≡ 32 = length-take-le 32 bytes long in
    let test = ap (λ (n : ℕ). leb 32 n) size ∙ sym (le-leb 32 (length bytes) long) in
    rw (test, num_front 4 16 32 bytes (omega arith), num_front 4 0 32 bytes (omega arith), num_front 4 4 32 bytes (omega arith), num_front 4 12 32 bytes (omega arith), part_front 28 4 32 bytes (omega arith), part_front 12 20 32 bytes (omega arith)) refl

pub value_front : (bytes : List ℕ) → 32 ≤ length bytes → value_in (take 32 bytes) ≡ value_in bytes
value_front bytes long = rw (record_front bytes long, num_front 4 8 32 bytes (omega arith)) refl

-- what a read of the front of a block gives
pub front_read : (b n : ℕ) (image out : List ℕ) → 4096 * b + 4096 ≤ length image → n ≡ 32 → out ≡ slice_range image (4096 * b) (4096 * b + n) → value_in out ≡ value_in (block b image)
unfolding block
front_read b n image out room size is =
    let count : 4096 * b + n - 4096 * b ≡ 32 = omega (arith, size) in
    let cut = ap (λ (k : ℕ). take k (drop (4096 * b) image)) count in
    let front = take-take 32 4096 (drop (4096 * b) image) (omega arith) in
    let long : 32 ≤ length (block b image) = omega (arith, room, length-drop (4096 * b) image, length-take-le 4096 (drop (4096 * b) image) (omega (arith, room, length-drop (4096 * b) image))) in
    ap value_in (is ∙ cut ∙ sym front) ∙ value_front (block b image) long
