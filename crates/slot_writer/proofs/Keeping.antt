-- What is kept behind whole granules: the bytes that fill none.
use Rattle.std.proofs.Common.{◌≡◌, ℕ, ◌+◌, ◌-◌, ◌%◌, ◌<◌, ◌≤◌, List, ◌++◌, length, take, drop, sym, ap, ◌∙◌, arith}
use Rattle.std.proofs.lemmas.List.{length-take-le, length-drop, drop-drop}
use Rattle.std.proofs.Math.Seq.{drop-append-add}
use Rattle.slot_writer.specs.Slots.{kept_of}

-- a granule is filled
pub kept-filled : (size room : ℕ) (rest bytes left : List ℕ) → 0 < size % 16 → room ≡ 16 - size % 16 → room ≤ length bytes → length rest ≡ 16
    → take (length (drop room bytes) % 16) left ≡ drop (length (drop room bytes) - length (drop room bytes) % 16) (drop room bytes) → take ((size + length bytes) % 16) left ≡ kept_of size rest bytes
kept-filled size room rest bytes left some room_is enough sixteen e =
    let head : List ℕ = take (size % 16) rest in
    let head_size : length head ≡ size % 16 = length-take-le (size % 16) rest (omega (arith, sixteen)) in
    let m : ℕ = length (drop room bytes) in
    let m_is : m ≡ length bytes - room = length-drop room bytes in
    ap (λ (k : ℕ). take k left) (omega (arith, m_is, room_is, enough)) ∙ e ∙ drop-drop (m - m % 16) room bytes
    ∙ sym (drop-append-add head bytes (room + (m - m % 16)))
    ∙ ap (λ (k : ℕ). drop k (head ++ bytes)) (omega (arith, m_is, room_is, enough, head_size))
