-- A name of a file is a text.
use Rattle.std.proofs.Common.{◌≡◌, ℕ, suc, zero, true, nat_le, List, [], ◌∷◌, length, arith, leb-true}
use Rattle.std.specs.Prelude.{◌&&◌}
use Rattle.std.specs.List.{list_all}
use Rattle.std.specs.Str.{IsAscii, IsUtf8}
use Rattle.std.proofs.lemmas.Bool.{and_parts}
use Rattle.std.proofs.lemmas.Str.{IsUtf8-from_ascii}
use Rattle.fwu_formats.specs.Words.{is_file}

graphic-ascii : (w : List ℕ) → list_all (λ b. nat_le 0x21 b && nat_le b 0x7E) w ≡ true → IsAscii w
graphic-ascii [] all i = omega arith
graphic-ascii (b ∷ rest) all zero =
    let first = and_parts (nat_le 0x21 b && nat_le b 0x7E) (list_all (λ b. nat_le 0x21 b && nat_le b 0x7E) rest) all in
    let below = leb-true b 0x7E (and_parts (nat_le 0x21 b) (nat_le b 0x7E) first.0).1 in
    omega (arith, below)
graphic-ascii (b ∷ rest) all (suc i) =
    graphic-ascii rest (and_parts (nat_le 0x21 b && nat_le b 0x7E) (list_all (λ b. nat_le 0x21 b && nat_le b 0x7E) rest) all).1 i

pub file-text : (w : List ℕ) → is_file w ≡ true → IsUtf8 w
file-text w is = IsUtf8-from_ascii w (graphic-ascii w (and_parts (nat_le 1 (length w) && nat_le (length w) 255) (list_all (λ b. nat_le 0x21 b && nat_le b 0x7E) w) is).1)
