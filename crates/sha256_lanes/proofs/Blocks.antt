-- How a hash value follows a message that grows by whole blocks.
use Rattle.std.proofs.Common.{◌≡◌, ℕ, ◌<◌, ◌≤◌, ◌+◌, List, [], ◌++◌, ◌%◌, length, take, drop, arith, refl, length-append}
use Rattle.std.proofs.lemmas.List.{append-nil, length-take-le, take_all}
use Rattle.sha2.specs.Sha256.{compress, initial_hash_256}
use Rattle.sha2.proofs.Absorbing256.{IsAbsorbed_block}
use Rattle.sha256_lanes.specs.{Holding.IsOfBlocks, Lanes.of_four}
use Rattle.sha256_lanes.proofs.FourLanes.{below_four}

-- one block more of a piece
pub block_more : (h m piece block : List ℕ) (at : ℕ) → IsOfBlocks h (m ++ take at piece) → at + 64 ≤ length piece
    → block ≡ take 64 (drop at piece) → IsOfBlocks (compress h block) (m ++ take (at + 64) piece)
unfolding IsOfBlocks
block_more h m piece block at held fits e =
    let before = length-append m (take at piece) in
    let after = length-append m (take (at + 64) piece) in
    let taken = length-take-le at piece (omega arith) in
    let more = length-take-le (at + 64) piece fits in (
      omega (arith, held.0, before, after, taken, more),
      IsAbsorbed_block initial_hash_256 h [] m piece block at held.1 (omega (arith, held.0, before, taken)) fits e,
    )

-- the length of each of four, where all have one
pub four_lengths : (a b c d : List ℕ) → length b ≡ length a → length c ≡ length a → length d ≡ length a
    → (j : ℕ) → j < 4 → length (of_four a b c d j) ≡ length a
four_lengths a b c d eb ec ed = below_four _ refl eb ec ed

-- a part of each of four
pub four_parts : (a b c d : List ℕ) (at n : ℕ) → n ≡ 64 → (j : ℕ) → j < 4
    → of_four (take n (drop at a)) (take n (drop at b)) (take n (drop at c)) (take n (drop at d)) j ≡ take 64 (drop at (of_four a b c d j))
four_parts a b c d at n e = rw e (below_four _ refl refl refl refl)

pub of_whole_blocks : (h m : List ℕ) → IsOfBlocks h m → length m % 64 ≡ 0
unfolding IsOfBlocks
of_whole_blocks h m held = held.0
