-- How far the rounds on a block of one message have come.
use Rattle.std.specs.Prelude.{◌≡◌, ℕ, ◌<◌, List, slice_index}
use Rattle.sha2.specs.Sha256.{rounds, schedule}

-- the first n words are those of the block's schedule
abbrev pub HasWords : List ℕ → List ℕ → ℕ → Type 0
HasWords b w n = (k : ℕ) → k < n → slice_index w k ≡ slice_index (schedule b 48) k

-- after t rounds from the hash value h the words so far are w, and the working variables are v
abbrev pub IsAtRound : List ℕ → List ℕ → List ℕ → List ℕ → ℕ → Type 0
IsAtRound b h w v t = HasWords b w t × (v ≡ rounds h (schedule b 48) t)
