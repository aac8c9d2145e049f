-- Which blocks calls erase or program, by the counts of a device.
use Rattle.std.specs.Prelude.{◌≡◌, ◌⊎◌, ℕ, ◌+◌, ◌*◌, ◌≤◌}
use Rattle.base_core.specs.Block.{block_bytes}

-- No block beside the bytes from one place to before another is erased or programmed.
abbrev pub TouchesOnly : ℕ → ℕ → (ℕ → ℕ) → (ℕ → ℕ) → Type 0
TouchesOnly low high old new = (b : ℕ) → (block_bytes * b + block_bytes ≤ low) ⊎ (high ≤ block_bytes * b) → new b ≡ old b
