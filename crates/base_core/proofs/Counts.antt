-- Counts that rise from one of several.
use Rattle.std.proofs.Common.{inl, inr, ℕ, ◌≤◌, arith}
use Rattle.base_core.specs.Counts.{Rose}

pub rose_earlier : (a b c : ℕ) → a ≤ b → Rose b c → Rose a c
rose_earlier a b c le (inl less) = inl (omega arith)
rose_earlier a b c le (inr full) = inr full
