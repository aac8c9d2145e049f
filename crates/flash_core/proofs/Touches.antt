-- Which blocks several calls erase or program.
use Rattle.std.proofs.Common.{◌≡◌, inl, inr, ℕ, ◌≤◌, ◌∙◌, ap, arith}
use Rattle.flash_core.specs.Touches.{TouchesOnly}

-- where nothing was erased or programmed
pub touches_none : (low high : ℕ) {old new : ℕ → ℕ} → new ≡ old → TouchesOnly low high old new
touches_none low high same b out = ap (λ (writes : ℕ → ℕ). writes b) same

-- calls that were done, and one more
pub touches_then : (low high : ℕ) {a b c : ℕ → ℕ} → TouchesOnly low high a b → TouchesOnly low high b c → TouchesOnly low high a c
touches_then low high first second b out = second b out ∙ first b out

-- and one that erases and programs nothing
pub touches_still : (low high : ℕ) {a b c : ℕ → ℕ} → TouchesOnly low high a b → c ≡ b → TouchesOnly low high a c
touches_still low high first same b out = ap (λ (writes : ℕ → ℕ). writes b) same ∙ first b out

-- over a wider range
pub touches_wider : (low high : ℕ) (below above : ℕ) {old new : ℕ → ℕ} → below ≤ low → high ≤ above → TouchesOnly low high old new
    → TouchesOnly below above old new
touches_wider low high below above under over only b (inl out) = only b (inl (omega (arith, out, under)))
touches_wider low high below above under over only b (inr out) = only b (inr (omega (arith, out, over)))
