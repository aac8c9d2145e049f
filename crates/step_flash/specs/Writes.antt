-- Which blocks the steps erase or program, how many of the steps do, and where steps lie.
use Rattle.std.specs.Prelude.{◌≡◌, ◌⊎◌, ℕ, Bool, List, Option, Some, None, ◌+◌, ◌*◌, ◌≤◌, ◌&&◌, not, nat_lt}
use Rattle.std.specs.List.{count_by}
use Rattle.base_core.specs.Block.{block_bytes}
use Rattle.flash_core.specs.{Counts.lowered_by, declared.flash.Arming.Arming}
use Rattle.step_flash.specs.{declared.step.Step.Step, Steps.is_barrier}

-- whether a step erases or programs a byte of block b
abbrev pub meets : ℕ → Step → Bool
meets b s = not (is_barrier s) && (nat_lt s.at (block_bytes * b + block_bytes) && nat_lt (block_bytes * b) (s.at + s.length))

-- how many of the steps do
unfoldable pub writes_in : List Step → ℕ → ℕ
writes_in steps b = count_by (meets b) steps

-- how many of the steps are erases, programs and copies
unfoldable pub erases_and_programs : List Step → ℕ
erases_and_programs steps = count_by (λ s. not (is_barrier s)) steps

-- A loss that no call arms: neither number is a u32. It lies behind all steps that are noted at most, so it never comes.
abbrev pub far_loss : ℕ → Arming
far_loss most = record { n = most + 4294967296; k = most + 4294967296 }

-- the armed loss; where there is none, a far one, which each erase, program and copy brings nearer
abbrev pub arming_by : Option Arming → ℕ → List Step → Option Arming
arming_by None most steps = lowered_by (erases_and_programs steps) (Some (far_loss most))
arming_by (Some armed) most steps = Some armed

-- a loss that a call arms: it lies ahead, and its bytes are a u32
abbrev pub IsArmed : Arming → Type 0
IsArmed armed = (1 ≤ armed.n) × (armed.k ≤ 4294967295)

-- A step is a barrier, or lies from one byte to before another.
abbrev pub LiesWithin : ℕ → ℕ → Step → Type 0
LiesWithin low high s = (s.kind ≡ 3) ⊎ (low ≤ s.at) × (s.at + s.length ≤ high)

-- A step is a barrier, or lies before the bytes from one to before another, or behind them.
abbrev pub LiesBeside : ℕ → ℕ → Step → Type 0
LiesBeside low high s = (s.kind ≡ 3) ⊎ (s.at + s.length ≤ low) ⊎ (high ≤ s.at)
