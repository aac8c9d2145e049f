-- The numbers of a soak: a linear congruential register of 32 bits, and what is drawn from it.
use Rattle.std.specs.Prelude.{ℕ, zero, suc, ◌+◌, ◌*◌, ◌/◌, ◌%◌}

-- the register after one more draw
unfoldable pub step : ℕ → ℕ
step x = (x * 1103515245 + 12345) % 4294967296

-- what a register gives below a limit: of its upper bits
unfoldable pub drawn : ℕ → ℕ → ℕ
drawn x limit = x / 65536 % 32768 % limit

-- the register after so many draws
abbrev pub register_after : ℕ → ℕ → ℕ
register_after zero x = x
register_after (suc n) x = register_after n (step x)

-- the draw of this number, from 1 on, below a limit
abbrev pub draw : ℕ → ℕ → ℕ → ℕ
draw x number limit = drawn (register_after number x) limit
