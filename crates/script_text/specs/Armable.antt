-- Power cuts that can be armed.
use Rattle.std.specs.Prelude.{◌≤◌}
use Rattle.fwu_model.specs.Call.{Call, Cut}

-- a cut has a program from the first on, and a part of a block
abbrev pub IsArmable : Call → Type 0
IsArmable (Cut n k) = (1 ≤ n) × (n ≤ 4294967295) × (k ≤ 4096)
IsArmable _ = Unit {0}
