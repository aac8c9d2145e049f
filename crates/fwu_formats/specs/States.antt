-- What is known of a bank, as tests.
use Rattle.std.specs.Prelude.{Bool, true, false}
use Rattle.fwu_formats.specs.declared.kinds.BankState.{BankState}
use Rattle.fwu_formats.specs.declared.kinds.BankState.TheVariants.{Invalid, Valid, Accepted}

abbrev pub is_invalid : BankState → Bool
is_invalid Invalid = true
is_invalid other = false

abbrev pub is_valid : BankState → Bool
is_valid Valid = true
is_valid other = false

abbrev pub is_accepted : BankState → Bool
is_accepted Accepted = true
is_accepted other = false
