-- Laws of scripts.
use Rattle.std.specs.Prelude.{◌≡◌, ℕ, ◌≤◌, List, ◌++◌, length, Ok, All, IsTrue}
use Rattle.fwu_model.specs.{Call.Call, Script.script_of, Script.script_lines, Script.is_too_long}
use Rattle.script_text.specs.Armable.{IsArmable}

-- every cut of a script can be armed
abbrev pub CutsAreArmable : Type 0
CutsAreArmable = (bytes : List ℕ) (calls : List Call) → script_of bytes ≡ Ok calls → All IsArmable calls

-- a script has a line for each call
abbrev pub CallsHaveLines : Type 0
CallsHaveLines = (bytes : List ℕ) (calls : List Call) → script_of bytes ≡ Ok calls
    → length calls ≤ length (script_lines bytes)

-- what follows a text that is too long doesn't make it shorter
abbrev pub LongStaysLong : Type 0
LongStaysLong = (text more : List ℕ) → IsTrue (is_too_long text) → IsTrue (is_too_long (text ++ more))
