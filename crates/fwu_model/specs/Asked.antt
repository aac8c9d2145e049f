-- What a run of the program is asked for, of the two commands that run a script, and which script that is.
use Rattle.std.specs.Prelude.{ℕ, List, Option, Some, codes}

pub data ScriptAsked : Type 0 where
  -- the script that the source has
  Source : ScriptAsked
  -- the script of the one line `boot`
  Boot : ScriptAsked
  -- another command, or nothing
  NoScript : ScriptAsked

-- the bytes of the script that is asked for, where they are told; the source's where none is
abbrev pub script_asked : ScriptAsked → Option (List ℕ) → Option (List ℕ)
script_asked Source source = source
script_asked Boot source = Some (codes "boot\n")
script_asked NoScript source = source
