-- The values of the code as those of the model.
use Rattle.std.specs.Prelude.{◌≡◌, ◌≤◌, ◌<◌, ℕ, ◌==◌, Bool, true, List, [], ◌∷◌, Option, Some, None, Result, Err, length, string_bytes}
use Rattle.fwu_model.specs.Call as model
use Rattle.fwu_model.specs.Script.{room_limit}
use Rattle.fwu_model.specs.declared.kinds.Op.TheVariants as op
use Rattle.script_text.specs.{declared.call.Call.Call, declared.line.Line.Line, declared.script.ScriptFault.ScriptFault}
use Rattle.script_text.specs.declared.script.ScriptFault.TheVariants.{BadLine, NoMemory}
use Rattle.script_text.specs.declared.call.Call.TheVariants as variant
use Rattle.script_text.specs.declared.line.Line.TheVariants as line

abbrev pub shown : Call → model.Call
shown variant.Discover = model.Discover
shown (variant.Begin partial_count) = model.Begin partial_count
shown (variant.BeginPartial types) = model.BeginPartial types.items
shown (variant.Open guid op.Read) = model.OpenRead guid
shown (variant.Open guid op.Write) = model.OpenWrite guid
shown (variant.Write handle bytes) = model.Write handle bytes.items
shown (variant.Read handle room out) = model.Read handle room
shown (variant.Commit handle request) = model.Commit handle request
shown variant.End = model.End
shown variant.Cancel = model.Cancel
shown (variant.Accept guid) = model.Accepts guid
shown variant.Previous = model.Previous
shown (variant.Send name request) = model.Send (string_bytes name) request
shown (variant.SendPartial name request) = model.SendPartial (string_bytes name) request
shown variant.Boot = model.Boot
shown (variant.Cut n k) = model.Cut n k
shown variant.Show = model.Show
shown variant.NoCall = model.NoCall

-- a read has a buffer of as many bytes as it asks for, and a partial begin names a type
abbrev pub HasBuffer : Call → Type 0
HasBuffer (variant.Read handle room out) = (length out.items ≡ room) × (room ≤ room_limit)
HasBuffer (variant.BeginPartial types) = 0 < length types.items
HasBuffer _ = Unit {0}

-- what a line has, or that it is no line of a script
abbrev pub line_shown : Line → Option (Option model.Call)
line_shown line.Nothing = Some None
line_shown (line.Call call) = Some (Some (shown call))
line_shown line.Bad = None

abbrev pub LineHasBuffer : Line → Type 0
LineHasBuffer line.Nothing = Unit {0}
LineHasBuffer (line.Call call) = HasBuffer call
LineHasBuffer line.Bad = Unit {0}

-- this line is the first bad one, or memory was wanting
abbrev pub IsScriptFault : Result (List model.Call) ℕ → ScriptFault → Type 0
IsScriptFault r (BadLine n) = r ≡ Err n
IsScriptFault r NoMemory = Unit {0}

-- the line is empty, or a comment
abbrev pub is_nothing : List ℕ → Bool
is_nothing [] = true
is_nothing (c ∷ rest) = c == 35
