use Rattle.std.proofs.Common.{◌++◌, List, ℕ, take}
use Rattle.script_text.specs.Limit.{IsExtentOf}
use Rattle.script_text.proofs.limit.TextLimit.feed.Given as goal

abbrev pub invariant-loop-place : goal.invariant-loop-place
invariant-loop-place l = (text : List ℕ) → IsExtentOf l.fn.self text → IsExtentOf l.self (text ++ take l.place l.piece)
