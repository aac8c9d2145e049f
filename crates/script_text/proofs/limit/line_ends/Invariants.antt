use Rattle.std.proofs.Common.{◌≡◌, take}
use Rattle.std.specs.Prelude.{count_by}
use Rattle.script_text.proofs.Extents.{is_end}
use Rattle.script_text.proofs.limit.line_ends.Given as goal

abbrev pub invariant-loop-byte : goal.invariant-loop-byte
invariant-loop-byte l = l.ends ≡ count_by is_end (take l.byte-index l.piece)
