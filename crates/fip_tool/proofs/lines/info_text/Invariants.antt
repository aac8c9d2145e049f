use Rattle.std.proofs.Common.{◌≡◌, ◌++◌, take}
use Rattle.std.specs.Prelude.{flat_map}
use Rattle.fip_tool.specs.Lines.{entry_line, head_line}
use Rattle.fip_tool.proofs.lines.info_text.Given as goal

-- the head, and the lines of the entries so far
abbrev pub invariant-loop-entry : goal.invariant-loop-entry
invariant-loop-entry l = l.text.items ≡ head_line l.toc l.size ++ flat_map entry_line (take l.entry-index l.toc.entries)
