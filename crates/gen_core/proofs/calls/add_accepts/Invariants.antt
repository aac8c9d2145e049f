use Rattle.std.proofs.Common.{◌≡◌, ◌++◌, map, take}
use Rattle.gen_core.specs.Calls.{accept_calls, shown}
use Rattle.gen_core.proofs.calls.add_accepts.Given as goal

abbrev pub invariant-loop-row : goal.invariant-loop-row
invariant-loop-row l = map shown l.calls.items ≡ map shown l.fn.calls.items ++ accept_calls (take l.row-index l.rows)
