use Rattle.std.proofs.Common.{arith}
use Rattle.script_runs.proofs.running.Run.new.Goals as goal

pub invariant_of-result : goal.invariant_of-result
invariant_of-result g c = omega (arith, c.args.room.line_fits)
