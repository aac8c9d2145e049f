use Rattle.std.proofs.Common.{refl}
use Rattle.host_io.specs.Printed.{front}
use Rattle.script_runs.proofs.printing.put_line.Goals as goal

pub returns-in-Err-Failed : goal.returns-in-Err-Failed
returns-in-Err-Failed g c =
    let bytes = rw c.in-Err-Failed.field-0-is at c.in-Err-Failed.ensures.bytes in
    let cause = c.in-Err-Failed.ensures.cause in
    front refl bytes.0 bytes.1 cause.later (rw c.in-Err-Failed.field-0-is at c.in-Err-Failed.ensures.cause.count)
