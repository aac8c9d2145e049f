use Rattle.fwu_formats.proofs.PackWritten.{packed-is-read}
use Rattle.fwu_formats.proofs.laws.packed_is_read.Goals as goal

pub returns : goal.returns
returns c = packed-is-read
