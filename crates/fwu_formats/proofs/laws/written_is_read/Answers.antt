use Rattle.fwu_formats.proofs.ManifestWritten.{written-is-read}
use Rattle.fwu_formats.proofs.laws.written_is_read.Goals as goal

pub returns : goal.returns
returns c = written-is-read
