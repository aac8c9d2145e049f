use Rattle.std.proofs.Common.{sym}
use Rattle.std.proofs.Common.{inl, refl}
use Rattle.uuid.specs.Text.{lower}
use Rattle.uuid.proofs.RoundTrips.{parses_hyphenated_text}
use Rattle.base_core.proofs.Texts.{writes}
use Rattle.base_core.proofs.guid.reading_and_writing_are_inverse.Goals as goal

pub returns-clause-reads : goal.returns-clause-reads
returns-clause-reads c = λ bytes len small. sym (parses_hyphenated_text lower bytes (inl refl) len small)

pub returns-clause-writes : goal.returns-clause-writes
returns-clause-writes c = writes
