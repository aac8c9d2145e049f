use Rattle.fwu_journal.proofs.Grown.{grows-then}
use Rattle.fwu_journal.proofs.replies.add_got.Goals as goal

pub returns-clause-grows : goal.returns-clause-grows
returns-clause-grows c = grows-then (grows-then c.add_named.ensures.grows c.add.ensures) c.add_bytes.ensures.grows
