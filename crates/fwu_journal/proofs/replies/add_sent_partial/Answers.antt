use Rattle.std.proofs.Common.{◌++◌}
use Rattle.std.specs.Prelude.{codes, decimal}
use Rattle.fwu_journal.proofs.Grown.{grows-pair}
use Rattle.fwu_journal.proofs.replies.add_sent_partial.Goals as goal

pub returns-clause-grows : goal.returns-clause-grows
returns-clause-grows c =
    grows-pair (codes "SUCCESS images=" ++ decimal c.args.images ++ codes " skipped=" ++ decimal c.args.skipped) (codes " copied=") (decimal c.args.copied)
    c.add_sent.ensures.grows c.add_named.ensures.grows
