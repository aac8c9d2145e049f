use Rattle.std.proofs.Common.{◌∙◌, sym, subst, ◌++◌}
use Rattle.fip_tables.specs.Stream.{Stream, ReaderHolds}
use Rattle.fip_tables.proofs.Fronts.{met-decided}
use Rattle.fip_tables.proofs.stream.StreamToc.feed.Goals as goal

pub returns-clause-fault : goal.returns-clause-fault
returns-clause-fault c = λ bytes h.
    let before = subst (λ (s : Stream). ReaderHolds s.reader bytes) (sym c.self.view_is) h.holds in
    let r = c.read_on.new.self in
    c.fault.ensures ∙ met-decided r.stage r.toc r.pending (bytes ++ c.args.piece.now) c.read_on.ensures.partial (c.read_on.ensures.holds bytes before)
