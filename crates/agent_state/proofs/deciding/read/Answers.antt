use Rattle.std.proofs.Common.{min, sym, ap, ◌∙◌}
use Rattle.agent_kept.specs.Kept.{kept, handle_meant}
use Rattle.agent_state.proofs.Machine as machine
use Rattle.agent_state.proofs.Replies as replies
use Rattle.agent_state.proofs.deciding.read.Goals as goal

pub returns-in-Free-clause-decides : goal.returns-in-Free-clause-decides
returns-in-Free-clause-decides c = λ m boot passes counter E s staged bytes speaks fits.
    let k = kept c.args.session.now in
    replies.read-free E s boot _ _ bytes c.args.handle c.args.room
    (machine.handle-is k _ _ c.handle.ensures.zero c.handle.ensures.at ∙ ap handle_meant c.in-Free.is)

pub returns-in-Writes-clause-decides : goal.returns-in-Writes-clause-decides
returns-in-Writes-clause-decides c = λ m boot passes counter E s staged bytes speaks fits.
    let k = kept c.args.session.now in
    replies.read-writes E s boot _ _ bytes c.args.handle c.args.room c.in-Writes.image
    (machine.handle-is k _ _ c.handle.ensures.zero c.handle.ensures.at ∙ ap handle_meant c.in-Writes.is)

pub returns-in-Reads-clause-decides : goal.returns-in-Reads-clause-decides
returns-in-Reads-clause-decides c = λ m boot passes counter E s staged bytes speaks fits.
    let k = kept c.args.session.now in
    let there = machine.handle-place k _ _ c.handle.ensures.zero c.handle.ensures.at
    (λ e. machine.free-reads (sym e ∙ c.in-Reads.is)) ∙ c.in-Reads.is in
    replies.read-does E s boot _ _ bytes c.args.handle c.args.room c.in-Reads.image c.in-Reads.at _ c.in-Reads.total
    (machine.handle-is k _ _ c.handle.ensures.zero c.handle.ensures.at ∙ ap handle_meant c.in-Reads.is)
    (fits c.in-Reads.image c.in-Reads.at c.in-Reads.total there) (c.min.ensures ∙ ap (min c.args.room) c.from.ensures)
