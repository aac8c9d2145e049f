use Rattle.std.proofs.Common.{◌==◌, refl, ap, ◌∙◌}
use Rattle.agent_kept.specs.Kept.{kept, handle_meant}
use Rattle.agent_state.proofs.Machine as machine
use Rattle.agent_state.proofs.Replies as replies
use Rattle.agent_state.proofs.deciding.commit.Goals as goal

pub returns-in-Free-clause-decides : goal.returns-in-Free-clause-decides
returns-in-Free-clause-decides c = λ m boot passes counter E s staged bytes speaks fits.
    let k = kept c.args.session.now in
    replies.commit-free E s boot _ _ bytes c.args.handle c.args.acceptance_req
    (machine.handle-is k _ _ c.handle.ensures.zero c.handle.ensures.at ∙ ap handle_meant c.in-Free.is)

pub returns-in-Reads-clause-decides : goal.returns-in-Reads-clause-decides
returns-in-Reads-clause-decides c = λ m boot passes counter E s staged bytes speaks fits.
    let k = kept c.args.session.now in
    replies.commit-reads E s boot _ _ bytes c.args.handle c.args.acceptance_req c.in-Reads.image c.in-Reads.at
    (c.args.acceptance_req == 0) (machine.handle-is k _ _ c.handle.ensures.zero c.handle.ensures.at
    ∙ ap handle_meant c.in-Reads.is)

pub returns-in-Writes-clause-decides : goal.returns-in-Writes-clause-decides
returns-in-Writes-clause-decides c = λ m boot passes counter E s staged bytes speaks fits.
    let k = kept c.args.session.now in
    replies.commit-writes E s boot _ _ bytes c.args.handle c.args.acceptance_req c.in-Writes.image (c.args.acceptance_req == 0)
    (machine.handle-is k _ _ c.handle.ensures.zero c.handle.ensures.at ∙ ap handle_meant c.in-Writes.is) refl
