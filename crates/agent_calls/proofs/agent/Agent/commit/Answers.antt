use Rattle.std.proofs.Common.{◌≡◌, ◌==◌, [], None, refl, sym, ap, ◌∙◌, arith}
use Rattle.fwu_model.specs.declared.kinds.Status.TheVariants as status
use Rattle.fwu_model.specs.Reply.{Success}
use Rattle.agent_kept.specs.declared.kinds.Plan.TheVariants as plan
use Rattle.agent_kept.specs.declared.kinds.Request.TheVariants as request
use Rattle.agent_kept.specs.Kept.{Kept, kept, handles_meant, handle_meant, staging_meant}
use Rattle.agent_state.proofs.{Machine.handle-is, Replies.commit-free, Replies.commit-reads, Replies.commit-writes}
use Rattle.agent_machine.proofs.{Answered.refused-meets, Meeting.quiet-success}
use Rattle.agent_calls.specs.Shown.{moment}
use Rattle.agent_calls.proofs.agent.Agent.commit.Goals as goal

pub returns-in-Free-clause-meets : goal.returns-in-Free-clause-meets
returns-in-Free-clause-meets g c here passes =
    let a = c.args.self.now in
    let k : Kept = kept a.session in
    refused-meets (moment a) (a.fitting here) a.session.sound passes (request.Commit c.args.handle c.args.acceptance_req c.args.max_atomic_len) []
    (λ E s setting speaks. tt) status.Unknown
    (λ E s staged bytes speaks fits.
    commit-free E s a.boot (staging_meant k staged) (handles_meant k) bytes c.args.handle c.args.acceptance_req
    (handle-is k c.args.handle c.handle.result c.handle.ensures.zero c.handle.ensures.at ∙ ap handle_meant c.in-Free.is))
    (λ value r. r ≡ Success)

pub returns-in-Reads-clause-meets : goal.returns-in-Reads-clause-meets
returns-in-Reads-clause-meets g c here passes =
    let a = c.args.self.now in
    let k : Kept = kept a.session in
    let bit = c.args.acceptance_req == 0 in
    quiet-success (moment a) (moment c.keep.new.self) (a.fitting here) a.session.sound (a.knows here) passes
    (request.Commit c.args.handle c.args.acceptance_req c.args.max_atomic_len) [] (λ E s setting speaks. tt) (plan.Commit c.args.handle None bit)
    (λ E s staged bytes speaks fits.
    commit-reads E s a.boot (staging_meant k staged) (handles_meant k) bytes c.args.handle c.args.acceptance_req c.in-Reads.image c.in-Reads.at bit
    (handle-is k c.args.handle c.handle.result c.handle.ensures.zero c.handle.ensures.at ∙ ap handle_meant c.in-Reads.is))
    tt (ap g.D.Flash.told c.keep.ensures.device) (ap g.D.Flash.writes c.keep.ensures.device) c.keep.ensures.carried tt

pub returns-in-Writes-clause-meets : goal.returns-in-Writes-clause-meets
returns-in-Writes-clause-meets g c here passes =
    let a = c.args.self.now in
    let k : Kept = kept a.session in
    c.commit_image.ensures.meets passes c.args.handle c.args.acceptance_req c.args.max_atomic_len
    (λ E s staged bytes speaks fits.
    commit-writes E s a.boot (staging_meant k staged) (handles_meant k) bytes c.args.handle c.args.acceptance_req c.in-Writes.image (c.args.acceptance_req == 0)
    (handle-is k c.args.handle c.handle.result c.handle.ensures.zero c.handle.ensures.at ∙ ap handle_meant c.in-Writes.is) refl)

pub returns-in-Writes-clause-still : goal.returns-in-Writes-clause-still
returns-in-Writes-clause-still g c none =
    let number = c.in-Writes.ensures.opened refl in
    absurd (none c.in-Writes.image (number.0, sym (c.in-Writes.ensures.at (omega (arith, number.0)))))
