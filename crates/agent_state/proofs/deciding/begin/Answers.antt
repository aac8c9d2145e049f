use Rattle.std.proofs.Common.{not, sym, ap, ◌∙◌}
use Rattle.fwu_model.specs.State.{is_invalid, update_bank}
use Rattle.fwu_formats.specs.Metadata.{state_at}
use Rattle.agent_kept.specs.Kept.{kept}
use Rattle.agent_state.proofs.Machine as machine
use Rattle.agent_state.proofs.Replies as replies
use Rattle.agent_state.proofs.deciding.begin.Goals as goal

pub returns-then-cannot_begin-clause-decides : goal.returns-then-cannot_begin-clause-decides
returns-then-cannot_begin-clause-decides c = λ passes counter E s staged bytes speaks fits.
    let k = kept c.args.session.now in
    let m = c.args.meta.now in
    let boot = c.args.boot_index in
    replies.begin-denied E s boot _ _ bytes c.args.partial_count
    (sym (machine.cannot-is s m speaks.meta k boot staged) ∙ sym c.cannot_begin.ensures ∙ c.if-cannot_begin.true)

pub returns-then-partial_count-ne0-clause-decides : goal.returns-then-partial_count-ne0-clause-decides
returns-then-partial_count-ne0-clause-decides c = λ passes counter E s staged bytes speaks fits.
    let k = kept c.args.session.now in
    let m = c.args.meta.now in
    let boot = c.args.boot_index in
    replies.begin-late E s boot _ _ bytes c.args.partial_count
    (sym (machine.cannot-is s m speaks.meta k boot staged) ∙ sym c.cannot_begin.ensures ∙ c.if-cannot_begin.false)
    c.if-partial_count-ne0.true

pub returns-clause-decides : goal.returns-clause-decides
returns-clause-decides c = λ passes counter E s staged bytes speaks fits.
    let k = kept c.args.session.now in
    let m = c.args.meta.now in
    let boot = c.args.boot_index in
    let used = ap is_invalid (c.state.ensures ∙ ap (state_at m.meta)
    (c.update_bank.ensures.value ∙ machine.next-is s m speaks.meta) ∙ machine.state-is s m speaks.meta (update_bank s)) in
    replies.begin-does E s boot _ _ bytes c.args.partial_count (not c.is_invalid-store.result)
    (sym (machine.cannot-is s m speaks.meta k boot staged) ∙ sym c.cannot_begin.ensures ∙ c.if-cannot_begin.false)
    c.if-partial_count-ne0.false
    (ap not (c.is_invalid-store.ensures ∙ used))
