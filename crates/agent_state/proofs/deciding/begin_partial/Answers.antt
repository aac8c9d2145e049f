use Rattle.std.proofs.Common.{◌≡◌, not, List, length, take, sym, ap, ◌∙◌, subst}
use Rattle.fwu_model.specs.{State.is_invalid, State.update_bank, Answer.are_named, Answer.names_unknown}
use Rattle.fwu_formats.specs.{Layout.ImageRow, Metadata.state_at}
use Rattle.agent_kept.specs.Kept.{kept, handles_meant, staging_meant}
use Rattle.agent_state.proofs.Machine as machine
use Rattle.agent_state.proofs.Replies as replies
use Rattle.agent_state.proofs.deciding.begin_partial.Goals as goal

pub returns-then-cannot_begin-clause-decides : goal.returns-then-cannot_begin-clause-decides
returns-then-cannot_begin-clause-decides c = λ passes counter E s staged bytes speaks fits.
    let k = kept c.args.session.now in
    let m = c.args.meta.now in
    let boot = c.args.boot_index in
    replies.partly-denied E s boot (staging_meant k staged) (handles_meant k) bytes c.args.list.now (sym (machine.cannot-is s m speaks.meta k boot staged) ∙ sym c.cannot_begin.ensures ∙ c.if-cannot_begin.true)

pub returns-then-names_unknown-clause-decides : goal.returns-then-names_unknown-clause-decides
returns-then-names_unknown-clause-decides c = λ passes counter E s staged bytes speaks fits.
    let k = kept c.args.session.now in
    let m = c.args.meta.now in
    let boot = c.args.boot_index in
    replies.partly-unknown E s boot (staging_meant k staged) (handles_meant k) bytes c.args.list.now (sym (machine.cannot-is s m speaks.meta k boot staged) ∙ sym c.cannot_begin.ensures ∙ c.if-cannot_begin.false)
    (ap (λ (rows : List ImageRow). names_unknown rows c.args.list.now) (sym speaks.rows) ∙ sym c.names_unknown.ensures ∙ c.if-names_unknown.true)

pub returns-clause-decides : goal.returns-clause-decides
returns-clause-decides c = λ passes counter E s staged bytes speaks fits.
    let k = kept c.args.session.now in
    let m = c.args.meta.now in
    let boot = c.args.boot_index in
    let used = ap is_invalid (c.state.ensures ∙ ap (state_at m.meta) (c.update_bank.ensures.value ∙ machine.next-is s m speaks.meta) ∙ machine.state-is s m speaks.meta (update_bank s)) in
    replies.partly-does E s boot (staging_meant k staged) (handles_meant k) bytes c.args.list.now (not c.is_invalid-store.result) c.named-named.result
    (sym (machine.cannot-is s m speaks.meta k boot staged) ∙ sym c.cannot_begin.ensures ∙ c.if-cannot_begin.false)
    (ap (λ (rows : List ImageRow). names_unknown rows c.args.list.now) (sym speaks.rows) ∙ sym c.names_unknown.ensures ∙ c.if-names_unknown.false)
    (ap not (c.is_invalid-store.ensures ∙ used))
    (subst (λ (rows : List ImageRow). take (length rows) c.named-named.result ≡ are_named rows c.args.list.now) speaks.rows c.named-named.ensures)
