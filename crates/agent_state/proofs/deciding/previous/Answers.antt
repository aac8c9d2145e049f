use Rattle.std.proofs.Common.{◌≡◌, ℕ, List, Option, None, sym, ◌∙◌, subst}
use Rattle.fwu_model.specs.declared.kinds.Status.TheVariants as status
use Rattle.fwu_model.specs.{Session.Staged, Session.On, State.bank, Answer.answer, Answer.may_go_back}
use Rattle.fwu_model.specs.Call as call
use Rattle.agent_kept.specs.{Kept.kept, Kept.handles_meant, Kept.staging_meant, Plans.DecidesAs, Plans.by_verdict}
use Rattle.agent_kept.specs.declared.kinds.Decision.TheVariants.{Refused, ByVerdict}
use Rattle.agent_state.proofs.Machine as machine
use Rattle.agent_state.proofs.Replies as replies
use Rattle.agent_state.proofs.deciding.previous.Goals as goal

pub returns-then-not-may_leave-clause-decides : goal.returns-then-not-may_leave-clause-decides
returns-then-not-may_leave-clause-decides c = λ passes counter E s staged bytes speaks fits.
    let k = kept c.args.session.now in
    let m = c.args.meta.now in
    let boot = c.args.boot_index in
    let stg = staging_meant k staged in
    let hs = handles_meant k in
    replies.previous-denied E s boot bytes k staged _ (sym c.may_leave.ensures ∙ c.if-not-may_leave.true) (sym (machine.leave-is s m speaks.meta boot))

pub returns-then-not-has_other-clause-decides : goal.returns-then-not-has_other-clause-decides
returns-then-not-has_other-clause-decides c = λ passes counter E s staged bytes speaks fits.
    let k = kept c.args.session.now in
    let m = c.args.meta.now in
    let boot = c.args.boot_index in
    let stg = staging_meant k staged in
    let hs = handles_meant k in
    let on = replies.accepting k.staging _ (sym c.may_leave.ensures ∙ c.if-not-may_leave.false) in
    subst (λ (x : Option (List Staged)). DecidesAs E s (On boot x hs) call.Previous bytes (Refused status.Denied)) (sym (machine.is-idle k staged on.0)) (replies.previous-alone E s boot hs bytes (sym (machine.leave-is s m speaks.meta boot) ∙ on.1) (sym (machine.other-is s m speaks.meta) ∙ sym c.has_other.ensures ∙ c.if-not-has_other.true))

pub returns-clause-decides : goal.returns-clause-decides
returns-clause-decides c = λ passes counter E s staged bytes speaks fits.
    let k = kept c.args.session.now in
    let m = c.args.meta.now in
    let boot = c.args.boot_index in
    let stg = staging_meant k staged in
    let hs = handles_meant k in
    let on = replies.accepting k.staging _ (sym c.may_leave.ensures ∙ c.if-not-may_leave.false) in
    subst (λ (x : Option (List Staged)). DecidesAs E s (On boot x hs) call.Previous bytes (ByVerdict c.previous.result)) (sym (machine.is-idle k staged on.0)) ((c.previous.ensures ∙ machine.previous-is s m speaks.meta, subst (λ (b : ℕ). answer E s (On boot None hs) call.Previous ≡ by_verdict (On boot None hs) (may_go_back E s (bank s b).held)) (sym (c.previous.ensures ∙ machine.previous-is s m speaks.meta)) (replies.previous-asks E s boot hs bytes (sym (machine.leave-is s m speaks.meta boot) ∙ on.1) (sym (machine.other-is s m speaks.meta) ∙ sym c.has_other.ensures ∙ c.if-not-has_other.false))))
