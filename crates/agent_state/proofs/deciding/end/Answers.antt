use Rattle.std.proofs.Common.{ℕ, Bool, List, Option, sym, ap, ap₂, ◌∙◌, subst}
use Rattle.fwu_model.specs.declared.kinds.Status.TheVariants as status
use Rattle.fwu_model.specs.Session.{Staged, On}
use Rattle.fwu_model.specs.Call as call
use Rattle.agent_kept.specs.{Plans.DecidesAs, Judged.is_installable, Sound.is_writer_kept}
use Rattle.agent_kept.specs.declared.kinds.Decision.TheVariants.{Refused, Do}
use Rattle.agent_kept.specs.Kept.{kept, handles_meant, staging_meant, parts_meant}
use Rattle.agent_kept.specs.declared.kinds.Plan.TheVariants as plan
use Rattle.agent_kept.proofs.{Installable.judging-exact, Meant.staging-on}
use Rattle.agent_state.proofs.Machine as machine
use Rattle.agent_state.proofs.Replies as replies
use Rattle.std.specs.List.{list_any}
use Rattle.agent_state.proofs.deciding.end.Goals as goal

pub returns-then-not-is_staging-clause-decides : goal.returns-then-not-is_staging-clause-decides
returns-then-not-is_staging-clause-decides g c = λ m boot E s staged bytes speaks fits.
    let k = kept c.args.session.now in
    let stg = staging_meant k staged in
    let hs = handles_meant k in
    subst (λ (x : Option (List Staged)). DecidesAs E s (On boot x hs) call.End bytes (Refused status.Denied)) (sym (machine.is-idle k staged (sym c.is_staging.ensures ∙ c.if-not-is_staging.true))) (replies.end-idle E s boot hs bytes)

pub returns-then-is_writing-clause-decides : goal.returns-then-is_writing-clause-decides
returns-then-is_writing-clause-decides g c = λ m boot E s staged bytes speaks fits.
    let k = kept c.args.session.now in
    let stg = staging_meant k staged in
    let hs = handles_meant k in
    subst (λ (x : Option (List Staged)). DecidesAs E s (On boot x hs) call.End bytes (Refused status.Busy)) (sym (staging-on k staged (sym c.is_staging.ensures ∙ c.if-not-is_staging.false))) (replies.end-busy E s boot (parts_meant k staged) hs bytes (sym (replies.writers-is c.args.session.now.handles) ∙ ap (list_any is_writer_kept) (sym c.handles.ensures.value) ∙ sym c.is_writing.ensures ∙ c.if-is_writing.true))

pub returns-then-not-may_install-clause-decides : goal.returns-then-not-may_install-clause-decides
returns-then-not-may_install-clause-decides g c = λ m boot E s staged bytes speaks fits.
    let k = kept c.args.session.now in
    let stg = staging_meant k staged in
    let hs = handles_meant k in
    subst (λ (x : Option (List Staged)). DecidesAs E s (On boot x hs) call.End bytes (Refused status.AuthFail)) (sym (staging-on k staged (sym c.is_staging.ensures ∙ c.if-not-is_staging.false))) (replies.end-unfit E s boot (parts_meant k staged) hs bytes (sym (replies.writers-is c.args.session.now.handles) ∙ ap (list_any is_writer_kept) (sym c.handles.ensures.value) ∙ sym c.is_writing.ensures ∙ c.if-is_writing.false) (sym (judging-exact E s k staged speaks.rows c.requires.some speaks.kept) ∙ ap₂ (λ (p : List ℕ → Bool) (n : ℕ). is_installable p n k) speaks.verifier (sym speaks.counter_is) ∙ sym c.may_install.ensures ∙ c.if-not-may_install.true))

pub returns-clause-decides : goal.returns-clause-decides
returns-clause-decides g c = λ m boot E s staged bytes speaks fits.
    let k = kept c.args.session.now in
    let stg = staging_meant k staged in
    let hs = handles_meant k in
    subst (λ (x : Option (List Staged)). DecidesAs E s (On boot x hs) call.End bytes (Do plan.End)) (sym (staging-on k staged (sym c.is_staging.ensures ∙ c.if-not-is_staging.false))) (replies.end-does E s boot (parts_meant k staged) hs bytes (sym (replies.writers-is c.args.session.now.handles) ∙ ap (list_any is_writer_kept) (sym c.handles.ensures.value) ∙ sym c.is_writing.ensures ∙ c.if-is_writing.false) (sym (judging-exact E s k staged speaks.rows c.requires.some speaks.kept) ∙ ap₂ (λ (p : List ℕ → Bool) (n : ℕ). is_installable p n k) speaks.verifier (sym speaks.counter_is) ∙ sym c.may_install.ensures ∙ c.if-not-may_install.false))
