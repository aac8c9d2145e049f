use Rattle.std.proofs.Common.{ℕ, ◌==◌, not, Bool, false, List, [], get_or, Option, sym, ap, ◌∙◌, subst, arith}
use Rattle.fwu_model.specs.declared.kinds.Status.TheVariants as status
use Rattle.fwu_model.specs.Session.{Staged, On}
use Rattle.fwu_formats.specs.Layout.{ImageRow, find_image}
use Rattle.fwu_model.specs.Call as call
use Rattle.agent_kept.specs.{Kept.kept, Kept.handles_meant, Kept.staging_meant, Plans.DecidesAs}
use Rattle.agent_kept.specs.declared.kinds.Decision.TheVariants.{Refused, Do}
use Rattle.agent_kept.specs.declared.kinds.Plan.TheVariants as plan
use Rattle.meta_layout.proofs.Fits.{meta-fits, row-length}
use Rattle.agent_state.proofs.Machine as machine
use Rattle.agent_state.proofs.Replies as replies
use Rattle.agent_state.proofs.deciding.accept.Goals as goal

pub returns-then-not-may_accept-clause-decides : goal.returns-then-not-may_accept-clause-decides
returns-then-not-may_accept-clause-decides c = λ passes counter E s staged bytes speaks fits.
    let k = kept c.args.session.now in
    let m = c.args.meta.now in
    let boot = c.args.boot_index in
    let stg = staging_meant k staged in
    let hs = handles_meant k in
    replies.accept-denied E s boot bytes k m.meta.active staged c.args.guid.now (machine.active-is s m speaks.meta) (sym c.may_accept.ensures ∙ c.if-not-may_accept.true)

pub bit-requires-clause-below : goal.bit-requires-clause-below
bit-requires-clause-below c =
    let f = meta-fits _ c.args.meta.now.meta c.requires.fits in
    omega (arith, f.active, f.bits, c.active.ensures)

pub bit-requires-clause-within : goal.bit-requires-clause-within
bit-requires-clause-within c =
    let f = meta-fits _ c.args.meta.now.meta c.requires.fits in
    let long = row-length _ c.args.meta.now.meta c.active.result f (omega (arith, f.active, c.active.ensures)) in
    let low = c.in-Some.ensures.within in
    omega (arith, long, low)

pub returns-in-None-clause-decides : goal.returns-in-None-clause-decides
returns-in-None-clause-decides c = λ passes counter E s staged bytes speaks fits.
    let k = kept c.args.session.now in
    let m = c.args.meta.now in
    let boot = c.args.boot_index in
    let stg = staging_meant k staged in
    let hs = handles_meant k in
    let on = replies.accepting k.staging (boot == m.meta.active) (sym c.may_accept.ensures ∙ c.if-not-may_accept.false) in
    subst (λ (x : Option (List Staged)). DecidesAs E s (On boot x hs) (call.Accepts c.args.guid.now) bytes (Refused status.Unknown)) (sym (machine.is-idle k staged on.0)) (replies.accept-unknown E s boot hs bytes c.args.guid.now (sym (machine.elsewhere-is s m speaks.meta boot) ∙ ap not on.1) (ap (λ (l : List ImageRow). find_image l c.args.guid.now) (sym speaks.rows) ∙ sym c.find.ensures.value ∙ c.in-None.is))

pub returns-in-Some-clause-decides : goal.returns-in-Some-clause-decides
returns-in-Some-clause-decides c = λ passes counter E s staged bytes speaks fits.
    let k = kept c.args.session.now in
    let m = c.args.meta.now in
    let boot = c.args.boot_index in
    let stg = staging_meant k staged in
    let hs = handles_meant k in
    let on = replies.accepting k.staging (boot == m.meta.active) (sym c.may_accept.ensures ∙ c.if-not-may_accept.false) in
    let bit = c.bit.ensures ∙ ap (λ (b : ℕ). get_or (get_or m.meta.bits b []) c.in-Some.image false) (c.active.ensures ∙ machine.active-is s m speaks.meta) ∙ ap (λ (l : List Bool). get_or l c.in-Some.image false) (machine.bits-is s m speaks.meta s.active) in
    subst (λ (x : Option (List Staged)). DecidesAs E s (On boot x hs) (call.Accepts c.args.guid.now) bytes (Do (plan.Accept c.in-Some.image (not c.bit.result)))) (sym (machine.is-idle k staged on.0)) (replies.accept-does E s boot hs bytes c.args.guid.now c.in-Some.image (not c.bit.result) (sym (machine.elsewhere-is s m speaks.meta boot) ∙ ap not on.1) (ap (λ (l : List ImageRow). find_image l c.args.guid.now) (sym speaks.rows) ∙ sym c.find.ensures.value ∙ c.in-Some.is) (ap not bit))
