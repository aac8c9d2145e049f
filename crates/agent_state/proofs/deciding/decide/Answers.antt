use Rattle.std.proofs.Common.{sym, subst}
use Rattle.agent_kept.specs.{declared.kinds.Decision.TheVariants.Do, declared.kinds.Request.Request}
use Rattle.agent_kept.specs.Kept.{kept, handles_meant, staging_meant}
use Rattle.agent_kept.specs.declared.kinds.Plan.TheVariants as plan
use Rattle.meta_layout.proofs.Fits.{meta-fits}
use Rattle.agent_state.specs.{Decides.DecidesRequest, Asked.IsFor}
use Rattle.agent_state.proofs.Replies as replies
use Rattle.agent_state.proofs.deciding.decide.Goals as goal

pub returns-in-Discover-clause-decides : goal.returns-in-Discover-clause-decides
returns-in-Discover-clause-decides g c = subst (λ (r : Request). DecidesRequest (g.V.Verifier.passes c.args.verifier.now) c.args.meta.now c.args.counter (kept c.args.session.now) c.args.boot_index r (Do plan.Tell)) (sym c.in-Discover.is) (λ E s staged bytes speaks fits. replies.discover-tells E s c.args.boot_index (staging_meant (kept c.args.session.now) staged) (handles_meant (kept c.args.session.now)) bytes)

pub returns-in-Begin-clause-decides : goal.returns-in-Begin-clause-decides
returns-in-Begin-clause-decides g c = subst (λ (r : Request). DecidesRequest (g.V.Verifier.passes c.args.verifier.now) c.args.meta.now c.args.counter (kept c.args.session.now) c.args.boot_index r c.begin.result) (sym c.in-Begin.is) (c.begin.ensures.decides (g.V.Verifier.passes c.args.verifier.now) c.args.counter)

pub returns-in-BeginPartial-clause-decides : goal.returns-in-BeginPartial-clause-decides
returns-in-BeginPartial-clause-decides g c = subst (λ (r : Request). DecidesRequest (g.V.Verifier.passes c.args.verifier.now) c.args.meta.now c.args.counter (kept c.args.session.now) c.args.boot_index r c.begin_partial.result) (sym c.in-BeginPartial.is) (c.begin_partial.ensures.decides (g.V.Verifier.passes c.args.verifier.now) c.args.counter)

pub begin_partial-requires : goal.begin_partial-requires
begin_partial-requires g c = record { active = (meta-fits _ c.args.meta.now.meta c.requires.fits).active }

pub returns-in-Open-clause-decides : goal.returns-in-Open-clause-decides
returns-in-Open-clause-decides g c = subst (λ (r : Request). DecidesRequest (g.V.Verifier.passes c.args.verifier.now) c.args.meta.now c.args.counter (kept c.args.session.now) c.args.boot_index r c.open.result) (sym c.in-Open.is) (c.open.ensures.decides c.args.meta.now c.args.boot_index (g.V.Verifier.passes c.args.verifier.now) c.args.counter)

pub returns-in-Write-clause-decides : goal.returns-in-Write-clause-decides
returns-in-Write-clause-decides g c = subst (λ (r : Request). DecidesRequest (g.V.Verifier.passes c.args.verifier.now) c.args.meta.now c.args.counter (kept c.args.session.now) c.args.boot_index r c.write.result) (sym c.in-Write.is) (c.write.ensures.decides c.args.meta.now c.args.boot_index (g.V.Verifier.passes c.args.verifier.now) c.args.counter)

pub returns-in-Read-clause-decides : goal.returns-in-Read-clause-decides
returns-in-Read-clause-decides g c = subst (λ (r : Request). DecidesRequest (g.V.Verifier.passes c.args.verifier.now) c.args.meta.now c.args.counter (kept c.args.session.now) c.args.boot_index r c.read.result) (sym c.in-Read.is) (c.read.ensures.decides c.args.meta.now c.args.boot_index (g.V.Verifier.passes c.args.verifier.now) c.args.counter)

pub returns-in-Commit-clause-decides : goal.returns-in-Commit-clause-decides
returns-in-Commit-clause-decides g c = subst (λ (r : Request). DecidesRequest (g.V.Verifier.passes c.args.verifier.now) c.args.meta.now c.args.counter (kept c.args.session.now) c.args.boot_index r c.commit.result) (sym c.in-Commit.is) (c.commit.ensures.decides c.args.meta.now c.args.boot_index (g.V.Verifier.passes c.args.verifier.now) c.args.counter)

pub returns-in-End-clause-decides : goal.returns-in-End-clause-decides
returns-in-End-clause-decides g c = subst (λ (r : Request). DecidesRequest (g.V.Verifier.passes c.args.verifier.now) c.args.meta.now c.args.counter (kept c.args.session.now) c.args.boot_index r c.end.result) (sym c.in-End.is) (c.end.ensures.decides c.args.meta.now c.args.boot_index)

pub returns-in-Cancel-clause-decides : goal.returns-in-Cancel-clause-decides
returns-in-Cancel-clause-decides g c = subst (λ (r : Request). DecidesRequest (g.V.Verifier.passes c.args.verifier.now) c.args.meta.now c.args.counter (kept c.args.session.now) c.args.boot_index r c.cancel.result) (sym c.in-Cancel.is) (c.cancel.ensures.decides c.args.meta.now c.args.boot_index (g.V.Verifier.passes c.args.verifier.now) c.args.counter)

pub returns-in-Accept-clause-decides : goal.returns-in-Accept-clause-decides
returns-in-Accept-clause-decides g c = subst (λ (r : Request). DecidesRequest (g.V.Verifier.passes c.args.verifier.now) c.args.meta.now c.args.counter (kept c.args.session.now) c.args.boot_index r c.accept.result) (sym c.in-Accept.is) (c.accept.ensures.decides (g.V.Verifier.passes c.args.verifier.now) c.args.counter)

pub returns-in-Previous-clause-decides : goal.returns-in-Previous-clause-decides
returns-in-Previous-clause-decides g c = subst (λ (r : Request). DecidesRequest (g.V.Verifier.passes c.args.verifier.now) c.args.meta.now c.args.counter (kept c.args.session.now) c.args.boot_index r c.previous.result) (sym c.in-Previous.is) (c.previous.ensures.decides (g.V.Verifier.passes c.args.verifier.now) c.args.counter)

pub begin-requires : goal.begin-requires
begin-requires g c = record { active = (meta-fits _ c.args.meta.now.meta c.requires.fits).active }

pub previous-requires-clause-active : goal.previous-requires-clause-active
previous-requires-clause-active g c = (meta-fits _ c.args.meta.now.meta c.requires.fits).active

pub previous-requires-clause-previous : goal.previous-requires-clause-previous
previous-requires-clause-previous g c = (meta-fits _ c.args.meta.now.meta c.requires.fits).previous

pub returns-in-Open-clause-asked : goal.returns-in-Open-clause-asked
returns-in-Open-clause-asked g c = subst (λ (r : Request). IsFor (kept c.args.session.now) c.args.meta.now.meta r c.open.result) (sym c.in-Open.is) (c.open.ensures.asked c.args.meta.now.meta)

pub returns-in-Write-clause-asked : goal.returns-in-Write-clause-asked
returns-in-Write-clause-asked g c = subst (λ (r : Request). IsFor (kept c.args.session.now) c.args.meta.now.meta r c.write.result) (sym c.in-Write.is) (c.write.ensures.asked c.args.meta.now.meta)

pub returns-in-Read-clause-asked : goal.returns-in-Read-clause-asked
returns-in-Read-clause-asked g c = subst (λ (r : Request). IsFor (kept c.args.session.now) c.args.meta.now.meta r c.read.result) (sym c.in-Read.is) (c.read.ensures.asked c.args.meta.now.meta)

pub returns-in-Commit-clause-asked : goal.returns-in-Commit-clause-asked
returns-in-Commit-clause-asked g c = subst (λ (r : Request). IsFor (kept c.args.session.now) c.args.meta.now.meta r c.commit.result) (sym c.in-Commit.is) (c.commit.ensures.asked c.args.meta.now.meta)

pub returns-in-End-clause-asked : goal.returns-in-End-clause-asked
returns-in-End-clause-asked g c = subst (λ (r : Request). IsFor (kept c.args.session.now) c.args.meta.now.meta r c.end.result) (sym c.in-End.is) (c.end.ensures.asked c.args.meta.now.meta)

pub returns-in-Cancel-clause-asked : goal.returns-in-Cancel-clause-asked
returns-in-Cancel-clause-asked g c = subst (λ (r : Request). IsFor (kept c.args.session.now) c.args.meta.now.meta r c.cancel.result) (sym c.in-Cancel.is) (c.cancel.ensures.asked c.args.meta.now.meta)
