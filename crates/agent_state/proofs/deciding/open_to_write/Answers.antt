use Rattle.std.proofs.Common.{List, Option, Some, sym, ap, ◌∙◌, subst}
use Rattle.fwu_model.specs.declared.kinds.Status.TheVariants as status
use Rattle.fwu_model.specs.declared.kinds.Op.TheVariants as op
use Rattle.fwu_model.specs.Session.{Staged, On, is_open, is_committed}
use Rattle.agent_kept.specs.{declared.parts.Part.Part, declared.kinds.Decision.TheVariants.Refused, Plans.DecidesAs}
use Rattle.agent_kept.specs.Kept.{kept, handles_meant, staging_meant, parts_meant, part_meant}
use Rattle.fwu_formats.specs.Layout.{ImageRow, find_image}
use Rattle.fwu_model.specs.Call as call
use Rattle.agent_state.proofs.Machine as machine
use Rattle.agent_kept.proofs.Meant.{staging-on}
use Rattle.agent_state.proofs.Replies as replies
use Rattle.agent_state.proofs.deciding.open_to_write.Goals as goal

pub returns-then-not-is_staging-clause-decides : goal.returns-then-not-is_staging-clause-decides
returns-then-not-is_staging-clause-decides c = λ guid found m boot passes counter E s staged bytes speaks fits.
    let k = kept c.args.session.now in
    let stg = staging_meant k staged in
    let hs = handles_meant k in
    let at = ap (λ (l : List ImageRow). find_image l guid) (sym speaks.rows) ∙ found in
    subst (λ (x : Option (List Staged)). DecidesAs E s (On boot x hs) (call.OpenWrite guid) bytes (Refused status.Denied)) (sym (machine.is-idle k staged (sym c.is_staging.ensures ∙ c.if-not-is_staging.true))) (replies.open-write-idle E s boot hs bytes guid c.args.image at)

pub returns-in-Committed-clause-decides : goal.returns-in-Committed-clause-decides
returns-in-Committed-clause-decides c = λ guid found m boot passes counter E s staged bytes speaks fits.
    let k = kept c.args.session.now in
    let stg = staging_meant k staged in
    let hs = handles_meant k in
    let at = ap (λ (l : List ImageRow). find_image l guid) (sym speaks.rows) ∙ found in
    subst (λ (x : Option (List Staged)). DecidesAs E s (On boot x hs) (call.OpenWrite guid) bytes (Refused status.Denied)) (sym (staging-on k staged (sym c.is_staging.ensures ∙ c.if-not-is_staging.false))) (replies.open-write-committed E s boot (parts_meant k staged) hs bytes guid c.args.image at (ap is_committed (machine.part-is k staged c.args.image c.requires.within ∙ ap (λ (p : Part). part_meant p (staged c.args.image)) (sym c.part.ensures ∙ c.in-Committed.is))))

pub returns-in-Open-clause-decides : goal.returns-in-Open-clause-decides
returns-in-Open-clause-decides c = λ guid found m boot passes counter E s staged bytes speaks fits.
    let k = kept c.args.session.now in
    let stg = staging_meant k staged in
    let hs = handles_meant k in
    let at = ap (λ (l : List ImageRow). find_image l guid) (sym speaks.rows) ∙ found in
    subst (λ (x : Option (List Staged)). DecidesAs E s (On boot x hs) (call.OpenWrite guid) bytes (Refused status.Busy)) (sym (staging-on k staged (sym c.is_staging.ensures ∙ c.if-not-is_staging.false))) (replies.open-write-open E s boot (parts_meant k staged) hs bytes guid c.args.image at (ap is_committed (machine.part-is k staged c.args.image c.requires.within ∙ ap (λ (p : Part). part_meant p (staged c.args.image)) (sym c.part.ensures ∙ c.in-Open.is))) (ap is_open (machine.part-is k staged c.args.image c.requires.within ∙ ap (λ (p : Part). part_meant p (staged c.args.image)) (sym c.part.ensures ∙ c.in-Open.is))))

pub returns-in-Nothing-clause-decides : goal.returns-in-Nothing-clause-decides
returns-in-Nothing-clause-decides c = λ guid found m boot passes counter E s staged bytes speaks fits.
    let k = kept c.args.session.now in
    let stg = staging_meant k staged in
    let hs = handles_meant k in
    let at = ap (λ (l : List ImageRow). find_image l guid) (sym speaks.rows) ∙ found in
    subst (λ (x : Option (List Staged)). DecidesAs E s (On boot x hs) (call.OpenWrite guid) bytes c.opened.result) (sym (staging-on k staged (sym c.is_staging.ensures ∙ c.if-not-is_staging.false))) (replies.opened-decides E s (On boot (Some (parts_meant k staged)) hs) (call.OpenWrite guid) bytes k (Some c.args.image) op.Write c.args.total c.opened.result c.opened.ensures (replies.open-write-nothing E s boot (parts_meant k staged) hs bytes guid c.args.image c.args.total at (ap is_committed (machine.part-is k staged c.args.image c.requires.within ∙ ap (λ (p : Part). part_meant p (staged c.args.image)) (sym c.part.ensures ∙ c.in-Nothing.is))) (ap is_open (machine.part-is k staged c.args.image c.requires.within ∙ ap (λ (p : Part). part_meant p (staged c.args.image)) (sym c.part.ensures ∙ c.in-Nothing.is)))))
