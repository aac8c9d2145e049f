use Rattle.std.proofs.Common.{List, Some, sym, ap, ◌∙◌, subst}
use Rattle.fwu_model.specs.declared.kinds.Op.TheVariants as op
use Rattle.fwu_model.specs.{Session.On, declared.kinds.Op.Op}
use Rattle.fwu_formats.specs.Layout.{ImageRow, find_image}
use Rattle.fwu_model.specs.Call as call
use Rattle.agent_kept.specs.{Kept.kept, Kept.handles_meant, Kept.session_meant, Kept.staging_meant, Plans.DecidesAs, Plans.call_of}
use Rattle.agent_kept.specs.declared.kinds.Request.TheVariants as request
use Rattle.agent_state.proofs.Replies as replies
use Rattle.agent_state.specs.Asked.{IsFor}
use Rattle.agent_state.proofs.deciding.open_image.Goals as goal

pub returns-in-Read-clause-decides : goal.returns-in-Read-clause-decides
returns-in-Read-clause-decides c = λ guid found m boot passes counter E s staged bytes speaks fits.
    let k = kept c.args.session.now in
    let stg = staging_meant k staged in
    let hs = handles_meant k in
    let at = ap (λ (l : List ImageRow). find_image l guid) (sym speaks.rows) ∙ found in
    subst (λ (o : Op). DecidesAs E s (session_meant k boot staged) (call_of (request.Open guid o c.args.total) bytes) bytes c.opened.result) (sym c.in-Read.is) (replies.opened-decides E s (On boot stg hs) (call.OpenRead guid) bytes k (Some c.args.image) op.Read c.args.total c.opened.result c.opened.ensures (replies.reads-opened E s boot stg hs bytes (call.OpenRead guid) (Some c.args.image) c.args.total (replies.open-read-image E s boot stg hs bytes guid c.args.image at)))

pub returns-in-Write-clause-decides : goal.returns-in-Write-clause-decides
returns-in-Write-clause-decides c = λ guid found m boot passes counter E s staged bytes speaks fits.
    let k = kept c.args.session.now in
    let stg = staging_meant k staged in
    let hs = handles_meant k in
    let at = ap (λ (l : List ImageRow). find_image l guid) (sym speaks.rows) ∙ found in
    subst (λ (o : Op). DecidesAs E s (session_meant k boot staged) (call_of (request.Open guid o c.args.total) bytes) bytes c.open_to_write.result) (sym c.in-Write.is) (c.open_to_write.ensures.decides guid found m boot passes counter E s staged bytes speaks tt)

pub returns-in-Write-clause-asked : goal.returns-in-Write-clause-asked
returns-in-Write-clause-asked c = λ m guid found.
    let k = kept c.args.session.now in
    subst (λ (o : Op). IsFor k m (request.Open guid o c.args.total) c.open_to_write.result) (sym c.in-Write.is) (c.open_to_write.ensures.asked m guid found)
