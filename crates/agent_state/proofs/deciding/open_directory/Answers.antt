use Rattle.std.proofs.Common.{List, None, sym, ap, ◌∙◌, subst}
use Rattle.fwu_model.specs.declared.kinds.Status.TheVariants as status
use Rattle.fwu_model.specs.declared.kinds.Op.TheVariants as op
use Rattle.fwu_model.specs.{Session.On, declared.kinds.Op.Op}
use Rattle.fwu_formats.specs.Layout.{ImageRow, find_image}
use Rattle.fwu_model.specs.Call as call
use Rattle.agent_kept.specs.{declared.kinds.Decision.TheVariants.Refused, Plans.DecidesAs, Plans.call_of}
use Rattle.agent_kept.specs.Kept.{kept, handles_meant, session_meant, staging_meant}
use Rattle.agent_kept.specs.declared.kinds.Request.TheVariants as request
use Rattle.agent_state.proofs.Replies as replies
use Rattle.agent_state.proofs.deciding.open_directory.Goals as goal

pub returns-in-Read-clause-decides : goal.returns-in-Read-clause-decides
returns-in-Read-clause-decides c = λ guid found dir m boot passes counter E s staged bytes speaks fits.
    let k = kept c.args.session.now in
    let stg = staging_meant k staged in
    let hs = handles_meant k in
    let at = ap (λ (l : List ImageRow). find_image l guid) (sym speaks.rows) ∙ found in
    subst (λ (o : Op). DecidesAs E s (session_meant k boot staged) (call_of (request.Open guid o c.args.total) bytes) bytes c.opened.result) (sym c.in-Read.is) (replies.opened-decides E s (On boot stg hs) (call.OpenRead guid) bytes k None op.Read c.args.total c.opened.result c.opened.ensures (replies.reads-opened E s boot stg hs bytes (call.OpenRead guid) None c.args.total (replies.open-read-directory E s boot stg hs bytes guid at dir)))

pub returns-in-Write-clause-decides : goal.returns-in-Write-clause-decides
returns-in-Write-clause-decides c = λ guid found dir m boot passes counter E s staged bytes speaks fits.
    let k = kept c.args.session.now in
    let stg = staging_meant k staged in
    let hs = handles_meant k in
    let at = ap (λ (l : List ImageRow). find_image l guid) (sym speaks.rows) ∙ found in
    subst (λ (o : Op). DecidesAs E s (session_meant k boot staged) (call_of (request.Open guid o c.args.total) bytes) bytes (Refused status.Denied)) (sym c.in-Write.is) (replies.open-write-directory E s boot stg hs bytes guid at dir)
