use Rattle.fip_making.specs.Stops.{unread_by}
use Rattle.fip_making.proofs.{Makings.value-read, Makings.value-unread, Refusing.handed-on}
use Rattle.fip_making.proofs.reading.read_file.Goals as goal

pub returns-clause-told : goal.returns-clause-told
returns-clause-told g c = λ told e. value-read _ told c.args.name.now c.in_ok-read_whole.field-0.items e c.in_ok-read_whole.ensures.whole

pub returns-in_err-read_whole-clause-told : goal.returns-in_err-read_whole-clause-told
returns-in_err-read_whole-clause-told g c =
    rw (handed-on c.from_residual.result (unread_by c.in_err-read_whole.field-0.0) c.from_residual.ensures.1) (λ told e.
    value-unread _ c.args.name.now _ _ told c.in_err-read_whole.field-0.0 e c.in_err-read_whole.ensures.cause)
