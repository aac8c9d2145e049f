use Rattle.fip_making.proofs.Conversions.{table-read}
use Rattle.fip_making.proofs.table.read_enclosed.Goals as goal

pub returns-clause-told : goal.returns-clause-told
returns-clause-told g c = λ told e. table-read _ told c.args.name.now e c.in_ok-read_capsule.field-0 c.in_ok-read_capsule.ensures.told c.in_ok-read_capsule.ensures.missing
