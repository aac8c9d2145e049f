use Rattle.update_client.proofs.Chosen.{all-chosen, all-refused}
use Rattle.update_client.proofs.choosing.choose.Goals as goal

pub returns-in-Ok : goal.returns-in-Ok
returns-in-Ok c = all-chosen c.args.rows.now c.args.toc.now c.in-Ok.entries c.in-Ok.ensures

pub returns-in-Err : goal.returns-in-Err
returns-in-Err c = all-refused c.args.rows.now c.args.toc.now c.in-Err.fault c.refused.result c.in-Err.ensures c.refused.ensures
