use Rattle.fip_tables.proofs.Stand.{faults-stand, tables-stand}
use Rattle.fip_tables.proofs.laws.fronts_decide.Goals as goal

pub returns-clause-faults : goal.returns-clause-faults
returns-clause-faults c = faults-stand

pub returns-clause-tables : goal.returns-clause-tables
returns-clause-tables c = tables-stand
