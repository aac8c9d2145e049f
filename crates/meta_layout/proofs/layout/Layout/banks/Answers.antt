use Rattle.fwu_formats.proofs.SealLaws.{limits}
use Rattle.meta_layout.proofs.layout.Layout.banks.Goals as goal

pub returns-clause-low : goal.returns-clause-low
returns-clause-low c = (limits (record { banks = c.self.inside.banks; rows = c.self.inside.rows }) c.self.invariant).fewest_banks

pub returns-clause-high : goal.returns-clause-high
returns-clause-high c = (limits (record { banks = c.self.inside.banks; rows = c.self.inside.rows }) c.self.invariant).most_banks
