use Rattle.fwu_formats.proofs.SealLaws.{limits}
use Rattle.meta_layout.proofs.layout.Layout.rows.Goals as goal

pub returns-clause-low : goal.returns-clause-low
returns-clause-low c = rw (← c.self.view_is) (limits (record { banks = c.self.inside.banks; rows = c.self.inside.rows }) c.self.invariant).fewest_images
