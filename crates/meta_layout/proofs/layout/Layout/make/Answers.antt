use Rattle.meta_layout.proofs.Layouts.{fitted-bad, too-many}
use Rattle.meta_layout.proofs.layout.Layout.make.Goals as goal

pub returns-then-rows-gt-MOST_IMAGES : goal.returns-then-rows-gt-MOST_IMAGES
returns-then-rows-gt-MOST_IMAGES c =
    fitted-bad (record { banks = c.args.banks; rows = c.args.rows.now }) c.args.blocks (too-many (record { banks = c.args.banks; rows = c.args.rows.now }) c.if-rows-gt-MOST_IMAGES.true)
