use Rattle.std.proofs.Common.{◌-◌, length, ap, ◌∙◌, arith}
use Rattle.early_boot.proofs.Shapes.{count-lengths}
use Rattle.early_boot.proofs.choosing.lengths_at.Goals as goal

pub returns-clause-images : goal.returns-clause-images
returns-clause-images c =
    let n = length c.rows-rows.result.now - 1 in
    omega (arith, ap length c.lengths_in.ensures ∙ count-lengths _ n, ap length c.rows-rows.ensures.value, c.rows-rows.ensures.low)
