use Rattle.std.proofs.Common.{false, []}
use Rattle.std.proofs.Math.Bool.{beq}
use Rattle.meta_layout.proofs.Same.{padded_test, padded-tells, told, bits-tell}
use Rattle.meta_layout.proofs.lists.BankBits.is.Goals as goal

pub returns : goal.returns
returns c =
    told (padded_test (padded_test beq bits-tell 16 false) (padded-tells beq bits-tell 16 false) 4 []) (padded-tells (padded_test beq bits-tell 16 false) (padded-tells beq bits-tell 16 false) 4 []) c.args.self.now c.args.other.now c.eq.result c.eq.ensures
