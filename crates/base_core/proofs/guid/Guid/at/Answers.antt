use Rattle.std.proofs.Common.{◌+◌, ◌-◌, arith}
use Rattle.base_core.proofs.Listing.{bytes-fit, part-fits}
use Rattle.base_core.proofs.guid.Guid.at.Goals as goal

pub invariant_of-result : goal.invariant_of-result
invariant_of-result c =
    rw c.copy_from_slice.ensures.after
    (bytes-fit _ (λ k lt. part-fits c.args.bytes.now c.args.at (c.args.at + 16 - c.args.at) k lt (λ j. omega (arith, c.type_inv.bytes j))))
