use Rattle.std.proofs.Common.{◌∙◌}
use Rattle.base_core.proofs.Listing.{same-pointwise}
use Rattle.base_core.proofs.guid.Guid.is.Goals as goal

pub returns : goal.returns
returns c =
    let one = c.bytes.ensures.value in
    let two = c.bytes-2.ensures.value in
    rw (← one, ← two) (c.eq.ensures ∙ same-pointwise c.bytes.result.now c.bytes-2.result.now)
