use Rattle.std.proofs.Common.{◌∙◌, ap, arith, ℕ, List}
use Rattle.host_io.specs.Joined.{joined}
use Rattle.fip_tables.specs.Frame.{chunks}
use Rattle.fip_tables.proofs.Filled.{all-filled}
use Rattle.fip_tables.proofs.frame.Frame.filled.Goals as goal

pub returns : goal.returns
returns c =
    let frame = c.args.self.now.bytes.items in
    let parts = c.args.parts.now in
    c.in_ok-extend_from_slice.ensures.items
    ∙ all-filled frame c.as_slice-gaps.result.now parts c.loop-i.bytes.items c.loop-i.left.now c.loop-i.i (omega (arith, c.min-i-end.ensures, c.loop-i-test.false)) c.loop-i.invariant
    ∙ ap (λ (gs : List ℕ). joined frame (chunks gs parts)) c.as_slice-gaps.ensures.value
