use Rattle.std.proofs.Common.{arith, sym, ◌∙◌}
use Rattle.gpt_core.proofs.Placing.{large_parts}
use Rattle.gpt_core.proofs.partitions.place.Goals as goal

pub places_at-requires-clause-forward : goal.places_at-requires-clause-forward
places_at-requires-clause-forward c =
    (large_parts c.args.blocks c.args.entry_blocks _ _ _ (sym c.are_large_in.ensures ∙ c.if-not-are_large_in.false)).usable.0.forward

pub places_at-requires-clause-small : goal.places_at-requires-clause-small
places_at-requires-clause-small c =
    let usable = (large_parts c.args.blocks c.args.entry_blocks _ _ _ (sym c.are_large_in.ensures ∙ c.if-not-are_large_in.false)).usable in
    (omega (arith, usable.0, c.requires.device), omega (arith, usable.1, c.requires.device), omega (arith, usable.2, c.requires.device))
