use Rattle.std.proofs.Common.{◌≡◌, ◌++◌, map, drop, option_map}
use Rattle.fip_words.specs.{Values.each, Values.part_of, Order.part_view}
use Rattle.fip_words.proofs.values.each_part.Given as goal

-- what was read so far, and what is left to read, are all
abbrev pub invariant-loop-text : goal.invariant-loop-text
invariant-loop-text l = option_map (λ ps. map part_view l.parts.items ++ ps) (each part_of (map (λ w. w.now) (drop l.text-index l.texts)))
    ≡ each part_of (map (λ w. w.now) l.texts)
