use Rattle.std.proofs.Common.{◌≡◌, ◌++◌, map, drop, option_map}
use Rattle.fip_words.specs.{Values.each, Values.named_row_of, Order.image_view}
use Rattle.fip_words.proofs.values.each_image.Given as goal

-- what was read so far, and what is left to read, are all
abbrev pub invariant-loop-text : goal.invariant-loop-text
invariant-loop-text l = option_map (λ ps. map image_view l.rows.items ++ ps) (each named_row_of (map (λ w. w.now) (drop l.text-index l.texts)))
    ≡ each named_row_of (map (λ w. w.now) l.texts)
