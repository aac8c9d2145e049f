use Rattle.std.proofs.Common.{◌≡◌, ◌++◌, map, drop, option_map}
use Rattle.fwu_words.specs.Values.{each, slots_row_of}
use Rattle.fwu_words.proofs.values.each_row.Given as goal

-- what was read so far, and what is left to read, are all
abbrev pub invariant-loop-text : goal.invariant-loop-text
invariant-loop-text l = option_map (λ rs. l.rows.items ++ rs) (each slots_row_of (map (λ w. w.now) (drop l.text-index l.texts)))
    ≡ each slots_row_of (map (λ w. w.now) l.texts)
