-- The first bytes of image 0 with more behind them.
use Rattle.std.proofs.Common.{◌≡◌, ℕ, ◌+◌, ◌-◌, min, List, ◌++◌, length, take, sym, ap, ◌∙◌, arith}
use Rattle.std.proofs.lemmas.List.{length-take-le, take_min}
use Rattle.std.proofs.Math.Seq.{take-append-add}
use Rattle.agent_kept.specs.Sound.{FrontGrows}

pub front-grown : (size at count : ℕ) (bytes old new : List ℕ) → length old ≡ 888 → at ≡ min size 888 → count ≡ min (length bytes) (888 - at) → take (at + length (take count bytes)) new ≡ take at old ++ take count bytes → FrontGrows size bytes old new
front-grown size at count bytes old new whole at-is count-is put =
    let n : length (take count bytes) ≡ count = length-take-le count bytes (omega (arith, count-is)) in
    let first : at ≡ min 888 size = omega (arith, at-is) in
    let front : length (take at old) ≡ at = length-take-le at old (omega (arith, whole, at-is)) in
    let some : take count bytes ≡ take (888 - at) bytes = ap (λ (k : ℕ). take k bytes) (count-is ∙ (let e : min (length bytes) (888 - at) ≡ min (888 - at) (length bytes) = omega arith in e)) ∙ take_min (888 - at) bytes in
    ap (λ (k : ℕ). take k new) (let e : min 888 (size + length bytes) ≡ at + length (take count bytes) = omega (arith, n, at-is, count-is) in e) ∙ put ∙ ap (λ (l : List ℕ). take at old ++ l) some
    ∙ sym (take-append-add (take at old) bytes (888 - at)) ∙ ap (λ (k : ℕ). take k (take at old ++ bytes)) (let e : length (take at old) + (888 - at) ≡ 888 = omega (arith, front, at-is) in e)
    ∙ ap (λ (k : ℕ). take 888 (take k old ++ bytes)) first
