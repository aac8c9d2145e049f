use Rattle.std.proofs.Common.{◌∙◌, ◌+◌, ◌*◌, ◌%◌, ◌++◌, ◌∷◌, [], ℕ, List, sym, ap, arith, rules}
use Rattle.std.proofs.lemmas.List.FromFn.{map-range_with_len_more}
use Rattle.base_core.specs.Bytes.{listed}
use Rattle.gen_core.specs.Generated.{image_bytes}
use Rattle.gen_core.proofs.packages.image.Goals as goal

pub returns : goal.returns
unfolding image_bytes
returns c = search rules

pub loop-j-preserved : goal.loop-j-preserved
loop-j-preserved c =
    let j = c.loop-j.j in
    let byte = λ (n : ℕ). (7 * n + c.args.i + c.args.number) % 256 in
    c.in_ok-push.ensures.items
    ∙ ap (λ (l : List ℕ). l ++ c.byte_at.result ∷ []) c.loop-j.invariant
    ∙ ap (λ (b : ℕ). listed j byte ++ b ∷ []) c.byte_at.ensures
    ∙ sym (map-range_with_len_more byte 0 j j (omega arith))
