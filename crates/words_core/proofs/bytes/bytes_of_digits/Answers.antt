use Rattle.std.proofs.Common.{◌≡◌, ◌/◌, Ok, length, rules, sym, ap, ◌∙◌, arith}
use Rattle.std.specs.Iterator.Adapters.{map_source}
use Rattle.std.specs.Simd.{first_chunks}
use Rattle.std.specs.Slice.Iter.{iter_rest}
use Rattle.std.proofs.lemmas.Iterator.{YieldsList-from_map, YieldsList-from_slice, items_from_collect}
use Rattle.std.proofs.lemmas.Result.{IfOk-weaker}
use Rattle.words_core.proofs.Digits.{byte_of_pair, decode_by_pairs}
use Rattle.words_core.proofs.bytes.bytes_of_digits.Goals as goal

pub returns : goal.returns
returns c =
    let s = c.args.digits.now in
    let k = length s / 2 in
    let pairs : iter_rest (map_source c.map.result) ≡ first_chunks 2 k s =
    ap iter_rest c.map.ensures.source ∙ c.iter.ensures.rest ∙ c.as_chunks.ensures.front in
    IfOk-weaker c.collect.result _ _
    (λ bytes is. decode_by_pairs 0 k s (omega (arith, c.requires.even)) c.requires.digits ∙ ap Ok (sym is))
    (items_from_collect _ c.collect.ensures.ran
    (YieldsList-from_map _ byte_of_pair (YieldsList-from_slice (first_chunks 2 k s) pairs) c.map.ensures.closure (λ x r q k. search rules)))
