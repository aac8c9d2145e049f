use Rattle.std.proofs.Common.{◌<◌, Bool, List, [], ◌∷◌, ◌++◌, length, take, sym, ap, ◌∙◌, arith}
use Rattle.std.proofs.lemmas.List.{take_all}
use Rattle.fwu_formats.specs.Layout.{ImageRow}
use Rattle.agent_kept.specs.Kept.{kept}
use Rattle.agent_state.specs.Settles.{bit_kept, bits_kept}
use Rattle.agent_state.proofs.Collected.{bits-count, bits-step}
use Rattle.agent_state.proofs.settling.committed_bits.Goals as goal

pub loop-image-preserved : goal.loop-image-preserved
loop-image-preserved c =
    let k = kept c.args.session.now in
    let lt : c.loop-image.image < length k.rows = omega (arith, c.loop-image-test.true, ap (λ (l : List ImageRow). length l) c.rows-image-end.ensures.value) in
    c.push.ensures ∙ ap (λ (l : List Bool). l ++ c.bit_of.result ∷ []) c.loop-image.invariant ∙ ap (λ (b : Bool). take c.loop-image.image (bits_kept k) ++ b ∷ []) (c.bit_of.ensures ∙ ap bit_kept c.part.ensures)
    ∙ sym (bits-step k c.loop-image.image lt)

pub returns : goal.returns
returns c =
    let k = kept c.args.session.now in
    c.loop-image.invariant ∙ take_all c.loop-image.image (bits_kept k) (omega (arith, bits-count k, c.loop-image-test.false, ap (λ (l : List ImageRow). length l) c.rows-image-end.ensures.value))
