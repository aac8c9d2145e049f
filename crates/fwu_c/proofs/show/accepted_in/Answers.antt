use Rattle.std.proofs.Common.{◌≡◌, ◌∙◌, ◌<◌, length, take, arith}
use Rattle.std.proofs.lemmas.List.{length-set, take_more_set}
use Rattle.std.specs.Prelude.{false, slice_index_or}
use Rattle.meta_layout.proofs.Places.{pushed}
use Rattle.fwu_formats.specs.Metadata.{bit_number}
use Rattle.fwu_c.proofs.show.accepted_in.Goals as goal

pub loop-image-preserved : goal.loop-image-preserved
loop-image-preserved c =
    let accepted = c.loop-image.accepted in
    let image = c.loop-image.image in
    let all : length accepted ≡ 16 = c.loop-image.invariant.1 in
    let near : image < length accepted = omega (arith, all, c.loop-image-test.true) in (
      take_more_set accepted image c.bit_in.result near
          ∙ pushed (λ i. bit_number (slice_index_or c.args.bits.now i false)) (take image accepted) image c.bit_in.result c.loop-image.invariant.0 c.bit_in.ensures,
      length-set accepted image c.bit_in.result ∙ all,
    )
