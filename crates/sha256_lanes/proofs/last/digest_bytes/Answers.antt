use Rattle.std.proofs.Common.{◌≡◌, ◌*◌, ◌∙◌, refl, sym, ap, arith, rules}
use Rattle.std.proofs.lemmas.List.{take_all, places}
use Rattle.sha2.specs.Sha256.{digest_bytes}
use Rattle.sha2.proofs.Absorbing256.{digest_more}
use Rattle.sha256_lanes.proofs.last.digest_bytes.Goals as goal

pub loop-k-init : goal.loop-k-init
unfolding digest_bytes
loop-k-init c = (refl, refl)

pub loop-k-preserved : goal.loop-k-preserved
loop-k-preserved c =
    let k = c.loop-k.k in
    let bytes = c.copy_from_slice.new.self in (
      search (rules, places),
      digest_more c.loop-k.digest c.args.words.now bytes k _ c.loop-k.invariant.1 (omega arith) (c.copy_from_slice.ensures.after ∙ c.to_be_bytes.ensures),
    )
