use Rattle.std.proofs.Common.{ℕ, List, [], sym, subst, refl}
use Rattle.sha2.specs.Sha256.{hash_after}
use Rattle.sha256_lanes.specs.Holding.{IsOfBlocks}
use Rattle.sha256_lanes.proofs.LaneWords.{eight_same}
use Rattle.sha256_lanes.proofs.lanes.Lanes.restart.Goals as goal

pub returns-clause-begun : goal.returns-clause-begun
unfolding IsOfBlocks hash_after
returns-clause-begun c =
    subst (λ (h : List ℕ). IsOfBlocks h [])
    (sym (eight_same c.with_word-self.ensures.here c.with_word-self-2.ensures.here c.with_word-self-3.ensures.here c.with_word-self-4.ensures.here
    c.with_word-self-5.ensures.here c.with_word-self-6.ensures.here c.with_word-self-7.ensures.here c.with_word-self-8.ensures.here))
    (refl, (refl, refl))
