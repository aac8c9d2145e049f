use Rattle.std.proofs.Common.{◌≡◌, ◌+◌, ℕ, List, subst, arith}
use Rattle.sha256_lanes.specs.OneBlock.{IsAtRound}
use Rattle.sha256_lanes.proofs.one_block.eight_steps.Goals as goal

-- the same round by another sum
same_round : (b h w v : List ℕ) (t n : ℕ) → IsAtRound b h w v (t + n + 1) → IsAtRound b h w v (t + (n + 1))
same_round b h w v t n at =
    let e : t + n + 1 ≡ t + (n + 1) = omega arith in
    subst (λ (u : ℕ). IsAtRound b h w v u) e at

pub returns : goal.returns
returns c = λ b h before.
    let t = c.args.t in
    let one = c.step-v1.ensures b h before in
    let two = same_round b h c.step-v2.new.w c.step-v2.result t 1 (c.step-v2.ensures b h one) in
    let three = same_round b h c.step-v3.new.w c.step-v3.result t 2 (c.step-v3.ensures b h two) in
    let four = same_round b h c.step-v4.new.w c.step-v4.result t 3 (c.step-v4.ensures b h three) in
    let five = same_round b h c.step-v5.new.w c.step-v5.result t 4 (c.step-v5.ensures b h four) in
    let six = same_round b h c.step-v6.new.w c.step-v6.result t 5 (c.step-v6.ensures b h five) in
    let seven = same_round b h c.step-v7.new.w c.step-v7.result t 6 (c.step-v7.ensures b h six) in
    same_round b h c.step.new.w c.step.result t 7 (c.step.ensures b h seven)
