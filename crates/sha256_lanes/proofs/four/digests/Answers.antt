use Rattle.std.proofs.Common.{ℕ, [], ◌-◌, ◌%◌, ◌<◌, ◌∙◌, take, ap, arith}
use Rattle.sha2.specs.Sha256.{sha256}
use Rattle.sha256_lanes.proofs.{Ends.cut_length, Ends.cut_message, FourLanes.below_four}
use Rattle.sha256_lanes.proofs.four.digests.Goals as goal

pub returns : goal.returns
returns c =
    let n = c.min-least.result - c.min-least.result % 64 in
    let a = c.args.a.now in
    let b = c.args.b.now in
    let d = c.args.c.now in
    let e = c.args.d.now in
    let taken = λ (j : ℕ) (lt : j < 4). c.absorb.ensures j lt [] (c.new-lanes.ensures j lt) in
    below_four _
    (c.finish-first.ensures (take n a) (cut_length a n (omega arith)) (taken 0 (omega arith)) ∙ ap sha256 (cut_message a n))
    (c.finish-second.ensures (take n b) (cut_length b n (omega arith)) (taken 1 (omega arith)) ∙ ap sha256 (cut_message b n))
    (c.finish-third.ensures (take n d) (cut_length d n (omega arith)) (taken 2 (omega arith)) ∙ ap sha256 (cut_message d n))
    (c.finish-fourth.ensures (take n e) (cut_length e n (omega arith)) (taken 3 (omega arith)) ∙ ap sha256 (cut_message e n))
