use Rattle.std.proofs.Common.{◌≡◌, ◌+◌, ◌∙◌, arith, length, ℕ}
use Rattle.std.specs.Option.{ForSome}
use Rattle.sha256_lanes.specs.Holding.{HoldsInLane}
use Rattle.image_check.specs.Taken.{HasTaken, job_at}
use Rattle.image_check.proofs.Stays.{reads_none, reads_then}
use Rattle.image_check.proofs.UnderWay.{lane_more, of_lanes, moved, piece_inside, stepped_after}
use Rattle.image_check.proofs.side.take_piece.Goals as goal

pub read_for-requires-clause-inside : goal.read_for-requires-clause-inside
read_for-requires-clause-inside g c = λ job is.
    let there = piece_inside g.D.Flash c.args.flash.now c.args.work.now c.requires.under_way c.args.size 0 job c.requires.piece (omega arith) is in
    omega (arith, there, c.split_at_mut-first.ensures.front_len)

pub read_for-requires-2-clause-inside : goal.read_for-requires-2-clause-inside
read_for-requires-2-clause-inside g c = λ job is.
    let there = piece_inside g.D.Flash c.args.flash.now c.args.work.now c.requires.under_way c.args.size 1 job c.requires.piece (omega arith) is in
    omega (arith, there, c.split_at_mut-second.ensures.front_len, c.in_ok-read_for.ensures.reads.size)

pub read_for-requires-3-clause-inside : goal.read_for-requires-3-clause-inside
read_for-requires-3-clause-inside g c = λ job is.
    let there = piece_inside g.D.Flash c.args.flash.now c.args.work.now c.requires.under_way c.args.size 2 job c.requires.piece (omega arith) is in
    omega (arith, there, c.split_at_mut-third.ensures.front_len, c.in_ok-read_for.ensures.reads.size, c.in_ok-read_for-2.ensures.reads.size)

pub read_for-requires-4-clause-inside : goal.read_for-requires-4-clause-inside
read_for-requires-4-clause-inside g c = λ job is.
    let there = piece_inside g.D.Flash c.args.flash.now c.args.work.now c.requires.under_way c.args.size 3 job c.requires.piece (omega arith) is in
    let size : length c.split_at_mut-third.result.1.now ≡ c.args.size =
    omega (arith, c.requires.room, c.split_at_mut-first.ensures.back_len, c.split_at_mut-second.ensures.back_len, c.split_at_mut-third.ensures.back_len) in
    omega (arith, there, size, c.in_ok-read_for.ensures.reads.size, c.in_ok-read_for-2.ensures.reads.size, c.in_ok-read_for-3.ensures.reads.size)

pub all_gone_on-jobs-requires : goal.all_gone_on-jobs-requires
all_gone_on-jobs-requires g c = λ j lt job is.
    let there = piece_inside g.D.Flash c.args.flash.now c.args.work.now c.requires.under_way c.args.size j job c.requires.piece lt is in
    let most = (g.met.D.Flash.sizes c.args.flash.now).1 in
    omega (arith, there, most)

pub returns-clause-step : goal.returns-clause-step
returns-clause-step g c =
    let flash = g.D.Flash in
    let device = c.args.flash.now in
    let work = c.args.work.now in
    let way = c.requires.under_way in
    let images = work.images in
    let jobs = work.jobs in
    let n = c.args.size in
    let before = work.lanes in
    let after = c.absorb.new.self in
    let none = reads_none flash device way.readable.there.on in
    let reads1 = reads_then flash _ _ _ _ none c.in_ok-read_for.ensures.reads in
    let reads2 = reads_then flash _ _ _ _ reads1 c.in_ok-read_for-2.ensures.reads in
    let reads3 = reads_then flash _ _ _ _ reads2 c.in_ok-read_for-3.ensures.reads in
    let reads4 = reads_then flash _ _ _ _ reads3 c.in_ok-read_for-4.ensures.reads in
    let asked1 : length c.split_at_mut-first.result.0.now ≡ n = c.split_at_mut-first.ensures.front_len in
    let asked2 : length c.split_at_mut-second.result.0.now ≡ n = c.split_at_mut-second.ensures.front_len in
    let asked3 : length c.split_at_mut-third.result.0.now ≡ n = c.split_at_mut-third.ensures.front_len in
    let asked4 : length c.split_at_mut-third.result.1.now ≡ n =
    omega (arith, c.requires.room, c.split_at_mut-first.ensures.back_len, c.split_at_mut-second.ensures.back_len, c.split_at_mut-third.ensures.back_len) in
    let P : ℕ → Type 0 = λ j. ForSome (job_at jobs j) (λ o. HasTaken flash device o.at (o.done + n) (HoldsInLane j after)) in
    let taken = of_lanes P
    (lane_more flash device _ images (job_at jobs 0) 0 before after c.read_for.new.out _ n (way.lanes_are 0 (omega arith)) (c.read_for.auto.out ∙ asked1) asked1
    none.content c.in_ok-read_for.ensures.bytes (c.absorb.ensures 0 (omega arith)))
    (lane_more flash device _ images (job_at jobs 1) 1 before after c.read_for-2.new.out _ n (way.lanes_are 1 (omega arith)) (c.read_for-2.auto.out ∙ asked2) asked2
    reads1.content c.in_ok-read_for-2.ensures.bytes (c.absorb.ensures 1 (omega arith)))
    (lane_more flash device _ images (job_at jobs 2) 2 before after c.read_for-3.new.out _ n (way.lanes_are 2 (omega arith)) (c.read_for-3.auto.out ∙ asked3) asked3
    reads2.content c.in_ok-read_for-3.ensures.bytes (c.absorb.ensures 2 (omega arith)))
    (lane_more flash device _ images (job_at jobs 3) 3 before after c.read_for-4.new.out _ n (way.lanes_are 3 (omega arith)) (c.read_for-4.auto.out ∙ asked4) asked4
    reads3.content c.in_ok-read_for-4.ensures.bytes (c.absorb.ensures 3 (omega arith))) in
    stepped_after flash tt device _ reads4 work _ (moved flash device work way after c.all_gone_on-jobs.result n c.all_gone_on-jobs.ensures c.requires.piece.enough taken)
