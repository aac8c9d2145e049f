use Rattle.std.proofs.Common.{◌≡◌, ◌+◌, ◌-◌, ◌%◌, ◌^◌, ◌++◌, ◌∙◌, List, ap, ap₂, arith, eq-eqb, length, length-append, length-take, sym, take, drop, true, ℕ}
use Rattle.std.proofs.lemmas.Bool.{and_from}
use Rattle.std.proofs.lemmas.List.{length-take-le}
use Rattle.base_core.specs.Bytes.{same_bytes}
use Rattle.sha2.specs.Sha256.{sha256}
use Rattle.sha256_lanes.specs.Holding.{GoesOnAs}
use Rattle.fwu_formats.specs.Manifest.{Row, row_at}
use Rattle.image_check.proofs.{Stays.reads_then, UnderWay.joined, UnderWay.piece_told, UnderWay.taken_more, UnderWay.job_inside}
use Rattle.image_check.proofs.image.is_good.Goals as goal

pub slice_bounds-piece-end-in-loop-done : goal.slice_bounds-piece-end-in-loop-done
slice_bounds-piece-end-in-loop-done g c = sym (length-take-le 4096 c.loop-done.buf (omega (arith, c.requires.room, c.loop-done.auto.buf)))

pub overflow_add-job : goal.overflow_add-job
overflow_add-job g c =
    let inside = job_inside g.D.Flash c.args.flash.now c.args.images.now (GoesOnAs c.args.begun.now) c.args.job c.requires.readable c.requires.begun in
    let most = (g.met.D.Flash.sizes c.args.flash.now).1 in
    omega (arith, inside, most, c.loop-done-test.true, c.loop-done.invariant.small)

pub read-requires-clause-inside : goal.read-requires-clause-inside
read-requires-clause-inside g c =
    let inside = job_inside g.D.Flash c.args.flash.now c.args.images.now (GoesOnAs c.args.begun.now) c.args.job c.requires.readable c.requires.begun in
    let held = c.loop-done.invariant in
    let more = c.loop-done-test.true in
    let asked : length (take 4096 c.loop-done.buf) ≡ 4096 = omega (arith, length-take 4096 c.loop-done.buf, c.requires.room, c.loop-done.auto.buf) in
    omega (arith, asked, more, inside, held.small, held.reads.size)

pub absorb-requires : goal.absorb-requires
absorb-requires g c =
    let asked : length (take 4096 c.loop-done.buf) ≡ 4096 = omega (arith, length-take 4096 c.loop-done.buf, c.requires.room, c.loop-done.auto.buf) in
    let long : length c.read.new.out ≡ 4096 = omega (arith, c.read.auto.out, asked) in
    omega (arith, long)

pub loop-done-preserved : goal.loop-done-preserved
loop-done-preserved g c =
    let done = c.loop-done.done in
    let at = c.args.job.at in
    let piece = c.read.new.out in
    let after = c.absorb.new.self in
    let device = c.args.flash.now in
    let held = c.loop-done.invariant in
    let kept = c.read.auto.out in
    let asked : length (take 4096 c.loop-done.buf) ≡ 4096 = omega (arith, length-take 4096 c.loop-done.buf, c.requires.room, c.loop-done.auto.buf) in
    let long : length piece ≡ 4096 = omega (arith, kept, asked) in
    record {
      small = omega arith;
      reads = reads_then g.D.Flash _ _ _ _ held.reads (record {
        content = c.in_ok-read.ensures.content;
        power = c.in_ok-read.ensures.power;
        size = c.in_ok-read.ensures.size;
        arming = c.in_ok-read.ensures.arming;
        costs = c.in_ok-read.ensures.counts;
        reached = c.in_ok-read.ensures.reached;
        writes = c.in_ok-read.ensures.writes;
      });
      taken =
          taken_more g.D.Flash device at (GoesOnAs c.loop-done.message) (GoesOnAs after) piece done 4096 held.taken long
          (λ tells. piece_told (g.D.Flash.told device) _ piece at done _ 4096 (c.in_ok-read.ensures.bytes tells) asked (held.reads.content tells))
          c.absorb.ensures;
    }

pub overflow_add-job-2 : goal.overflow_add-job-2
overflow_add-job-2 g c =
    let inside = job_inside g.D.Flash c.args.flash.now c.args.images.now (GoesOnAs c.args.begun.now) c.args.job c.requires.readable c.requires.begun in
    let most = (g.met.D.Flash.sizes c.args.flash.now).1 in
    omega (arith, inside, most, c.loop-done.invariant.small)

pub read-requires-2-clause-inside : goal.read-requires-2-clause-inside
read-requires-2-clause-inside g c =
    let inside = job_inside g.D.Flash c.args.flash.now c.args.images.now (GoesOnAs c.args.begun.now) c.args.job c.requires.readable c.requires.begun in
    let held = c.loop-done.invariant in
    omega (arith, length-take (c.args.job.size - c.loop-done.done) c.loop-done.buf, inside, held.small, held.reads.size)

pub returns-clause-good : goal.returns-clause-good
returns-clause-good g c =
    let done = c.loop-done.done in
    let job = c.args.job in
    let begun = c.requires.begun in
    let n = job.size - done in
    let rest = c.read-2.new.out in
    let old = g.D.Flash.told c.args.flash.now in
    let held = c.loop-done.invariant in
    let bytes = held.taken.bytes in
    let kept = c.read-2.auto.out in
    let row = row_at c.args.images.now.manifest.now job.row in
    let asked : length (take n c.loop-done.buf) ≡ n = omega (arith, length-take n c.loop-done.buf, held.small, c.requires.room, c.loop-done.auto.buf) in
    let long : length rest ≡ n = omega arith in
    let all : done + n ≡ job.size = omega (arith, held.small) in
    let size : length (bytes ++ rest) ≡ job.size = omega (arith, length-append bytes rest, held.taken.size, long, all) in
    let counted : job.size ≡ length (bytes ++ rest) % 2 ^ 64 = omega (arith, size) in
    let digest = c.finish-digest.ensures bytes counted held.taken.held in
    let asks = ap (λ (r : Row). r.digest) c.row_at-row.ensures in
    record {
      told = λ tells.
          let told = piece_told old _ rest job.at done _ n (c.in_ok-read-2.ensures.bytes tells) asked (held.reads.content tells) in
          let whole = ap (λ (l : List ℕ). l ++ rest) (held.taken.told tells) ∙ joined old.now rest job.at done n told ∙ ap (λ (k : ℕ). take k (drop job.at old.now)) all in
          let placed = whole ∙ ap₂ (λ (s a : ℕ). take s (drop a old.now)) begun.size begun.at in
          c.is_same.ensures ∙ ap₂ same_bytes (digest ∙ ap sha256 placed) asks;
      some = λ good.
          let same : same_bytes (sha256 (bytes ++ rest)) row.digest ≡ true = ap₂ same_bytes (sym digest) (sym asks) ∙ sym c.is_same.ensures ∙ good in
          (bytes ++ rest, and_from _ _ (eq-eqb _ _ (size ∙ begun.size)) same);
    }
