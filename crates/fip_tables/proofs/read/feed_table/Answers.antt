use Rattle.std.proofs.Common.{rules, ◌∙◌, ◌-◌, ◌++◌, subst, arith, ℕ, drop, replicate, length-append, length-drop}
use Rattle.std.proofs.lemmas.List.{length-replicate}
use Rattle.host_io.proofs.Reading.{reads-then}
use Rattle.fip_tables.specs.Stream.{Fed}
use Rattle.fip_tables.proofs.Told.{front_and_rest, size_is}
use Rattle.fip_tables.proofs.read.feed_table.Goals as goal

pub returns-then-is_whole-clause-fed : goal.returns-then-is_whole-clause-fed
returns-then-is_whole-clause-fed g c =
    let h = c.loop-at.invariant.fed in
    let n = c.args.size - c.loop-at.at in
    record {
      bytes = h.bytes ++ replicate n 0;
      fed = c.skip.ensures.fed h.bytes (replicate n 0) h.fed (length-replicate {A = ℕ} n 0);
      size = length-append h.bytes (replicate n 0) ∙ omega (arith, h.size, length-replicate {A = ℕ} n 0, c.loop-at.invariant.inside);
      all = λ whole told.
          let long = size_is _ c.args.name.now whole c.args.size told c.requires.known in
          subst (Fed c.skip.new.self) (front_and_rest h.bytes whole c.loop-at.at (h.front whole told))
          (c.skip.ensures.fed h.bytes (drop c.loop-at.at whole) h.fed (length-drop c.loop-at.at whole ∙ omega (arith, long)));
    }

pub returns-in_err-at-clause-reads : goal.returns-in_err-at-clause-reads
returns-in_err-at-clause-reads g c = reads-then g.H.Files _ g.met.H.Files.joins _ _ _ c.loop-at.invariant.reads c.feed_next.ensures.reads

pub loop-at-preserved : goal.loop-at-preserved
loop-at-preserved g c =
    let reads = reads-then g.H.Files _ g.met.H.Files.joins _ _ _ c.loop-at.invariant.reads c.feed_next.ensures.reads in
    search (rules, reads)
