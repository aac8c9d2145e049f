use Rattle.std.proofs.Common.{◌≡◌, ◌∙◌, ◌+◌, ◌-◌, ◌≤◌, ◌++◌, ap, sym, subst, arith, ℕ, List, length, take, drop, length-append, append-nil, [], Err, Result}
use Rattle.std.proofs.lemmas.List.{length-take-le}
use Rattle.fwu_formats.specs.{Package.toc_of, declared.kinds.FipFault.FipFault}
use Rattle.fip_tables.specs.declared.toc.TocStop.TheVariants as stop
use Rattle.fip_tables.specs.declared.toc.TocStop.{TocStop}
use Rattle.fip_tables.proofs.{Stand.faults-stand, Told.longer_front, Told.front_and_rest, Told.range_is}
use Rattle.fip_tables.proofs.read.feed_next.Goals as goal

same-fault : {X : Type 0} (a b : FipFault) → ◌≡◌ {A = Result X TocStop} (Err (stop.Fault a)) (Err (stop.Fault b)) → a ≡ b
same-fault a b e = cc

pub returns-in-Err-feed-clause-fault : goal.returns-in-Err-feed-clause-fault
returns-in-Err-feed-clause-fault g c = λ f is.
    let h = c.requires.fed in
    let piece = c.read_at.new.out in
    let least : c.min-count.result ≤ 40 = omega (arith, c.min-count.ensures, c.group_at.ensures) in
    let size : length piece ≡ c.min-count.result = c.read_at.auto.out ∙ length-take-le c.min-count.result _ least in
    let same : c.in-Err-feed.fault ≡ f = same-fault c.in-Err-feed.fault f is in
    let now = sym (c.in-Err-feed.ensures.fault h.bytes h.fed) ∙ ap (λ (x : FipFault). Err x) same in
    let few : c.min-count.result ≤ c.args.size - c.args.at = omega (arith, c.min-count.ensures) in
    record {
      bytes = h.bytes ++ piece;
      short = omega (arith, length-append h.bytes piece, h.size, size, few, c.requires.inside, c.ranges.size);
      first = subst (λ (xs : List ℕ). toc_of xs ≡ Err f) (append-nil (h.bytes ++ piece)) (faults-stand (h.bytes ++ piece) [] f now);
      told_first = λ whole told.
          let range = range_is _ c.args.name.now c.args.at piece whole told c.in-Ok.ensures.bytes in
          subst (λ (xs : List ℕ). toc_of xs ≡ Err f) (front_and_rest (h.bytes ++ piece) whole (c.args.at + length piece) (longer_front h.bytes piece whole c.args.at (h.front whole told) range))
          (faults-stand (h.bytes ++ piece) (drop (c.args.at + length piece) whole) f now);
    }

pub returns-in-Ok-feed-clause-fed : goal.returns-in-Ok-feed-clause-fed
returns-in-Ok-feed-clause-fed g c =
    let h = c.requires.fed in
    let piece = c.read_at.new.out in
    let least : c.min-count.result ≤ 40 = omega (arith, c.min-count.ensures, c.group_at.ensures) in
    let size : length piece ≡ c.min-count.result = c.read_at.auto.out ∙ length-take-le c.min-count.result _ least in
    record {
      bytes = h.bytes ++ piece;
      fed = c.in-Ok-feed.ensures.fed h.bytes h.fed;
      size = length-append h.bytes piece ∙ omega (arith, h.size, size);
      front = λ whole told.
          subst (λ (n : ℕ). h.bytes ++ piece ≡ take (c.args.at + n) whole) size
          (longer_front h.bytes piece whole c.args.at (h.front whole told) (range_is _ c.args.name.now c.args.at piece whole told c.in-Ok.ensures.bytes));
    }
