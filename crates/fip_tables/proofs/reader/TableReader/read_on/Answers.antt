use Rattle.std.proofs.Common.{◌∙◌, ◌-◌, ◌≤◌, ap, sym, subst, arith, ℕ, List, length, ◌++◌, take, drop, append_assoc, true≢false, length-drop}
use Rattle.std.proofs.lemmas.List.{length-take-le}
use Rattle.fip_tables.specs.Stream.{ReaderHolds, ReadsOn}
use Rattle.fip_tables.proofs.{Fronts.holds-on, Told.take-further, Told.take-rest}
use Rattle.fip_tables.proofs.reader.TableReader.read_on.Goals as goal

pub loop-at-preserved : goal.loop-at-preserved
loop-at-preserved c =
    let at = c.loop-at.at in
    let piece = c.args.piece.now in
    let rest = take (length piece - at) (drop at piece) in
    let few : c.take_some-at.result ≤ length piece - at = omega (arith, c.take_some-at.ensures.some, length-take-le (length piece - at) (drop at piece) (omega (arith, length-drop at piece))) in
    record {
      inside = omega (arith, few, c.loop-at-test.true);
      partial = c.take_some-at.ensures.partial;
      holds = λ bytes h.
          subst (λ (xs : List ℕ). ReaderHolds c.take_some-at.new.self xs)
          (append_assoc bytes (take at piece) (take c.take_some-at.result rest) ∙ ap (λ (xs : List ℕ). bytes ++ xs) (take-further at c.take_some-at.result piece few))
          (c.take_some-at.ensures.holds (bytes ++ take at piece) (c.loop-at.invariant.holds bytes h));
    }

pub returns-else-reads_on-clause-holds : goal.returns-else-reads_on-clause-holds
returns-else-reads_on-clause-holds c = λ bytes h.
    let done : ReadsOn c.loop-at.self.stage → ⊥ = λ more. true≢false (sym (c.reads_on.ensures.1 more) ∙ c.if-reads_on.false) in
    subst (λ (xs : List ℕ). ReaderHolds c.loop-at.self xs) (take-rest c.loop-at.at bytes c.args.piece.now)
    (holds-on c.loop-at.self.stage c.loop-at.self.toc c.loop-at.self.pending (bytes ++ take c.loop-at.at c.args.piece.now) (drop c.loop-at.at c.args.piece.now) done (c.loop-at.invariant.holds bytes h))
