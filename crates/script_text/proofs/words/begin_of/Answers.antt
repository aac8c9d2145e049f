use Rattle.std.proofs.Common.{◌==◌, List, ℕ, [], length, refl, sym, ap, ◌∙◌, arith}
use Rattle.std.specs.List.{slice_split}
use Rattle.fwu_formats.specs.Words.{named}
use Rattle.script_text.proofs.Parts.{some_parts}
use Rattle.script_text.proofs.Beginning.{not-named, one-named, last-named, some-pushed, too-many}
use Rattle.script_text.proofs.words.begin_of.Goals as goal

pub returns-then-not-branch-clause-call : goal.returns-then-not-branch-clause-call
returns-then-not-branch-clause-call c =
    not-named (slice_split (λ b. b == 32) c.args.names.now) c.loop-name.types.items c.in-Some.name.now (slice_split (λ b. b == 32) c.in-Some.behind.now)
    (slice_split (λ b. b == 32) c.loop-name.rest.now) c.in-Some.ensures.parts c.loop-name.invariant.types
    (sym c.in_ok-push_type-in-Some.ensures.named ∙ c.if-not-branch.true)

pub returns-then-not-branch-2-clause-call : goal.returns-then-not-branch-2-clause-call
returns-then-not-branch-2-clause-call c =
    not-named (slice_split (λ b. b == 32) c.args.names.now) c.loop-name.types.items c.loop-name.rest.now []
    (slice_split (λ b. b == 32) c.loop-name.rest.now) c.in-None.ensures.parts c.loop-name.invariant.types
    (sym c.in_ok-push_type-in-None.ensures.named ∙ c.if-not-branch-2.true)

pub returns-in-None-clause-call : goal.returns-in-None-clause-call
returns-in-None-clause-call c =
    last-named (slice_split (λ b. b == 32) c.args.names.now) c.loop-name.types.items c.loop-name.rest.now []
    (slice_split (λ b. b == 32) c.loop-name.rest.now) c.in-None.ensures.parts c.loop-name.invariant.types
    c.push_type-in-None.new.types.items c.loop-name._name refl c.loop-name.invariant.count c.loop-name-test.true
    (sym c.in_ok-push_type-in-None.ensures.named ∙ c.if-not-branch-2.false) c.in_ok-push_type-in-None.ensures.pushed

pub returns-in-None-clause-buffer : goal.returns-in-None-clause-buffer
returns-in-None-clause-buffer c =
    some-pushed c.loop-name.types.items c.push_type-in-None.new.types.items (named c.loop-name.rest.now)
    (sym c.in_ok-push_type-in-None.ensures.named ∙ c.if-not-branch-2.false) c.in_ok-push_type-in-None.ensures.pushed

pub loop-name-preserved : goal.loop-name-preserved
loop-name-preserved c = record {
  types = one-named (slice_split (λ b. b == 32) c.args.names.now) c.loop-name.types.items c.in-Some.name.now (slice_split (λ b. b == 32) c.in-Some.behind.now)
      (slice_split (λ b. b == 32) c.loop-name.rest.now) c.in-Some.ensures.parts c.loop-name.invariant.types c.push_type.new.types.items
      (sym c.in_ok-push_type-in-Some.ensures.named ∙ c.if-not-branch.false) c.in_ok-push_type-in-Some.ensures.pushed;
  count = let one = ap (λ (l : List (List ℕ)). length l) c.in-Some.ensures.parts in omega (arith, c.loop-name.invariant.count, one);
}

pub returns-clause-call : goal.returns-clause-call
returns-clause-call c =
    too-many (slice_split (λ b. b == 32) c.args.names.now) (slice_split (λ b. b == 32) c.loop-name.rest.now) c.loop-name._name
    c.loop-name.invariant.count (omega (arith, c.loop-name-test.false)) (some_parts (λ b. b == 32) c.loop-name.rest.now)
