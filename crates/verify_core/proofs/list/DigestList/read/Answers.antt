use Rattle.std.proofs.Common.{◌≤◌, ◌+◌, ◌∙◌, ap, sym, arith, length, List, ℕ, append-nil, Err, Ok}
use Rattle.std.proofs.lemmas.List.{length-drop}
use Rattle.fwu_formats.specs.Digests.{digests_of}
use Rattle.base_core.proofs.Lists.{none_left, some_left}
use Rattle.verify_core.proofs.Lines.{behind, first_added, first_bad, from_line}
use Rattle.verify_core.proofs.list.DigestList.read.Goals as goal

pub returns-in-Err-NoDigest-clause-fault : goal.returns-in-Err-NoDigest-clause-fault
unfolding digests_of
returns-in-Err-NoDigest-clause-fault c =
    let some = some_left _ c.loop-rest.rest.now c.is_empty.ensures c.loop-rest-test.true in
    let none = c.in-Err-NoDigest.ensures.bad (ap Err c.in-Err-NoDigest.field-0-is) in
    c.loop-rest.invariant.lines ∙ ap (behind c.loop-rest.list) (first_bad c.loop-rest.line c.loop-rest.rest.now some none)

pub after_line-rest-requires : goal.after_line-rest-requires
after_line-rest-requires c = (first_added c.loop-rest.list c.add_first_line.new.self c.loop-rest.line c.loop-rest.rest.now c.in-Ok.ensures.added).1

pub loop-rest-smaller : goal.loop-rest-smaller
loop-rest-smaller c =
    let long : 65 ≤ length c.loop-rest.rest.now = (first_added c.loop-rest.list c.add_first_line.new.self c.loop-rest.line c.loop-rest.rest.now c.in-Ok.ensures.added).1 in
    omega (arith, long, ap length c.after_line-rest.ensures, length-drop 65 c.loop-rest.rest.now)

pub loop-rest-preserved : goal.loop-rest-preserved
loop-rest-preserved c =
    let n = c.loop-rest.line in
    let next = first_added c.loop-rest.list c.add_first_line.new.self n c.loop-rest.rest.now c.in-Ok.ensures.added in
    let long : 65 ≤ length c.loop-rest.rest.now = next.1 in
    record {
      lines = c.loop-rest.invariant.lines ∙ next.0 ∙ ap (λ (l : List ℕ). behind c.add_first_line.new.self (from_line (n + 1) l)) (sym c.after_line-rest.ensures);
      count = omega (arith, c.loop-rest.invariant.count, long, ap length c.after_line-rest.ensures, length-drop 65 c.loop-rest.rest.now);
    }

pub returns-clause-ok : goal.returns-clause-ok
unfolding digests_of
returns-clause-ok c =
    let none = none_left _ c.loop-rest.rest.now c.is_empty.ensures c.loop-rest-test.false in
    c.loop-rest.invariant.lines ∙ ap (λ (l : List ℕ). behind c.loop-rest.list (from_line c.loop-rest.line l)) none ∙ ap Ok (append-nil c.loop-rest.list)
