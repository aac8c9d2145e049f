use Rattle.std.proofs.Common.{◌≡◌, ◌∙◌, ap, subst, sym, Some, Result, IfErr}
use Rattle.std.proofs.lemmas.Result.{err_from_is_err_and}
use Rattle.fip_tables.proofs.Firsts.{align-fault, shared-fault}
use Rattle.fip_tables.specs.{Packing.pack_fault, declared.faults.PackFault.PackFault}
use Rattle.fip_tables.proofs.outline.check.Goals as goal

pub returns-in_err-check_parts-clause-err : goal.returns-in_err-check_parts-clause-err
returns-in_err-check_parts-clause-err c =
    let p = err_from_is_err_and c.from_residual.result c.from_residual.ensures.1 in
    subst (λ (r : Result (Unit {0}) PackFault). IfErr r (λ f. pack_fault c.args.parts.now c.args.align ≡ Some f)) (sym p.1)
    (shared-fault c.args.parts.now c.args.align p.0 (c.in_err-check_parts.ensures.err ∙ ap (λ (f : PackFault). Some f) (sym p.2)))

pub returns-then-not-is_alignment-clause-err : goal.returns-then-not-is_alignment-clause-err
returns-then-not-is_alignment-clause-err c = align-fault c.args.parts.now c.args.align c.in_ok-check_parts.ensures.ok.none (sym c.is_alignment.ensures ∙ c.if-not-is_alignment.true)
