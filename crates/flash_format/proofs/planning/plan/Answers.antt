use Rattle.std.proofs.Common.{◌∙◌, inl, refl, sym, subst, Result, Err, rules}
use Rattle.fwu_formats.specs.{Layout.Layout, Package.toc_of, declared.kinds.LayoutFault.LayoutFault}
use Rattle.flash_format.specs.{Choosing.refusal, Choosing.refusal_by, Stops.RefusesAs, Stops.IsOfBytes, declared.plan.Plan.Plan}
use Rattle.flash_format.specs.declared.stops.FormatStop.TheVariants.{Input}
use Rattle.flash_format.specs.declared.stops.InputFault.TheVariants.{Layout as BadLayout}
use Rattle.flash_format.proofs.Given.{of_fault}
use Rattle.flash_format.proofs.planning.plan.Goals as goal

pub returns-in-Ok-clause-input : goal.returns-in-Ok-clause-input
unfolding refusal
returns-in-Ok-clause-input g c = record {
  layout = search rules;
  answers =
      λ file told.
      subst (λ (r : Result Layout LayoutFault). RefusesAs (refusal_by r (toc_of file)) c.plan_of.result) (sym (sym c.make.ensures ∙ c.in-Ok.is)) (c.plan_of.ensures.answers file told);
  some = subst (λ (r : Result Layout LayoutFault). IsOfBytes r c.plan_of.result) (sym (sym c.make.ensures ∙ c.in-Ok.is)) c.plan_of.ensures.some;
}

pub returns-in-Err-clause-input : goal.returns-in-Err-clause-input
unfolding refusal
returns-in-Err-clause-input g c = record {
  layout = search rules;
  answers =
      λ file told.
      subst (λ (r : Result Layout LayoutFault). RefusesAs {T = Plan} (refusal_by r (toc_of file)) (Err (Input (BadLayout c.in-Err.fault)))) (sym (sym c.make.ensures ∙ c.in-Err.is)) (inl refl);
  some = subst (λ (r : Result Layout LayoutFault). IsOfBytes {T = Plan} r (Err (Input (BadLayout c.in-Err.fault)))) (sym (sym c.make.ensures ∙ c.in-Err.is)) (of_fault Plan c.in-Err.fault);
}
