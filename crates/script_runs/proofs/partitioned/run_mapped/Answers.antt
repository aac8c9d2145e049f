use Rattle.std.proofs.Common.{ap, sym, subst, ◌∙◌}
use Rattle.flash_core.specs.Told.{NothingDirty}
use Rattle.gpt_core.proofs.Leaving.{view-clean}
use Rattle.script_runs.proofs.partitioned.run_mapped.Goals as goal

pub invariant_of-fresh : goal.invariant_of-fresh
invariant_of-fresh g c =
    let m = c.new-mapped.result in
    record {
      is_on = ap g.D.Flash.on c.new-mapped.ensures.device ∙ c.args.opened.is_on;
      clean = λ told. view-clean m.places (g.D.Flash.told m.flash) (subst NothingDirty (ap g.D.Flash.told (sym c.new-mapped.ensures.device)) (c.args.opened.clean told));
    }

pub returns-clause-ends : goal.returns-clause-ends
returns-clause-ends g c = rw c.unmapped.ensures.journal (rw c.unmapped.ensures.status (rw c.unmapped.ensures.note c.run_script.ensures.ends))

pub returns-clause-keeps : goal.returns-clause-keeps
returns-clause-keeps g c = rw c.unmapped.ensures.journal c.run_script.ensures.keeps
