use Rattle.std.proofs.Common.{arith, ◌*◌, ap, ◌∙◌, subst}
use Rattle.std.proofs.lemmas.Result.{err_from_is_err_and}
use Rattle.std.specs.Prelude.{is_err, Ok}
use Rattle.base_core.specs.Bytes.{overwritten}
use Rattle.gpt_core.specs.{Table.copy_in, Repair.Filled, Repair.FillsEntries, Repair.WritesHeader}
use Rattle.gpt_core.proofs.{Stepping.steps_stopped, Filling.empty_stays}
use Rattle.gpt_core.proofs.steps.repair_copy.Goals as goal

pub write_header-requires-clause-empty : goal.write_header-requires-clause-empty
write_header-requires-clause-empty g c tells =
    let v = c.clear_header.new.flash in
    empty_stays c.args.header c.args.first _ (g.D.Flash.blocks v) (g.D.Flash.told v) (g.D.Flash.told c.write_entries.new.flash) (omega (arith, c.requires.header_fits.inside, c.clear_header.ensures.writes.goes.size)) (g.met.D.Flash.sound v tells).size
    (c.write_entries.ensures.writes.keeps tells) c.requires.apart (c.in_ok-clear_header.ensures.empty tells)

pub returns-in_err-clear_header-clause-steps : goal.returns-in_err-clear_header-clause-steps
returns-in_err-clear_header-clause-steps g c tells x =
    let p = err_from_is_err_and c.from_residual.result c.from_residual.ensures.1 in
    steps_stopped _ _ c.clear_header.result c.from_residual.result _ _ _ (ap is_err p.1) (c.clear_header.ensures.steps tells x.w x.t x.header_is x.ready)

pub returns-in_err-write_entries-clause-steps : goal.returns-in_err-write_entries-clause-steps
returns-in_err-write_entries-clause-steps g c tells x =
    let p = err_from_is_err_and c.from_residual-in_err-write_entries.result c.from_residual-in_err-write_entries.ensures.1 in
    let cleared = (c.in_ok-clear_header.ensures.steps tells x.w x.t x.header_is x.ready).ok in
    let fills = subst (λ m. FillsEntries m c.args.first c.args.entries.now c.write_entries.result (g.D.Flash.told c.clear_header.new.flash) (g.D.Flash.told c.write_entries.new.flash))
    c.clear_header.ensures.writes.goes.size (c.write_entries.ensures.steps tells) in
    steps_stopped _ _ c.write_entries.result c.from_residual-in_err-write_entries.result _ _ _ (ap is_err p.1) (fills x.w x.t x.first_is x.entries_are cleared)

pub returns-clause-steps : goal.returns-clause-steps
returns-clause-steps g c tells x =
    let n = g.D.Flash.blocks c.args.flash.now in
    let v = g.D.Flash.told c.write_entries.new.flash in
    let cleared = (c.in_ok-clear_header.ensures.steps tells x.w x.t x.header_is x.ready).ok in
    let fills = subst (λ m. FillsEntries m c.args.first c.args.entries.now (Ok c.in_ok-write_entries.field-0) (g.D.Flash.told c.clear_header.new.flash) v)
    c.clear_header.ensures.writes.goes.size (c.in_ok-write_entries.ensures.steps tells) in
    let filled : Filled x.w n x.t v = (fills x.w x.t x.first_is x.entries_are cleared).ok in
    let writes = subst (λ m. WritesHeader m c.args.header c.args.head.now c.write_header.result v (g.D.Flash.told c.write_header.new.flash))
    (c.write_entries.ensures.writes.goes.size ∙ c.clear_header.ensures.writes.goes.size) (c.write_header.ensures.steps tells) in
    writes x.w x.t x.header_is filled
    (ap (λ k. copy_in x.w n (overwritten (4096 * k) c.args.head.now v.now)) x.header_is ∙ x.spells v.now filled.cleared.ready.size filled.cleared.empty filled.entries)
