use Rattle.std.proofs.Common.{◌≡◌, Some, subst}
use Rattle.gpt_core.specs.{Table.table_in_image, declared.table.WhichTable.WhichTable}
use Rattle.gpt_core.proofs.Deciding.{mends_from, mends_same, ready_primary, ready_backup}
use Rattle.gpt_core.proofs.repairs.repair_table.Goals as goal

pub returns-in-Same-clause-mends : goal.returns-in-Same-clause-mends
returns-in-Same-clause-mends g c tells guarded =
    let n = g.D.Flash.blocks c.args.flash.now in
    let t = c.args.table.now in
    let s = g.D.Flash.told c.args.flash.now in
    let is = subst (λ (w : WhichTable). table_in_image n s.now ≡ Some (t, w)) c.in-Same.is (c.requires.read tells) in
    mends_same n t s (g.met.D.Flash.sound c.args.flash.now tells).size guarded is tt

pub returns-in-RepairPrimary-clause-mends : goal.returns-in-RepairPrimary-clause-mends
returns-in-RepairPrimary-clause-mends g c tells guarded =
    let n = g.D.Flash.blocks c.args.flash.now in
    let t = c.args.table.now in
    let s = g.D.Flash.told c.args.flash.now in
    let is = subst (λ (w : WhichTable). table_in_image n s.now ≡ Some (t, w)) c.in-RepairPrimary.is (c.requires.read tells) in
    mends_from c.mend.result n t _ (c.mend.ensures.steps tells (ready_primary n t s (g.met.D.Flash.sound c.args.flash.now tells).size guarded is))

pub returns-in-RepairBackup-clause-mends : goal.returns-in-RepairBackup-clause-mends
returns-in-RepairBackup-clause-mends g c tells guarded =
    let n = g.D.Flash.blocks c.args.flash.now in
    let t = c.args.table.now in
    let s = g.D.Flash.told c.args.flash.now in
    let is = subst (λ (w : WhichTable). table_in_image n s.now ≡ Some (t, w)) c.in-RepairBackup.is (c.requires.read tells) in
    mends_from c.mend-in-RepairBackup.result n t _ (c.mend-in-RepairBackup.ensures.steps tells (ready_backup n t s (g.met.D.Flash.sound c.args.flash.now tells).size guarded is))
