use Rattle.std.proofs.Common.{◌≡◌, ◌-◌, ◌*◌}
use Rattle.std.specs.Prelude.{IsTrue, Ok}
use Rattle.flash_core.specs.{Counts.Spends, Counts.StaysUnarmed, Counts.lowered_by, May.Keeps, Touches.TouchesOnly}
use Rattle.flash_format.specs.Places.{OnlyErased, Erased}
use Rattle.flash_format.proofs.erasing.erase_behind.Given as goal

abbrev pub invariant-loop-block : goal.invariant-loop-block
invariant-loop-block g l = record {
  on : IsTrue (g.D.Flash.on l.flash);
  same_size : g.D.Flash.blocks l.flash ≡ g.D.Flash.blocks l.fn.flash;
  keeps : IsTrue g.D.Flash.tells → Keeps 4096 (4096 * l.block) (g.D.Flash.told l.fn.flash) (g.D.Flash.told l.flash);
  touches : TouchesOnly 4096 (4096 * l.block) (g.D.Flash.writes l.fn.flash) (g.D.Flash.writes l.flash);
  erased : IsTrue g.D.Flash.tells → Erased 4096 (4096 * l.block) (g.D.Flash.told l.flash).now;
  only : IsTrue g.D.Flash.tells → OnlyErased (g.D.Flash.told l.fn.flash) (g.D.Flash.told l.flash);
  costs : Spends {T = Unit {0}} (Ok tt) (g.D.Flash.counts l.fn.flash) (g.D.Flash.counts l.flash);
  spent : g.D.Flash.arming l.flash ≡ lowered_by (l.block - 1) (g.D.Flash.arming l.fn.flash);
  unarmed : StaysUnarmed {T = Unit {0}} (Ok tt) (g.D.Flash.arming l.fn.flash) (g.D.Flash.arming l.flash) (g.D.Flash.counts l.fn.flash) (g.D.Flash.counts l.flash);
}
