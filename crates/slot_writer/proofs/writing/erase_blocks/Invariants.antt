use Rattle.std.proofs.Common.{◌≡◌, ◌-◌, ◌*◌}
use Rattle.std.specs.Prelude.{IsTrue, Ok}
use Rattle.flash_core.specs.{Counts.Spends, Touches.TouchesOnly}
use Rattle.slot_writer.specs.{Slots.Erases, Writes.SpendsArming}
use Rattle.slot_writer.proofs.writing.erase_blocks.Given as goal

-- the blocks before this one are erased
abbrev pub invariant-loop-block : goal.invariant-loop-block
invariant-loop-block g l = record {
  on : IsTrue (g.D.Flash.on l.flash);
  size : g.D.Flash.blocks l.flash ≡ g.D.Flash.blocks l.fn.flash;
  costs : Spends {T = Unit {0}} (Ok tt) (g.D.Flash.counts l.fn.flash) (g.D.Flash.counts l.flash);
  arming : SpendsArming {T = Unit {0}} (Ok tt) (l.block - l.first) (g.D.Flash.arming l.fn.flash) (g.D.Flash.arming l.flash) (g.D.Flash.counts l.fn.flash) (g.D.Flash.counts l.flash);
  erases : IsTrue g.D.Flash.tells → Erases {T = Unit {0}} (Ok tt) l.first l.block (g.D.Flash.told l.fn.flash) (g.D.Flash.told l.flash);
  touches : TouchesOnly (4096 * l.first) (4096 * l.end) (g.D.Flash.writes l.fn.flash) (g.D.Flash.writes l.flash);
}
