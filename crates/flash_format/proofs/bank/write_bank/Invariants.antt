use Rattle.std.proofs.Common.{◌≡◌, ℕ, ◌+◌, ◌*◌, ◌≤◌, List, take}
use Rattle.std.specs.Prelude.{IsTrue, Ok}
use Rattle.flash_core.specs.{Counts.Spends, Counts.StaysUnarmed, Counts.lowered_by, May.Keeps, Touches.TouchesOnly}
use Rattle.fwu_formats.specs.Layout.{slot_total}
use Rattle.host_io.specs.Reads.{ReadsFile}
use Rattle.fip_tables.specs.Files.{Tells}
use Rattle.flash_format.specs.{Places.LeavesNoMore, Places.Erased, Places.AllStand, Choosing.pieces_in}
use Rattle.flash_format.proofs.bank.write_bank.Given as goal

abbrev pub invariant-loop-k : goal.invariant-loop-k
invariant-loop-k g l = record {
  on : IsTrue (g.D.Flash.on l.flash);
  same_size : g.D.Flash.blocks l.flash ≡ g.D.Flash.blocks l.fn.flash;
  keeps : IsTrue g.D.Flash.tells → Keeps 32768 (4096 * (8 + slot_total l.layout.rows)) (g.D.Flash.told l.fn.flash) (g.D.Flash.told l.flash);
  touches : TouchesOnly 32768 (4096 * (8 + slot_total l.layout.rows)) (g.D.Flash.writes l.fn.flash) (g.D.Flash.writes l.flash);
  left : IsTrue g.D.Flash.tells → LeavesNoMore 8 (g.D.Flash.told l.fn.flash) (g.D.Flash.told l.flash);
  rest : IsTrue g.D.Flash.tells → Erased (4096 * (8 + slot_total (take l.k l.layout.rows))) (4096 * (8 + slot_total l.layout.rows)) (g.D.Flash.told l.flash).now;
  front : IsTrue g.D.Flash.tells → (file : List ℕ) → Tells (g.H.Files.contents l.fn.files) l.name file → AllStand l.k l.layout file l.entries (g.D.Flash.told l.flash).now;
  costs : Spends {T = Unit {0}} (Ok tt) (g.D.Flash.counts l.fn.flash) (g.D.Flash.counts l.flash);
  spent : g.D.Flash.arming l.flash ≡ lowered_by (pieces_in (take l.k l.entries)) (g.D.Flash.arming l.fn.flash);
  unarmed : StaysUnarmed {T = Unit {0}} (Ok tt) (g.D.Flash.arming l.fn.flash) (g.D.Flash.arming l.flash) (g.D.Flash.counts l.fn.flash) (g.D.Flash.counts l.flash);
  files : ReadsFile g.H.Files l.name l.fn.files l.files;
  none : g.H.Files.faults l.files ≤ g.H.Files.faults l.fn.files;
}
