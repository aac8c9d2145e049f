use Rattle.std.proofs.Common.{◌≡◌, ℕ, ◌+◌, ◌*◌, ◌≤◌, List}
use Rattle.std.specs.Prelude.{IsTrue, Ok}
use Rattle.flash_core.specs.{Counts.Spends, Counts.StaysUnarmed, Counts.lowered_by, May.Keeps, Touches.TouchesOnly}
use Rattle.fwu_formats.specs.Package.{payload}
use Rattle.host_io.specs.Reads.{ReadsFile}
use Rattle.fip_tables.specs.Files.{Tells}
use Rattle.flash_format.specs.Places.{LeavesNoMore, Erased, HoldsThenErased}
use Rattle.flash_format.proofs.images.write_image.Given as goal

abbrev pub invariant-loop-k : goal.invariant-loop-k
invariant-loop-k g l = record {
  on : IsTrue (g.D.Flash.on l.flash);
  same_size : g.D.Flash.blocks l.flash ≡ g.D.Flash.blocks l.fn.flash;
  keeps : IsTrue g.D.Flash.tells → Keeps (4096 * l.first) (4096 * (l.first + l.slots)) (g.D.Flash.told l.fn.flash) (g.D.Flash.told l.flash);
  touches : TouchesOnly (4096 * l.first) (4096 * (l.first + l.slots)) (g.D.Flash.writes l.fn.flash) (g.D.Flash.writes l.flash);
  left : IsTrue g.D.Flash.tells → LeavesNoMore l.first (g.D.Flash.told l.fn.flash) (g.D.Flash.told l.flash);
  rest : IsTrue g.D.Flash.tells → Erased (4096 * (l.first + l.k)) (4096 * (l.first + l.slots)) (g.D.Flash.told l.flash).now;
  front : IsTrue g.D.Flash.tells → (file : List ℕ) → Tells (g.H.Files.contents l.fn.files) l.name file → HoldsThenErased (4096 * l.first) (4096 * l.k) (payload file l.entry) (g.D.Flash.told l.flash).now;
  costs : Spends {T = Unit {0}} (Ok tt) (g.D.Flash.counts l.fn.flash) (g.D.Flash.counts l.flash);
  spent : g.D.Flash.arming l.flash ≡ lowered_by l.k (g.D.Flash.arming l.fn.flash);
  unarmed : StaysUnarmed {T = Unit {0}} (Ok tt) (g.D.Flash.arming l.fn.flash) (g.D.Flash.arming l.flash) (g.D.Flash.counts l.fn.flash) (g.D.Flash.counts l.flash);
  files : ReadsFile g.H.Files l.name l.fn.files l.files;
  none : g.H.Files.faults l.files ≤ g.H.Files.faults l.fn.files;
}
