use Rattle.std.proofs.Common.{◌≡◌, ℕ, ◌<◌, length}
use Rattle.std.specs.Prelude.{IsTrue, IsFalse, Ok}
use Rattle.base_core.specs.Block.{granule}
use Rattle.fwu_formats.specs.Image.{is_blank}
use Rattle.flash_core.specs.Calls.{Reads}
use Rattle.marks_core.proofs.marks.count.Given as goal

abbrev pub invariant-loop-place : goal.invariant-loop-place
invariant-loop-place g l = record {
  reads : Reads {X = Unit {0}} g.D.Flash (Ok tt) l.fn.flash l.flash;
  size : length l.bytes ≡ 16;
  marks : IsTrue g.D.Flash.tells → (k : ℕ) → k < l.place → IsFalse (is_blank (granule l.block k (g.D.Flash.told l.fn.flash).now));
}
