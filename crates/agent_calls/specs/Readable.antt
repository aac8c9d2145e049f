-- A device of which a bank can be read.
use Rattle.std.specs.Prelude.{ℕ, ◌<◌, ◌≤◌, IsTrue}
use Rattle.flash_core.specs.declared.flash.Flash.{Ghosts}
use Rattle.fwu_formats.specs.Layout.{Layout, blocks_needed}

-- It is on, has room for the layout, and the layout has the bank.
pub record HoldsBank {D : Type 0} (g : Ghosts D) (flash : D) (layout : Layout) (bank : ℕ) : Type 0 where
  pub on : IsTrue (g.on flash)
  pub inside : blocks_needed layout ≤ g.blocks flash
  pub below : bank < layout.banks
