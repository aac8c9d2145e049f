-- Which metadata decides in an image that a loss leaves.
use Rattle.std.specs.Prelude.{List, ℕ}
use Rattle.flash_core.specs.{Told.Told, May.May}
use Rattle.fwu_formats.specs.{Layout.Layout, Metadata.MetaRead}
use Rattle.fwu_model.specs.{Calm.IsAtRest, Replica.BothHold, Replica.Decides}

-- From a flash at rest, sound or not, whose replicas both hold the old metadata: in each image that a loss leaves it decides, or
-- the new one.
abbrev pub KeepsOldOrNew : Layout → MetaRead → MetaRead → Told → Told → Type 0
KeepsOldOrNew L old new s t = IsAtRest s → BothHold L old s.now → (image : List ℕ) → May t image → Decides L old new image
