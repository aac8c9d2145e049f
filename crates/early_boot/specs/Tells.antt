-- What a boot that started a bank tells beside its device.
use Rattle.std.specs.Prelude.{ℕ, Bool, not, ◌==◌, List}
use Rattle.fwu_formats.specs.{Layout.Layout, Metadata.MetaRead}
use Rattle.early_boot.specs.{declared.choosing.Chosen.Chosen, declared.showing.Shown.Shown}

pub record Started : Type 0 where
  pub layout : Layout
  pub meta : MetaRead
  pub bank : ℕ
  -- the security version of the bank's package
  pub version : ℕ
  pub trials : ℕ
  pub counter : ℕ
  -- the previous bank was started in place of the active one
  pub fallback : Bool
  -- the length of each image in the bank
  pub lengths : List ℕ

-- by what is shown and what is chosen
abbrev pub started_as : Shown → Chosen → Started
started_as shown chosen = record {
  layout = shown.layout;
  meta = shown.meta;
  trials = shown.trials;
  counter = shown.counter;
  bank = chosen.bank;
  version = chosen.version;
  lengths = chosen.lengths;
  fallback = not (chosen.bank == shown.meta.meta.active);
}
