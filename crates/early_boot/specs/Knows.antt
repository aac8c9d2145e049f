-- What is known of the flash of a boot that started a bank, sound or not.
use Rattle.std.specs.Prelude.{◌≡◌, ℕ, List, length, map, is_some, Ok, IsTrue, IsFalse}
use Rattle.flash_core.specs.Told.{Told}
use Rattle.fwu_formats.specs.{Metadata.state_at, Manifest.version, Image.layout_seen, Image.package_in, Counter.counter_in}
use Rattle.fwu_model.specs.{Replica.BothHold, State.is_invalid, Answer.held_package}
use Rattle.early_boot.specs.{Showing.trials_in, Tells.Started}

pub record KnowsStarted (b : Started) (t : Told) : Type 0 where
  pub layout_is : layout_seen t.now ≡ Ok b.layout
  -- both replicas hold the metadata, in version 2
  pub both : BothHold b.layout b.meta t.now
  pub form_two : b.meta.form ≡ 2
  pub trials_are : b.trials ≡ trials_in t.now b.meta.meta
  pub counter_is : b.counter ≡ counter_in t.now
  -- the bank that was started is in use and holds a package of this version, with images of these lengths
  pub used : IsFalse (is_invalid (state_at b.meta.meta b.bank))
  pub held : IsTrue (is_some (package_in b.layout t.now b.bank))
  pub version_is : b.version ≡ version (held_package (package_in b.layout t.now b.bank))
  pub lengths_are : b.lengths ≡ map (λ (bytes : List ℕ). length bytes) (held_package (package_in b.layout t.now b.bank))
