-- What C is told of what a flash shows.
use Rattle.std.specs.Prelude.{◌≡◌, ◌≢◌, ◌↔◌, ◌≤◌, ℕ, zero, suc, Bool, false, List, [], drop, length, take, None, Ok, Err, slice_index_or}
use Rattle.base_core.specs.Bytes.{listed}
use Rattle.fwu_formats.specs.{Digests.passes_any, Image.layout_seen, Image.deciding, Layout.Layout, Metadata.bit_number}
use Rattle.fwu_formats.specs.{declared.kinds.BankState.BankState, declared.kinds.LayoutFault.LayoutFault}
use Rattle.fwu_formats.specs.declared.kinds.BankState.TheVariants.{Invalid, Valid, Accepted}
use Rattle.fwu_model.specs.State.{Numbers}
use Rattle.image_check.specs.{declared.bank.Verdict.Verdict, Verdict.verdict_on}
use Rattle.image_check.specs.declared.bank.Verdict.TheVariants.{Good, BadManifest, NotAccepted, BadImage, BelowCounter}
use Rattle.early_boot.specs.Numbers.{ShowsNumbers}
use Rattle.fwu_c.specs.{Reports.fault_code, Handed.HasFlashSize, declared.show.BankShown.BankShown}
use Rattle.fwu_c.specs.declared.show.FlashShown.{FlashShown}

abbrev pub state_code : BankState → ℕ
state_code Invalid = 0
state_code Valid = 1
state_code Accepted = 2

abbrev pub verdict_code : Verdict → ℕ
verdict_code (Good version) = 0
verdict_code BadManifest = 1
verdict_code NotAccepted = 2
verdict_code (BadImage image) = 3
verdict_code (BelowCounter version counter) = 4

-- the version of a complete package, else 0
abbrev pub version_told : Verdict → ℕ
version_told (Good version) = version
version_told (BelowCounter version counter) = version
version_told other = 0

-- the lowest bad image, else 0
abbrev pub image_told : Verdict → ℕ
image_told (BadImage image) = image
image_told other = 0

-- 1 for each image that was accepted, and 0 for each other of 16
abbrev pub bits_of : List Bool → List ℕ
bits_of bits = listed 16 (λ image. bit_number (slice_index_or bits image false))

-- what is shown of a bank
abbrev pub bank_shown : List ℕ → Layout → Numbers → ℕ → BankShown
bank_shown image L n bank =
    let verdict = verdict_on (λ m. passes_any m) n.counter L image bank in
    record {
      state = state_code (slice_index_or n.states bank Invalid);
      verdict = verdict_code verdict;
      version = version_told verdict;
      image = image_told verdict;
      accepted = bits_of (slice_index_or n.bits bank []);
    }

pub record TellsNumbers (L : Layout) (n : Numbers) (s : FlashShown) : Type 0 where
  pub form : s.form ≡ n.form
  pub active : s.active ≡ n.active
  pub previous : s.previous ≡ n.previous
  pub trials : s.trials ≡ n.trials
  pub counter : s.counter ≡ n.counter
  pub banks : s.banks ≡ length n.states
  pub images : s.images ≡ length L.rows

abbrev pub TellsBanks : List ℕ → Layout → Numbers → FlashShown → Type 0
TellsBanks image L n s = take (length n.states) s.bank ≡ listed (length n.states) (bank_shown image L n)

-- the numbers and all banks of what the image shows
pub record ShowsAll (image : List ℕ) (s : FlashShown) : Type 0 where
  pub layout : Layout
  pub layout_is : layout_seen image ≡ Ok layout
  pub numbers : Numbers
  pub shows : ShowsNumbers image numbers
  pub tells : TellsNumbers layout numbers s
  pub banks : TellsBanks image layout numbers s

-- 0: what the image shows; 1: the first fault of its layout; 2: neither replica is metadata of the layout
abbrev pub ShowsBy : List ℕ → ℕ → FlashShown → Type 0
ShowsBy image zero s = ShowsAll image s
ShowsBy image (suc zero) s = (f : LayoutFault) × (layout_seen image ≡ Err f) × (s.layout_fault ≡ fault_code f)
ShowsBy image (suc (suc zero)) s = (L : Layout) × (layout_seen image ≡ Ok L) × (deciding L image ≡ None)
ShowsBy image (suc (suc (suc n))) s = ⊥

-- What a call that shows a flash promises, whatever it answers: of what C handed in, and has then.
pub record TellsShown (image : List ℕ) (number : ℕ) (old new : FlashShown) : Type 0 where
  -- at 1 nothing but the fault is told
  pub fault : number ≡ 1 → new ≡ record old { layout_fault = new.layout_fault }
  -- and at each other answer the fault stays
  pub fault_stays : number ≢ 1 → new.layout_fault ≡ old.layout_fault
  -- nothing is told behind the last bank
  pub behind : drop new.banks new.bank ≡ drop new.banks old.bank
  -- 6 comes of all bytes that are no flash, and of no others
  pub no_flash : (number ≡ 6) ↔ (HasFlashSize image → ⊥)
  -- and from 2 on nothing is told
  pub untouched : 2 ≤ number → new ≡ old
