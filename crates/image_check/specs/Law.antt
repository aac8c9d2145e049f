-- A bank is good exactly where it holds a complete package that is permitted.
use Rattle.std.specs.Prelude.{◌≡◌, ℕ, Bool, true, false, List, Some, IsTrue}
use Rattle.fwu_formats.specs.{Layout.fits_layout, Manifest.version, Image.package_in}
use Rattle.fwu_model.specs.Sound.{Setting, is_permitted, holds_permitted}
use Rattle.image_check.specs.{declared.bank.Verdict.Verdict, declared.bank.Verdict.TheVariants.Good, Verdict.verdict_on}

-- the bank holds a permitted package of this version
abbrev pub HoldsPermitted : Setting → ℕ → List ℕ → ℕ → ℕ → Type 0
HoldsPermitted E counter image bank v =
    (p : List (List ℕ)) × (package_in E.layout image bank ≡ Some p) × IsTrue (is_permitted E counter p) × (version p ≡ v)

abbrev pub GoodIsPermitted : Type 0
GoodIsPermitted = (E : Setting) (counter : ℕ) (image : List ℕ) (bank v : ℕ) → IsTrue (fits_layout E.layout)
    → verdict_on E.passes counter E.layout image bank ≡ Good v → HoldsPermitted E counter image bank v

abbrev pub PermittedIsGood : Type 0
PermittedIsGood = (E : Setting) (counter : ℕ) (image : List ℕ) (bank v : ℕ) → IsTrue (fits_layout E.layout)
    → HoldsPermitted E counter image bank v → verdict_on E.passes counter E.layout image bank ≡ Good v

-- the bank may be started
abbrev pub verdict_may_start : Verdict → Bool
verdict_may_start (Good v) = true
verdict_may_start other = false

abbrev pub GoodIsHeld : Type 0
GoodIsHeld = (E : Setting) (counter : ℕ) (image : List ℕ) (bank : ℕ) → IsTrue (fits_layout E.layout)
    → verdict_may_start (verdict_on E.passes counter E.layout image bank) ≡ holds_permitted E counter
    (package_in E.layout image bank)
