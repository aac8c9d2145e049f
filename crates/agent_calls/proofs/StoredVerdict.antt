-- The verdict on a bank is good exactly where it holds a package that may be gone back to.
use Rattle.std.proofs.Common.{◌≡◌, ℕ, Bool, true, false, List, refl, sym, ap₂, ◌∙◌, subst, IsTrue}
use Rattle.std.proofs.lemmas.Bool.{false≢true}
use Rattle.fwu_formats.specs.{Layout.Layout, Layout.fits_layout, Metadata.Meta, Image.package_in}
use Rattle.fwu_model.specs.Sound.{Setting, holds_permitted}
use Rattle.image_check.specs.{Verdict.verdict_on, Law.verdict_may_start}
use Rattle.image_check.proofs.Permitted.{held}
use Rattle.agent_kept.specs.declared.kinds.Request.TheVariants as request
use Rattle.agent_kept.specs.{declared.kinds.Decision.Decision, Kept.Kept}
use Rattle.agent_kept.specs.declared.kinds.Decision.TheVariants as decision
use Rattle.agent_state.specs.{Asked.IsFor, Ruled.ruled_as}
use Rattle.agent_machine.specs.Stored.{is_to_do}

pub good-permitted : (E : Setting) (L : Layout) (passes : List ℕ → Bool) (counter : ℕ) (image : List ℕ) (bank previous : ℕ) (good : Bool)
    → IsTrue (fits_layout L) → E.layout ≡ L → E.passes ≡ passes → bank ≡ previous
    → good ≡ verdict_may_start (verdict_on passes counter L image bank) → good ≡ holds_permitted E counter (package_in L image previous)
good-permitted E L passes counter image bank previous good fits layout verifier bank-is good-is =
    good-is ∙ ap₂ (λ (ps : List ℕ → Bool) (l : Layout). verdict_may_start (verdict_on ps counter l image bank)) (sym verifier) (sym layout)
    ∙ held E counter image bank (subst (λ (l : Layout). IsTrue (fits_layout l)) (sym layout) fits)
    ∙ ap₂ (λ (l : Layout) (b : ℕ). holds_permitted E counter (package_in l image b)) layout bank-is

-- what a function answered is what it promised
pub promised : (answer value other : Bool) → answer ≡ value → answer ≡ other → value ≡ other
promised answer value other is was = sym is ∙ was

-- ---- on every device

-- going back is no plan that is made without a verdict, so where it is done, the verdict was good
pub back-is-good : (k : Kept) (m : Meta) (d : Decision) (good : Bool) → IsFor k m request.Previous d → is_to_do (ruled_as d good) ≡ true → IsTrue good
back-is-good k m (decision.Refused st) good asked does = absurd (false≢true does)
back-is-good k m (decision.Do p) good asked does = absurd asked
back-is-good k m (decision.ByVerdict b) true asked does = refl
back-is-good k m (decision.ByVerdict b) false asked does = absurd (false≢true does)
