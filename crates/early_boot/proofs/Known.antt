-- What a boot that started a bank knows of its flash.
use Rattle.std.proofs.Common.{◌≡◌, inl, inr, ℕ, Bool, List, length, map, Option, Some, refl, sym, ap, ◌∙◌, arith, IsFalse}
use Rattle.std.proofs.lemmas.Bool.{cases_Bool}
use Rattle.std.specs.Prelude.{is_some}
use Rattle.flash_core.specs.Told.{Told}
use Rattle.fwu_formats.specs.{Metadata.MetaRead, Metadata.state_at, Manifest.version, Image.package_in}
use Rattle.fwu_model.specs.{Sound.Setting, Sound.choice, Answer.held_package}
use Rattle.fwu_model.specs.State.{State, Numbers, bank, is_invalid}
use Rattle.fwu_model.proofs.Shown.{chosen-are-whole, shown-are-formed}
use Rattle.moves.specs.Moved.{IsShown}
use Rattle.moves.proofs.Agree.{layout-kept, used-at, shown-by, package-same}
use Rattle.early_boot.specs.{Choosing.boot_setting, Started.Started, EndsBy.StartsChosen, Knows.KnowsStarted}
use Rattle.early_boot.proofs.Written.{counter-then, trials-then}

module _ (passes : List ℕ → Bool) (old : Told) (b : Started) (n : Numbers) (t : Told) (starts : StartsChosen passes old b n t) where
  abbrev E : Setting
  E = boot_setting passes b.layout

  abbrev state : State
  state = starts.state

  chosen : choice E state ≡ Some b.bank
  chosen = starts.chose.choice_is E refl refl

  held-old : (p : List (List ℕ)) × (package_in b.layout old.now b.bank ≡ Some p) × ((bank state b.bank).held ≡ Some p)
  held-old = let whole = chosen-are-whole E old.now state b.bank starts.chose.has_layout starts.chose.shows chosen in (whole.0, whole.1, whole.2)

  shown-old : IsShown b.layout old.now state
  shown-old = record { layout = starts.chose.has_layout; shows = starts.chose.shows }

  in-use : IsFalse (is_invalid (bank state b.bank).state)
  in-use = elim (cases_Bool (is_invalid (bank state b.bank).state)) [
    | inl invalid ↦
        let empty = (shown-are-formed b.layout old.now state starts.chose.has_layout starts.chose.shows).empty b.bank invalid in
        let no = sym held-old.2 ∙ empty in
        absurd cc
    | inr used ↦ used
  ]

  held-now : package_in b.layout t.now b.bank ≡ Some held-old.0
  held-now = package-same b.layout t.now old.now b.bank starts.others.size (λ place above below. starts.others.now place (inr (omega (arith, above)))) ∙ held-old.1

  pub started-knows : KnowsStarted b t
  started-knows = record {
    layout_is = layout-kept b.layout 4096 28672 old t (omega arith) starts.others starts.chose.has_layout;
    both = starts.renewed.both;
    form_two = ap (λ (r : MetaRead). r.form) starts.renewed.meta_is;
    trials_are = trials-then passes old b n t starts;
    counter_is = counter-then passes old b n t starts;
    used = ap (λ (r : MetaRead). is_invalid (state_at r.meta b.bank)) starts.renewed.meta_is
        ∙ used-at b.layout old.now starts.renewed.decided state (shown-by b.layout old.now state shown-old starts.renewed.decided starts.renewed.decides) b.bank in-use;
    held = ap is_some held-now;
    version_is = starts.version_is ∙ ap (λ (o : Option (List (List ℕ))). version (held_package o)) (held-old.2 ∙ sym held-now);
    lengths_are = starts.lengths_are ∙ ap (λ (o : Option (List (List ℕ))). map (λ (bytes : List ℕ). length bytes) (held_package o)) (held-old.2 ∙ sym held-now);
  }
