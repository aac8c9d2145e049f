-- A calm flash by parts, and what each image that a power-on may leave shows.
use Rattle.std.proofs.Common.{◌≡◌, ℕ, List, sym, subst, ◌∙◌}
use Rattle.std.proofs.lemmas.Option.{same_Some}
use Rattle.std.specs.Prelude.{Contains}
use Rattle.flash_core.specs.Told.{Told}
use Rattle.fwu_formats.specs.Metadata.{MetaRead}
use Rattle.fwu_model.specs.{State.State, Sound.Setting, Sound.Sound, Calm.IsCalm, Headline.ShowsOneOf}
use Rattle.fwu_model.specs.Seen.{IsTidy, SoundFlash, state_of}
use Rattle.moves.specs.Moved.{IsShown}
use Rattle.moves.proofs.Agree.{QuietUsed, at-used}

module _ (E : Setting) (t : Told) (s : State) (calm : IsCalm E t s) where
  same-state : calm.sound.state ≡ s
  same-state = same_Some calm.sound.state s (sym calm.sound.shows ∙ calm.shows)

  pub calm-shown : IsShown E.layout t.now s
  calm-shown = record { layout = calm.sound.layout; shows = calm.shows }

  pub calm-sound : Sound E s
  calm-sound = subst (λ (x : State). Sound E x) same-state calm.sound.sound

  pub calm-tidy : IsTidy t.now s
  calm-tidy = subst (λ (x : State). IsTidy t.now x) same-state calm.sound.tidy

  -- the banks that the metadata calls valid or accepted are quiet
  pub calm-used : (r : MetaRead) → state_of E.layout t.now r ≡ s → QuietUsed E.layout r.meta t
  calm-used r is b lt used = calm.banks b (at-used E.layout t.now r s is b lt used)

-- a sound flash by parts
pub sound-flash : (E : Setting) (image : List ℕ) (s : State) → IsShown E.layout image s → Sound E s → IsTidy image s → SoundFlash E image
sound-flash E image s shown sound tidy = record { layout = shown.layout; state = s; shows = shown.shows; sound = sound; tidy = tidy }

pub one-of : (E : Setting) (states : List State) (s : State) (image : List ℕ) → Contains states s → IsShown E.layout image s → Sound E s → IsTidy image s → ShowsOneOf E states image
one-of E states s image in_list shown sound tidy = record { state = s; one = in_list; shows = shown.shows; sound = sound-flash E image s shown sound tidy }
