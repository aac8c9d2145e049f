-- The headline, whichever way a run ended.
use Rattle.std.proofs.Common.{◌≡◌, ℕ, Bool, List, ◌∷◌, length, Option, Some, None, refl, sym, subst, ◌∙◌, arith, IsTrue, []}
use Rattle.std.specs.Prelude.{◌/◌}
use Rattle.std.proofs.lemmas.Option.{same_Some}
use Rattle.base_core.specs.Block.{block}
use Rattle.flash_core.specs.{Told.Told, declared.flash.Counts.Counts}
use Rattle.fwu_formats.specs.Layout.{fits_layout}
use Rattle.fwu_model.specs.{State.State, Sound.Setting, Sound.Sound, Seen.SoundFlash, Call.Call, Reply.Turn, Asked.script_asked}
use Rattle.fwu_model.specs.{Run.Condition, Run.start_of, Headline.Headline, Headline.IsPrefixOf, Headline.LeavesOneOf}
use Rattle.fwu_model.specs.{declared.kinds.Note.Note, Contract.Premises, Contract.Asks, Contract.ByScript, Contract.ByBoot}
use Rattle.agent_machine.specs.Fields.{Fields}
use Rattle.fwu_model.specs.Call as call
use Rattle.fwu_model.specs.Asked as model
use Rattle.fwu_model.proofs.{Frame.calm-stays, Frame.start-is-calm, Selects.runs-select}
use Rattle.fwu_formats.proofs.Read.{layout-fits}
use Rattle.script_runs.specs.{Sourced.in_short, Ending.Ending, Ending.World}
use Rattle.script_runs.specs.Ways.{HasCalls, Way, starved, refused, ran}
use Rattle.script_turns.specs.{Powered.TurnMoment, Powered.ShowsCondition, Powered.at, Runs.Ran, Runs.StartsSound, Runs.calls_of}
use Rattle.script_runs.proofs.{Making.boot-is-script, Making.same-calls, TopSources.done-planned}
use Rattle.script_cmd.specs.{Handed.Inputs, Promises.HeadlineHolds, Promises.given_to, Promises.outcome}
use Rattle.script_cmd.proofs.PromiseEnds.{why-planned}

-- ---- the calls

asked-calls : (asked : model.ScriptAsked) (source : Option (List ℕ)) (calls mine : List Call) → Asks asked source calls → HasCalls (script_asked asked source) mine → mine ≡ calls
asked-calls asked source calls mine (ByScript is) has = same-calls mine calls (sym has.1 ∙ is)
asked-calls asked source calls mine ByBoot has = same-calls mine (call.Boot ∷ []) (sym has.1 ∙ boot-is-script)

-- ---- the start

pub sound-start : (E : Setting) (start : State) (old : Told) (files : Option (List ℕ → Option (List ℕ))) (passes : List ℕ → Bool) (before after : Counts) → Premises E start old files passes before after → Sound E start
sound-start E start old files passes before after given = subst (Sound E) (same_Some given.sound.state start (sym given.sound.shows ∙ given.shows)) given.sound.sound

pub fits : (E : Setting) (t : Told) → SoundFlash E t.now → IsTrue (fits_layout E.layout)
fits E t sound = layout-fits (block 0 t.now) (length t.now / 4096) E.layout sound.layout

-- what the flash of a run may show after a loss
pub left-by : (E : Setting) (c : Condition) (on : Option Fields) (t : Told) → ShowsCondition E c on t → LeavesOneOf E c.candidates t
left-by E c None t shows = shows.1
left-by E c (Some f) t shows = subst (λ (states : List State). LeavesOneOf E states t) (sym shows.one) (calm-stays E t shows.state shows.ready.calm)

-- ---- from a sound flash

module _ (passes : List ℕ → Bool) (tells : Bool) (files : Option (List ℕ → Option (List ℕ))) (status : ℕ) (old : TurnMoment) (told : IsTrue tells) (E : Setting) (start : State) (calls : List Call) where
  none-head : (status ≡ 0 → [] ≡ calls) → Premises E start old.told files passes old.counts old.counts → Headline E start (outcome calls [] status old old)
  none-head all given = record {
    calls = (calls, refl);
    all_calls = all;
    last = start_of start;
    run = refl;
    left = calm-stays E old.told start (start-is-calm E old.told start given.clean given.sound given.shows);
    armed = λ h. record { made = refl; last = tt };
    selects = runs-select E start [] (start_of start) (fits E old.told given.sound) (sound-start E start old.told files passes old.counts old.counts given) refl;
  }

  -- no turn ran
  pub idle-head : (journal : List Turn) (new : TurnMoment) → journal ≡ [] → new ≡ old → (status ≡ 0 → [] ≡ calls) → Premises E start old.told files passes old.counts new.counts
      → Headline E start (outcome calls journal status old new)
  idle-head journal new empty same all given =
      subst (λ (j : List Turn). Headline E start (outcome calls j status old new)) (sym empty)
      (subst (λ (m : TurnMoment). Headline E start (outcome calls [] status old m)) (sym same)
      (none-head all (subst (λ (m : TurnMoment). Premises E start old.told files passes old.counts m.counts) same given)))

  -- the turns do the first of these calls
  pub ran-head : (journal : List Turn) (new : TurnMoment) (on : Option Fields) (from to : ℕ) → IsPrefixOf (calls_of journal) calls → (status ≡ 0 → calls_of journal ≡ calls)
      → Ran passes tells files journal old (at on new.told new.writes new.counts new.armed new.power) from to → Premises E start old.told files passes old.counts new.counts
      → Headline E start (outcome calls journal status old new)
  ran-head journal new on from to front all turns given =
      let starts : StartsSound E start passes old = record { clean = given.clean; sound = given.sound; shows = given.shows; guarded = given.guarded; passes_are = sym given.verifier_is } in
      let to = turns.run told E start starts given.files_told given.no_chance in
      let sound = sound-start E start old.told files passes old.counts new.counts given in
      record {
        calls = front;
        all_calls = all;
        last = to.last;
        run = to.runs;
        left = left-by E to.last on new.told to.is_at.shows;
        armed = λ h. to.armed;
        selects = runs-select E start journal to.last (fits E old.told given.sound) sound to.runs;
      }

-- ---- of the calls that are asked for

pub ways-keep-the-headline : (passes : List ℕ → Bool) (tells : Bool) (inputs : Inputs) (end : Ending Note) (old new : World) → Way passes tells inputs.asked (given_to inputs) end old new
    → HeadlineHolds passes tells inputs end old new
ways-keep-the-headline passes tells inputs end old new (starved empty same nine quiet stuck) told E start calls given asks =
    idle-head passes tells inputs.files end.status old.flash told E start calls end.journal new.flash empty same
    (λ e. absurd (omega (arith, e, nine))) given
ways-keep-the-headline passes tells inputs end old new (refused planned line empty same why prints) told E start calls given asks =
    idle-head passes tells inputs.files end.status old.flash told E start calls end.journal new.flash empty same
    (λ e. absurd
    ((why-planned inputs.asked (given_to inputs) old.faults new.faults planned end.noted line why).1
    (done-planned line planned end.status old.taken new.taken old.faults.sink new.faults.sink prints e))) given
ways-keep-the-headline passes tells inputs end old new (ran mine on good asks has turns ended printed) told E start calls given asked =
    let same : mine ≡ calls = asked-calls (in_short inputs.asked) inputs.source calls mine asked has in
    ran-head passes tells inputs.files end.status old.flash told E start calls end.journal new.flash on old.faults.files new.faults.files
    (ended.calls.0, ended.calls.1 ∙ same) (λ e. ended.all_calls e ∙ same) turns given
