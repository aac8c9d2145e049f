-- A script that is made of a source or of the word `boot`.
use Rattle.std.proofs.Common.{◌≡◌, ◌≢◌, ℕ, false, List, ◌∷◌, Option, Some, Ok, refl, sym, ap, ◌∙◌, inl, inr, [], Result, ◌≤◌, Err, arith, subst}
use Rattle.std.specs.Prelude.{codes, IsTrue}
use Rattle.fwu_model.specs.{Call.Call, Script.script_of, Script.line_of, Script.is_too_long, Asked.script_asked}
use Rattle.fwu_model.specs.Call as call
use Rattle.fwu_model.specs.Asked as model
use Rattle.fwu_words.specs.{Order.Asked, declared.orders.ScriptFrom.ScriptFrom}
use Rattle.fwu_words.specs.Order as ask
use Rattle.host_io.specs.Once.{ReadsOnce}
use Rattle.host_io.specs.declared.source.Source as source
use Rattle.fwu_words.specs.declared.orders.ScriptFrom.TheVariants as origin
use Rattle.script_turns.specs.Runs.{sends_none}
use Rattle.script_runs.specs.Sourced.{LacksScript, in_short, plan_of, text_of}
use Rattle.script_runs.specs.Sourced.{FailsOnce, MakesScript, StarvesScript, TakesScript}
use Rattle.script_runs.specs.{Ways.AsksTurns, Ways.HasCalls, declared.refusing.Refusal.Refusal}
use Rattle.script_runs.specs.declared.refusing.Refusal.TheVariants as why
use Rattle.script_runs.proofs.TopSources.{none-fails, starves-by, starves-nothing, takes-short}

-- ---- what is asked

pub asks-turns : (asked : Option Asked) → AsksTurns asked → in_short asked ≢ model.NoScript
asks-turns asked is none = elim is [ inl run ↦ source-some (sym (ap in_short run) ∙ none) | inr boot ↦ boot-some (sym (ap in_short boot) ∙ none) ]
  where
    source-some : model.Source ≡ model.NoScript → ⊥
    source-some e = cc

    boot-some : model.Boot ≡ model.NoScript → ⊥
    boot-some e = cc

-- ---- the script of `boot`

pub boot-is-script : script_of (codes "boot\n") ≡ Ok (call.Boot ∷ [])
unfolding script_of line_of
boot-is-script = refl

pub same-calls : (x y : List Call) → ◌≡◌ {A = Result (List Call) ℕ} (Ok x) (Ok y) → x ≡ y
same-calls x y e = cc

pub boot-is-short : is_too_long (codes "boot\n") ≡ false
unfolding is_too_long
boot-is-short = refl

-- ---- the script that is asked for

pub boot-script : (asked : Option Asked) (source : Option (List ℕ)) → asked ≡ Some ask.boot → script_asked (in_short asked) source ≡ Some (codes "boot\n")
boot-script asked source is = ap (λ (a : Option Asked). script_asked (in_short a) source) is

-- it sends nothing
pub boot-sends : (from : ScriptFrom) (left : Option (List ℕ)) (calls : List Call) → HasCalls (text_of from left) calls → from ≡ origin.Boot → IsTrue (sends_none calls)
boot-sends from left calls has boot =
    let there = subst (λ (f : ScriptFrom). HasCalls (text_of f left) calls) boot has in
    subst (λ (l : List Call). IsTrue (sends_none l)) (same-calls (call.Boot ∷ []) calls (sym boot-is-script ∙ there.1)) refl

-- ---- making the script of a run

pub source-not-boot : {A : Type 0} → origin.Source ≡ origin.Boot → A
source-not-boot e = absurd cc

boot-not-source : {A : Type 0} (from : ScriptFrom) → from ≡ origin.Boot → from ≡ origin.Source → A
boot-not-source from boot e = absurd cc

same-refusal : {R : Type 0} (x y : Refusal) → ◌≡◌ {A = Result R Refusal} (Err x) (Err y) → x ≡ y
same-refusal x y e = cc

-- behind a script that was made, memory was wanting for its turns
pub starves-made : {I R : Type 0} (s : source.Ghosts I) (from : ScriptFrom) (calls : R → List Call) (made : R) (old new : I) → MakesScript s from calls (Ok made) old new → StarvesScript (s.left old) (s.left new) (s.faults old) (s.faults new)
starves-made s origin.Source calls made old new e = starves-by 0 _ _ _ _ (e.takes refl) (λ is. absurd (omega arith)) refl (e.count.none refl)
starves-made {I = I} s origin.Boot calls made old new e =
    subst (λ (x : I). StarvesScript (s.left old) (s.left x) (s.faults old) (s.faults x)) (sym (e.boot_alone refl)) (starves-nothing (s.left old) (s.faults old))

module _ {I : Type 0} (s : source.Ghosts I) (from : ScriptFrom) (old new : I) (alone : from ≡ origin.Boot → new ≡ old) (later : s.faults old ≤ s.faults new) (once : ReadsOnce s old new) where
  pub makes : {R : Type 0} (calls : R → List Call) (made : R) → HasCalls (text_of from (s.left old)) (calls made) → (from ≡ origin.Source → TakesScript [] 0 (s.left old) (s.left new))
      → FailsOnce [] 0 (s.faults old) (s.faults new) → MakesScript s from calls (Ok made) old new
  makes calls made has takes count = record { script = has; lacks = tt; boot_alone = alone; takes = takes; count = count; starved = λ is. absurd cc; later = later; once = once }

  pub lacks : {R : Type 0} (calls : R → List Call) (met : Refusal) → LacksScript from (s.left old) (s.faults old) (s.faults new) met → (from ≡ origin.Source → TakesScript [] (plan_of met).status (s.left old) (s.left new))
      → FailsOnce [] (plan_of met).status (s.faults old) (s.faults new) → (met ≡ why.NoMemory → StarvesScript (s.left old) (s.left new) (s.faults old) (s.faults new)) → MakesScript s from calls (Err met) old new
  lacks calls met lack takes count starved =
      record { script = tt; lacks = lack; boot_alone = alone; takes = takes; count = count; starved = λ is. starved (same-refusal met why.NoMemory is); later = later; once = once }

  -- for want of memory
  pub starves : {R : Type 0} (calls : R → List Call) → StarvesScript (s.left old) (s.left new) (s.faults old) (s.faults new) → MakesScript s from calls (Err why.NoMemory) old new
  starves calls short =
      lacks calls why.NoMemory (λ some. absurd (some refl)) (λ is. takes-short 9 _ _ short.in_time (λ eight. absurd (omega arith)) refl refl) (none-fails [] 9 _ _ short.quiet) (λ is. short)

-- one boot, for which nothing is read
module _ {I : Type 0} (s : source.Ghosts I) (at : I) (still : ReadsOnce s at at) (from : ScriptFrom) (boot : from ≡ origin.Boot) where
  pub makes-boot : (calls : List Call) → calls ≡ call.Boot ∷ [] → MakesScript s from (λ script. script) (Ok calls) at at
  makes-boot calls is =
      makes s from at at (λ again. refl) (omega arith) still (λ script. script) calls
      (subst (λ (f : ScriptFrom). HasCalls (text_of f (s.left at)) calls) (sym boot) (boot-is-short, boot-is-script ∙ ap Ok (sym is))) (boot-not-source from boot) (none-fails [] 0 _ _ refl)

  pub starves-boot : MakesScript s from (λ (script : List Call). script) (Err why.NoMemory) at at
  starves-boot = starves s from at at (λ again. refl) (omega arith) still (λ script. script) (starves-nothing (s.left at) (s.faults at))
