-- Runs that have no first turn.
use Rattle.std.proofs.Common.{◌≡◌, ◌≢◌, ℕ, Bool, List, Option, Some, None, inl, inr, refl, sym, ap, subst, arith}
use Rattle.std.specs.Prelude.{IsFalse, []}
use Rattle.fwu_model.specs.{Causes.Faults, Reply.Turn}
use Rattle.fwu_model.specs.declared.kinds.Note.{Note as Model}
use Rattle.fwu_words.specs.{Order.Asked, declared.orders.Place.Place, declared.orders.ScriptFrom.ScriptFrom}
use Rattle.fwu_words.specs.declared.orders.Place.TheVariants as place
use Rattle.fwu_words.specs.declared.orders.ScriptFrom.TheVariants as origin
use Rattle.host_io.specs.Printed.{Prints}
use Rattle.script_turns.specs.Powered.{TurnMoment}
use Rattle.script_runs.specs.{Ending.is_beyond_model, Ending.noted, declared.done.Note.Note, declared.refusing.Refusal.Refusal}
use Rattle.script_runs.specs.{Ways.AsksTurns, Ways.Given, Ways.HasGoodList, Ways.Refuses, Ways.Way, WaysByTable.WayAt, WaysByTable.untouched}
use Rattle.script_runs.specs.Sourced.{LacksScript, plain_of, plan_of, text_of}
use Rattle.script_runs.specs.Ways as way
use Rattle.script_runs.specs.declared.refusing.Refusal.TheVariants as why
use Rattle.script_runs.proofs.{TopWays.device-of, TopWays.end-of, TopWays.world-of, TopWays.refused-by, TableWays.not-nothing}

-- a line of a refusal is that of an equal one
pub at-refusal : (met made : Refusal) (status : ℕ) (old new : Option (List ℕ)) (was are : ℕ) → met ≡ made → Prints (plan_of made).line (plan_of made).status status old new was are
    → Prints (plan_of met).line (plan_of met).status status old new was are
at-refusal met made status old new was are is prints = subst (λ (r : Refusal). Prints (plan_of r).line (plan_of r).status status old new was are) (sym is) prints

-- both commands ask for turns
pub asks-of : (from : ScriptFrom) → AsksTurns (Some (plain_of from))
asks-of origin.Source = inl refl
asks-of origin.Boot = inr refl

-- no refusal is planned for the status 0
planned-some : (met : Refusal) → (plan_of met).status ≢ 0
planned-some why.Usage zero = absurd (omega arith)
planned-some other zero = absurd (omega arith)

-- what is noted then the definitions note too
not-ten : (asked : Option Asked) (g : Given) (was are : Faults) (planned : ℕ) (told : Model) (line : List ℕ) → Refuses asked g was are planned told line → planned ≢ 10
not-ten asked g was are planned told line (way.usage listed is) ten = absurd (omega arith)
not-ten asked g was are planned told line other ten = absurd (omega arith)

pub lacks-quiet : (from : ScriptFrom) (left : Option (List ℕ)) (before after : ℕ) (met : Refusal) (said : Note) → LacksScript from left before after met → said ≡ (plan_of met).note → IsFalse (is_beyond_model said)
lacks-quiet from left before after (why.NoTable lack) said lacks told =
    let none : Faults = record { files = 0; source = 0; sink = 0 } in
    absurd (not-ten _ _ _ _ _ _ _ (lacks (λ is. cc) (record { list = None; files = None; script = None }) none none (record { there = λ absent. absent; good = tt })) refl)
lacks-quiet from left before after other said lacks told = ap is_beyond_model told

module _ (passes : List ℕ → Bool) (tells : Bool) (blocks : ℕ) (journal : List Turn) (status : ℕ) (said : Note) (old new : TurnMoment) (taken_before taken_after : Option (List ℕ)) (from : ScriptFrom) (g : Given) (left : Option (List ℕ)) (was are : Faults) where
  -- where there is no script, nothing was done, and the line of that was put
  way-lacks : (met : Refusal) → HasGoodList g.list g.files → LacksScript from left was.source are.source met → journal ≡ [] → new ≡ old → said ≡ (plan_of met).note
      → Prints (plan_of met).line (plan_of met).status status taken_before taken_after was.sink are.sink → (met ≡ why.NoMemory → (status ≡ 9) × (taken_after ≡ taken_before) × (are.sink ≡ was.sink))
      → Way passes tells (Some (plain_of from)) (record g { script = text_of from left }) (end-of journal status (noted said)) (world-of old taken_before was) (world-of new taken_after are)
  way-lacks why.NoMemory listed lacks none same told prints stuck = let nine = stuck refl in way.starved none same nine.0 (ap noted told) (nine.1, nine.2)
  way-lacks met listed lacks none same told prints stuck =
      refused-by passes tells journal status (noted said) old new taken_before taken_after (Some (plain_of from)) (record g { script = text_of from left }) was are (plan_of met).status (plan_of met).line (noted (plan_of met).note) none same (ap noted told)
      (lacks (λ is. cc) g was are listed) prints

  -- at either place
  pub lacks-at : (met : Refusal) (at : Place) → HasGoodList g.list g.files → LacksScript from left was.source are.source met → journal ≡ [] → new ≡ old → said ≡ (plan_of met).note
      → Prints (plan_of met).line (plan_of met).status status taken_before taken_after was.sink are.sink → (met ≡ why.NoMemory → (status ≡ 9) × (taken_after ≡ taken_before) × (are.sink ≡ was.sink))
      → WayAt at passes (device-of tells blocks) (Some (plain_of from)) (record g { script = text_of from left }) (end-of journal status said) (world-of old taken_before was) (world-of new taken_after are)
  lacks-at met place.Flash listed lacks none same told prints stuck = way-lacks met listed lacks none same told prints stuck
  lacks-at met place.Partitions listed lacks none same told prints stuck =
      untouched none same (not-nothing _ _ status taken_before taken_after was.sink are.sink (planned-some met) prints) (lacks-quiet from left was.source are.source met said lacks told)
      (way-lacks met listed lacks none same told prints stuck)
