-- What a run behind a partition table promises, whichever way it ends.
use Rattle.std.proofs.Common.{◌≡◌, ◌≢◌, ◌⊎◌, inl, inr, ℕ, ◌≤◌, Bool, List, Option, Some, None, Ok, refl, sym, ap, subst, ◌∙◌, arith, eqb-true, ◌||◌, ◌==◌, false, []}
use Rattle.std.specs.Prelude.{IsTrue, IsFalse}
use Rattle.std.proofs.lemmas.Bool.{false≢true, or_cases}
use Rattle.fwu_words.specs.Order.{Asked}
use Rattle.fwu_model.specs.declared.kinds.Note as model
use Rattle.fwu_model.specs.declared.kinds.Note.TheVariants as model_note
use Rattle.host_io.specs.Printed.{nothing}
use Rattle.flash_core.specs.{Counts.Rose, Told.Told, Told.NothingDirty}
use Rattle.gpt_core.specs.{declared.layout.Places.Places, declared.table.WhichTable.WhichTable, PlacesOf.places_of, Places.through}
use Rattle.gpt_core.specs.{Repair.HeadersGuarded, Table.DecidesTable, Table.Table, Table.table_in_image, View.view_of}
use Rattle.gpt_core.proofs.{Leaving.repair-keeps, Leaving.repair-leaves, Leaving.repair-spares, Stepping.image_is_now}
use Rattle.fwu_model.specs.{Call.Call, State.State, Sound.Setting, Causes.Faults, Causes.IsServed, Causes.may_end_before, Contract.Premises}
use Rattle.fwu_model.specs.Headline.{Headline, made_after}
use Rattle.script_runs.specs.{declared.done.Note.Note, Sourced.in_short, Ways.Given, Ways.Way}
use Rattle.script_runs.specs.ByTable.{Starts, StopsMending, Wakes, flash_fault_line, lacked_by, lacked_in, lacked_of, no_table_line, seen_at}
use Rattle.script_runs.specs.declared.done.Note.TheVariants as own
use Rattle.script_runs.specs.Ending.{noted, is_beyond_model, Device, Ending, World, in_model}
use Rattle.script_turns.specs.Powered.{TurnMoment}
use Rattle.script_runs.specs.Ways as way
use Rattle.script_runs.specs.WaysByTable.{WayByTable, untouched, starved, lacked, stopped, ran}
use Rattle.script_runs.proofs.{TableOpens.woken-clean, TableOpens.woken-now, TableOpens.woken-same, TableWays.not-nothing}
use Rattle.script_turns.proofs.RunTurns.{rose-before}
use Rattle.script_cmd.specs.Promises.{given_to, outcome, CompleteByTable, HeadlineByTable, KeepsFlash, KeptByTable, NotBegun, PromisedByTable, RunsByTable, TableGives, seen_in}
use Rattle.script_cmd.specs.Handed.{Inputs}
use Rattle.script_cmd.proofs.{PromiseAll.promised, PromiseEnds.why-planned, PromiseAll.ways-are-complete, PromiseTurns.none-ended}

same-pair : (t u : Table) (w x : WhichTable) → ◌≡◌ {A = Option (Table × WhichTable)} (Some (t, w)) (Some (u, x)) → t ≡ u
same-pair t u w x is = ap (λ (o : Option (Table × WhichTable)). of o) is
  where
    of : Option (Table × WhichTable) → Table
    of None = t
    of (Some found) = found.0

same-places : (p q : Places) → ◌≡◌ {A = Rattle.std.specs.Prelude.Result Places Rattle.gpt_core.specs.declared.layout.PlaceFault.PlaceFault} (Ok p) (Ok q) → p ≡ q
same-places p q is = cc

-- the note of the program, by that of the definitions
pub plain-nothing : (n : Note) → IsFalse (is_beyond_model n) → noted n ≡ model_note.Nothing → n ≡ own.Nothing
plain-nothing own.Nothing beyond is = refl
plain-nothing (own.Input f) beyond is = absurd (false≢true (sym beyond))
plain-nothing (own.NoTable why) beyond is = absurd (false≢true (sym beyond))
plain-nothing other beyond is = absurd (cc)

-- no refusal without a table is planned with these
planned-none : (planned k : ℕ) → IsTrue (may_end_before planned) → planned ≡ k → may_end_before k ≡ false → ⊥
planned-none planned k ends is not = false≢true (sym not ∙ subst (λ (n : ℕ). IsTrue (may_end_before n)) is ends)

planned-both : (planned : ℕ) → IsTrue (may_end_before planned) → IsTrue ((planned == 5) || (planned == 10)) → ⊥
planned-both planned ends is = elim (or_cases (planned == 5) (planned == 10) is) [
  | inl five ↦ planned-none planned 5 ends (eqb-true planned 5 five) refl
  | inr ten ↦ planned-none planned 10 ends (eqb-true planned 10 ten) refl
]

refused-some : (asked : Option Asked) (g : Given) (before after : Faults) (planned : ℕ) (said : model.Note) (line : List ℕ)
    → way.Refuses asked g before after planned said line → planned ≡ 9 → ⊥
refused-some asked g before after planned said line (way.usage good is) e = omega arith
refused-some asked g before after planned said line other e = omega arith

module _ (passes : List ℕ → Bool) (device : Device) (inputs : Inputs) (end : Ending Note) (old new : World) where
  abbrev Ends : Type 0
  Ends = WayByTable passes device inputs.asked (given_to inputs) end old new

  abbrev Runs : Type 0
  Runs = RunsByTable passes device inputs end old new

  not-begun : (end.journal ≢ []) ⊎ (end.status ≡ 0) → end.journal ≡ [] → end.status ≢ 0 → ⊥
  not-begun (inl some) none other = some none
  not-begun (inr zero_is) none other = other zero_is

  start-seen : (p : Places) (start : TurnMoment) → Starts device.tells device.blocks old.flash p start → IsTrue device.tells → NothingDirty old.flash.told → view_of p start.told ≡ view_of p old.flash.told
  start-seen p start starts told clean =
      repair-leaves device.blocks starts.has.table starts.has.which p starts.woken start.told starts.has.gives (woken-clean old.flash.told starts.woken (starts.wakes told)) (starts.clean told) (starts.beside told)
      ∙ ap (view_of p) (woken-same old.flash.told starts.woken clean (starts.wakes told))

  pub runs-by-table : Ends → (end.journal ≢ []) ⊎ (end.status ≡ 0) → Runs
  runs-by-table (untouched none same other beyond w) began = absurd (not-begun began none other)
  runs-by-table (starved calls reads none looks nine is quiet) began = absurd (not-begun began none (λ zero_is. absurd (omega arith)))
  runs-by-table (lacked calls why reads none looks lacks is prints) began = absurd (not-begun began none (not-nothing _ 10 end.status old.taken new.taken old.faults.sink new.faults.sink (λ ten. absurd (omega arith)) prints))
  runs-by-table (stopped calls reads none stops is prints) began = absurd (not-begun began none (not-nothing _ 5 end.status old.taken new.taken old.faults.sink new.faults.sink (λ five. absurd (omega arith)) prints))
  runs-by-table (ran calls p start on reads starts does beside touches ended beyond printed) began = record {
    places = p;
    start = start;
    starts = starts;
    beside = beside;
    touches = touches;
    unwritten = repair-spares device.blocks starts.has.table starts.has.which p old.flash.writes start.writes starts.has.gives starts.touches;
    seen = start-seen p start starts;
    promises = promised passes device.tells inputs (in_model end) (record old { flash = seen_at p start }) (seen_in p new)
        (way.ran calls on reads.good reads.asks reads.has does ended printed);
    plain = beyond;
  }

  -- ---- where none began

  -- refused as without a table, or for want of memory
  unbegun-plain : end.status ≢ 0 → end.journal ≡ [] → new.flash ≡ old.flash → IsFalse (is_beyond_model end.noted)
      → Way passes device.tells inputs.asked (given_to inputs) (in_model end) old new → NotBegun device inputs end old new
  unbegun-plain other none same beyond (way.starved empty still nine quiet stuck) = record {
    planned = 9;
    line = [];
    prints = nothing nine stuck.0 stuck.1;
    lacked = λ is. absurd (omega arith);
    stopped = λ is. absurd (omega arith);
    starved = λ is. (nine, plain-nothing end.noted beyond quiet, stuck, inl same);
    reads = λ is. absurd (false≢true is);
    refused = λ is. absurd (false≢true (sym is));
    plain = λ is. beyond;
  }
  unbegun-plain other none same beyond (way.refused planned line empty still why prints) =
      let ends = (why-planned inputs.asked (given_to inputs) old.faults new.faults planned (noted end.noted) line why).0 in
      record {
        planned = planned;
        line = line;
        prints = prints;
        lacked = λ is. absurd (planned-none planned 10 ends is refl);
        stopped = λ is. absurd (planned-none planned 5 ends is refl);
        starved = λ is. absurd (refused-some inputs.asked (given_to inputs) old.faults new.faults planned (noted end.noted) line why is);
        reads = λ is. absurd (planned-both planned ends is);
        refused = λ is. (same, why);
        plain = λ is. beyond;
      }
  unbegun-plain other none same beyond (way.ran calls on good asks has does ended printed) =
      absurd (none-ended calls end.journal end.status (noted end.noted) none other ended)

  unbegun : Ends → end.journal ≡ [] → end.status ≢ 0 → NotBegun device inputs end old new
  unbegun (untouched none same other beyond w) empty some = unbegun-plain some none same beyond w
  unbegun (starved calls reads none looks nine is quiet) empty some = record {
    planned = 9;
    line = [];
    prints = nothing nine quiet.0 quiet.1;
    lacked = λ is. absurd (omega arith);
    stopped = λ is. absurd (omega arith);
    starved = λ again. (nine, is, quiet, inr ((calls, reads), looks));
    reads = λ is. absurd (false≢true is);
    refused = λ is. absurd (false≢true (sym is));
    plain = λ ten. ap is_beyond_model is;
  }
  unbegun (lacked calls why reads none looks lacks is prints) empty some = record {
    planned = 10;
    line = no_table_line why;
    prints = prints;
    lacked = λ again. (why, is, refl, looks, lacks);
    stopped = λ is. absurd (omega arith);
    starved = λ is. absurd (omega arith);
    reads = λ again. (calls, reads);
    refused = λ is. absurd (false≢true (sym is));
    plain = λ ten. absurd (ten refl);
  }
  unbegun (stopped calls reads none stops is prints) empty some = record {
    planned = 5;
    line = flash_fault_line;
    prints = prints;
    lacked = λ is. absurd (omega arith);
    stopped = λ again. (is, refl, stops);
    starved = λ is. absurd (omega arith);
    reads = λ again. (calls, reads);
    refused = λ is. absurd (false≢true (sym is));
    plain = λ ten. ap is_beyond_model is;
  }
  unbegun (ran calls p start on reads starts does beside touches ended beyond printed) empty some =
      absurd (none-ended calls end.journal end.status (noted end.noted) empty some ended)

  -- the places of the run are those of the table that was handed in
  module _ (told : IsTrue device.tells) (clean : NothingDirty old.flash.told) (p q : Places) (start : TurnMoment) (starts : Starts device.tells device.blocks old.flash q start) (gives : TableGives device.blocks old.flash.told.now p) where
    found-places : q ≡ p
    found-places =
        let there : table_in_image device.blocks old.flash.told.now ≡ Some (starts.has.table, starts.has.which) = subst (λ (image : List ℕ). table_in_image device.blocks image ≡ Some (starts.has.table, starts.has.which)) (woken-now old.flash.told starts.woken clean (starts.wakes told)) (starts.has.decides told) in
        let table = same-pair starts.has.table gives.table starts.has.which gives.which (sym there ∙ gives.decides) in
        same-places q p (sym starts.has.gives ∙ ap (places_of device.blocks) table ∙ gives.gives)

    start-premises : (E : Setting) (s : State) → Premises E s (view_of p old.flash.told) inputs.files passes old.flash.counts new.flash.counts → Premises E s (view_of q start.told) inputs.files passes start.counts new.flash.counts
    start-premises E s premises =
        subst (λ (t : Told). Premises E s t inputs.files passes start.counts new.flash.counts) (ap (λ (x : Places). view_of x old.flash.told) (sym found-places) ∙ sym (start-seen q start starts told clean)) (record {
          clean = premises.clean;
          sound = premises.sound;
          shows = premises.shows;
          guarded = premises.guarded;
          files_told = premises.files_told;
          verifier_is = premises.verifier_is;
          no_chance = λ rose. premises.no_chance (rose-before old.flash.counts.chances start.counts.chances new.flash.counts.chances starts.waits.falls.chances rose);
        })

  -- the same headline, counted from where the device was handed in
  headline-from : (E : Setting) (s : State) (calls : List Call) (p : Places) (start : TurnMoment) → start.counts.made ≡ old.flash.counts.made → Headline E s (outcome calls end.journal end.status (seen_at p start) (seen_at p new.flash))
      → Headline E s (outcome calls end.journal end.status (seen_at p old.flash) (seen_at p new.flash))
  headline-from E s calls p start made holds = record {
    calls = holds.calls;
    all_calls = holds.all_calls;
    last = holds.last;
    run = holds.run;
    left = holds.left;
    armed = λ none. let by = holds.armed none in record { made = subst (λ (n : ℕ). new.flash.counts.made ≡ made_after n holds.last.cuts) made by.made; last = by.last };
    selects = holds.selects;
  }

  headline-by-table : Ends → HeadlineByTable passes device inputs end old new
  headline-by-table w p clean gives began told E s calls premises asks =
      let run = runs-by-table w began in
      let found = found-places told clean p run.places run.start run.starts gives in
      let holds = run.promises.headline told E s calls (start-premises told clean p run.places run.start run.starts gives E s premises) asks in
      subst (λ (x : Places). Headline E s (outcome calls end.journal end.status (seen_at x old.flash) (seen_at x new.flash))) found
      (headline-from E s calls run.places run.start run.starts.waits.made holds)

  -- ---- all is done

  served-from : (calls : List Call) (p q : Places) (start : TurnMoment) (script : List ℕ) → old.flash.counts.faults ≤ start.counts.faults
      → IsServed (outcome calls end.journal end.status (seen_at p old.flash) (seen_at p new.flash)) (in_short inputs.asked) inputs.list inputs.files script old.faults new.faults
      → IsServed (outcome calls end.journal end.status (seen_at q start) (seen_at q new.flash)) (in_short inputs.asked) inputs.list inputs.files script old.faults new.faults
  served-from calls p q start script later served = record {
    runs = served.runs;
    script_is = served.script_is;
    short = served.short;
    list_is = served.list_is;
    list_there = served.list_there;
    files_there = served.files_there;
    files_there_over = served.files_there_over;
    no_fault = λ rose. served.no_fault (rose-before old.flash.counts.faults start.counts.faults new.flash.counts.faults later rose);
    no_file_fault = served.no_file_fault;
    no_source_fault = served.no_source_fault;
    no_sink_fault = served.no_sink_fault;
  }

  -- a way on which nothing was touched, seen through places
  untouched-seen : (p : Places) → end.status ≢ 0 → end.journal ≡ [] → Way passes device.tells inputs.asked (given_to inputs) (in_model end) old new
      → Way passes device.tells inputs.asked (given_to inputs) (in_model end) (seen_in p old) (seen_in p new)
  untouched-seen p other none (way.starved empty same nine quiet same_bytes) = way.starved empty (ap (seen_at p) same) nine quiet same_bytes
  untouched-seen p other none (way.refused planned line empty same why prints) = way.refused planned line empty (ap (seen_at p) same) why prints
  untouched-seen p other none (way.ran calls on good asks has does ended printed) = absurd (none-ended calls end.journal end.status (noted end.noted) none other ended)

  gives-all : (image : List ℕ) (p : Places) → TableGives device.blocks image p → lacked_in device.blocks image ≡ None
  gives-all image p gives = ap (lacked_of device.blocks) gives.decides ∙ ap lacked_by gives.gives

  complete-by-table : Ends → CompleteByTable passes device inputs end old new
  complete-by-table (untouched none same other beyond w) p clean gives no_cut told E s asked_calls script premises asks is served =
      ways-are-complete passes device.tells inputs (in_model end) (seen_in p old) (seen_in p new) (untouched-seen p other none w) told E s asked_calls script premises asks is served
  complete-by-table (starved calls reads none looks nine quiet same) p clean gives no_cut told E s asked_calls script premises asks is served = inr nine
  complete-by-table (lacked calls why reads none looks lacks noted_is prints) p clean gives no_cut told E s asked_calls script premises asks is served =
      let one = gives-all old.flash.told.now p gives in
      let other : lacked_in device.blocks old.flash.told.now ≡ Some why = subst (λ (image : List ℕ). lacked_in device.blocks image ≡ Some why) (woken-now old.flash.told new.flash.told clean (looks.wakes told)) (lacks told) in
      absurd (cc)
  complete-by-table (stopped calls reads none stops noted_is prints) p clean gives no_cut told E s asked_calls script premises asks is served = absurd (caused stops.cause)
    where
      caused : Rose old.flash.counts.faults new.flash.counts.faults ⊎ Rose old.flash.counts.cuts new.flash.counts.cuts → ⊥
      caused (inl fault) = served.no_fault fault
      caused (inr cut) = no_cut none cut
  complete-by-table (ran calls q start on reads starts does beside touches ended beyond printed) p clean gives no_cut told E s asked_calls script premises asks is served =
      (promised passes device.tells inputs (in_model end) (record old { flash = seen_at q start }) (seen_in q new)
      (way.ran calls on reads.good reads.asks reads.has does ended printed)).complete told E s asked_calls script
      (start-premises told clean p q start starts gives E s premises) asks is (served-from asked_calls p q start script starts.waits.falls.faults served)

  -- ---- where no turn ran

  module _ (p : Places) (clean : NothingDirty old.flash.told) (gives : TableGives device.blocks old.flash.told.now p) where
    -- on a device with nothing dirty that has the bytes that it had
    kept-same : (mid : Told) → NothingDirty mid → mid.now ≡ old.flash.told.now → KeepsFlash device.blocks p gives.table old.flash.told mid
    kept-same mid mid_clean same = record {
      same = λ image may. ap (through p) (image_is_now mid image mid_clean may ∙ same);
      decides = λ guarded image may. subst (DecidesTable device.blocks gives.table) (sym (image_is_now mid image mid_clean may ∙ same)) (gives.which, gives.decides);
    }

    kept-woken : (mid : Told) → Wakes old.flash.told mid → KeepsFlash device.blocks p gives.table old.flash.told mid
    kept-woken mid wakes = kept-same mid (woken-clean old.flash.told mid wakes) (woken-now old.flash.told mid clean wakes)

    -- where the repair of the table was stopped
    kept-mending : (woken : Told) → Wakes old.flash.told woken → StopsMending device.blocks woken new.flash.told → KeepsFlash device.blocks p gives.table old.flash.told new.flash.told
    kept-mending woken wakes stops =
        let there : table_in_image device.blocks old.flash.told.now ≡ Some (stops.table, stops.which) = subst (λ (image : List ℕ). table_in_image device.blocks image ≡ Some (stops.table, stops.which)) (woken-now old.flash.told woken clean wakes) stops.decides in
        let table = same-pair stops.table gives.table stops.which gives.which (sym there ∙ gives.decides) in
        let places : places_of device.blocks stops.table ≡ Ok p = ap (places_of device.blocks) table ∙ gives.gives in
        record {
          same = λ image may. repair-keeps device.blocks stops.table stops.which p woken new.flash.told image places (woken-clean old.flash.told woken wakes) stops.beside may
              ∙ ap (through p) (woken-now old.flash.told woken clean wakes);
          decides = λ guarded image may. subst (λ (t : Table). DecidesTable device.blocks t image) table
              (stops.stays (subst (HeadersGuarded device.blocks) (sym (woken-same old.flash.told woken clean wakes)) guarded) image may);
        }

    kept-stopped : (woken : Told) → Wakes old.flash.told woken → (new.flash.told ≡ woken) ⊎ StopsMending device.blocks woken new.flash.told → KeepsFlash device.blocks p gives.table old.flash.told new.flash.told
    kept-stopped woken wakes (inl same) = subst (KeepsFlash device.blocks p gives.table old.flash.told) (sym same) (kept-woken woken wakes)
    kept-stopped woken wakes (inr stops) = kept-mending woken wakes stops

  kept-by-table : Ends → KeptByTable device end old.flash new.flash
  kept-by-table (untouched none same other beyond w) told p clean gives empty some = kept-same p clean gives new.flash.told (subst (λ (m : TurnMoment). NothingDirty m.told) (sym same) clean) (ap (λ (m : TurnMoment). m.told.now) same)
  kept-by-table (starved calls reads none looks nine quiet same) told p clean gives empty some = kept-woken p clean gives new.flash.told (looks.wakes told)
  kept-by-table (lacked calls why reads none looks lacks noted_is prints) told p clean gives empty some = kept-woken p clean gives new.flash.told (looks.wakes told)
  kept-by-table (stopped calls reads none stops noted_is prints) told p clean gives empty some = kept-stopped p clean gives stops.woken (stops.wakes told) (stops.left told)
  kept-by-table (ran calls q start on reads starts does beside touches ended beyond printed) told p clean gives empty some = absurd (none-ended calls end.journal end.status (noted end.noted) empty some ended)

  pub promised-by-table : Ends → PromisedByTable passes device inputs end old new
  promised-by-table w = record {
    unbegun = unbegun w;
    run = runs-by-table w;
    kept = kept-by-table w;
    headline = headline-by-table w;
    complete = complete-by-table w;
  }
