-- The ways that a run behind a partition table may end, from what its parts did.
use Rattle.std.proofs.Common.{◌≡◌, ◌≢◌, ℕ, Bool, List, Option, Some, None, sym, ap, subst, ◌∙◌, arith, []}
use Rattle.std.specs.Prelude.{IsFalse}
use Rattle.fwu_model.specs.{Reply.Turn, Causes.Faults}
use Rattle.host_io.specs.{Contents.Directory, Printed.Prints}
use Rattle.fwu_words.specs.Order.{Asked}
use Rattle.script_turns.specs.Powered.{TurnMoment, at}
use Rattle.script_runs.specs.{declared.done.Note.Note, Ending.is_beyond_model, Ending.noted}
use Rattle.script_runs.specs.{Ending.Printed, Ways.Given, Ways.HasGoodList, Ways.Refuses}
use Rattle.script_runs.specs.declared.done.Note.TheVariants as note
use Rattle.script_runs.specs.ByTable.{flash_fault_line, no_table_line, seen_at}
use Rattle.script_runs.specs.Ways as way
use Rattle.script_runs.specs.WaysByTable.{WayByTable, untouched, starved, lacked, stopped, ran}
pub use Rattle.script_runs.proofs.TopSources.{not-done as not-nothing}
use Rattle.script_runs.proofs.TopWays.{device-of, end-of, world-of, ran-from, refused-by, with-list}

module _ (passes : List ℕ → Bool) (tells : Bool) (blocks : ℕ) (journal : List Turn) (status : ℕ) (said : Note) (old new : TurnMoment) (taken_before taken_after : Option (List ℕ)) where
  -- nothing was touched, and the line of the cause was put
  pub table-refused : (asked : Option Asked) (g : Given) (faults_before faults_after : Faults) (planned : ℕ) (line : List ℕ) (told : Note) → journal ≡ [] → new ≡ old → said ≡ told → planned ≢ 0 → IsFalse (is_beyond_model told)
      → Refuses asked g faults_before faults_after planned (noted told) line → Prints line planned status taken_before taken_after faults_before.sink faults_after.sink → WayByTable passes (device-of tells blocks) asked g (end-of journal status said) (world-of old taken_before faults_before) (world-of new taken_after faults_after)
  table-refused asked g faults_before faults_after planned line told none same is some beyond why prints =
      untouched none same (not-nothing line planned status taken_before taken_after faults_before.sink faults_after.sink some prints) (subst (λ (n : Note). IsFalse (is_beyond_model n)) (sym is) beyond)
      (refused-by passes tells journal status (noted said) old new taken_before taken_after asked g faults_before faults_after planned line (noted told) none same (ap noted is) why prints)

  -- nothing was touched for want of memory
  pub table-starved : (asked : Option Asked) (g : Given) (faults_before faults_after : Faults) → journal ≡ [] → new ≡ old → status ≡ 9 → said ≡ note.Nothing → (taken_after ≡ taken_before) × (faults_after.sink ≡ faults_before.sink) → WayByTable passes (device-of tells blocks) asked g (end-of journal status said) (world-of old taken_before faults_before) (world-of new taken_after faults_after)
  table-starved asked g faults_before faults_after none same nine is quiet =
      untouched none same (λ zero_is. absurd (omega arith)) (ap is_beyond_model is) (way.starved none same nine (ap noted is) quiet)

  -- a way without a list is one behind a list that was read and is one
  pub table-with-list : (asked : Option Asked) (told files : Option Directory) (name : List ℕ) (script : Option (List ℕ)) (first faults_before faults_after : Faults) → told ≡ files → HasGoodList (Some name) files
      → faults_before.files ≡ first.files → first.source ≡ faults_before.source → first.sink ≡ faults_before.sink
      → WayByTable passes (device-of tells blocks) asked (record { list = None; files = told; script = script }) (end-of journal status said) (world-of old taken_before faults_before) (world-of new taken_after faults_after)
      → WayByTable passes (device-of tells blocks) asked (record { list = Some name; files = files; script = script }) (end-of journal status said) (world-of old taken_before first) (world-of new taken_after faults_after)
  table-with-list asked told files name script first faults_before faults_after same_files good counted source sink (untouched none same other beyond w) =
      untouched none same other beyond (with-list passes tells journal status (noted said) old new taken_before taken_after asked told files name script first faults_before faults_after same_files good counted source sink w)
  table-with-list asked told files name script first faults_before faults_after same_files good counted source sink (starved calls reads none looks nine is quiet) =
      starved calls (record { good = good; asks = reads.asks; has = reads.has }) none looks nine is (quiet.0, quiet.1 ∙ sym sink)
  table-with-list asked told files name script first faults_before faults_after same_files good counted source sink (lacked calls why reads none looks lacks is prints) =
      lacked calls why (record { good = good; asks = reads.asks; has = reads.has }) none looks lacks is (subst (λ (n : ℕ). Prints (no_table_line why) 10 status taken_before taken_after n faults_after.sink) (sym sink) prints)
  table-with-list asked told files name script first faults_before faults_after same_files good counted source sink (stopped calls reads none stops is prints) =
      stopped calls (record { good = good; asks = reads.asks; has = reads.has }) none stops is (subst (λ (n : ℕ). Prints flash_fault_line 5 status taken_before taken_after n faults_after.sink) (sym sink) prints)
  table-with-list asked told files name script first faults_before faults_after same_files good counted source sink (ran calls p start on reads starts does beside touches ended beyond printed) =
      ran calls p start on (record { good = good; asks = reads.asks; has = reads.has }) starts
      (ran-from passes tells files told journal (seen_at p start) (seen_at p (at on new.told new.writes new.counts new.armed new.power)) faults_before.files first.files faults_after.files (sym same_files) counted does)
      beside touches ended beyond (subst (λ (n : ℕ). Printed journal status taken_before taken_after n faults_after.sink) (sym sink) printed)
