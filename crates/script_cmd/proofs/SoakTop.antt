-- The command `soak`, by the words and behind a list.
use Rattle.std.proofs.Common.{◌≡◌, ◌≤◌, ℕ, Bool, List, Option, Some, None, sym, subst, IsFalse, ◌∙◌, arith, []}
use Rattle.fwu_model.specs.{Reply.Turn, Causes.Faults}
use Rattle.fwu_model.specs.declared.kinds.Note as model
use Rattle.host_io.specs.{Contents.Directory, Printed.Prints}
use Rattle.fwu_words.specs.Order as ask
use Rattle.gen_core.specs.Calls.{soak_calls}
use Rattle.script_turns.specs.Powered.{TurnMoment}
use Rattle.script_runs.specs.{Ending.is_beyond_model, Ending.noted}
use Rattle.script_runs.specs.declared.done.Note.{Note}
use Rattle.flash_commands.specs.SoakWays.{SoakWay, SoakEnds, list_refused, starved, too_small, not_formatted, ran}
use Rattle.script_runs.specs.Ways.{Given, HasGoodList, Refuses}
use Rattle.script_runs.proofs.TopWays.{device-of, end-of, world-of}
use Rattle.script_cmd.proofs.TopLists.{from-sink, refused-behind}

module _ (tells : Bool) (g : Given) (seed n blocks : ℕ) (journal : List Turn) (status : ℕ) (said : Note) (old new : TurnMoment) (taken_before taken_after : Option (List ℕ)) (faults_before faults_after : Faults) where
  -- a list was refused, and nothing else was done
  pub refused-soaks : (planned : ℕ) (line : List ℕ) (told : model.Note) → journal ≡ [] → new ≡ old → IsFalse (is_beyond_model said) → noted said ≡ told
      → Refuses (Some (ask.soak seed n)) g faults_before faults_after planned told line → Prints line planned status taken_before taken_after faults_before.sink faults_after.sink
      → SoakWay (device-of tells blocks) g seed n (end-of journal status said) (world-of old taken_before faults_before) (world-of new taken_after faults_after)
  refused-soaks planned line told none same quiet is why prints =
      list_refused none same quiet (planned, line, subst (λ (x : model.Note). Refuses (Some (ask.soak seed n)) g faults_before faults_after planned x line) (sym is) why, prints)

module _ (tells : Bool) (told files : Option Directory) (name : List ℕ) (script : Option (List ℕ)) (seed n blocks : ℕ) (journal : List Turn) (status : ℕ) (said : Note) (old new : TurnMoment) (taken_before taken_after : Option (List ℕ)) (first faults_before faults_after : Faults) where
  -- what is done without a list is done behind one that was read and is one
  pub soaks-with-list : HasGoodList (Some name) files → faults_before.files ≡ first.files → first.source ≡ faults_before.source → first.sink ≡ faults_before.sink
      → SoakWay (device-of tells blocks) (record { list = None; files = told; script = script }) seed n (end-of journal status said) (world-of old taken_before faults_before) (world-of new taken_after faults_after)
      → SoakWay (device-of tells blocks) (record { list = Some name; files = files; script = script }) seed n (end-of journal status said) (world-of old taken_before first) (world-of new taken_after faults_after)
  soaks-with-list good counted source sink went = go went
    where
      later : first.files ≤ faults_before.files
      later = omega (arith, counted)

      go : SoakWay (device-of tells blocks) (record { list = None; files = told; script = script }) seed n (end-of journal status said) (world-of old taken_before faults_before) (world-of new taken_after faults_after)
          → SoakWay (device-of tells blocks) (record { list = Some name; files = files; script = script }) seed n (end-of journal status said) (world-of old taken_before first) (world-of new taken_after faults_after)
      go (list_refused none same quiet refused) =
          list_refused none same quiet
          (refused-behind told files name script old new status (noted said) taken_before taken_after first faults_before faults_after (ask.soak seed n) good later
          source sink refused)
      go (starved none same nine quiet stuck) = starved none same nine quiet (stuck.0, stuck.1 ∙ sym sink)
      go (too_small listed small none same is prints) = too_small good small none same is (from-sink sink prints)
      go (not_formatted listed large none stop tries is kept prints) = not_formatted good large none stop tries is (kept ∙ counted) (from-sink sink prints)
      go (ran listed large done start on tries off power turns ends quiet kept) =
          ran good large done start on tries off power turns (subst (λ (k : ℕ). SoakEnds n (soak_calls seed n) (end-of journal status (noted said)) taken_before taken_after k faults_after.sink) (sym sink) ends) quiet (kept ∙ counted)
