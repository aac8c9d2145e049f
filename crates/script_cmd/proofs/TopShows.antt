-- The command `show`, by the words and behind a list.
use Rattle.std.proofs.Common.{◌≡◌, ◌≤◌, ◌||◌, ◌==◌, ℕ, Bool, List, Option, Some, None, Err, refl, sym, ap, subst, ◌∙◌, inl, IsTrue, le_refl, [], arith, not}
use Rattle.flash_core.specs.{Told.NothingDirty, declared.flash.Counts.Counts}
use Rattle.fwu_formats.specs.Digests.{digests_of}
use Rattle.fwu_model.specs.{Allow.list_bytes, Reply.Turn, Causes.Faults, Causes.may_fail_before, declared.kinds.Note.Note}
use Rattle.fwu_model.specs.declared.kinds.Note.TheVariants as note
use Rattle.host_io.specs.{Contents.Directory, Printed.Prints}
use Rattle.fwu_words.specs.Order.{Asked}
use Rattle.fwu_words.specs.Order as ask
use Rattle.script_turns.specs.{Powered.TurnMoment, Turning.NoneFalls}
use Rattle.script_runs.specs.Ways.{Given, HasGoodList, Refuses}
use Rattle.flash_commands.specs.Showing.{Showed, RefusedList, starved, list_refused, found}
use Rattle.script_runs.proofs.{TopWays.end-of, TopWays.world-of, TopSources.by-plan, TopSources.done-planned}
use Rattle.script_cmd.specs.{NoTurns.ShowedBy, Handed.RefusesBadList}
use Rattle.script_cmd.proofs.{PromiseEnds.bad-status, PromiseEnds.lacks-list, PromiseTurns.some-from, PromiseTurns.some-at}
use Rattle.script_cmd.proofs.{TopLists.from-sink, TopLists.refused-behind, TopCompletes.list-other, TopCompletes.show-completes}

pub falls-none : (counts : Counts) → NoneFalls counts counts
falls-none counts = record { faults = le_refl counts.faults; cuts = le_refl counts.cuts; reached = le_refl counts.reached; chances = le_refl counts.chances }

-- ---- a bad list

module _ (g : Given) (old new : TurnMoment) (status : ℕ) (faults_before faults_after : Faults) where
  pub starved-list : new ≡ old → status ≡ 9 → RefusesBadList g old new status faults_before faults_after
  starved-list same nine = record {
    lacking = λ lacks. (same, subst (λ (k : ℕ). IsTrue (may_fail_before k)) (sym nine) refl);
    bad = some-from (list_bytes g.list g.files) _ (λ bytes told n bad. (same, inl (subst (λ (k : ℕ). IsTrue ((k == 13) || ((k == 3) || (k == 9)))) (sym nine) refl)));
  }

  pub good-list-kept : HasGoodList g.list g.files → RefusesBadList g old new status faults_before faults_after
  good-list-kept good = record {
    lacking = λ lacks. absurd (good.there lacks);
    bad = some-from (list_bytes g.list g.files) _ (λ bytes told n bad. absurd (some-at (list_bytes g.list g.files) (λ b. (k : ℕ) → digests_of b ≡ Err k → ⊥) bytes good.good told n bad));
  }

  pub refused-list : (asked : Asked) (noted : Note) (taken_before taken_after : Option (List ℕ)) → new ≡ old → RefusedList asked g status noted (world-of old taken_before faults_before) (world-of new taken_after faults_after) → RefusesBadList g old new status faults_before faults_after
  refused-list asked noted taken_before taken_after same (planned, line, why, prints) = record {
    lacking = λ lacks. (same, by-plan line planned status taken_before taken_after faults_before.sink faults_after.sink prints may_fail_before refl refl (lacks-list (Some asked) g faults_before faults_after planned noted line why lacks));
    bad = some-from (list_bytes g.list g.files) _ (λ bytes told n bad. (same, bad-status (Some asked) g faults_before faults_after planned noted line status taken_before taken_after faults_before.sink faults_after.sink why prints bytes n told bad));
  }

-- ---- by how it ended

module _ (tells : Bool) (g : Given) (old new : TurnMoment) (status : ℕ) (noted : Note) (journal : List Turn) (taken_before taken_after : Option (List ℕ)) (faults_before faults_after : Faults) where
  lists : Showed tells g (world-of old taken_before faults_before) (world-of new taken_after faults_after) status noted → RefusesBadList g old new status faults_before faults_after
  lists (starved nine quiet same none) = starved-list g old new status faults_before faults_after same nine
  lists (list_refused same refused) = refused-list g old new status faults_before faults_after ask.show noted taken_before taken_after same refused
  lists (found good planned line wakes finds once power still prints) = good-list-kept g old new status faults_before faults_after good

  unwritten : Showed tells g (world-of old taken_before faults_before) (world-of new taken_after faults_after) status noted → new.writes ≡ old.writes
  unwritten (starved nine quiet same none) = ap (λ (m : TurnMoment). m.writes) same
  unwritten (list_refused same refused) = ap (λ (m : TurnMoment). m.writes) same
  unwritten (found good planned line wakes finds once power still prints) = still

  powers : Showed tells g (world-of old taken_before faults_before) (world-of new taken_after faults_after) status noted → status ≡ 0 → IsTrue new.power
  powers (starved nine quiet same none) zero = absurd (omega (arith, nine, zero))
  powers (list_refused same refused) zero =
      absurd (list-other ask.show (λ is. cc) (λ is. cc) g status noted (world-of old taken_before faults_before) (world-of new taken_after faults_after) refused 0 refl zero)
  powers (found good planned line wakes finds once power still prints) zero = power ∙ ap (λ (n : ℕ). not (n == 5)) (done-planned _ _ _ _ _ _ _ prints zero)

  pub showed-by : Showed tells g (world-of old taken_before faults_before) (world-of new taken_after faults_after) status noted → (IsTrue tells → NothingDirty old.told → new.told ≡ old.told) → (IsTrue tells → new.told.guard ≡ old.told.guard) → journal ≡ []
      → NoneFalls old.counts new.counts → new.counts.made ≡ old.counts.made → new.armed ≡ None → ShowedBy tells g (end-of journal status noted) (world-of old taken_before faults_before) (world-of new taken_after faults_after)
  showed-by showed content guard none counts made unarmed = record {
    showed = showed;
    refuses_list = lists showed;
    writes = unwritten showed;
    content = content;
    guard = guard;
    no_turns = none;
    counts = counts;
    made = made;
    unarmed = unarmed;
    power = powers showed;
    complete = show-completes g old.counts new.counts status taken_before taken_after faults_before faults_after tells old new noted refl refl showed;
  }

  -- nothing was done
  idle-shows : Showed tells g (world-of old taken_before faults_before) (world-of new taken_after faults_after) status noted → new ≡ old → old.armed ≡ None → journal ≡ [] → ShowedBy tells g (end-of journal status noted) (world-of old taken_before faults_before) (world-of new taken_after faults_after)
  idle-shows showed same unarmed none =
      showed-by showed (λ told clean. ap (λ (m : TurnMoment). m.told) same) (λ told. ap (λ (m : TurnMoment). m.told.guard) same) none
      (subst (λ (m : TurnMoment). NoneFalls old.counts m.counts) (sym same) (falls-none old.counts)) (ap (λ (m : TurnMoment). m.counts.made) same) (ap (λ (m : TurnMoment). m.armed) same ∙ unarmed)

  -- a list was refused
  pub refused-shows : (planned : ℕ) (line : List ℕ) (n : Note) → new ≡ old → old.armed ≡ None → journal ≡ [] → noted ≡ n → Refuses (Some ask.show) g faults_before faults_after planned n line → Prints line planned status taken_before taken_after faults_before.sink faults_after.sink
      → ShowedBy tells g (end-of journal status noted) (world-of old taken_before faults_before) (world-of new taken_after faults_after)
  refused-shows planned line n same unarmed none is why prints =
      idle-shows (list_refused same (planned, line, subst (λ (x : Note). Refuses (Some ask.show) g faults_before faults_after planned x line) (sym is) why, prints)) same unarmed none

  -- memory was wanting
  pub starved-shows : new ≡ old → old.armed ≡ None → journal ≡ [] → status ≡ 9 → noted ≡ note.Nothing → (taken_after ≡ taken_before) × (faults_after.sink ≡ faults_before.sink) → ShowedBy tells g (end-of journal status noted) (world-of old taken_before faults_before) (world-of new taken_after faults_after)
  starved-shows same unarmed none nine quiet stuck = idle-shows (starved nine quiet same stuck) same unarmed none

module _ (tells : Bool) (told files : Option Directory) (name : List ℕ) (script : Option (List ℕ)) (old new : TurnMoment) (status : ℕ) (noted : Note) (journal : List Turn) (taken_before taken_after : Option (List ℕ)) (first faults_before faults_after : Faults) where
  -- what is shown without a list is shown behind one that was read and is one
  pub shows-with-list : HasGoodList (Some name) files → first.files ≤ faults_before.files → first.source ≡ faults_before.source → first.sink ≡ faults_before.sink
      → ShowedBy tells (record { list = None; files = told; script = script }) (end-of journal status noted) (world-of old taken_before faults_before) (world-of new taken_after faults_after)
      → ShowedBy tells (record { list = Some name; files = files; script = script }) (end-of journal status noted) (world-of old taken_before first) (world-of new taken_after faults_after)
  shows-with-list good later source sink by =
      showed-by tells (record { list = Some name; files = files; script = script }) old new status noted journal taken_before taken_after first faults_after (go by.showed) by.content by.guard by.no_turns by.counts by.made by.unarmed
    where
      go : Showed tells (record { list = None; files = told; script = script }) (world-of old taken_before faults_before) (world-of new taken_after faults_after) status noted
          → Showed tells (record { list = Some name; files = files; script = script }) (world-of old taken_before first) (world-of new taken_after faults_after) status noted
      go (starved nine quiet same none) = starved nine quiet same (none.0, none.1 ∙ sym sink)
      go (list_refused same refused) = list_refused same
          (refused-behind told files name script old new status noted taken_before taken_after first faults_before faults_after ask.show good later
          source sink refused)
      go (found listed planned line wakes finds once power still prints) = found good planned line wakes finds once power still (from-sink sink prints)
