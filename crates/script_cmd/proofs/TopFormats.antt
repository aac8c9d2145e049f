-- The command `format`, by the words and behind a list.
use Rattle.std.proofs.Common.{◌≡◌, ◌≤◌, ◌||◌, ◌==◌, ℕ, Bool, List, Option, Some, None, Result, Ok, Err, refl, sym, ap, subst, ◌∙◌, ◌⊎◌, inl, inr, arith, IsTrue, IsFalse, []}
use Rattle.fip_tables.specs.Files.{Lacks}
use Rattle.flash_format.specs.{Formatted.IsBlank, declared.formatting.Formatted.Formatted, declared.stops.FormatStop.FormatStop}
use Rattle.flash_format.specs.Stops.{IsOfLayout, LayoutBy}
use Rattle.flash_format.specs.declared.stops.FormatStop.TheVariants.{Input, ReadFailed, Flash}
use Rattle.meta_layout.specs.Rows.{fitted}
use Rattle.fwu_formats.specs.{Layout.Layout, declared.kinds.LayoutFault.LayoutFault}
use Rattle.fwu_model.specs.{Reply.Turn, Causes.Faults, Causes.may_fail_before}
use Rattle.fwu_model.specs.declared.kinds.Note as model
use Rattle.host_io.specs.{Contents.Directory, Printed.Prints}
use Rattle.fwu_words.specs.Order as ask
use Rattle.flash_commands.specs.Formatting.{Formats, Tries, format_status, format_text, list_refused, starved, tried}
use Rattle.script_turns.specs.Powered.{TurnMoment}
use Rattle.script_runs.specs.{Ending.is_beyond_model, Ending.noted, declared.done.Note.Note}
use Rattle.script_runs.specs.Ways.{Given, HasGoodList, Refuses}
use Rattle.script_runs.specs.declared.done.Note.TheVariants as note
use Rattle.script_runs.proofs.{TopWays.device-of, TopWays.end-of, TopWays.world-of, TopSources.by-plan, TopSources.done-planned, TopSources.not-done}
use Rattle.flash_commands.proofs.FormatFlash.{format-done}
use Rattle.script_cmd.specs.{NoTurns.FormattedBy, Handed.RefusesBadList}
use Rattle.script_cmd.proofs.TopCompletes.{format-completes, list-other, list-status}
use Rattle.script_cmd.proofs.TopShows.{good-list-kept, refused-list, starved-list}
use Rattle.script_cmd.proofs.TopLists.{from-sink, refused-behind}

-- ---- by what it did

module _ (passes : List ℕ → Bool) (tells : Bool) (g : Given) (file : List ℕ) (L : Layout) (blocks : ℕ) (old new : TurnMoment) (status : ℕ) (said : Note) (journal : List Turn) (taken_before taken_after : Option (List ℕ)) (faults_before faults_after : Faults) where
  lists : Formats passes (device-of tells blocks) g file L (world-of old taken_before faults_before) (world-of new taken_after faults_after) status said → RefusesBadList g old new status faults_before faults_after
  lists (starved nine is same none still) = starved-list g old new status faults_before faults_after same nine
  lists (tried good r t prints is) = good-list-kept g old new status faults_before faults_after good
  lists (list_refused same quiet refused) = refused-list g old new status faults_before faults_after (ask.format L.banks L.rows file) (noted said) taken_before taken_after same refused

  made-none : Formats passes (device-of tells blocks) g file L (world-of old taken_before faults_before) (world-of new taken_after faults_after) status said → new.counts.made ≡ old.counts.made
  made-none (starved nine is same none still) = ap (λ (m : TurnMoment). m.counts.made) same
  made-none (tried good r t prints is) = t.made
  made-none (list_refused same quiet refused) = ap (λ (m : TurnMoment). m.counts.made) same

  arms-none : old.armed ≡ None → Formats passes (device-of tells blocks) g file L (world-of old taken_before faults_before) (world-of new taken_after faults_after) status said → new.armed ≡ None
  arms-none unarmed (starved nine is same none still) = ap (λ (m : TurnMoment). m.armed) same ∙ unarmed
  arms-none unarmed (tried good r t prints is) = t.unarmed
  arms-none unarmed (list_refused same quiet refused) = ap (λ (m : TurnMoment). m.armed) same ∙ unarmed

  guards : Formats passes (device-of tells blocks) g file L (world-of old taken_before faults_before) (world-of new taken_after faults_after) status said → IsTrue tells → new.told.guard ≡ old.told.guard
  guards (starved nine is same none still) told = ap (λ (m : TurnMoment). m.told.guard) same
  guards (tried good r t prints is) told = t.guard told
  guards (list_refused same quiet refused) told = ap (λ (m : TurnMoment). m.told.guard) same

  -- a package that told files lack
  unread : (r : Result Formatted FormatStop) (M : Layout) → fitted L blocks ≡ Ok M → LayoutBy (fitted L blocks) r → IsOfLayout r ⊎ (r ≡ Err ReadFailed) → format_status r ≡ 2
  unread r M fits by (inl layout) = absurd (subst (λ (f : Result Layout LayoutFault). LayoutBy f r) fits by layout)
  unread r M fits by (inr is) = ap format_status is

  lacks-package : Formats passes (device-of tells blocks) g file L (world-of old taken_before faults_before) (world-of new taken_after faults_after) status said → Lacks g.files file → (M : Layout) → fitted L blocks ≡ Ok M → IsTrue (may_fail_before status || (status == 13))
  lacks-package (starved nine is same none still) lacks M fits = subst (λ (k : ℕ). IsTrue (may_fail_before k || (k == 13))) (sym nine) refl
  lacks-package (tried good r t prints is) lacks M fits =
      by-plan (format_text r) (format_status r) status taken_before taken_after faults_before.sink faults_after.sink prints (λ k. may_fail_before k || (k == 13)) refl refl
      (subst (λ (k : ℕ). IsTrue (may_fail_before k || (k == 13))) (sym (unread r M fits t.layout (t.missing lacks).0)) refl)
  lacks-package (list_refused same quiet refused) lacks M fits =
      list-status (ask.format L.banks L.rows file) (λ is. cc) (λ is. cc) g status (noted said) (world-of old taken_before faults_before)
      (world-of new taken_after faults_after) refused (λ k. may_fail_before k || (k == 13)) refl refl refl refl

  -- status 0 is of a flash that was formatted
  blanks-at : (r : Result Formatted FormatStop) → Tries passes tells g.files file L blocks old new faults_before.files faults_after.files r → Prints (format_text r) (format_status r) status taken_before taken_after faults_before.sink faults_after.sink
      → status ≡ 0 → IsTrue tells → IsBlank L new.told.now
  blanks-at (Ok done) t prints zero told = t.blank told
  blanks-at (Err (Input f)) t prints zero told = absurd (not-done (format_text (Err (Input f))) 7 status taken_before taken_after faults_before.sink faults_after.sink (λ e. omega arith) prints zero)
  blanks-at (Err ReadFailed) t prints zero told = absurd (not-done (format_text (Err ReadFailed)) 2 status taken_before taken_after faults_before.sink faults_after.sink (λ e. omega arith) prints zero)
  blanks-at (Err (Flash stop)) t prints zero told = absurd (not-done (format_text (Err (Flash stop))) 5 status taken_before taken_after faults_before.sink faults_after.sink (λ e. omega arith) prints zero)

  blanks : Formats passes (device-of tells blocks) g file L (world-of old taken_before faults_before) (world-of new taken_after faults_after) status said → status ≡ 0 → IsTrue tells → IsBlank L new.told.now
  blanks (starved nine is same none still) zero told = absurd (omega arith)
  blanks (tried good r t prints is) zero told = blanks-at r t prints zero told
  blanks (list_refused same quiet refused) zero told =
      absurd
      (list-other (ask.format L.banks L.rows file) (λ is. cc) (λ is. cc) g status (noted said) (world-of old taken_before faults_before)
      (world-of new taken_after faults_after) refused 0 refl zero)

  powers : Formats passes (device-of tells blocks) g file L (world-of old taken_before faults_before) (world-of new taken_after faults_after) status said → status ≡ 0 → IsTrue new.power
  powers (starved nine is same none still) zero = absurd (omega (arith, nine, zero))
  powers (tried good r t prints is) zero = t.power ∙ format-done r (done-planned _ _ _ _ _ _ _ prints zero)
  powers (list_refused same quiet refused) zero =
      absurd
      (list-other (ask.format L.banks L.rows file) (λ is. cc) (λ is. cc) g status (noted said) (world-of old taken_before faults_before)
      (world-of new taken_after faults_after) refused 0 refl zero)

  pub formatted-by : old.armed ≡ None → journal ≡ [] → Formats passes (device-of tells blocks) g file L (world-of old taken_before faults_before) (world-of new taken_after faults_after) status said → FormattedBy passes (device-of tells blocks) g file L (end-of journal status said) (world-of old taken_before faults_before) (world-of new taken_after faults_after)
  formatted-by unarmed none formats = record {
    formats = formats;
    refuses_list = lists formats;
    lacking = lacks-package formats;
    blank = blanks formats;
    power = powers formats;
    no_turns = none;
    made = made-none formats;
    unarmed = arms-none unarmed formats;
    guard = guards formats;
    complete = format-completes passes g file L blocks old new status said taken_before taken_after faults_before faults_after tells formats;
  }

  -- a list was refused, and nothing else was done
  pub refused-formats : (planned : ℕ) (line : List ℕ) (n : model.Note) → new ≡ old → old.armed ≡ None → journal ≡ [] → IsFalse (is_beyond_model said) → noted said ≡ n
      → Refuses (Some (ask.format L.banks L.rows file)) g faults_before faults_after planned n line → Prints line planned status taken_before taken_after faults_before.sink faults_after.sink
      → FormattedBy passes (device-of tells blocks) g file L (end-of journal status said) (world-of old taken_before faults_before) (world-of new taken_after faults_after)
  refused-formats planned line n same unarmed none quiet is why prints =
      formatted-by unarmed none
      (list_refused same quiet
      (planned, line, subst (λ (x : model.Note). Refuses (Some (ask.format L.banks L.rows file)) g faults_before faults_after planned x line) (sym is) why, prints))

  -- nothing was done for want of memory
  pub starved-formats : new ≡ old → old.armed ≡ None → journal ≡ [] → said ≡ note.Nothing → status ≡ 9 → (taken_after ≡ taken_before) × (faults_after.sink ≡ faults_before.sink) → faults_after.files ≡ faults_before.files → FormattedBy passes (device-of tells blocks) g file L (end-of journal status said) (world-of old taken_before faults_before) (world-of new taken_after faults_after)
  starved-formats same unarmed none is nine stuck still = formatted-by unarmed none (starved nine is same stuck still)

pub none-some : {A : Type 0} (x : A) (o : Option A) → o ≡ None → o ≡ Some x → ⊥
none-some x o none some = cc

module _ (passes : List ℕ → Bool) (tells : Bool) (told files : Option Directory) (name : List ℕ) (script : Option (List ℕ)) (file : List ℕ) (L : Layout) (blocks : ℕ) (old new : TurnMoment) (status : ℕ) (said : Note) (journal : List Turn) (taken_before taken_after : Option (List ℕ)) (first faults_before faults_after : Faults) where
  -- what is formatted without a list is formatted behind one that was read and is one
  pub formats-with-list : told ≡ files → HasGoodList (Some name) files → faults_before.files ≡ first.files → first.source ≡ faults_before.source → first.sink ≡ faults_before.sink → old.armed ≡ None
      → FormattedBy passes (device-of tells blocks) (record { list = None; files = told; script = script }) file L (end-of journal status said) (world-of old taken_before faults_before) (world-of new taken_after faults_after)
      → FormattedBy passes (device-of tells blocks) (record { list = Some name; files = files; script = script }) file L (end-of journal status said) (world-of old taken_before first) (world-of new taken_after faults_after)
  formats-with-list same good counted source sink unarmed by =
      formatted-by passes tells (record { list = Some name; files = files; script = script }) file L blocks old new status said journal taken_before taken_after first faults_after unarmed by.no_turns (go by.formats)
    where
      later : first.files ≤ faults_before.files
      later = omega (arith, counted)

      go : Formats passes (device-of tells blocks) (record { list = None; files = told; script = script }) file L (world-of old taken_before faults_before) (world-of new taken_after faults_after) status said
          → Formats passes (device-of tells blocks) (record { list = Some name; files = files; script = script }) file L (world-of old taken_before first) (world-of new taken_after faults_after) status said
      go (starved nine is kept none still) = starved nine is kept (none.0, none.1 ∙ sym sink) (still ∙ counted)
      go (tried listed r t prints is) =
          tried good r
          (subst (λ (n : ℕ). Tries passes tells files file L blocks old new n faults_after.files r) counted
          (subst (λ (d : Option Directory). Tries passes tells d file L blocks old new faults_before.files faults_after.files r) same t))
          (from-sink sink prints) is
      go (list_refused kept quiet refused) =
          list_refused kept quiet
          (refused-behind told files name script old new status (noted said) taken_before taken_after first faults_before faults_after (ask.format L.banks L.rows file) good later
          source sink refused)
