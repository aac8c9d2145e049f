-- What `soak` promises, whichever way it ended.
use Rattle.std.proofs.Common.{◌≡◌, ◌≢◌, ◌⊎◌, ◌||◌, ◌==◌, ℕ, Bool, true, false, not, if◌then◌else◌, List, ◌∷◌, ◌++◌, Option, Some, None, Ok, Err, refl, sym, ap, subst, ◌∙◌, inl, inr, arith, append-nil, IsTrue, IsFalse, IsSome, Contains, length, slice_get, ◌+◌}
use Rattle.std.specs.Prelude.{nat_lt, ◌*◌, option_map, []}
use Rattle.base_core.specs.Block.{block_bytes}
use Rattle.fip_tables.specs.{Images.images_fault, Images.image_fault as reader_fault, declared.images.ImageFault.ImageFault}
use Rattle.fip_tables.specs.declared.images.ImageFault.TheVariants as image
use Rattle.fwu_formats.specs.Package.{Entry, Toc, entry_of}
use Rattle.fwu_formats.specs.Layout.{ImageRow, Layout, fits_layout, blocks_needed}
use Rattle.fwu_model.specs.{Answer.first_image_fault, Answer.image_fault, Causes.cuts_in}
use Rattle.fwu_model.specs.{Causes.LacksList, Causes.may_fail_before, Causes.note_by, Causes.status_by, Headline.IsPrefixOf}
use Rattle.fwu_model.specs.{Headline.made_after, Reply.Reply, Reply.Turn, Run.ends_run, Run.is_refused_boot, Seen.seen, Sound.Sound}
use Rattle.fwu_model.specs.{Allow.list_bytes, Wrote.IsBadList, Wrote.bad_list_line, Wrote.may_lack, Wrote.not_read_line}
use Rattle.fwu_model.specs.declared.kinds.NoBoot.{NoBoot}
use Rattle.fwu_model.specs.declared.kinds.Note as model
use Rattle.fwu_model.specs.declared.kinds.Note.TheVariants as model_note
use Rattle.fwu_model.specs.Text as text
use Rattle.std.specs.Option.{option_or}
use Rattle.std.proofs.{lemmas.Bool.false≢true, lemmas.Option.same_Some}
use Rattle.std.proofs.lemmas.List.Elements.{Contains-append_right, Contains-get_or}
use Rattle.flash_core.specs.{Counts.Rose, declared.flash.Counts.Counts, May.Guards}
use Rattle.fwu_formats.specs.{Digests.passes_any, Manifest.is_complete, Manifest.version, declared.kinds.LayoutFault.LayoutFault}
use Rattle.fwu_formats.specs.declared.kinds.LayoutFault.TheVariants.{BeyondFlash}
use Rattle.fwu_model.specs.Reply as reply
use Rattle.fwu_model.proofs.{Complete.runs-boot, Selects.runs-select}
use Rattle.fwu_words.specs.Order as ask
use Rattle.agent_machine.specs.Fields.{Fields}
use Rattle.meta_layout.specs.Rows.{fitted}
use Rattle.flash_format.specs.{Choosing.refusal, Choosing.input_refusal as refused_input, Formatted.HoldsImages, Formatted.IsFormatted}
use Rattle.flash_format.specs.{Formatted.first_state, declared.formatting.Formatted.Formatted, declared.stops.FormatStop.FormatStop}
use Rattle.flash_format.specs.declared.stops.FormatStop.TheVariants.{Input, ReadFailed, Flash}
use Rattle.flash_format.specs.declared.stops.InputFault.{InputFault}
use Rattle.flash_format.specs.declared.stops.InputFault.TheVariants as fault
use Rattle.gen_core.specs.Calls.{file_name, first_package, soak_calls}
use Rattle.gen_core.specs.{Law.InstallsPackage, Line.soak_line, Line.too_small_line, Setup.is_too_small, Setup.soak_layout}
use Rattle.gen_core.proofs.Naming.{rounds-have-packages}
use Rattle.script_turns.specs.{Powered.TurnMoment, Powered.at, Turning.NoneFalls, Runs.Ran, Runs.RunsTo, Runs.calls_of}
use Rattle.script_runs.specs.Ending.{Device, Ending, PutsNone, World, in_model, is_beyond_model, noted}
use Rattle.flash_commands.specs.Formatting.{Tries, format_note, format_status, format_text}
use Rattle.flash_commands.specs.{Showing.RefusedList, Soaking.first_files, Soaking.soak_files, Soaking.stop_text}
use Rattle.flash_commands.specs.Soaking.{EndsNone}
use Rattle.flash_commands.specs.SoakWays.{SoakEnds, SoakWay, all_done, lacking, list_refused, not_formatted, ran, starved, stopped, too_small}
use Rattle.flash_commands.specs.Formatting as format
use Rattle.host_io.specs.Printed.{Prints, nothing}
use Rattle.script_runs.specs.{ByTable.StopHasCause, ByTable.flash_fault_line, Ending.last_turn, Ways.Given, declared.done.Note.Note}
use Rattle.script_runs.specs.declared.done.Note.TheVariants as own
use Rattle.script_runs.proofs.TopSources.{by-plan, done-planned, printed-plan}
use Rattle.script_turns.proofs.RunTurns.{rose-before}
use Rattle.flash_commands.proofs.SoakRounds.{file-there}
use Rattle.script_cmd.specs.{NoTurns.IsFormattable, Handed.HasReadList, Handed.RefusesBadList, Promises.EndsByLast}
use Rattle.script_cmd.specs.Soaked.{RunsSoak, SoakedBy, SoakedEnds, first_images, may_end_soak, soak_setting, soak_world}
use Rattle.script_cmd.proofs.PromiseTurns.{idle-holds, last-is, last-push, none-last, ran-holds}
use Rattle.script_cmd.proofs.PromiseTable.{plain-nothing}
use Rattle.script_cmd.proofs.PromiseHeadline.{fits, left-by}
use Rattle.script_cmd.proofs.TopCompletes.{format-completes, list-cause, list-granted, list-other, list-status, no-input, printed, there}
use Rattle.script_cmd.proofs.TopShows.{falls-none, good-list-kept, refused-list, starved-list}

-- ---- what was formatted

either : (b c : Bool) (x y : LayoutFault) (L M : Layout) → (if b then Err x else if c then Err y else Ok L) ≡ Ok M → M ≡ L
either true c x y L M is = cc
either false true x y L M is = cc
either false false x y L M is = cc

layout-is : (L M : Layout) (blocks : ℕ) → fitted L blocks ≡ Ok M → M ≡ L
unfolding fitted
layout-is L M blocks is = either (not (fits_layout L)) _ _ _ L M is

module _ (tells : Bool) (seed blocks : ℕ) (old start : TurnMoment) (done : Formatted) (t : Tries passes_any tells (Some (first_files seed)) (file_name 0) soak_layout blocks old start 0 0 (Ok done)) (told : IsTrue tells) where
  installs : InstallsPackage soak_layout.rows (first_package seed) (first_images seed) 1
  installs = rounds-have-packages.first seed

  formatted-as-soak : IsFormatted passes_any soak_layout done.version start.told
  formatted-as-soak = subst (λ (L : Layout). IsFormatted passes_any L done.version start.told) (layout-is soak_layout done.layout blocks t.given) (t.formatted told)

  installed-are : formatted-as-soak.installed ≡ first_images seed
  installed-are =
      let holds : HoldsImages soak_layout (first_images seed) start.told.now =
      subst (λ (images : List (List ℕ)). HoldsImages soak_layout images start.told.now) installs.images_are (t.images told (first_package seed) installs.toc (file-there (file_name 0) (first_package seed)) installs.table) in
      same_Some formatted-as-soak.installed (first_images seed) (sym formatted-as-soak.held ∙ holds.held installs.complete)

  first-formatted : IsFormatted passes_any soak_layout 1 start.told
  first-formatted =
      subst (λ (v : ℕ). IsFormatted passes_any soak_layout v start.told) (sym formatted-as-soak.version_is ∙ ap version installed-are ∙ installs.version_is) formatted-as-soak

  first-shown : seen start.told.now ≡ Some (first_state soak_layout (first_images seed))
  first-shown = formatted-as-soak.shows ∙ ap (λ (p : List (List ℕ)). Some (first_state soak_layout p)) installed-are

  first-guards : Guards 1 7 old.told → Guards 1 7 start.told
  first-guards guards b low high = rw (t.guard told) (guards b low high)

  first-sound : (n : ℕ) → Sound (soak_setting seed n) (first_state soak_layout (first_images seed))
  first-sound n =
      let flash = formatted-as-soak.sound (soak_setting seed n) refl refl in
      subst (Sound (soak_setting seed n)) (same_Some flash.state (first_state soak_layout (first_images seed)) (sym flash.shows ∙ first-shown)) flash.sound

  module _ (n : ℕ) (journal : List Turn) (on : Option Fields) (new : TurnMoment) (guards : Guards 1 7 old.told) (no_chance : Rose old.counts.chances new.counts.chances → ⊥)
      (turns : Ran passes_any tells (Some (soak_files seed n)) journal start (at on new.told new.writes new.counts new.armed new.power) 0 0) where
    first-runs : RunsTo (soak_setting seed n) (first_state soak_layout (first_images seed)) journal start (at on new.told new.writes new.counts new.armed new.power)
    first-runs =
        turns.run told (soak_setting seed n) (first_state soak_layout (first_images seed))
        (record { clean = formatted-as-soak.clean; sound = formatted-as-soak.sound (soak_setting seed n) refl refl; shows = first-shown; guarded = first-guards guards; passes_are = refl }) refl
        (λ rose. no_chance (rose-before old.counts.chances start.counts.chances new.counts.chances t.counts.chances rose))

    runs-soak : (status : ℕ) → IsPrefixOf (calls_of journal) (soak_calls seed n) → (status ≡ 0 → calls_of journal ≡ soak_calls seed n) → RunsSoak seed n journal status new
    runs-soak status before whole = record {
      start = start;
      formatted = first-formatted;
      shows = first-shown;
      run = record {
        calls = before;
        all_calls = whole;
        last = first-runs.last;
        run = first-runs.runs;
        left = left-by (soak_setting seed n) first-runs.last on new.told first-runs.is_at.shows;
        armed = λ h. first-runs.armed;
        selects = runs-select (soak_setting seed n) (first_state soak_layout (first_images seed)) journal first-runs.last
            (fits (soak_setting seed n) start.told (formatted-as-soak.sound (soak_setting seed n) refl refl)) (first-sound n) first-runs.runs;
      };
    }

    no-refused-boot : (x : Turn) → Contains journal x → IsFalse (is_refused_boot x.reply)
    no-refused-boot = runs-boot (soak_setting seed n) (first_state soak_layout (first_images seed)) journal first-runs.last (first-sound n) first-runs.runs

-- ---- statuses

-- a status that is neither that of the sink nor of memory is the planned one
planned-at : (piece : List ℕ) (plan status k : ℕ) (taken_before taken_after : Option (List ℕ)) (faults_before faults_after : ℕ)
    → Prints piece plan status taken_before taken_after faults_before faults_after → IsFalse (may_lack k) → status ≡ k → plan ≡ k
planned-at piece plan status k taken_before taken_after faults_before faults_after prints whole is =
    sym (printed-plan piece plan status taken_before taken_after faults_before faults_after prints (ap may_lack is ∙ whole)) ∙ is

-- ---- a flash with room

either-ok : (b c : Bool) (x y : LayoutFault) (L : Layout) → b ≡ false → c ≡ false → (if b then Err x else if c then Err y else Ok L) ≡ Ok L
either-ok true c x y L sure none = absurd (cc)
either-ok false true x y L sure none = absurd (cc)
either-ok false false x y L sure none = refl

soak-layout-fits : fits_layout soak_layout ≡ true
unfolding fits_layout
soak-layout-fits = refl

fitted-soak : (blocks : ℕ) → IsFalse (is_too_small blocks) → fitted soak_layout blocks ≡ Ok soak_layout
unfolding fitted
fitted-soak blocks large = either-ok (not (fits_layout soak_layout)) (nat_lt blocks (blocks_needed soak_layout)) _ _ soak_layout (ap not soak-layout-fits) large

-- where no image is at fault to the machine, none is to the reader of packages
unfaulted-by : (r : ImageRow) (o : Option Entry) (rest : Option Reply) (others : Option ImageFault) → (rest ≡ None → others ≡ None)
    → option_or (image_fault r o) rest ≡ None → option_or (reader_fault r o) others ≡ None
unfaulted-by r None rest others same is = absurd cc
unfaulted-by r (Some e) rest others same is = by-size (nat_lt (block_bytes * r.slots) e.size) is
  where
    by-size : (large : Bool) → option_or (if large then Some (reply.TooLarge r.guid) else None) rest ≡ None
        → option_or (if large then Some (image.TooLarge r.guid) else None) others ≡ None
    by-size true is = absurd cc
    by-size false is = same is

unfaulted : (rows : List ImageRow) (toc : Toc) → first_image_fault rows toc ≡ None → images_fault rows toc ≡ None
unfolding first_image_fault
unfaulted [] toc none = refl
unfaulted (r ∷ rows) toc none = unfaulted-by r (entry_of toc r.guid) (first_image_fault rows toc) (images_fault rows toc) (unfaulted rows toc) none

package-fits : (seed blocks : ℕ) → IsFalse (is_too_small blocks) → refusal soak_layout blocks (first_package seed) ≡ None
unfolding refusal
package-fits seed blocks large =
    let i = rounds-have-packages.first seed in
    rw (fitted-soak blocks large) (rw i.table (ap (λ (o : Option ImageFault). option_map refused_input o) (unfaulted soak_layout.rows i.toc i.whole)))

formattable : (seed blocks : ℕ) → IsFalse (is_too_small blocks) → IsFormattable passes_any (Some (first_files seed)) (file_name 0) soak_layout blocks
formattable seed blocks large =
    let i = rounds-have-packages.first seed in
    record {
      file = first_package seed;
      toc = i.toc;
      is_there = file-there (file_name 0) (first_package seed);
      is_package = i.table;
      fits = package-fits seed blocks large;
      complete = subst (λ (images : List (List ℕ)). IsTrue (is_complete soak_layout.rows images)) (sym i.images_are) i.complete;
      permitted = refl;
    }

no-rise : Rose 0 0 → ⊥
no-rise (inl more) = omega arith
no-rise (inr top) = omega arith

-- where nothing was armed
pub none-made : (journal : List Turn) (old new : Counts) → journal ≡ [] → new.made ≡ old.made → new.made ≡ made_after old.made (cuts_in journal)
none-made journal old new none same = subst (λ (ts : List Turn). new.made ≡ made_after old.made (cuts_in ts)) (sym none) same

-- a turn that ends no run
no-end : (u : Turn) → u.reply ≢ reply.Fault → u.reply ≢ reply.ReadFault → IsFalse (is_refused_boot u.reply) → IsTrue (ends_run u.reply) → ⊥
no-end u fault read booted = go u.reply refl
  where
    go : (r : Reply) → u.reply ≡ r → IsTrue (ends_run r) → ⊥
    go reply.Fault same ends = fault same
    go reply.ReadFault same ends = read same
    go (reply.NotBooted why) same ends = false≢true (sym booted ∙ ap is_refused_boot same)
    go r same ends = false≢true ends

last-in : (journal before : List Turn) (t : Turn) → journal ≡ before ++ t ∷ [] → Contains journal t
last-in journal before t is = subst (λ (ts : List Turn). Contains ts t) (sym is) (Contains-append_right before (t ∷ []) t (Contains-get_or (t ∷ []) 0 t (omega arith)))

-- ---- the last turn

pub alone-last : (journal : List Turn) (status : ℕ) (said : model.Note) → journal ≡ [] → EndsByLast journal status said
alone-last journal status said none i t here ends = absurd (no-turn (sym (ap (λ (ts : List Turn). slice_get ts i) none) ∙ here))
  where
    no-turn : slice_get [] i ≡ Some t → ⊥
    no-turn is = cc

-- where none ends a run
no-last : (journal : List Turn) (status : ℕ) (said : model.Note) → EndsNone journal
    → ((i : ℕ) (t : Turn) → slice_get journal i ≡ Some t → IsTrue (ends_run t.reply) → i + 1 ≡ length journal) → EndsByLast journal status said
no-last journal status said none last i t here ends = absurd (none-last journal none t (last-is journal i t here (last i t here ends)) ends)

-- where this one does
the-last : (journal front : List Turn) (t : Turn) (said : model.Note) → journal ≡ front ++ t ∷ [] → said ≡ note_by t.reply
    → ((i : ℕ) (u : Turn) → slice_get journal i ≡ Some u → IsTrue (ends_run u.reply) → i + 1 ≡ length journal)
    → EndsByLast journal (status_by t.reply) said
the-last journal front t said is quiet last i u here ends =
    let same : t ≡ u = same_Some t u (sym (ap last_turn is ∙ last-push front t) ∙ last-is journal i u here (last i u here ends)) in
    (last i u here ends, ap (λ (x : Turn). status_by x.reply) same, quiet ∙ ap (λ (x : Turn). note_by x.reply) same)

-- ---- notes

plain-boot : (x : Note) (why : NoBoot) → IsFalse (is_beyond_model x) → noted x ≡ model_note.Boot why → x ≡ own.Boot why
plain-boot (own.Boot other) why beyond is = cc
plain-boot (own.Input f) why beyond is = absurd (false≢true (sym beyond))
plain-boot (own.NoTable lack) why beyond is = absurd (false≢true (sym beyond))
plain-boot other why beyond is = absurd (cc)

plain-list : (x : Note) (k : ℕ) → IsFalse (is_beyond_model x) → noted x ≡ model_note.BadList k → x ≡ own.BadList k
plain-list (own.BadList other) k beyond is = cc
plain-list (own.Input f) k beyond is = absurd (false≢true (sym beyond))
plain-list (own.NoTable lack) k beyond is = absurd (false≢true (sym beyond))
plain-list other k beyond is = absurd (cc)

-- ---- all

module _ (device : Device) (g : Given) (seed n : ℕ) (end : Ending Note) (old new : World) where
  -- ---- why it ended

  -- no turn ran
  alone : (planned : ℕ) (line : List ℕ) → Prints line planned end.status old.taken new.taken old.faults.sink new.faults.sink
      → end.journal ≡ [] → IsTrue (may_end_soak planned) → (planned ≡ 0 → ⊥) → (planned ≡ 6 → ⊥)
      → (planned ≡ 2 → (new.flash ≡ old.flash) × IsSome g.list × (Rose old.faults.files new.faults.files ⊎ LacksList g.files g.list) × (line ≡ not_read_line))
      → (planned ≡ 5 → (line ≡ flash_fault_line) × StopHasCause old.flash.counts new.flash.counts)
      → (planned ≡ 7 → (why : InputFault) × (end.noted ≡ own.Input why)
      × (IsTrue (is_too_small device.blocks) → (why ≡ fault.Layout BeyondFlash) × (line ≡ too_small_line))
      × (IsFalse (is_too_small device.blocks) → line ≡ format_text (Err (Input why))))
      → (planned ≡ 13 → (new.flash ≡ old.flash) × IsSome g.list × (k : ℕ) × (end.noted ≡ own.BadList k)
      × IsBadList (list_bytes g.list g.files) k × (line ≡ bad_list_line k))
      → (IsFalse ((planned == 6) || (planned == 7) || (planned == 13)) → end.noted ≡ own.Nothing)
      → (planned ≡ 9 → (end.status ≡ 9) × PutsNone old new) → SoakedEnds device g seed n end old new
  alone planned line prints none known zero six two five seven thirteen quiet nine = record {
    planned = planned;
    line = line;
    prints = prints;
    no_other = known;
    calls = (soak_calls seed n, ap (λ (ts : List Turn). calls_of ts ++ soak_calls seed n) none);
    by_last = alone-last end.journal planned (noted end.noted) none;
    done = λ is. absurd (zero is);
    not_read = λ is. let f = two is in (none, f.0, f.1, f.2, f.3);
    flash_fault = λ is. let f = five is in (f.0, inr (none, f.1));
    not_booted = λ is. absurd (six is);
    refused = λ is. let f = seven is in (none, f.0, f.1, f.2, f.3);
    not_list = λ is. let f = thirteen is in (none, f.0, f.1, f.2, f.3, f.4, f.5);
    quiet = quiet;
    none = nine;
  }

  starved-ended : end.journal ≡ [] → end.status ≡ 9 → end.noted ≡ own.Nothing → PutsNone old new → SoakedEnds device g seed n end old new
  starved-ended none nine quiet stuck =
      alone 9 [] (nothing nine stuck.0 stuck.1) none refl (λ is. omega arith) (λ is. omega arith) (λ is. absurd (omega arith))
      (λ is. absurd (omega arith)) (λ is. absurd (omega arith)) (λ is. absurd (omega arith)) (λ other. quiet) (λ is. (nine, stuck))

  list-ended : end.journal ≡ [] → new.flash ≡ old.flash → IsFalse (is_beyond_model end.noted) → RefusedList (ask.soak seed n) g end.status (noted end.noted) old new
      → SoakedEnds device g seed n end old new
  list-ended none same beyond (planned, line, why, prints) =
      elim (list-cause (ask.soak seed n) (λ is. cc) (λ is. cc) g old.faults new.faults planned (noted end.noted) line why) [
        | inl c ↦
            alone planned line prints none (ap may_end_soak c.0) (λ is. omega (arith, is, c.0)) (λ is. omega (arith, is, c.0))
            (λ is. (same, c.1, c.2, c.4)) (λ is. absurd (omega (arith, is, c.0))) (λ is. absurd (omega (arith, is, c.0)))
            (λ is. absurd (omega (arith, is, c.0))) (λ other. plain-nothing end.noted beyond c.3) (λ is. absurd (omega (arith, is, c.0)))
        | inr c ↦
            alone planned line prints none (ap may_end_soak c.0) (λ is. omega (arith, is, c.0)) (λ is. omega (arith, is, c.0))
            (λ is. absurd (omega (arith, is, c.0))) (λ is. absurd (omega (arith, is, c.0))) (λ is. absurd (omega (arith, is, c.0)))
            (λ is. (same, c.1, c.2, plain-list end.noted c.2 beyond c.3, c.4, c.5))
            (λ other. absurd (false≢true (sym other ∙ ap (λ (k : ℕ). (k == 6) || (k == 7) || (k == 13)) c.0)))
            (λ is. absurd (omega (arith, is, c.0)))
      ]

  small-ended : end.journal ≡ [] → IsTrue (is_too_small device.blocks) → end.noted ≡ own.Input (fault.Layout BeyondFlash)
      → Prints too_small_line 7 end.status old.taken new.taken old.faults.sink new.faults.sink → SoakedEnds device g seed n end old new
  small-ended none small is prints =
      alone 7 too_small_line prints none refl (λ e. omega arith) (λ e. omega arith) (λ e. absurd (omega arith)) (λ e. absurd (omega arith))
      (λ e. (fault.Layout BeyondFlash, is, (λ again. (refl, refl)), (λ large. absurd (false≢true (sym large ∙ small)))))
      (λ e. absurd (omega arith)) (λ other. absurd (false≢true (sym other))) (λ e. absurd (omega arith))

  -- the flash was not formatted
  abbrev Stops : FormatStop → Type 0
  Stops stop = Tries passes_any device.tells (Some (first_files seed)) (file_name 0) soak_layout device.blocks old.flash new.flash 0 0 (Err stop)

  format-ended : (stop : FormatStop) → Stops stop → end.journal ≡ [] → IsFalse (is_too_small device.blocks)
      → end.noted ≡ format_note (Err stop)
      → Prints (format_text (Err stop)) (format_status (Err stop)) end.status old.taken new.taken old.faults.sink new.faults.sink
      → SoakedEnds device g seed n end old new
  format-ended (Input f) t none large is prints =
      alone 7 (format_text (Err (Input f))) prints none refl (λ e. omega arith) (λ e. omega arith) (λ e. absurd (omega arith))
      (λ e. absurd (omega arith)) (λ e. (f, is, (λ small. absurd (false≢true (sym large ∙ small))), (λ again. refl)))
      (λ e. absurd (omega arith)) (λ other. absurd (false≢true (sym other))) (λ e. absurd (omega arith))
  format-ended ReadFailed t none large is prints = absurd (elim (t.reads.failed refl) [
    | inl rose ↦ no-rise rose
    | inr lacks ↦ there (Some (first_files seed)) (file_name 0) (first_package seed) (file-there (file_name 0) (first_package seed)) lacks
  ])
  format-ended (Flash stop) t none large is prints =
      alone 5 flash_fault_line prints none refl (λ e. omega arith) (λ e. omega arith) (λ e. absurd (omega arith))
      (λ e. (refl, t.stopped stop refl)) (λ e. absurd (omega arith)) (λ e. absurd (omega arith)) (λ other. is) (λ e. absurd (omega arith))

  -- turns ran
  abbrev Ends : Type 0
  Ends = SoakEnds n (soak_calls seed n) (in_model end) old.taken new.taken old.faults.sink new.faults.sink

  -- and the last of them ended it, with this reply
  turn-ended : (front : List Turn) (t : Turn) (r : Reply) → t.reply ≡ r → end.journal ≡ front ++ t ∷ []
      → IsPrefixOf (calls_of end.journal) (soak_calls seed n) → EndsByLast end.journal (status_by r) (noted end.noted)
      → IsFalse (is_beyond_model end.noted) → (r ≡ reply.Fault → Rose old.flash.counts.faults new.flash.counts.faults)
      → IsTrue (ends_run r) → r ≢ reply.ReadFault → noted end.noted ≡ note_by r
      → Prints (stop_text t.call r) (status_by r) end.status old.taken new.taken old.faults.sink new.faults.sink
      → SoakedEnds device g seed n end old new
  turn-ended front t reply.Fault is whole less by beyond fails ends other quiet prints = record {
    planned = 5;
    line = flash_fault_line;
    prints = prints;
    no_other = refl;
    calls = less;
    by_last = by;
    done = λ e. absurd (omega arith);
    not_read = λ e. absurd (omega arith);
    flash_fault = λ e. (refl, inl (record { before = front; last = t; journal_is = whole; reply_is = is }, fails refl));
    not_booted = λ e. absurd (omega arith);
    refused = λ e. absurd (omega arith);
    not_list = λ e. absurd (omega arith);
    quiet = λ e. plain-nothing end.noted beyond quiet;
    none = λ e. absurd (omega arith);
  }
  turn-ended front t (reply.NotBooted why) is whole less by beyond fails ends other quiet prints = record {
    planned = 6;
    line = text.line t.call (reply.NotBooted why);
    prints = prints;
    no_other = refl;
    calls = less;
    by_last = by;
    done = λ e. absurd (omega arith);
    not_read = λ e. absurd (omega arith);
    flash_fault = λ e. absurd (omega arith);
    not_booted = λ e. (why, plain-boot end.noted why beyond quiet, record { before = front; last = t; journal_is = whole; reply_is = is }, refl);
    refused = λ e. absurd (omega arith);
    not_list = λ e. absurd (omega arith);
    quiet = λ e. absurd (false≢true (sym e));
    none = λ e. absurd (omega arith);
  }
  turn-ended front t reply.ReadFault is whole less by beyond fails ends other quiet prints = absurd (other refl)
  turn-ended front t any is whole less by beyond fails ends other quiet prints = absurd (false≢true ends)

  ran-ended : Ends → IsFalse (is_beyond_model end.noted)
      → ((i : ℕ) (t : Turn) → slice_get end.journal i ≡ Some t → IsTrue (ends_run t.reply) → i + 1 ≡ length end.journal)
      → ((t : Turn) → Contains end.journal t → t.reply ≡ reply.Fault → Rose old.flash.counts.faults new.flash.counts.faults)
      → SoakedEnds device g seed n end old new
  ran-ended (all_done calls none quiet prints) beyond last fails = record {
    planned = 0;
    line = soak_line n end.journal;
    prints = prints;
    no_other = refl;
    calls = ([], append-nil (calls_of end.journal) ∙ calls);
    by_last = no-last end.journal 0 (noted end.noted) none last;
    done = λ e. (calls, refl);
    not_read = λ e. absurd (omega arith);
    flash_fault = λ e. absurd (omega arith);
    not_booted = λ e. absurd (omega arith);
    refused = λ e. absurd (omega arith);
    not_list = λ e. absurd (omega arith);
    quiet = λ e. plain-nothing end.noted beyond quiet;
    none = λ e. absurd (omega arith);
  }
  ran-ended (lacking less none quiet nine stuck later) beyond last fails = record {
    planned = 9;
    line = [];
    prints = nothing nine stuck later;
    no_other = refl;
    calls = less;
    by_last = no-last end.journal 9 (noted end.noted) none last;
    done = λ e. absurd (omega arith);
    not_read = λ e. absurd (omega arith);
    flash_fault = λ e. absurd (omega arith);
    not_booted = λ e. absurd (omega arith);
    refused = λ e. absurd (omega arith);
    not_list = λ e. absurd (omega arith);
    quiet = λ e. plain-nothing end.noted beyond quiet;
    none = λ e. (nine, (stuck, later));
  }
  ran-ended (stopped less front t is none ends read quiet prints) beyond last fails =
      turn-ended front t t.reply refl is less (the-last end.journal front t (noted end.noted) is quiet last) beyond
      (fails t (last-in end.journal front t is)) ends read quiet prints

  -- where no turn ends them, all was done
  ends-complete : Ends → (Rose old.faults.sink new.faults.sink → ⊥)
      → ((u : Turn) → Contains end.journal u → u.reply ≢ reply.ReadFault → IsTrue (ends_run u.reply) → ⊥)
      → (end.status ≡ 0) ⊎ (end.status ≡ 9)
  ends-complete (all_done calls none quiet prints) no_sink no_end =
      printed (soak_line n end.journal) end.status old.taken new.taken old.faults.sink new.faults.sink no_sink prints
  ends-complete (lacking less none quiet nine stuck later) no_sink no_end = inr nine
  ends-complete (stopped less before u is none ends read quiet prints) no_sink no_end =
      absurd (no_end u (last-in end.journal before u is) read ends)

  -- ---- nothing was done

  idle-soaked : SoakedEnds device g seed n end old new → end.journal ≡ [] → new.flash ≡ old.flash
      → RefusesBadList g old.flash new.flash end.status old.faults new.faults
      → IsTrue ((end.status == 7) || (may_fail_before end.status || (end.status == 13)))
      → (end.status ≡ 7 → IsTrue (is_too_small device.blocks))
      → (HasReadList g old.faults new.faults → IsFalse (is_too_small device.blocks) → (end.status ≡ 9) × (end.noted ≡ own.Nothing))
      → SoakedBy device g seed n end old new
  idle-soaked why none same refuses may seven completes = record {
    ends = why;
    flash = inl (record { no_turns = none; same = same; status_is = may; why = completes });
    refuses_list = refuses;
    machine = λ told guards no_chance some. absurd (some none);
    seven = λ is told. seven is;
    made = none-made end.journal old.flash.counts new.flash.counts none (ap (λ (m : TurnMoment). m.counts.made) same);
    counts = subst (λ (m : TurnMoment). NoneFalls old.flash.counts m.counts) (sym same) (falls-none old.flash.counts);
    guard = λ told. ap (λ (m : TurnMoment). m.told.guard) same;
    complete = λ told guards large no_chance no_fault no_cut has no_sink. inr (completes has large).0;
  }

  -- ---- the flash was not formatted

  stop-seven : (stop : FormatStop) → Stops stop → IsTrue device.tells → IsFalse (is_too_small device.blocks) → format_status (Err stop) ≡ 7 → ⊥
  stop-seven (Input f) t told large is =
      no-input passes_any device.tells (Some (first_files seed)) (file_name 0) soak_layout device.blocks old.flash new.flash 0 0 f told
      (formattable seed device.blocks large) t
  stop-seven other t told large is = omega arith

  -- ---- whichever way

  pub soaked-by : SoakWay device g seed n end old new → SoakedBy device g seed n end old new
  soaked-by (list_refused none same quiet refused) =
      let other = list-other (ask.soak seed n) (λ is. cc) (λ is. cc) g end.status (noted end.noted) old new refused in
      idle-soaked (list-ended none same quiet refused) none same
      (refused-list g old.flash new.flash end.status old.faults new.faults (ask.soak seed n) (noted end.noted) old.taken new.taken same refused)
      (list-status (ask.soak seed n) (λ is. cc) (λ is. cc) g end.status (noted end.noted) old new refused
      (λ (k : ℕ). (k == 7) || (may_fail_before k || (k == 13))) refl refl refl refl)
      (λ is. absurd (other 7 refl is))
      (λ has large.
      absurd
      (list-granted (ask.soak seed n) (λ is. cc) (λ is. cc) g old.faults new.faults refused.0 (noted end.noted) refused.1 has refused.2))
  soaked-by (starved none same nine is stuck) =
      idle-soaked (starved-ended none nine is stuck) none same
      (starved-list g old.flash new.flash end.status old.faults new.faults same nine)
      (ap (λ (k : ℕ). (k == 7) || (may_fail_before k || (k == 13))) nine)
      (λ is. absurd (omega (arith, is, nine))) (λ has large. (nine, is))
  soaked-by (too_small good small none same is prints) =
      idle-soaked (small-ended none small is prints) none same
      (good-list-kept g old.flash new.flash end.status old.faults new.faults good)
      (by-plan too_small_line 7 end.status old.taken new.taken old.faults.sink new.faults.sink prints
      (λ (k : ℕ). (k == 7) || (may_fail_before k || (k == 13))) refl refl refl)
      (λ seven. small) (λ has large. absurd (false≢true (sym large ∙ small)))
  soaked-by (not_formatted good large none stop t is kept prints) = record {
    ends = format-ended stop t none large is prints;
    flash = inr (record {
      good = good;
      large = large;
      files = kept;
      result = Err stop;
      start = new.flash;
      tries = t;
      stopped = (none, is);
      formatted = tt;
      turns = idle-holds passes_any device.tells (Some (soak_files seed n)) end.journal (soak_world new.flash) (soak_world new.flash) none refl;
    });
    refuses_list = good-list-kept g old.flash new.flash end.status old.faults new.faults good;
    machine = λ told guards no_chance some. absurd (some none);
    seven = λ seven told. absurd (stop-seven stop t told large
        (planned-at (format_text (Err stop)) (format_status (Err stop)) end.status 7 old.taken new.taken old.faults.sink new.faults.sink prints refl seven));
    made = none-made end.journal old.flash.counts new.flash.counts none t.made;
    counts = t.counts;
    guard = t.guard;
    complete = λ told guards room no_chance no_fault no_cut has no_sink.
        format-completes passes_any (record { list = None; files = Some (first_files seed); script = None }) (file_name 0) soak_layout
        device.blocks old.flash new.flash end.status end.noted old.taken new.taken
        (record { files = 0; source = 0; sink = old.faults.sink }) (record { files = 0; source = 0; sink = new.faults.sink }) device.tells
        (format.tried (record { there = λ lacks. lacks; good = tt }) (Err stop) t prints is) told (formattable seed device.blocks room)
        (record {
          list = record { there = λ lacks. lacks; good = λ k some bad. absurd (cc); read = no-rise };
          no_fault = no_fault;
          no_cut = no_cut none;
          no_sink_fault = no_sink;
        });
  }
  soaked-by (ran good large done start on t off power turns ends quiet kept) = record {
    ends = why;
    flash = inr (record {
      good = good;
      large = large;
      files = kept;
      result = Ok done;
      start = start;
      tries = t;
      stopped = tt;
      formatted = (off, quiet);
      turns = ran-holds passes_any device.tells (Some (soak_files seed n)) end.journal on 0 (soak_world start) (soak_world new.flash) (λ some. refl) turns;
    });
    refuses_list = good-list-kept g old.flash new.flash end.status old.faults new.faults good;
    machine = λ told guards no_chance some.
        runs-soak device.tells seed device.blocks old.flash start done t told n end.journal on new.flash guards no_chance turns end.status
        why.calls
        (λ zero. (why.done (done-planned why.line why.planned end.status old.taken new.taken old.faults.sink new.faults.sink why.prints zero)).0);
    seven = λ seven told.
        let f = why.refused (planned-at why.line why.planned end.status 7 old.taken new.taken old.faults.sink new.faults.sink why.prints refl seven) in
        absurd (false≢true (sym quiet ∙ ap is_beyond_model f.2));
    made = turns.made ∙ ap (λ (k : ℕ). made_after k (cuts_in end.journal)) t.made;
    counts = record {
      faults = let a = t.counts.faults in let b = turns.counts.faults in omega arith;
      cuts = let a = t.counts.cuts in let b = turns.counts.cuts in omega arith;
      reached = let a = t.counts.reached in let b = turns.counts.reached in omega arith;
      chances = let a = t.counts.chances in let b = turns.counts.chances in omega arith;
    };
    guard = λ told. turns.guard told ∙ t.guard told;
    complete = λ told guards room no_chance no_fault no_cut has no_sink.
        ends-complete ends no_sink (λ u has read.
        no-end u (λ same. no_fault (fails u has same)) read
        (no-refused-boot device.tells seed device.blocks old.flash start done t told n end.journal on new.flash guards no_chance turns u has));
  }
    where
      fails : (u : Turn) → Contains end.journal u → u.reply ≡ reply.Fault → Rose old.flash.counts.faults new.flash.counts.faults
      fails u has same =
          rose-before old.flash.counts.faults start.counts.faults new.flash.counts.faults t.counts.faults (turns.fault_turns u has same)

      why : SoakedEnds device g seed n end old new
      why = ran-ended ends quiet turns.ends fails
