-- What is done for what the words ask for, from what the parts of the command did.
use Rattle.std.proofs.Common.{◌≡◌, ◌≢◌, ◌≤◌, ℕ, Bool, true, false, List, Option, Some, None, refl, sym, ap, subst, ◌∙◌, arith}
use Rattle.std.specs.Prelude.{IsTrue, IsFalse, ⊤, []}
use Rattle.std.proofs.{lemmas.Bool.false≢true, lemmas.Option.same_Some}
use Rattle.fwu_model.specs.{Causes.Faults, Causes.may_fail_before, Reply.Turn, Asked.script_asked, Wrote.usage_line}
use Rattle.fwu_model.specs.Asked as model
use Rattle.fwu_model.specs.declared.kinds.Note.TheVariants as model_note
use Rattle.fwu_words.specs.{Order.Asked, Order.turns_of, declared.orders.Place.Place, declared.orders.ScriptFrom.ScriptFrom}
use Rattle.fwu_words.specs.Order as ask
use Rattle.fwu_words.specs.declared.orders.Place.TheVariants as place
use Rattle.fwu_words.specs.declared.orders.ScriptFrom.TheVariants as origin
use Rattle.host_io.specs.{Contents.Directory, Printed.Prints}
use Rattle.script_turns.specs.{Powered.TurnMoment, Runs.calls_of, Runs.sends_none}
use Rattle.script_runs.specs.{Sourced.in_short, Sourced.plain_of, Sourced.text_of, Sourced.FailsOnce, Sourced.TakesScript}
use Rattle.script_runs.specs.{Sourced.reads_all, WaysByTable.WayAt, WaysByTable.WayByTable, declared.done.Note.Note}
use Rattle.script_runs.specs.Ending.{is_beyond_model, noted, Device, Ending, World, in_model}
use Rattle.flash_commands.specs.SoakWays as soak
use Rattle.script_runs.specs.Ways.{Given, HasGoodList, Refuses, Way}
use Rattle.script_runs.specs.Ways as way
use Rattle.script_runs.specs.declared.done.Note.TheVariants as note
use Rattle.script_runs.proofs.TopWays.{device-of, end-of, world-of, refused-by, with-list}
use Rattle.script_runs.proofs.TableWays.{table-refused, table-starved, table-with-list}
use Rattle.script_runs.proofs.TopSources.{none-fails, takes-nothing}
use Rattle.script_cmd.specs.{Here.Answered, Here.ServeWay, Promises.given_to, Serves.ReadsInputs}
use Rattle.script_cmd.specs.Handed.{asks_beyond, asks_files, asks_package, asks_source, RunsOrNone, over_table}
use Rattle.script_cmd.specs.NoTurns.{FormattedBy, ShowedBy}
use Rattle.script_cmd.specs.Here as serve
use Rattle.script_cmd.proofs.{ServeTop.refused-serves, ServeTop.serves-with-list, SoakTop.refused-soaks, SoakTop.soaks-with-list}
use Rattle.script_cmd.proofs.{TopLists.no-list-named, Unasked.Later, Unasked.inputs-of}
use Rattle.script_cmd.proofs.TopFormats.{formats-with-list, none-some, refused-formats, starved-formats}
use Rattle.script_cmd.proofs.TopShows.{refused-shows, shows-with-list, starved-shows}

-- other words ask for no flash behind a table
pub not-over : (asked other : Option Asked) (plain : Asked) → asked ≡ other → over_table other ≡ None → over_table asked ≡ Some plain → ⊥
not-over asked other plain is none over = none-plain plain (sym none ∙ ap over_table (sym is) ∙ over)
  where
    none-plain : (a : Asked) → None ≡ Some a → ⊥
    none-plain a e = cc

-- ---- what is asked for where turns are

-- it is none of the other commands
abbrev is_turns : Asked → Bool
is_turns ask.run = true
is_turns ask.run_partitioned = true
is_turns ask.boot = true
is_turns ask.boot_partitioned = true
is_turns other = false

asks-turns : (from : ScriptFrom) (at : Place) → is_turns (turns_of from at) ≡ true
asks-turns origin.Source place.Flash = refl
asks-turns origin.Source place.Partitions = refl
asks-turns origin.Boot place.Flash = refl
asks-turns origin.Boot place.Partitions = refl

pub no-other : (from : ScriptFrom) (at : Place) (other : Asked) → is_turns other ≡ false → Some (turns_of from at) ≡ Some other → ⊥
no-other from at other none is = false≢true (sym none ∙ ap is_turns (sym (same_Some (turns_of from at) other is)) ∙ asks-turns from at)

-- a script of the source alone reads it and files, and a flash behind a table alone has more notes
boot-not-source : model.Boot ≡ model.Source → ⊥
boot-not-source e = cc

none-not-source : model.NoScript ≡ model.Source → ⊥
none-not-source e = cc

of-source : (from : ScriptFrom) (at : Place) → in_short (Some (turns_of from at)) ≡ model.Source → from ≡ origin.Source
of-source origin.Source at runs = refl
of-source origin.Boot place.Flash runs = absurd (boot-not-source runs)
of-source origin.Boot place.Partitions runs = absurd (boot-not-source runs)

of-boot : (from : ScriptFrom) (at : Place) → asks_source (Some (turns_of from at)) ≡ false → from ≡ origin.Boot
of-boot origin.Source place.Flash none = absurd (false≢true (sym none))
of-boot origin.Source place.Partitions none = absurd (false≢true (sym none))
of-boot origin.Boot at none = refl

of-no-file : (from : ScriptFrom) (at : Place) → asks_files (Some (turns_of from at)) ≡ false → from ≡ origin.Boot
of-no-file origin.Source place.Flash none = absurd (false≢true (sym none))
of-no-file origin.Source place.Partitions none = absurd (false≢true (sym none))
of-no-file origin.Boot at none = refl

on-flash : (from : ScriptFrom) (at : Place) → asks_beyond (Some (turns_of from at)) ≡ false → at ≡ place.Flash
on-flash from place.Flash none = refl
on-flash origin.Source place.Partitions none = absurd (false≢true (sym none))
on-flash origin.Boot place.Partitions none = absurd (false≢true (sym none))

module _ (passes : List ℕ → Bool) (tells : Bool) (blocks : ℕ) (told : Option Directory) (left : Option (List ℕ)) (journal : List Turn) (status : ℕ) (said : Note) (old new : TurnMoment) (taken_before taken_after : Option (List ℕ)) (faults_before faults_after : Faults) where
  -- the way on the device, and the way behind its table
  turns-way : (from : ScriptFrom) (at : Place) → RunsOrNone (Some (turns_of from at))
      → WayAt at passes (device-of tells blocks) (Some (plain_of from)) (record { list = None; files = told; script = text_of from left }) (end-of journal status said) (world-of old taken_before faults_before) (world-of new taken_after faults_after)
      → Way passes tells (Some (turns_of from at)) (given_to (inputs-of (Some (turns_of from at)) None told left)) (end-of journal status (noted said)) (world-of old taken_before faults_before) (world-of new taken_after faults_after)
  turns-way origin.Source place.Flash runs went = went
  turns-way origin.Boot place.Flash runs went = went
  turns-way origin.Source place.Partitions runs went = absurd runs
  turns-way origin.Boot place.Partitions runs went = absurd runs

  turns-by-table : (from : ScriptFrom) (at : Place) (plain : Asked) → over_table (Some (turns_of from at)) ≡ Some plain
      → WayAt at passes (device-of tells blocks) (Some (plain_of from)) (record { list = None; files = told; script = text_of from left }) (end-of journal status said) (world-of old taken_before faults_before) (world-of new taken_after faults_after)
      → WayByTable passes (device-of tells blocks) (Some plain) (given_to (inputs-of (Some plain) None told left)) (end-of journal status said) (world-of old taken_before faults_before) (world-of new taken_after faults_after)
  turns-by-table origin.Source place.Flash plain over went = absurd (not-over (Some ask.run) (Some ask.run) plain refl refl over)
  turns-by-table origin.Boot place.Flash plain over went = absurd (not-over (Some ask.boot) (Some ask.boot) plain refl refl over)
  turns-by-table origin.Source place.Partitions plain over went =
      subst (λ (a : Asked). WayByTable passes (device-of tells blocks) (Some a) (given_to (inputs-of (Some a) None told left)) (end-of journal status said) (world-of old taken_before faults_before) (world-of new taken_after faults_after)) (same_Some ask.run plain over) went
  turns-by-table origin.Boot place.Partitions plain over went =
      subst (λ (a : Asked). WayByTable passes (device-of tells blocks) (Some a) (given_to (inputs-of (Some a) None told left)) (end-of journal status said) (world-of old taken_before faults_before) (world-of new taken_after faults_after)) (same_Some ask.boot plain over) went

-- ---- what is asked for where none are

-- these words ask for no turns, also behind a table
abbrev IsPlain : Asked → Type 0
IsPlain a = (RunsOrNone (Some a) → ⊥) × (over_table (Some a) ≡ None) × (in_short (Some a) ≡ model.NoScript)

-- what each of the commands without turns does
abbrev DoneBy : (List ℕ → Bool) → Device → Given → Ending Note → World → World → Option (List ℕ) → Asked → Type 0
DoneBy passes device g end old new rest ask.show = ShowedBy device.tells g (in_model end) old new
DoneBy passes device g end old new rest (ask.format banks rows file) =
    FormattedBy passes device g file (record { banks = banks; rows = rows }) end old new
DoneBy passes device g end old new rest (ask.soak seed rounds) = soak.SoakWay device g seed rounds end old new
DoneBy passes device g end old new rest ask.serve = ServeWay passes device.tells g (in_model end) old new rest
DoneBy passes device g end old new rest other = ⊤

module _ {H I : Type 0} {told : Option Directory} {left rest : Option (List ℕ)} {journal : List Turn} {status : ℕ} {said : Note}
    {faults_before faults_after : Faults} {files files_after : H} {source source_after : I} where
  -- nothing of the source was read, and no file but a list
  reads-none : (asked : Option Asked) (list : Option (List ℕ)) → (in_short asked ≡ model.Source → TakesScript journal status left rest)
      → (list ≡ None → files_after ≡ files) → (IsFalse (may_fail_before status) → faults_after.files ≡ faults_before.files)
      → source_after ≡ source → faults_after.source ≡ faults_before.source → Later faults_before faults_after
      → ReadsInputs (inputs-of asked list told left) (end-of journal status said) faults_before faults_after rest
      files files_after source source_after
  reads-none asked list takes kept counted stays once later = record {
    takes = takes;
    source = λ other. stays;
    list_first = λ lacks. stays;
    source_count = λ runs. none-fails journal status faults_before.source faults_after.source once;
    files = λ unlisted other. kept unlisted;
    unsent = λ unlisted other unsent. kept unlisted;
    list_alone = λ other unsent whole. counted whole;
    later_files = later.files;
    later_source = later.source;
    later_sink = later.sink;
  }

-- ---- what was done

module _ {H I : Type 0} {passes : List ℕ → Bool} {tells : Bool} {blocks : ℕ} {told : Option Directory} {left rest : Option (List ℕ)} {journal : List Turn} {status : ℕ} {said : Note} {old new : TurnMoment} {taken_before taken_after : Option (List ℕ)} {faults_before faults_after : Faults} {files files_after : H} {source source_after : I} where
  -- the turns of a script, wherever it is from and wherever they take place
  pub answered-turns : (from : ScriptFrom) (at : Place) (asked : Option Asked) → asked ≡ Some (turns_of from at)
      → WayAt at passes (device-of tells blocks) (Some (plain_of from)) (record { list = None; files = told; script = text_of from left }) (end-of journal status said) (world-of old taken_before faults_before) (world-of new taken_after faults_after)
      → (from ≡ origin.Source → TakesScript journal status left rest) → FailsOnce journal status faults_before.source faults_after.source → (IsTrue (sends_none (calls_of journal)) → files_after ≡ files)
      → (files_after ≡ files → faults_after.files ≡ faults_before.files) → (from ≡ origin.Boot → files_after ≡ files) → (from ≡ origin.Boot → source_after ≡ source) → (at ≡ place.Flash → IsFalse (is_beyond_model said)) → Later faults_before faults_after
      → Answered passes (device-of tells blocks) (inputs-of asked None told left) (end-of journal status said) (world-of old taken_before faults_before) (world-of new taken_after faults_after) rest files files_after source source_after
  answered-turns from at asked is went whole once unsent counts kept stays quiet later = subst (λ (a : Option Asked). Answered passes (device-of tells blocks) (inputs-of a None told left) (end-of journal status said) (world-of old taken_before faults_before) (world-of new taken_after faults_after) rest files files_after source source_after) (sym is) (record {
    way = λ runs. turns-way passes tells blocks told left journal status said old new taken_before taken_after faults_before faults_after from at runs went;
    by_table = λ plain over. turns-by-table passes tells blocks told left journal status said old new taken_before taken_after faults_before faults_after from at plain over went;
    shows = λ other. absurd (no-other from at ask.show refl other);
    formats = λ banks rows file other. absurd (no-other from at (ask.format banks rows file) refl other);
    soaks = λ seed rounds other. absurd (no-other from at (ask.soak seed rounds) refl other);
    serves = λ other. absurd (no-other from at ask.serve refl other);
    note = λ none. quiet (on-flash from at none);
    reads = record {
      takes = λ runs. whole (of-source from at runs);
      source = λ none. stays (of-boot from at none);
      list_first = λ none. absurd (none no-list-named);
      source_count = λ runs. once;
      files = λ unlisted none. kept (of-no-file from at none);
      unsent = λ unlisted other none. unsent none;
      list_alone = λ other none whole. counts (unsent none);
      later_files = later.files;
      later_source = later.source;
      later_sink = later.sink;
    };
  })

  -- a command without turns
  pub answered-plain : (asked : Option Asked) (a : Asked) → asked ≡ Some a → IsPlain a
      → DoneBy passes (device-of tells blocks) (record { list = None; files = told; script = left }) (end-of journal status said)
      (world-of old taken_before faults_before) (world-of new taken_after faults_after) rest a
      → (IsFalse (asks_beyond (Some a)) → IsFalse (is_beyond_model said)) → (IsFalse (asks_source (Some a)) → source_after ≡ source)
      → (IsFalse (asks_package (Some a)) → IsFalse (asks_files (Some a)))
      → (IsFalse (asks_files (Some a)) → (files_after ≡ files) × (faults_after.files ≡ faults_before.files)) → Later faults_before faults_after
      → Answered passes (device-of tells blocks) (inputs-of asked None told left) (end-of journal status said)
      (world-of old taken_before faults_before) (world-of new taken_after faults_after) rest files files_after source source_after
  answered-plain asked a is plain does quiet stays packs kept later =
      let g : Given = record { list = None; files = told; script = left } in
      let end : Ending Note = end-of journal status said in
      let before : World = world-of old taken_before faults_before in
      let after : World = world-of new taken_after faults_after in
      let by : (b : Asked) → Some a ≡ Some b → DoneBy passes (device-of tells blocks) g end before after rest b =
      λ b same. subst (DoneBy passes (device-of tells blocks) g end before after rest) (same_Some a b same) does in
      subst (λ (x : Option Asked). Answered passes (device-of tells blocks) (inputs-of x None told left) end before after rest
      files files_after source source_after) (sym is) (record {
        way = λ runs. absurd (plain.0 runs);
        by_table = λ other over. absurd (not-over (Some a) (Some a) other refl plain.1 over);
        shows = by ask.show;
        formats = λ banks rows file. by (ask.format banks rows file);
        soaks = λ seed rounds. by (ask.soak seed rounds);
        serves = by ask.serve;
        note = quiet;
        reads = record {
          takes = λ runs. absurd (none-not-source (sym plain.2 ∙ runs));
          source = stays;
          list_first = λ none. absurd (none no-list-named);
          source_count = λ runs. absurd (none-not-source (sym plain.2 ∙ runs));
          files = λ unlisted none. (kept none).0;
          unsent = λ unlisted none unsent. (kept (packs none)).0;
          list_alone = λ none unsent whole. (kept (packs none)).1;
          later_files = later.files;
          later_source = later.source;
          later_sink = later.sink;
        };
      })

  -- words that ask for nothing, behind a list or without one
  pub answered-usage : (asked : Option Asked) (list : Option (List ℕ)) → asked ≡ None → HasGoodList list told → journal ≡ [] → new ≡ old → said ≡ note.Nothing → Prints usage_line 1 status taken_before taken_after faults_before.sink faults_after.sink
      → files_after ≡ files → faults_after.files ≡ faults_before.files → source_after ≡ source → rest ≡ left → faults_after.source ≡ faults_before.source → Later faults_before faults_after
      → Answered passes (device-of tells blocks) (inputs-of asked list told left) (end-of journal status said) (world-of old taken_before faults_before) (world-of new taken_after faults_after) rest files files_after source source_after
  answered-usage asked list words good none same is prints kept counted stays unread once later = record {
    way = λ runs. refused-by passes tells journal status (noted said) old new taken_before taken_after asked (record { list = list; files = told; script = script_asked (in_short asked) left }) faults_before faults_after 1 usage_line model_note.Nothing none same (ap noted is) (way.usage good words) prints;
    by_table = λ plain over. absurd (not-over asked None plain words refl over);
    shows = λ other. absurd (none-some ask.show asked words other);
    formats = λ banks rows file other. absurd (none-some (ask.format banks rows file) asked words other);
    soaks = λ seed rounds other. absurd (none-some (ask.soak seed rounds) asked words other);
    serves = λ other. absurd (none-some ask.serve asked words other);
    note = λ other. ap is_beyond_model is;
    reads =
        reads-none asked list (λ runs. absurd (none-not-source (sym (ap in_short words) ∙ runs))) (λ unlisted. kept) (λ whole. counted)
        stays once later;
  }

  -- nothing was done for want of memory, whatever is asked for
  pub answered-starved : (asked : Option Asked) (list : Option (List ℕ)) → journal ≡ [] → new ≡ old → old.armed ≡ None → status ≡ 9 → said ≡ note.Nothing → (taken_after ≡ taken_before) × (faults_after.sink ≡ faults_before.sink) → faults_after.files ≡ faults_before.files → (list ≡ None → files_after ≡ files)
      → source_after ≡ source → rest ≡ left → faults_after.source ≡ faults_before.source → Later faults_before faults_after
      → Answered passes (device-of tells blocks) (inputs-of asked list told left) (end-of journal status said) (world-of old taken_before faults_before) (world-of new taken_after faults_after) rest files files_after source source_after
  answered-starved asked list none same unarmed nine is stuck still kept stays unread once later = record {
    way = λ runs. way.starved none same nine (ap noted is) stuck;
    by_table = λ plain over. table-starved passes tells blocks journal status said old new taken_before taken_after (Some plain) (record { list = list; files = told; script = script_asked (in_short (Some plain)) left }) faults_before faults_after none same nine is stuck;
    shows = λ words. starved-shows tells (record { list = list; files = told; script = left }) old new status (noted said) journal taken_before taken_after faults_before faults_after same unarmed none nine (ap noted is) stuck;
    formats = λ banks rows file words.
        starved-formats passes tells (record { list = list; files = told; script = left }) file (record { banks = banks; rows = rows }) blocks old new status said journal taken_before taken_after faults_before faults_after same unarmed none is nine stuck still;
    soaks = λ seed rounds words. soak.starved none same nine is stuck;
    serves = λ words. serve.starved none same (unread, once) nine (ap noted is) stuck;
    note = λ other. ap is_beyond_model is;
    reads =
        reads-none asked list
        (λ runs. takes-nothing journal status left rest unread none (λ eight. omega (arith, eight, nine)) (ap reads_all nine)) kept
        (λ whole. absurd (false≢true (sym whole ∙ ap may_fail_before nine))) stays once later;
  }

  -- a list was refused, whatever is asked for
  pub answered-refused : (asked : Option Asked) (name : List ℕ) (planned : ℕ) (line : List ℕ) (met : Note)
      → ((script : Option (List ℕ)) (a : Option Asked) → Refuses a (record { list = Some name; files = told; script = script }) faults_before faults_after planned (noted met) line) → planned ≢ 0 → IsFalse (is_beyond_model met)
      → journal ≡ [] → new ≡ old → old.armed ≡ None → said ≡ met → Prints line planned status taken_before taken_after faults_before.sink faults_after.sink → (IsFalse (may_fail_before status) → faults_after.files ≡ faults_before.files) → status ≢ 8 → IsFalse (reads_all status)
      → source_after ≡ source → rest ≡ left → faults_after.source ≡ faults_before.source → Later faults_before faults_after
      → Answered passes (device-of tells blocks) (inputs-of asked (Some name) told left) (end-of journal status said) (world-of old taken_before faults_before) (world-of new taken_after faults_after) rest files files_after source source_after
  answered-refused asked name planned line met why some beyond none same unarmed is prints counted some_less lacks_some stays unread once later = record {
    way = λ runs.
        refused-by passes tells journal status (noted said) old new taken_before taken_after asked (record { list = Some name; files = told; script = script_asked (in_short asked) left }) faults_before faults_after planned line (noted met) none same (ap noted is)
        (why (script_asked (in_short asked) left) asked) prints;
    by_table = λ plain over.
        table-refused passes tells blocks journal status said old new taken_before taken_after (Some plain) (record { list = Some name; files = told; script = script_asked (in_short (Some plain)) left }) faults_before faults_after planned line met none same is some beyond
        (why (script_asked (in_short (Some plain)) left) (Some plain)) prints;
    shows = λ words.
        refused-shows tells (record { list = Some name; files = told; script = left }) old new status (noted said) journal taken_before taken_after faults_before faults_after planned line (noted met) same unarmed none (ap noted is) (why left (Some ask.show)) prints;
    formats = λ banks rows file words.
        refused-formats passes tells (record { list = Some name; files = told; script = left }) file (record { banks = banks; rows = rows }) blocks old new status said journal taken_before taken_after faults_before faults_after planned line (noted met) same unarmed none
        (ap is_beyond_model is ∙ beyond) (ap noted is) (why left (Some (ask.format banks rows file))) prints;
    soaks = λ seed rounds words.
        refused-soaks tells (record { list = Some name; files = told; script = left }) seed rounds blocks journal status said old new taken_before taken_after faults_before faults_after planned line (noted met) none same (ap is_beyond_model is ∙ beyond) (ap noted is)
        (why left (Some (ask.soak seed rounds))) prints;
    serves = λ words. refused-serves passes tells (record { list = Some name; files = told; script = left }) old new status (noted said) journal taken_before taken_after faults_before faults_after planned line (noted met) rest none same (ap noted is) (why left (Some ask.serve)) prints unread once;
    note = λ other. ap is_beyond_model is ∙ beyond;
    reads =
        reads-none asked (Some name) (λ runs. takes-nothing journal status left rest unread none some_less lacks_some)
        (λ unlisted. absurd cc) counted stays once later;
  }

  -- what is done without a list is done behind one that was read and is one
  pub answered-with-list : (asked : Option Asked) (name : List ℕ) (mid_told : Option Directory) (mid : Faults) (mid_files : H)
      → Answered passes (device-of tells blocks) (inputs-of asked None mid_told left) (end-of journal status said) (world-of old taken_before mid) (world-of new taken_after faults_after) rest mid_files files_after source source_after → mid_told ≡ told → HasGoodList (Some name) told
      → mid.files ≡ faults_before.files → faults_before.source ≡ mid.source → faults_before.sink ≡ mid.sink → old.armed ≡ None
      → Answered passes (device-of tells blocks) (inputs-of asked (Some name) told left) (end-of journal status said) (world-of old taken_before faults_before) (world-of new taken_after faults_after) rest files files_after source source_after
  answered-with-list asked name mid_told mid mid_files a same good counted at_source at_sink unarmed =
      let later : faults_before.files ≤ mid.files = omega arith in
      record {
        way = λ runs. with-list passes tells journal status (noted said) old new taken_before taken_after asked mid_told told name (script_asked (in_short asked) left) faults_before mid faults_after same good counted at_source at_sink (a.way runs);
        by_table = λ plain over.
            table-with-list passes tells blocks journal status said old new taken_before taken_after (Some plain) mid_told told name (script_asked (in_short (Some plain)) left) faults_before mid faults_after same good counted at_source at_sink (a.by_table plain over);
        shows = λ words. shows-with-list tells mid_told told name left old new status (noted said) journal taken_before taken_after faults_before mid faults_after good later at_source at_sink (a.shows words);
        formats = λ banks rows file words.
            formats-with-list passes tells mid_told told name left file (record { banks = banks; rows = rows }) blocks old new status said journal taken_before taken_after faults_before mid faults_after same good counted at_source at_sink unarmed (a.formats banks rows file words);
        soaks = λ seed rounds words. soaks-with-list tells mid_told told name left seed rounds blocks journal status said old new taken_before taken_after faults_before mid faults_after good counted at_source at_sink (a.soaks seed rounds words);
        serves = λ words. serves-with-list passes tells mid_told told name left old new status (noted said) journal taken_before taken_after faults_before mid faults_after rest same good counted at_source at_sink (a.serves words);
        note = a.note;
        reads = record {
          takes = a.reads.takes;
          source = a.reads.source;
          list_first = λ lacks. absurd (lacks good);
          source_count = λ runs. subst (λ (n : ℕ). FailsOnce journal status n faults_after.source) (sym at_source) (a.reads.source_count runs);
          files = λ unlisted other. absurd cc;
          unsent = λ unlisted other unsent. absurd cc;
          list_alone = λ other unsent whole. a.reads.list_alone other unsent whole ∙ counted;
          later_files = omega (arith, counted, a.reads.later_files);
          later_source = omega (arith, at_source, a.reads.later_source);
          later_sink = omega (arith, at_sink, a.reads.later_sink);
        };
      }
