-- What is done for what the words ask for, by its result, as files, a source and a sink tell it.
use Rattle.std.specs.Prelude.{◌≡◌, ◌≢◌, ◌≤◌, ◌⊎◌, ◌∷◌, [], ℕ, List, Option, Some, None, Result, Ok, Err, IfErr, IsFalse, OnOk, false}
use Rattle.base_core.specs.Counts.{Rose}
use Rattle.fwu_formats.specs.Package.{Entry}
use Rattle.fip_words.specs.{Order.FipAsked, Order.info_of_source, Values.is_unpacked}
use Rattle.host_io.specs.{Access.Access, Access.Asks, Access.Makes, Contents.Directory, Once.ReadsOnce}
use Rattle.host_io.specs.declared.files.Files as files
use Rattle.host_io.specs.declared.source.Source as source
use Rattle.host_io.specs.declared.sink.Sink as sink
use Rattle.fip_making.specs.{Answers.source_failures, Stops.IsLate, Stops.exit_status, Values.StopsInTime, declared.made.Made.Made}
use Rattle.fip_making.specs.declared.stops.Stop.{Stop}
use Rattle.fip_making.specs.declared.stops.Stop.TheVariants as stop
use Rattle.fip_tool.specs.Lines.{EndsWithLine, made_line, unpacked_line, unpacked_name}
use Rattle.fip_tool.specs.Names.{IsRefusalStatus, IsUnneeded, IsUnnamedBy, MayRefuse}
use Rattle.fip_tool.specs.Steps.{CommandPlan, Did, FaultsOnce, Makes, MayTear, NoneUnwritten, PrintedText, outcome_by, sink_failures}
use Rattle.fip_tool.specs.Tool.{IsReadFor, asks_files, given_value, no_files, outcome_of, prints, unpack_steps}
use Rattle.fip_tool.specs.{Wrote.CommandWrote, Wrote.WroteFor, declared.lines.Format.Format}

-- ---- as they tell it

-- A word `DidIn` is `Did` with what those tell and count: it takes how their types tell it, and each of them before and after.

abbrev pub PrintedIn : {O : Type 0} → sink.Ghosts O → List ℕ → O → O → Result (Unit {0}) Stop → Type 0
PrintedIn o piece old new result = PrintedText (o.taken old) (o.taken new) (Rose (o.faults old) (o.faults new)) piece result

abbrev pub DidIn : {H O : Type 0} → files.Ghosts H → sink.Ghosts O → CommandPlan → Directory → H → H → O → O
    → Result (Unit {0}) Stop → Type 0
DidIn h o outcome told files-old files-new old new result =
    Did outcome told (h.contents files-new) (o.taken old) (o.taken new) (Rose (h.faults files-old) (h.faults files-new))
    (MayTear (h.writes files-old) (h.writes files-new)) (Rose (o.faults old) (o.faults new)) result

abbrev pub WroteIn : {H O : Type 0} → files.Ghosts H → sink.Ghosts O → (List (List ℕ) → Type 0) → H → H → O → O
    → Result (Unit {0}) Stop → Type 0
WroteIn h o T files-old files-new old new result =
    CommandWrote T (λ n. n) (o.taken old) (o.taken new) (h.writes files-old).done (h.writes files-new).done result

abbrev pub WroteForIn : {H O : Type 0} → files.Ghosts H → sink.Ghosts O → Option FipAsked → H → H → O → O
    → Result (Unit {0}) Stop → Type 0
WroteForIn h o asked files-old files-new old new result =
    WroteFor asked (o.taken old) (o.taken new) (h.writes files-old).done (h.writes files-new).done result

-- What was done of a listing of the source, by its result. What files tell stays.
abbrev pub ReadSourceIn : {I O : Type 0} → source.Ghosts I → sink.Ghosts O → Option Directory → Option Directory → I → I → O → O
    → Result (Unit {0}) Stop → Type 0
ReadSourceIn i o told now source-old source-new old new result =
    (given : List ℕ) × StopsInTime given × (now ≡ told) × IsReadFor result (i.left source-old) (i.left source-new) given
    × Did (outcome_by prints (given_value given)) no_files (Some no_files) (o.taken old) (o.taken new)
    (Rose (i.faults source-old) (i.faults source-new)) ⊥ (Rose (o.faults old) (o.faults new)) result

-- ---- what is done

-- a refusal with this status has made no file, and asked for none but those that it comes by
abbrev pub RefusesAlone : {H : Type 0} → files.Ghosts H → Option FipAsked → H → H → ℕ → Type 0
RefusesAlone h asked before after status =
    IsRefusalStatus status → (access : Access) → IsUnneeded asked status access → h.spares before after access

-- What was done by a part of a command that writes files, each with its text behind it, whatever files there are.
pub record WritesTexts {H O : Type 0} (h : files.Ghosts H) (o : sink.Ghosts O) (T : List (List ℕ) → Type 0)
    (result : Result (Unit {0}) Stop) (files_before files_after : H) (sink_before sink_after : O) : Type 0 where
  pub wrote : WroteIn h o T files_before files_after sink_before sink_after result
  -- at most one call of the files failed, and none unless it ended for that
  pub file_count : FaultsOnce (h.faults files_before) (h.faults files_after) result
  pub cause : result ≡ Err stop.FileFault → Rose (h.faults files_before) (h.faults files_after)
  pub late : IfErr result IsLate
  pub later : h.faults files_before ≤ h.faults files_after
  pub later_sink : o.faults sink_before ≤ o.faults sink_after
  pub sink_count : o.faults sink_after ≡ sink_failures result (o.faults sink_before)

-- What was done for one entry of the package in the file `from`, by its result.
pub record Unpacked {H O : Type 0} (h : files.Ghosts H) (o : sink.Ghosts O) (from prefix : List ℕ) (entry : Entry)
    (result : Result (Unit {0}) Stop) (files_before files_after : H) (sink_before sink_after : O) : Type 0 where
  pub told : (told : Directory) (bytes : List ℕ) → h.contents files_before ≡ Some told → told from ≡ Some bytes
      → DidIn h o (Makes (unpack_steps prefix bytes (entry ∷ []))) told files_before files_after sink_before sink_after result
  -- the file that is read is not the one that is written
  pub other : OnOk result (is_unpacked prefix from ≡ false → from ≢ unpacked_name prefix entry.guid)
  pub silent : h.contents files_before ≡ None → h.contents files_after ≡ None
  pub unspoiled : OnOk result (NoneUnwritten (h.writes files_before) (h.writes files_after))
  pub texts : WritesTexts h o (λ texts. texts ≡ unpacked_line prefix entry ∷ []) result files_before files_after sink_before
      sink_after
  -- no access is made but these: the package is asked for, and the file of its payload made
  pub spares : (access : Access) → access ≢ Asks from → access ≢ Makes (unpacked_name prefix entry.guid)
      → h.spares files_before files_after access

-- What was done in files and a sink for what the words ask for, by its result, before the line that says why it stopped. Where it
-- lists the source, a call of that may have failed instead of one of the files.
pub record DoneWithFiles {H O : Type 0} (h : files.Ghosts H) (o : sink.Ghosts O) (source-rose : Type 0) (asked : Option FipAsked)
    (result : Result (Unit {0}) Stop) (files_before files_after : H) (sink_before sink_after : O) : Type 0 where
  -- over told files the first ones of the command's steps, and all of them where it is done
  pub told : (told : Directory) → h.contents files_before ≡ Some told → asked ≢ Some info_of_source
      → DidIn h o (outcome_of asked told) told files_before files_after sink_before sink_after result
  -- whatever files there are, its lines, and each of its files once, with its line behind it
  pub wrote : WroteForIn h o asked files_before files_after sink_before sink_after result
  -- at most one call of the files failed, and none unless it ended for that
  pub file_count : FaultsOnce (h.faults files_before) (h.faults files_after) result
  pub cause : result ≡ Err stop.FileFault → h.contents files_before ≡ None
      → Rose (h.faults files_before) (h.faults files_after) ⊎ source-rose
  -- each refusal is one of what was asked for
  pub refusals : IfErr result (MayRefuse asked)
  -- no access is made that the words don't name; a file in which a piece of a made one lies counts as asked for
  pub spares : (access : Access) → IsUnnamedBy asked access → h.spares files_before files_after access
  pub alone : IfErr result (λ s. RefusesAlone h asked files_before files_after (exit_status s))
  pub later : o.faults sink_before ≤ o.faults sink_after
  pub sink_count : o.faults sink_after ≡ sink_failures result (o.faults sink_before)

-- What was done for a listing of the source, and which stops may end it.
pub record DoneWithSource {I O : Type 0} (i : source.Ghosts I) (o : sink.Ghosts O) (result : Result (Unit {0}) Stop)
    (source_before source_after : I) (sink_before sink_after : O) : Type 0 where
  pub listed : (told : Option Directory) → ReadSourceIn i o told told source_before source_after sink_before sink_after result
  -- no read of the source is made behind one that gave no bytes or failed
  pub once : ReadsOnce i source_before source_after
  -- its text, and no file
  pub wrote : (count : ℕ) → WroteFor (Some info_of_source) (o.taken sink_before) (o.taken sink_after) count count result
  pub cause : result ≡ Err stop.FileFault → Rose (i.faults source_before) (i.faults source_after)
  pub later : o.faults sink_before ≤ o.faults sink_after
  pub source_count : i.faults source_after ≡ source_failures result (i.faults source_before)
  pub sink_count : o.faults sink_after ≡ sink_failures result (o.faults sink_before)
  pub refusals : IfErr result (MayRefuse (Some info_of_source))

-- What is done by the making of a file, with its line behind it. A stop that came in place of what was to be made is handed on, and
-- nothing is done.
abbrev pub PutsMade : {H O : Type 0} → files.Ghosts H → sink.Ghosts O → Format → Result Made Stop → Result (Unit {0}) Stop
    → H → H → O → O → Type 0
PutsMade h o format (Ok made) result files-old files-new old new =
    WritesTexts h o (λ texts. texts ≡ made_line format made.count made.frame.size ∷ []) result files-old files-new old new
PutsMade h o format (Err s) result files-old files-new old new = (result ≡ Err s) × (files-new ≡ files-old) × (new ≡ old)

-- As DoneWithFiles, with what is seen of the source.
pub record CommandDone {H I O : Type 0} (h : files.Ghosts H) (i : source.Ghosts I) (o : sink.Ghosts O)
    (asked : Option FipAsked) (result : Result (Unit {0}) Stop)
    (files_before files_after : H) (source_before source_after : I) (sink_before sink_after : O) : Type 0 where
  pub done : DoneWithFiles h o (Rose (i.faults source_before) (i.faults source_after)) asked result files_before files_after
      sink_before sink_after
  pub source : asked ≡ Some info_of_source
      → ReadSourceIn i o (h.contents files_before) (h.contents files_after) source_before source_after sink_before sink_after result
  -- usage is answered exactly where nothing is asked for, or there is no memory to see that
  pub words : asked ≡ None → (result ≡ Err stop.Usage) ⊎ (result ≡ Err stop.NoMemory)
  pub usage : result ≡ Err stop.Usage → asked ≡ None
  -- only a listing of the source reads it
  pub source_stays : asked ≢ Some info_of_source → source_after ≡ source_before
  -- no read of the source is made behind one that gave no bytes or failed
  pub once : ReadsOnce i source_before source_after
  pub source_count : asked ≡ Some info_of_source
      → i.faults source_after ≡ source_failures result (i.faults source_before)
  pub files_stay : IsFalse (asks_files asked) → files_after ≡ files_before

-- How the tool ended, by its status: how its command ended, what that did, and with which line the tool told why.
pub record ToolEnded {H I O : Type 0} (h : files.Ghosts H) (i : source.Ghosts I) (o : sink.Ghosts O) (asked : Option FipAsked)
    (status : ℕ) (files_before files_after : H) (source_before source_after : I) (sink_before sink_after : O) : Type 0 where
  pub result : Result (Unit {0}) Stop
  -- the sink once the command had ended, before the line of a stop
  pub between : O
  pub done : CommandDone h i o asked result files_before files_after source_before source_after sink_before between
  pub told : EndsWithLine (o.taken between) (o.taken sink_after) (Rose (o.faults between) (o.faults sink_after)) result status
