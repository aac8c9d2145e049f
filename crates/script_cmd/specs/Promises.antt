-- What `run` or `boot` promises, whichever way it ends, on a plain flash and behind a partition table.
use Rattle.std.specs.Prelude.{◌≡◌, ℕ, Bool, List, Some, None, Ok, Err, slice_get, ◌≢◌, ◌+◌, ◌≤◌, ◌⊎◌, ◌++◌, Option, IsTrue, IsFalse}
use Rattle.std.specs.Prelude.{◌||◌, ◌==◌, [], length}
use Rattle.fwu_model.specs.{declared.kinds.Note.Note, State.State, Sound.Setting, Sound.choice, Reply.Turn, Answer.booted_package}
use Rattle.fwu_model.specs.{Seen.seen, Call.Call, Allow.list_bytes, Calm.IsAtRest, Calm.IsGuarded, Contract.Premises, Contract.Asks}
use Rattle.fwu_model.specs.{Headline.Headline, Headline.Outcome, Asked.script_asked, Wrote.Wrote, Causes.EndsAs, Causes.IsServed}
use Rattle.fwu_model.specs.declared.kinds.Note.TheVariants as note
use Rattle.fwu_model.specs.declared.kinds.NoBoot.TheVariants as no_boot
use Rattle.fwu_formats.specs.{declared.kinds.LayoutFault.LayoutFault, Layout.Layout, Manifest.version}
use Rattle.fwu_formats.specs.Image.{layout_seen, deciding}
use Rattle.fwu_model.specs.Reply as reply
use Rattle.flash_core.specs.{Counts.Rose, Counts.all_stops, Told.NothingDirty, Told.Told, May.Guards, May.May}
use Rattle.agent_machine.specs.Fields.{Fields}
use Rattle.host_io.specs.Contents.{Directory}
use Rattle.fwu_model.specs.Call as call
use Rattle.fwu_model.specs.{Causes.cuts_in, Causes.may_fail_before, Causes.note_by, Causes.status_by, Run.ends_run}
use Rattle.fwu_words.specs.Order.{Asked}
use Rattle.fwu_words.specs.Order as ask
use Rattle.script_runs.specs.{Sourced.in_short, Ending.Ending, Ending.World, Ending.Device, Ending.in_model, Ending.noted}
use Rattle.script_runs.specs.{Ending.PutsNone, Ending.is_beyond_model, Ways.Given, Ways.Refuses, Ways.Way, WaysByTable.ReadsScript}
use Rattle.script_runs.specs.ByTable.{Looks, Starts, StopsBefore, flash_fault_line, lacked_in, no_table_line, seen_at}
use Rattle.host_io.specs.Printed.{Prints}
use Rattle.script_turns.specs.{Boots.BootsFrom, Powered.TurnMoment, Powered.SameDevice}
use Rattle.script_turns.specs.Runs.{Follows, LossesAreDue, RunTouches, RunsFree, power_left, stops_of}
use Rattle.gpt_core.specs.{declared.layout.Places.Places, declared.table.WhichTable.WhichTable, Beside.Beside, Beside.TouchesPlaces}
use Rattle.gpt_core.specs.{PlacesOf.places_of, Places.through, Repair.HeadersGuarded, View.view_of, View.writes_seen}
use Rattle.gpt_core.specs.Table.{DecidesTable, Table, table_in_image}
use Rattle.script_runs.specs.declared.done.NoTable.{NoTable}
use Rattle.script_runs.specs.declared.done.Note as own
use Rattle.script_runs.specs.declared.done.Note.TheVariants as own_note
use Rattle.script_cmd.specs.Handed.{Inputs}

-- ---- the program for the one command `boot`, on any told flash with nothing dirty, sound or not

-- By the layout, the metadata and the choice. The bank that is chosen is booted, as the first turn tells, with the version of the
-- package that it holds. Or the note says what was lacking.
pub record BootWordBy (passes : List ℕ → Bool) (image : List ℕ) (status : ℕ) (noted : Note)
    (journal : List Turn) : Type 0 where
  pub no_layout : (f : LayoutFault) → layout_seen image ≡ Err f → (status ≡ 6) × (noted ≡ note.Boot (no_boot.Layout f))
  pub no_metadata : (L : Layout) → layout_seen image ≡ Ok L → deciding L image ≡ None → (status ≡ 6)
      × (noted ≡ note.Boot no_boot.Metadata)
  pub no_bank : (E : Setting) (s : State) → layout_seen image ≡ Ok E.layout → passes ≡ E.passes
      → seen image ≡ Some s → choice E s ≡ None
      → (status ≡ 6) × (noted ≡ note.Boot (no_boot.Bank s.active s.previous))
  pub bank : (E : Setting) (s : State) (b : ℕ) → layout_seen image ≡ Ok E.layout → passes ≡ E.passes
      → seen image ≡ Some s → choice E s ≡ Some b
      → (status ≡ 0) × (turn : Turn) × (slice_get journal 0 ≡ Some turn) × (trials : ℕ) × (counter : ℕ) × (fallback : Bool)
      × (turn.reply ≡ reply.Booted b (version (booted_package s b)) trials counter fallback)

-- ---- what `run` or `boot` promises, whichever way it ends

-- what the program was given to read, with the script that its words and its source give
abbrev pub given_to : Inputs → Given
given_to inputs = record { list = inputs.list; files = inputs.files; script = script_asked (in_short inputs.asked) inputs.source }

-- what it was asked for, and what it left
abbrev pub outcome : List Call → List Turn → ℕ → TurnMoment → TurnMoment → Outcome
outcome calls journal status old new =
    record {
      calls = calls;
      status = status;
      journal = journal;
      device = new.told;
      armed = new.armed;
      before = old.counts;
      after = new.counts;
    }

-- from a sound flash, where files and script are told too, the headline for the calls that are asked for
abbrev pub HeadlineHolds : (List ℕ → Bool) → Bool → Inputs → Ending Note → World → World → Type 0
HeadlineHolds passes tells inputs ending old new =
    IsTrue tells → (E : Setting) (start : State) (calls : List Call)
    → Premises E start old.flash.told inputs.files passes old.flash.counts new.flash.counts
    → Asks (in_short inputs.asked) inputs.source calls
    → Headline E start (outcome calls ending.journal ending.status old.flash new.flash)

-- what the sink took, where it tells that
abbrev pub WroteHolds : Option Asked → Given → Ending Note → World → World → Type 0
WroteHolds asked g ending old new =
    (before : List ℕ) → old.taken ≡ Some before → (w : List ℕ) ×
    (new.taken ≡ Some (before ++ w)) × Wrote (Refuses asked g old.faults new.faults) g.script
    (list_bytes g.list g.files) ending.status ending.noted ending.journal w

-- why it ended as it did
abbrev pub EndsHold : Option Asked → Given → Ending Note → World → World → Type 0
EndsHold asked g ending old new =
    EndsAs (in_short asked) g.list g.files g.script ending.status ending.noted ending.journal
    old.flash.counts new.flash.counts old.faults new.faults

-- a turn that ends a run is the last one, and the status and the note are by its reply
abbrev pub EndsByLast : List Turn → ℕ → Note → Type 0
EndsByLast journal status noted = (n : ℕ) (t : Turn) → slice_get journal n ≡ Some t → IsTrue (ends_run t.reply)
    → (n + 1 ≡ length journal) × (status ≡ status_by t.reply) × (noted ≡ note_by t.reply)

-- What holds of the turns of any run, whichever way it ended. They began with the device as it was handed in.
pub record RanHolds (passes : List ℕ → Bool) (tells : Bool) (files : Option Directory) (journal : List Turn)
    (old new : World) : Type 0 where
  -- what the agent keeps at last, where a bank was started, and how often the files had failed as the turns ended
  pub on : Option Fields
  pub to : ℕ
  -- For every device what each turn did, from the device as it was handed in to what is left of it. Its reply is that of each
  -- machine that the agent shows. A boot's reply tells whether an agent is there, and with which numbers it begins. While off a
  -- call of the agent is answered `off`. What the agent keeps is known, and what an armed loss counts. So are the causes of the
  -- turn. The files' faults begin with those that the files had counted when they were handed in, so none comes before the first
  -- turn.
  pub follows : Follows passes tells files journal old.flash (record new.flash { on = on }) old.faults.files to
  -- where a turn ran, no fault of the files comes behind the last one
  pub ends : journal ≢ [] → to ≡ new.faults.files
  -- On a device that counts its writes, whatever its reads gave, from one on which no bank was started: blocks 0 and 4 were neither
  -- erased nor programmed. Where the turns have one boot, and its agent is there at the end, nor was a block but 1 to 6 and those
  -- of the bank behind its own.
  pub touches : old.flash.on ≡ None → RunTouches journal old.flash (record new.flash { on = on })
  -- for every device: where no turn ran it is as it was
  pub untouched : journal ≡ [] → SameDevice old.flash new.flash
  -- its power is by the replies
  pub power : new.flash.power ≡ power_left old.flash.power journal
  -- no failure and no loss is counted but those that its turns tell
  pub once : all_stops new.flash.counts ≤ all_stops old.flash.counts + stops_of journal
  -- the same blocks are guarded
  pub guard : IsTrue tells → new.flash.told.guard ≡ old.flash.told.guard
  -- where none was armed at first and no turn is a `cut`, no armed loss is reached
  pub free : old.flash.armed ≡ None → cuts_in journal ≡ 0 → RunsFree journal old.flash new.flash
  -- There are no more lost turns than `cut`s, a loss that was armed at first, and losses that the device counted. That count may
  -- stand at the greatest number.
  pub due : LossesAreDue journal old.flash new.flash
  -- on any told flash with nothing dirty, sound or not: a first turn that is a boot goes by the bytes
  pub first : IsTrue tells → NothingDirty old.flash.told → (t : Turn) → slice_get journal 0 ≡ Some t
      → t.call ≡ call.Boot → BootsFrom passes old.flash.told.now t.reply
  -- From such a flash with blocks 1 to 7 guarded no loss harms what is in use, even where a seal came about by chance. And with
  -- power nothing dirty or under way meets blocks 0 to 7.
  pub guarded : IsTrue tells → NothingDirty old.flash.told → Guards 1 7 old.flash.told → IsGuarded new.flash.told
      × (IsTrue new.flash.power → IsAtRest new.flash.told)

-- The one command `boot`, on any told flash with nothing dirty, where no failure and no loss stopped it, and the list had no bad
-- line, goes by the bytes. Where no loss was armed none that is armed can stop it.
abbrev pub BootWordHolds : (List ℕ → Bool) → Bool → Option Asked → Ending Note → TurnMoment → TurnMoment → Type 0
BootWordHolds passes tells asked ending old new =
    IsTrue tells → NothingDirty old.told → asked ≡ Some ask.boot
    → IsFalse (may_fail_before ending.status || (ending.status == 13))
    → (old.armed ≡ None) ⊎ (Rose old.counts.reached new.counts.reached → ⊥)
    → (Rose old.counts.faults new.counts.faults → ⊥) → (Rose old.counts.cuts new.counts.cuts → ⊥)
    → BootWordBy passes old.told.now ending.status ending.noted ending.journal

-- from a sound flash all is done, where nothing was lacking and nothing failed, unless memory was wanting
abbrev pub CompleteHolds : (List ℕ → Bool) → Bool → Inputs → Ending Note → World → World → Type 0
CompleteHolds passes tells inputs ending old new =
    IsTrue tells → (E : Setting) (start : State) (calls : List Call) (script : List ℕ)
    → Premises E start old.flash.told inputs.files passes old.flash.counts new.flash.counts
    → Asks (in_short inputs.asked) inputs.source calls
    → script_asked (in_short inputs.asked) inputs.source ≡ Some script
    → IsServed (outcome calls ending.journal ending.status old.flash new.flash) (in_short inputs.asked)
    inputs.list inputs.files script old.faults new.faults
    → (ending.status ≡ 0) ⊎ (ending.status ≡ 9)

-- ---- in one

-- All that `run` or `boot` promises.
pub record Promised (passes : List ℕ → Bool) (tells : Bool) (inputs : Inputs) (ending : Ending Note)
    (old new : World) : Type 0 where
  -- From a sound flash, where files and script are told too, the turns are those of the machine. Every image that a loss may leave
  -- shows a state that they lead to, and each boot selects a complete and permitted package.
  pub headline : HeadlineHolds passes tells inputs ending old new
  -- Of a sink that tells its bytes (the standard output does not), over every device, files and source: the lines of what was done,
  -- at every status.
  pub wrote : WroteHolds inputs.asked (given_to inputs) ending old new
  -- For every device, files, source and sink: which turns and causes ended the run. Which calls they are, and why 4 and 8, where
  -- the source tells its bytes; why 13, where the files do.
  pub ends : EndsHold inputs.asked (given_to inputs) ending old new
  -- For every device: what each turn did, and how the device is left. On a told flash with nothing dirty, whose front is guarded,
  -- no loss harms what is in use.
  pub turns : RanHolds passes tells inputs.files ending.journal old new
  -- `boot` on any told flash with nothing dirty, sound or not, where nothing failed, goes by the bytes.
  pub boot_word : BootWordHolds passes tells inputs.asked ending old.flash new.flash
  -- From a sound flash all is done, where nothing was lacking and nothing failed, unless memory was wanting.
  pub complete : CompleteHolds passes tells inputs ending old new

-- ---- as laws

-- Each way that a run may end promises these, also for a text that its words don't ask for.
abbrev pub WaysHold : Type 0
WaysHold =
    (passes : List ℕ → Bool) (tells : Bool) (asked : Option Asked) (g : Given) (ending : Ending Note) (old new : World)
    → Way passes tells asked g ending old new
    → WroteHolds asked g ending old new × EndsHold asked g ending old new
    × RanHolds passes tells g.files ending.journal old new

-- And with what its words ask for, all of them.
abbrev pub WaysArePromised : Type 0
WaysArePromised =
    (passes : List ℕ → Bool) (tells : Bool) (inputs : Inputs) (ending : Ending Note) (old new : World)
    → Way passes tells inputs.asked (given_to inputs) ending old new
    → Promised passes tells inputs ending old new

-- ---- what `run --gpt` or `boot --gpt` promises, whichever way it ends

-- what is compared, of the flash that a device has at these places
abbrev pub seen_in : Places → World → World
seen_in p w = record w { flash = seen_at p w.flash }

-- A run began on the flash that a device has at the places that its table gives.
pub record RunsByTable (passes : List ℕ → Bool) (device : Device) (inputs : Inputs) (ending : Ending own.Note)
    (old new : World) : Type 0 where
  pub places : Places
  pub start : TurnMoment
  pub starts : Starts device.tells device.blocks old.flash places start
  -- no turn changed anything besides the three partitions, and nothing there is unsure
  pub beside : IsTrue device.tells → Beside places start.told new.flash.told
  -- On any device that counts its writes: no turn erased or programmed a block besides them, and what came before the turns
  -- none of theirs.
  pub touches : TouchesPlaces places start.writes new.flash.writes
  pub unwritten : writes_seen places start.writes ≡ writes_seen places old.flash.writes
  -- where nothing was dirty the flash is at the start what it was when it was handed in
  pub seen : IsTrue device.tells → NothingDirty old.flash.told → view_of places start.told ≡ view_of places old.flash.told
  -- all that a run promises, of the flash at these places
  pub promises : Promised passes device.tells inputs (in_model ending)
      (record old { flash = seen_at places start }) (seen_in places new)
  -- and no lack of a table is noted
  pub plain : IsFalse (is_beyond_model ending.noted)

-- the list that was named is good, and the script was read whole and has these calls
abbrev pub ReadsCalls : Inputs → Type 0
ReadsCalls inputs = (calls : List Call) × ReadsScript inputs.asked (given_to inputs) calls

-- Why no run began, by the status that was planned, with its line. The sink took it, failed (3), or found no memory for it (9).
pub record NotBegun (device : Device) (inputs : Inputs) (ending : Ending own.Note) (old new : World) : Type 0 where
  pub planned : ℕ
  pub line : List ℕ
  pub prints : Prints line planned ending.status old.taken new.taken old.faults.sink new.faults.sink
  -- the table gives no flash, and what it lacks is noted, on a told device just that; power came, and nothing was written
  pub lacked : planned ≡ 10 → (why : NoTable) × (ending.noted ≡ own_note.NoTable why) × (line ≡ no_table_line why)
      × Looks device.tells old.flash new.flash × (IsTrue device.tells → lacked_in device.blocks new.flash.told.now ≡ Some why)
  -- the device stopped, at the reading of the table or at its repair
  pub stopped : planned ≡ 5 → (ending.noted ≡ own_note.Nothing) × (line ≡ flash_fault_line)
      × StopsBefore device.tells device.blocks old.flash new.flash
  -- memory was wanting: nothing was touched, or power came
  pub starved : planned ≡ 9 → (ending.status ≡ 9) × (ending.noted ≡ own_note.Nothing) × PutsNone old new
      × ((new.flash ≡ old.flash) ⊎ (ReadsCalls inputs × Looks device.tells old.flash new.flash))
  -- the device is looked at behind a good list and a script that was read
  pub reads : IsTrue ((planned == 5) || (planned == 10)) → ReadsCalls inputs
  -- each other status is of a refusal as without a table, and nothing was touched
  pub refused : IsFalse ((planned == 5) || (planned == 9) || (planned == 10)) → (new.flash ≡ old.flash)
      × Refuses inputs.asked (given_to inputs) old.faults new.faults planned (noted ending.noted) line
  pub plain : planned ≢ 10 → IsFalse (is_beyond_model ending.noted)

-- a valid table gives these places
pub record TableGives (blocks : ℕ) (image : List ℕ) (p : Places) : Type 0 where
  pub table : Table
  pub which : WhichTable
  pub decides : table_in_image blocks image ≡ Some (table, which)
  pub gives : places_of blocks table ≡ Ok p

-- from a sound flash behind a valid table the headline, for the calls that are asked for
abbrev pub HeadlineByTable : (List ℕ → Bool) → Device → Inputs → Ending own.Note → World → World → Type 0
HeadlineByTable passes device inputs ending old new =
    (p : Places) → NothingDirty old.flash.told → TableGives device.blocks old.flash.told.now p
    → (ending.journal ≢ []) ⊎ (ending.status ≡ 0)
    → HeadlineHolds passes device.tells inputs (in_model ending) (seen_in p old) (seen_in p new)

-- Where no turn ran and not all was done, the flash behind a valid table is the same in each image that a loss may
-- leave. Where both headers are guarded so is the table that decides.
pub record KeepsFlash (blocks : ℕ) (p : Places) (table : Table) (old new : Told) : Type 0 where
  pub same : (image : List ℕ) → May new image → through p image ≡ through p old.now
  pub decides : HeadersGuarded blocks old → (image : List ℕ) → May new image → DecidesTable blocks table image

abbrev pub KeptByTable : Device → Ending own.Note → TurnMoment → TurnMoment → Type 0
KeptByTable device ending old new =
    IsTrue device.tells → (p : Places) → NothingDirty old.told → (gives : TableGives device.blocks old.told.now p)
    → ending.journal ≡ [] → ending.status ≢ 0 → KeepsFlash device.blocks p gives.table old.told new.told

-- From such a flash all is done, where nothing was lacking, nothing failed and no loss came before the first turn,
-- unless memory was wanting.
abbrev pub CompleteByTable : (List ℕ → Bool) → Device → Inputs → Ending own.Note → World → World → Type 0
CompleteByTable passes device inputs ending old new =
    (p : Places) → NothingDirty old.flash.told → TableGives device.blocks old.flash.told.now p
    → (ending.journal ≡ [] → Rose old.flash.counts.cuts new.flash.counts.cuts → ⊥)
    → CompleteHolds passes device.tells inputs (in_model ending) (seen_in p old) (seen_in p new)

-- All that `run --gpt` or `boot --gpt` promises.
pub record PromisedByTable (passes : List ℕ → Bool) (device : Device) (inputs : Inputs) (ending : Ending own.Note)
    (old new : World) : Type 0 where
  -- For every device, files, source and sink, told or not: why no run began, with the line, and how the device is left.
  pub unbegun : ending.journal ≡ [] → ending.status ≢ 0 → NotBegun device inputs ending old new
  -- For every device: where a turn ran or all was done, a run began behind the table, and it promises all that one
  -- on a plain flash does.
  pub run : (ending.journal ≢ []) ⊎ (ending.status ≡ 0) → RunsByTable passes device inputs ending old new
  -- Where none began, no loss harms the flash behind a valid table.
  pub kept : KeptByTable device ending old.flash new.flash
  -- From a sound flash behind a valid table: the turns are those of the machine.
  pub headline : HeadlineByTable passes device inputs ending old new
  -- And all is done.
  pub complete : CompleteByTable passes device inputs ending old new
