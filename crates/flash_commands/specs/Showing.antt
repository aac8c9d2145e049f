-- What the command `show` tells and prints.
use Rattle.std.specs.Prelude.{if◌then◌else◌, not, ◌==◌, ◌≡◌, ℕ, ◌+◌, ◌≤◌, ◌++◌, ◌∷◌, Bool, List, Option, Some, Ok, [], Err, IsTrue}
use Rattle.std.specs.Prelude.{codes}
use Rattle.flash_core.specs.{Counts.all_stops, declared.flash.Counts.Counts}
use Rattle.fwu_model.specs.{State.Numbers, declared.kinds.NoBoot.NoBoot, declared.kinds.Note.Note}
use Rattle.fwu_formats.specs.{Layout.Layout, Image.layout_seen, Image.deciding}
use Rattle.fwu_model.specs.Text.{numbers_text, no_boot_text}
use Rattle.fwu_model.specs.declared.kinds.NoBoot.TheVariants as no_boot
use Rattle.fwu_model.specs.declared.kinds.Note.TheVariants as note
use Rattle.early_boot.specs.Numbers.{AreNumbers, ShowsNumbers}
use Rattle.script_runs.specs.{ByTable.StopHasCause, ByTable.Wakes, ByTable.flash_fault_line, Ending.PutsNone, Ending.World}
use Rattle.script_runs.specs.Ways.{Given, HasGoodList, Refuses}
use Rattle.host_io.specs.Printed.{Prints}
use Rattle.fwu_words.specs.Order.{Asked}
use Rattle.fwu_words.specs.Order as ask

abbrev pub shown_line : Numbers → List ℕ
shown_line n = codes "show " ++ numbers_text n ++ 10 ∷ []

abbrev pub not_shown_line : NoBoot → List ℕ
not_shown_line why = codes "show " ++ no_boot_text why ++ 10 ∷ []

-- an image has no layout, or no metadata
abbrev pub ShowsNone : List ℕ → NoBoot → Type 0
ShowsNone image (no_boot.Layout f) = layout_seen image ≡ Err f
ShowsNone image no_boot.Metadata = (L : Layout) × (layout_seen image ≡ Ok L) × (deciding L image ≡ Option.None)
ShowsNone image (no_boot.Bank active previous) = ⊥

-- What `show` found on a flash of which so much is told, with the status, the note and the line of that.
pub data ShowFinds (known : Type 0) (image : List ℕ) (before after : Counts) : ℕ → Note → List ℕ → Type 0 where
  numbers : (n : Numbers) → AreNumbers n → (known → ShowsNumbers image n)
      → ShowFinds known image before after 0 note.Nothing (shown_line n)
  none : (why : NoBoot) → (known → ShowsNone image why) → ShowFinds known image before after 6 (note.Boot why) (not_shown_line why)
  stopped : StopHasCause before after → ShowFinds known image before after 5 note.Nothing flash_fault_line

-- a list of digests was not read or is none, so nothing was looked at
abbrev pub RefusedList : Asked → Given → ℕ → Note → World → World → Type 0
RefusedList asked g status noted old new =
    (planned : ℕ) × (line : List ℕ) × Refuses (Some asked) g old.faults new.faults planned noted line
    × Prints line planned status old.taken new.taken old.faults.sink new.faults.sink

-- How it ended. Nothing was done for want of memory, or since a list of digests was not read or is none. Or it ended by what it
-- found, whose line was put into the sink.
pub data Showed (tells : Bool) (g : Given) (old new : World) (status : ℕ) (noted : Note) : Type 0 where
  starved : status ≡ 9 → noted ≡ note.Nothing → new.flash ≡ old.flash → PutsNone old new → Showed tells g old new status noted
  list_refused : new.flash ≡ old.flash → RefusedList ask.show g status noted old new → Showed tells g old new status noted
  found : HasGoodList g.list g.files → (planned : ℕ) (line : List ℕ) → (IsTrue tells → Wakes old.flash.told new.flash.told)
      → ShowFinds (IsTrue tells) new.flash.told.now old.flash.counts new.flash.counts planned noted line
      → all_stops new.flash.counts ≤ all_stops old.flash.counts + (if planned == 5 then 1 else 0)
      → new.flash.power ≡ not (planned == 5)
      -- on every device, whatever its reads give, no block is erased or programmed
      → new.flash.writes ≡ old.flash.writes
      → Prints line planned status old.taken new.taken old.faults.sink new.faults.sink
      → Showed tells g old new status noted
