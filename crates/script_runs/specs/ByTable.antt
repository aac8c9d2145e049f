-- The flash that a device has behind a GUID partition table, and how it is found before a run.
use Rattle.std.specs.Prelude.{◌≡◌, ◌⊎◌, ℕ, ◌+◌, ◌≤◌, Bool, true, false, List, ◌∷◌, ◌++◌, Option, Some, None, Result, Ok, Err, []}
use Rattle.std.specs.Prelude.{IsTrue, codes, decimal}
use Rattle.flash_core.specs.{Counts.Rose, Counts.all_stops, declared.flash.Counts.Counts, Told.Told, Told.NothingDirty, Told.fresh}
use Rattle.flash_core.specs.May.{Leaves, May, NoChance}
use Rattle.gpt_core.specs.{declared.layout.Places.Places, declared.layout.PlaceFault.PlaceFault}
use Rattle.gpt_core.specs.{declared.table.WhichTable.WhichTable, PlacesOf.places_of, View.view_of, View.writes_seen}
use Rattle.gpt_core.specs.declared.layout.PlaceFault.TheVariants as fault
use Rattle.gpt_core.specs.Table.{Table, FitsTable, DecidesTable, table_in_image}
use Rattle.gpt_core.specs.Repair.{HeadersGuarded, MendsTable, StaysBeside, TouchesToMend}
use Rattle.script_turns.specs.{Powered.TurnMoment, Powered.at, Turning.NoneFalls}
use Rattle.script_runs.specs.{declared.done.NoTable.NoTable, declared.opening.Unopened.Unopened}
use Rattle.script_runs.specs.declared.done.NoTable.TheVariants as no
use Rattle.script_runs.specs.declared.opening.Unopened.TheVariants as unopened

-- what is known of the flash that a device has at these places
abbrev pub seen_at : Places → TurnMoment → TurnMoment
seen_at p m = at m.on (view_of p m.told) (writes_seen p m.writes) m.counts m.armed m.power

-- ---- what a table lacks

abbrev pub lacked_by : Result Places PlaceFault → Option NoTable
lacked_by (Err fault.NoStore) = Some no.Store
lacked_by (Err (fault.Replicas n)) = Some (no.Replicas n)
lacked_by (Err fault.TooSmall) = Some no.TooSmall
lacked_by other = None

abbrev pub lacked_of : ℕ → Option (Table × WhichTable) → Option NoTable
lacked_of blocks None = Some no.Table
lacked_of blocks (Some found) = lacked_by (places_of blocks found.0)

-- Why the bytes of a device of so many blocks have no flash behind a table: there is no table, or it gives no
-- places.
abbrev pub lacked_in : ℕ → List ℕ → Option NoTable
lacked_in blocks image = lacked_of blocks (table_in_image blocks image)

abbrev pub no_table_line : NoTable → List ℕ
no_table_line no.Table = codes "gpt no-table\n"
no_table_line no.Store = codes "gpt no-store\n"
no_table_line (no.Replicas n) = codes "gpt replicas " ++ decimal n ++ 10 ∷ []
no_table_line no.TooSmall = codes "gpt too-small\n"

abbrev pub flash_fault_line : List ℕ
flash_fault_line = codes "flash-fault\n"

-- ---- before a run

-- why a flash stopped where no loss is armed: it failed, or power was lost
abbrev pub StopHasCause : Counts → Counts → Type 0
StopHasCause before after = Rose before.faults after.faults ⊎ Rose before.cuts after.cuts

-- Power came to a device that was off, and left this.
pub record Wakes (old mid : Told) : Type 0 where
  pub fresh_is : mid ≡ fresh old.guard mid.now
  pub leaves : Leaves old mid.now

-- No count fell, no loss was armed and none is, and so no armed loss was reached; and no more stops are counted than these.
pub record Waits (stops : ℕ) (old new : TurnMoment) : Type 0 where
  pub falls : NoneFalls old.counts new.counts
  pub once : all_stops new.counts ≤ all_stops old.counts + stops
  pub made : new.counts.made ≡ old.counts.made
  pub reached : new.counts.reached ≡ old.counts.reached
  pub armed : new.armed ≡ None

-- Power came to it, and nothing was written, on any device.
pub record Looks (tells : Bool) (old new : TurnMoment) : Type 0 where
  pub wakes : IsTrue tells → Wakes old.told new.told
  pub writes : new.writes ≡ old.writes
  pub waits : Waits 0 old new
  pub power : new.power ≡ true

-- The table that decides in a device of so many blocks, which copy is to be repaired, and the places that it
-- gives.
pub record HasPlaces (tells : Bool) (blocks : ℕ) (t : Told) (p : Places) : Type 0 where
  pub table : Table
  pub which : WhichTable
  pub fits : FitsTable blocks table
  pub decides : IsTrue tells → table_in_image blocks t.now ≡ Some (table, which)
  pub gives : places_of blocks table ≡ Ok p

-- Power came to a device, its table was read and repaired, and the flash behind it has these places: here a run
-- begins.
pub record Starts (tells : Bool) (blocks : ℕ) (old : TurnMoment) (p : Places)
    (start : TurnMoment) : Type 0 where
  pub woken : Told
  pub wakes : IsTrue tells → Wakes old.told woken
  pub chance : IsTrue tells → Rose old.counts.chances start.counts.chances ⊎ NoChance old.told woken.now
  pub has : HasPlaces tells blocks woken p
  -- where both headers are guarded, both copies now say the table, and it decides in each image that a loss
  -- may leave
  pub mends : IsTrue tells → HeadersGuarded blocks woken → MendsTable {T = Unit {0}} (Ok tt) blocks has.table start.told
  -- but for the copy that was repaired nothing changed
  pub beside : IsTrue tells → StaysBeside blocks has.table has.which woken start.told
  -- and on any device that counts its writes no other block was erased or programmed
  pub touches : TouchesToMend blocks has.table has.which old.writes start.writes
  pub clean : IsTrue tells → NothingDirty start.told
  pub waits : Waits 0 old start
  pub not_booted : start.on ≡ None
  pub power : start.power ≡ true

-- A repair of the table was stopped.
pub record StopsMending (blocks : ℕ) (woken new : Told) : Type 0 where
  pub table : Table
  pub which : WhichTable
  pub decides : table_in_image blocks woken.now ≡ Some (table, which)
  -- where both headers are guarded the same table decides in each image that a loss may leave
  pub stays : HeadersGuarded blocks woken → (image : List ℕ) → May new image → DecidesTable blocks table image
  pub beside : StaysBeside blocks table which woken new

-- Power was lost or the flash failed before the first turn, at the reading of the table or at its repair.
pub record StopsBefore (tells : Bool) (blocks : ℕ) (old new : TurnMoment) : Type 0 where
  pub woken : Told
  pub wakes : IsTrue tells → Wakes old.told woken
  pub left : IsTrue tells → (new.told ≡ woken) ⊎ StopsMending blocks woken new.told
  -- on any device no block was erased or programmed, but those of the copy that is repaired, of a table that gives places
  pub touches : (new.writes ≡ old.writes)
      ⊎ ((p : Places) × (has : HasPlaces tells blocks woken p) × TouchesToMend blocks has.table has.which old.writes new.writes)
  pub waits : Waits 1 old new
  pub off : new.power ≡ false
  pub cause : StopHasCause old.counts new.counts

-- whether the device is on after this result
abbrev pub goes_on : {T : Type 0} → Result T Unopened → Bool
goes_on (Err unopened.Stopped) = false
goes_on other = true

-- What looking for the flash behind a table leaves, by its result.
abbrev pub Opens : Bool → ℕ → TurnMoment → TurnMoment → Result Places Unopened → Type 0
Opens tells blocks old new (Ok p) = Starts tells blocks old p new
Opens tells blocks old new (Err (unopened.Lacks why)) = Looks tells old new
    × (IsTrue tells → lacked_in blocks new.told.now ≡ Some why)
Opens tells blocks old new (Err unopened.Stopped) = StopsBefore tells blocks old new
Opens tells blocks old new (Err unopened.NoMemory) = Looks tells old new
