-- The calls of an object in memory. They have the numbers 1, 2 and so on, up to the greatest u64.
use Rattle.std.specs.Prelude.{◌≡◌, ◌⊎◌, ℕ, ◌+◌, min, List, Contains, Option, Some, None, Result, Ok, Err}
use Rattle.host_io.specs.{declared.stops.JoinStop.JoinStop, declared.stops.WriteStop.WriteStop, declared.writes.Writes.Writes}
use Rattle.host_io.specs.declared.stops.WriteStop.TheVariants.{Failed, NoMemory}
use Rattle.host_io.specs.declared.stops.JoinStop.TheVariants as join

pub record Calls : Type 0 where
  -- the numbers of the calls that fail
  pub fails : List ℕ
  -- how many were made
  pub made : ℕ
  -- how many failed
  pub faults : ℕ

-- no call was made, and those of these numbers will fail
abbrev pub unused : List ℕ → Calls
unused fails = record { fails = fails; made = 0; faults = 0 }

-- a count that is one more; it stands still at the greatest u64
abbrev pub raised : ℕ → ℕ
raised count = min (count + 1) 18446744073709551615

-- the number of the next call is listed
abbrev pub IsListed : Calls → Type 0
IsListed calls = Contains calls.fails (raised calls.made)

-- the calls after one that was done
abbrev pub passed : Calls → Calls
passed calls = record calls { made = raised calls.made }

-- the calls after one that failed
abbrev pub failed : Calls → Calls
failed calls = record calls { made = raised calls.made; faults = raised calls.faults }

-- what a read with this result gave: so many bytes, or it failed
abbrev pub gave : {E : Type 0} → Result ℕ E → Option ℕ
gave (Ok count) = Some count
gave (Err _) = None

-- how many calls have failed after one with this result
abbrev pub failures : {T E : Type 0} → Result T E → ℕ → ℕ
failures (Ok _) before = before
failures (Err _) before = raised before

-- how many have failed after a write with this result; one that finds no memory is not counted
abbrev pub write_failures : {T : Type 0} → Result T WriteStop → ℕ → ℕ
write_failures (Ok _) before = before
write_failures (Err Failed) before = raised before
write_failures (Err NoMemory) before = before

-- the writes after one that wrote a file
abbrev pub done_once : Writes → Writes
done_once writes = record writes { done = raised writes.done }

-- the writes after one that failed, and left its file as it was
abbrev pub failed_once : Writes → Writes
failed_once writes = record writes { failed = raised writes.failed }

-- the writes after one that failed, and may have torn its file
abbrev pub torn_once : Writes → Writes
torn_once writes = record writes { failed = raised writes.failed; torn = raised writes.torn }

-- the writes after one with this result that tears no file; one that finds no memory is not counted
abbrev pub writes_after : {T : Type 0} → Result T WriteStop → Writes → Writes
writes_after (Ok _) writes = done_once writes
writes_after (Err Failed) writes = failed_once writes
writes_after (Err NoMemory) writes = writes

-- the same of a write that may have torn its file where it failed
abbrev pub CountsWrite : {T : Type 0} → Result T WriteStop → Writes → Writes → Type 0
CountsWrite (Ok _) before after = after ≡ done_once before
CountsWrite (Err Failed) before after = (after ≡ failed_once before) ⊎ (after ≡ torn_once before)
CountsWrite (Err NoMemory) before after = after ≡ before

-- a joined write as a write: that a piece was not read is a failure
abbrev pub as_write : {T : Type 0} → Result T JoinStop → Result T WriteStop
as_write (Ok done) = Ok done
as_write (Err join.Unread) = Err Failed
as_write (Err join.Failed) = Err Failed
as_write (Err join.NoMemory) = Err NoMemory

-- the writes after a joined write; one whose piece was not read is not counted
abbrev pub CountsJoin : {T : Type 0} → Result T JoinStop → Writes → Writes → Type 0
CountsJoin (Err join.Unread) before after = after ≡ before
CountsJoin result before after = CountsWrite (as_write result) before after

-- the calls after one with this result
abbrev pub counted : {T E : Type 0} → Result T E → Calls → Calls
counted (Ok _) calls = passed calls
counted (Err _) calls = failed calls

-- the calls after a write with this result; one that finds no memory leaves all as it was
abbrev pub write_counted : {T : Type 0} → Result T WriteStop → Calls → Calls
write_counted (Ok _) calls = passed calls
write_counted (Err Failed) calls = failed calls
write_counted (Err NoMemory) calls = calls
