-- When a call may answer that it failed, and how calls are counted.
use Rattle.std.specs.Prelude.{◌≡◌, ◌≤◌, ◌+◌, ◌↔◌, ℕ, Result, Err, IsErr, OnErr, OnOk}
use Rattle.base_core.specs.Counts.{Rose}
use Rattle.host_io.specs.Calls.{Calls, IsListed, counted, failures, raised, write_counted, write_failures}
use Rattle.host_io.specs.declared.stops.WriteStop.{WriteStop}
use Rattle.host_io.specs.declared.stops.WriteStop.TheVariants.{Failed, NoMemory}

-- one more fault is counted
pub record CountsFault (before now : ℕ) : Type 0 where
  pub count : now ≡ raised before
  pub later : before ≤ now
  pub once : now ≤ before + 1
  pub rose : Rose before now

-- a call fails only where its object's faults rose, by one at most; the last clause says it all, and the others follow from it
pub record HasCause {T E : Type 0} (before now : ℕ) (result : Result T E) : Type 0 where
  pub later : before ≤ now
  pub once : now ≤ before + 1
  pub done : OnOk result (now ≡ before)
  pub failed : OnErr result (Rose before now)
  pub count : now ≡ failures result before

-- a write fails only where its object's faults rose, by one at most, and for want of memory without a fault; all by the last clause
pub record HasWriteCause {T : Type 0} (before now : ℕ) (result : Result T WriteStop) : Type 0 where
  pub later : before ≤ now
  pub once : now ≤ before + 1
  pub done : OnOk result (now ≡ before)
  pub failed : result ≡ Err Failed → Rose before now
  pub memory : result ≡ Err NoMemory → now ≡ before
  pub count : now ≡ write_failures result before

-- a call of an object in memory: it is counted, and fails exactly where its number is listed
pub record CountsCall {T E : Type 0} (result : Result T E) (old new : Calls) : Type 0 where
  pub listed : IsErr result ↔ IsListed old
  pub calls : new ≡ counted result old
  pub cause : HasCause old.faults new.faults result

-- a write of an object in memory: likewise, but one that finds no memory has no number, and isn't counted
pub record CountsWriting {T : Type 0} (result : Result T WriteStop) (old new : Calls) : Type 0 where
  pub listed : (result ≡ Err Failed) ↔ IsListed old
  pub calls : new ≡ write_counted result old
  pub cause : HasWriteCause old.faults new.faults result
