-- The stops of commands, the exit status of each, and with which a part of a command may end.
use Rattle.std.specs.Prelude.{◌≢◌, ⊤, ℕ}
use Rattle.host_io.specs.{declared.stops.JoinStop.JoinStop, declared.stops.ReadStop.ReadStop}
use Rattle.host_io.specs.declared.stops.JoinStop.TheVariants as join_stop
use Rattle.host_io.specs.declared.stops.ReadStop.TheVariants as read_stop
use Rattle.capsule_tables.specs.declared.faults.CapsuleStop.{CapsuleStop}
use Rattle.capsule_tables.specs.declared.faults.CapsuleStop.TheVariants as capsule_stop
use Rattle.fip_tables.specs.{declared.faults.PackStop.PackStop, declared.toc.TocStop.TocStop}
use Rattle.fip_tables.specs.declared.faults.PackStop.TheVariants as pack
use Rattle.fip_tables.specs.declared.toc.TocStop.TheVariants as toc
use Rattle.fip_making.specs.declared.stops.Stop.{Stop}
use Rattle.fip_making.specs.declared.stops.Stop.TheVariants as stop

abbrev pub exit_status : Stop → ℕ
exit_status stop.Usage = 1
exit_status stop.FileFault = 2
exit_status stop.SinkFault = 3
exit_status (stop.NotFip f) = 4
exit_status (stop.NoSuchEntry guid) = 5
exit_status (stop.NotPacked f) = 6
exit_status (stop.NoManifest f) = 6
exit_status stop.TooLong = 7
exit_status (stop.NotCapsule f) = 8
exit_status stop.NoMemory = 9

-- the stop of a table that was not read
abbrev pub stop_of_table : TocStop → Stop
stop_of_table (toc.Fault f) = stop.NotFip f
stop_of_table toc.ReadFailed = stop.FileFault

abbrev pub capsule_stopped_by : CapsuleStop → Stop
capsule_stopped_by (capsule_stop.Fault f) = stop.NotCapsule f
capsule_stopped_by capsule_stop.ReadFailed = stop.FileFault

-- the stop of what was not packed
abbrev pub packed_by : PackStop → Stop
packed_by (pack.Fault f) = stop.NotPacked f
packed_by pack.NoMemory = stop.NoMemory

-- the stop of a file that was not read whole
abbrev pub unread_by : ReadStop → Stop
unread_by read_stop.Failed = stop.FileFault
unread_by read_stop.NoMemory = stop.NoMemory

-- the stop of a file that was not made
abbrev pub unmade_by : JoinStop → Stop
unmade_by join_stop.Unread = stop.FileFault
unmade_by join_stop.Failed = stop.FileFault
unmade_by join_stop.NoMemory = stop.NoMemory

-- ---- which stops a part of a command may end with, whatever files there are: what it reads and makes decides that

-- a stop that may come when some steps are done
abbrev pub IsLate : Stop → Type 0
IsLate stop.FileFault = ⊤
IsLate stop.SinkFault = ⊤
IsLate stop.NoMemory = ⊤
IsLate s = ⊥

-- of what doesn't end for want of memory
abbrev pub Unstarved : (Stop → Type 0) → Stop → Type 0
Unstarved IsOwn s = IsOwn s × (s ≢ stop.NoMemory)

-- of a package that is read
abbrev pub IsPackageStop : Stop → Type 0
IsPackageStop (stop.NotFip f) = ⊤
IsPackageStop s = IsLate s

-- of a package that the source gives
abbrev pub IsOfSource : Stop → Type 0
IsOfSource stop.TooLong = ⊤
IsOfSource s = IsPackageStop s

-- of entries of a package, which are named
abbrev pub IsOfEntries : Stop → Type 0
IsOfEntries (stop.NoSuchEntry guid) = ⊤
IsOfEntries s = IsPackageStop s

-- of a capsule that is read
abbrev pub IsOfCapsule : Stop → Type 0
IsOfCapsule (stop.NotCapsule f) = ⊤
IsOfCapsule s = IsLate s

-- of a manifest that is made
abbrev pub IsManifestStop : Stop → Type 0
IsManifestStop (stop.NoManifest f) = ⊤
IsManifestStop s = IsLate s

-- of a package or a capsule that is made: one of these stops, or it is not packed
abbrev pub PackingOr : (Stop → Type 0) → Stop → Type 0
PackingOr IsBefore (stop.NotPacked f) = ⊤
PackingOr IsBefore s = IsBefore s
