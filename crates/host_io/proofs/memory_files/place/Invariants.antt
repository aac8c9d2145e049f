use Rattle.std.proofs.Common.{◌≡◌, ◌+◌, drop}
use Rattle.host_io.specs.Contents.{pairs_of, place_in}
use Rattle.host_io.proofs.memory_files.place.Given as goal

abbrev pub invariant-loop-i : goal.invariant-loop-i
invariant-loop-i l = place_in (pairs_of l.files) l.name ≡ l.i + place_in (pairs_of (drop l.i l.files)) l.name
