-- What can be said of a package before all of its bytes are there, by its answer so far.
use Rattle.std.specs.Prelude.{Bool, true, false, Result, Ok, Err}
use Rattle.fwu_formats.specs.{Package.Toc, declared.kinds.FipFault.FipFault}
use Rattle.fwu_formats.specs.declared.kinds.FipFault.TheVariants.{ShortHeader, NoEnd, Beyond}

-- a fault that no further bytes mend, and of the others nothing
abbrev pub lasting : FipFault → Result (Unit {0}) FipFault
lasting ShortHeader = Ok tt
lasting (NoEnd i) = Ok tt
lasting (Beyond i) = Ok tt
lasting f = Err f

-- the fault of the bytes so far that their continuations have too
abbrev pub decided : Result Toc FipFault → Result (Unit {0}) FipFault
decided (Ok toc) = Ok tt
decided (Err f) = lasting f

-- the table's end marker is there, and no fault before it
abbrev pub has_marker : Result Toc FipFault → Bool
has_marker (Ok toc) = true
has_marker (Err (Beyond i)) = true
has_marker (Err f) = false
