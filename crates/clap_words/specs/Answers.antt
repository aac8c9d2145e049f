-- What is asked of a command's arguments, and what a function answers.
use Rattle.std.specs.Prelude.{◌≡◌, List, [], Option, Some, None, Result, Ok, Err, option_and_then, unwrap_or}
use Rattle.clap.specs.Words.{Row, Text, all_of, first_of}
use Rattle.clap_words.specs.{Values.file_named, declared.UsageStop.UsageStop}
use Rattle.clap_words.specs.declared.UsageStop.TheVariants.{Usage, NoMemory}

-- what a function returned, seen by view, is what is asked, unless memory ran out
abbrev pub GivesAsked : {X Y : Type 0} → (X → Y) → Result X UsageStop → Option Y → Type 0
GivesAsked view (Ok x) asked = asked ≡ Some (view x)
GivesAsked view (Err Usage) asked = asked ≡ None
GivesAsked view (Err NoMemory) asked = Unit {0}

-- the values of a repeated argument
abbrev pub values_of : Text → List Row → List Text
values_of id rows = unwrap_or (all_of id rows) []

-- the value of an argument that is a file's name
abbrev pub file_in : Text → List Row → Option Text
file_in id rows = option_and_then file_named (first_of id rows)
