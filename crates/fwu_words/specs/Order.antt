-- What the words of `fwu` ask for.
use Rattle.std.specs.Prelude.{ℕ, Bool, false, List, Option, Some, None, codes, if◌then◌else◌, option_and_then}
use Rattle.base_core.specs.Bytes.{same_bytes}
use Rattle.clap.specs.Words.{Row, Text, first_of}
use Rattle.fwu_formats.specs.Layout.{ImageRow}
use Rattle.clap_words.specs.{Words.reads, Answers.file_in}
use Rattle.fwu_words.specs.{Commands.fwu_app, Values.banks_of, Values.number_read, Values.rows_of, declared.orders.Order.Order}
use Rattle.fwu_words.specs.{declared.orders.Place.Place, declared.orders.ScriptFrom.ScriptFrom}
use Rattle.fwu_words.specs.declared.orders.Order.TheVariants.{Turns, Show, Format, Soak, Serve}
use Rattle.fwu_words.specs.declared.orders.Place.TheVariants as place
use Rattle.fwu_words.specs.declared.orders.ScriptFrom.TheVariants as origin

-- a command with its values
pub data Asked : Type 0 where
  run : Asked
  boot : Asked
  -- with `--gpt`
  run_partitioned : Asked
  boot_partitioned : Asked
  show : Asked
  format : ℕ → List ImageRow → List ℕ → Asked
  soak : (seed : ℕ) → (rounds : ℕ) → Asked
  serve : Asked

-- the turns of a script from there, at this place
abbrev pub turns_of : ScriptFrom → Place → Asked
turns_of origin.Source place.Flash = run
turns_of origin.Source place.Partitions = run_partitioned
turns_of origin.Boot place.Flash = boot
turns_of origin.Boot place.Partitions = boot_partitioned

-- an order, without where its words lie in memory
abbrev pub view : Order → Asked
view (Turns turns) = turns_of turns.from turns.place
view Show = show
view (Format wanted) = format wanted.banks wanted.rows.items wanted.package.now
view (Soak seed rounds) = soak seed rounds
view Serve = serve

abbrev pub format_by : Option ℕ → Option (List ImageRow) → Option Text → Option Asked
format_by banks rows file =
    option_and_then (λ n. option_and_then (λ rs. option_and_then (λ f. Some (format n rs f)) file) rows) banks

-- the values of `format`
abbrev pub banks_in : List Row → Option ℕ
banks_in rows = banks_of (first_of (codes "banks") rows)

abbrev pub layout_in : List Row → Option (List ImageRow)
layout_in rows = option_and_then rows_of (first_of (codes "layout") rows)

abbrev pub format_of : List Row → Option Asked
format_of rows = format_by (banks_in rows) (layout_in rows) (file_in (codes "package") rows)

abbrev pub soak_by : Option ℕ → Option ℕ → Option Asked
soak_by seed rounds = option_and_then (λ s. option_and_then (λ n. Some (soak s n)) rounds) seed

-- the values of `soak`
abbrev pub number_given : Text → List Row → Option ℕ
number_given id rows = option_and_then number_read (first_of id rows)

abbrev pub soak_of : List Row → Option Asked
soak_of rows = soak_by (number_given (codes "seed") rows) (number_given (codes "rounds") rows)

-- whether `--gpt` is given
abbrev pub is_true : Option Text → Bool
is_true None = false
is_true (Some text) = same_bytes text (codes "true")

abbrev pub is_partitioned : List Row → Bool
is_partitioned rows = is_true (first_of (codes "gpt") rows)

-- the command of a name, where its values are in their grammars
abbrev pub order_of : Text → List Row → Option Asked
order_of name rows =
    if same_bytes name (codes "run") then Some (if is_partitioned rows then run_partitioned else run)
    else if same_bytes name (codes "boot") then Some (if is_partitioned rows then boot_partitioned else boot)
    else if same_bytes name (codes "show") then Some show
    else if same_bytes name (codes "format") then format_of rows
    else if same_bytes name (codes "soak") then soak_of rows
    else if same_bytes name (codes "serve") then Some serve
    else None

-- What the words ask for. None where they are refused.
abbrev pub asked : List Text → Option Asked
asked words = option_and_then (λ p. order_of p.0 p.1) (reads fwu_app words)
