-- What each command of `fip` does, by the bytes of its files: the written files and the printed text.
use Rattle.std.specs.Prelude.{◌≡◌, ◌⊎◌, ℕ, Bool, true, false, List, [], ◌∷◌, Option, Some, None, Result, Ok, Err, length, filter}
use Rattle.std.specs.Io.KnownBytes.{Consumes, IsAtEnd}
use Rattle.base_core.specs.Counts.{Rose}
use Rattle.host_io.specs.Contents.{Directory}
use Rattle.host_io.specs.declared.writes.Writes as count
use Rattle.fwu_formats.specs.Package.{Entry, payload, toc_of}
use Rattle.fip_tables.specs.Answers.{decided}
use Rattle.fip_words.specs.Order.{FipAsked, info, info_of_source, create, update, remove, unpack, manifest, capsule, repackage}
use Rattle.fip_tool.specs.Lines.{EndsWithLine, capsule_line, info_text, manifest_line, packed_line, unpacked_line, unpacked_name}
use Rattle.fip_tool.specs.Steps.{CommandPlan, Did, Makes, MayTear, Refuses, CommandStep, Writes, Prints, outcome_by}
use Rattle.fip_making.specs.declared.stops.Stop.{Stop}
use Rattle.fip_making.specs.Values.{and_then, capsule_value, create_value, first_missing, given_table, has_type_among, manifest_value, package_read_in, remove_value, repackage_value, sized_table, unless, update_value}
use Rattle.fip_making.specs.declared.stops.Stop.TheVariants as stop

-- ---- info

unfoldable pub info_value : Directory → List ℕ → Result (List ℕ) Stop
info_value files name = and_then (sized_table files name) (λ t. Ok (info_text t.0 t.1))

abbrev pub prints : List ℕ → List CommandStep
prints text = Prints text ∷ []

unfoldable pub given_value : List ℕ → Result (List ℕ) Stop
given_value given = and_then (given_table given) (λ t. Ok (info_text t.0 t.1))

-- ---- files that are made

-- the steps for a file that was made, with the line for a count and a size
abbrev pub puts : (ℕ → ℕ → List ℕ) → List ℕ → ℕ × List ℕ → List CommandStep
puts line out made = Writes out made.1 ∷ Prints (line made.0 (length made.1)) ∷ []

-- ---- payloads that are written

-- the entries that are named, or all where none is named
abbrev pub chosen : List (List ℕ) → List Entry → List Entry
chosen [] entries = entries
chosen (guid ∷ guids) entries = filter (has_type_among (guid ∷ guids)) entries

abbrev pub unpack_steps : List ℕ → List ℕ → List Entry → List CommandStep
unpack_steps prefix bytes [] = []
unpack_steps prefix bytes (e ∷ entries) =
    Writes (unpacked_name prefix e.guid) (payload bytes e) ∷ Prints (unpacked_line prefix e) ∷ unpack_steps prefix bytes entries

unfoldable pub unpack_value : Directory → List ℕ → List (List ℕ) → Result (List ℕ × List Entry) Stop
unpack_value files from guids =
    and_then (package_read_in files from) (λ p. unless stop.NoSuchEntry (first_missing p.1 guids)
    (Ok (p.0, chosen guids p.1.entries)))

-- ---- commands

-- what the words ask for, done with these files
abbrev pub outcome_of : Option FipAsked → Directory → CommandPlan
outcome_of None files = Refuses stop.Usage
outcome_of (Some (info file)) files = outcome_by prints (info_value files file)
outcome_of (Some info_of_source) files = Refuses stop.Usage
outcome_of (Some (create align out parts)) files = outcome_by (puts packed_line out) (create_value files align parts)
outcome_of (Some (update align from out parts)) files = outcome_by (puts packed_line out) (update_value files align from parts)
outcome_of (Some (remove align from out names)) files = outcome_by (puts packed_line out) (remove_value files align from names)
outcome_of (Some (unpack from prefix names)) files = outcome_by (λ v. unpack_steps prefix v.0 v.1) (unpack_value files from names)
outcome_of (Some (manifest out security rows)) files =
    outcome_by (puts (λ count size. manifest_line count size security) out) (manifest_value files security rows)
outcome_of (Some (capsule from out)) files = outcome_by (puts capsule_line out) (capsule_value files from)
outcome_of (Some (repackage align from out)) files = outcome_by (puts packed_line out) (repackage_value files align from)

-- all but usage and a listing of the source ask for a file
abbrev pub asks_files : Option FipAsked → Bool
asks_files None = false
asks_files (Some info_of_source) = false
asks_files (Some asked) = true

-- no files at all
abbrev pub no_files : Directory
no_files name = None

-- The source gave these bytes. All was read at status 0, and where bytes that have no lasting fault are no package.
abbrev pub IsReadFor : Result (Unit {0}) Stop → Option (List ℕ) → Option (List ℕ) → List ℕ → Type 0
IsReadFor (Ok done) was left given = Consumes was left given × IsAtEnd left
IsReadFor (Err (stop.NotFip f)) was left given = Consumes was left given × (IsAtEnd left ⊎ (decided (toc_of given) ≡ Err f))
IsReadFor (Err s) was left given = Consumes was left given

-- ---- when all is done

-- Where what is read is there and nothing refuses it, and no call failed, all is done, unless memory was wanting.
abbrev pub IsCompleteCommand : Type 0
IsCompleteCommand =
    (steps : List CommandStep) (files : Directory) (now : Option Directory) (was mid text : Option (List ℕ))
    (f g s m t status : ℕ) (w x : count.Writes) (result : Result (Unit {0}) Stop)
    → Did (Makes steps) files now was mid (Rose f g) (MayTear w x) (Rose s m) result
    → EndsWithLine mid text (Rose m t) result status
    → (Rose f g → ⊥) → (Rose s m → ⊥) → (Rose m t → ⊥) → (status ≡ 0) ⊎ (status ≡ 9)

-- A listing of the source, where what it gave is a package: no call of the source or of the sink failed, and so all of it is
-- listed, unless memory was wanting.
abbrev pub IsCompleteListing : Type 0
IsCompleteListing =
    (given : List ℕ) (steps : List CommandStep) (was mid text : Option (List ℕ)) (f g s m t status : ℕ)
    (result : Result (Unit {0}) Stop) → outcome_by prints (given_value given) ≡ Makes steps
    → Did (outcome_by prints (given_value given)) no_files (Some no_files) was mid (Rose f g) ⊥ (Rose s m) result
    → EndsWithLine mid text (Rose m t) result status
    → (Rose f g → ⊥) → (Rose s m → ⊥) → (Rose m t → ⊥) → (status ≡ 0) ⊎ (status ≡ 9)
