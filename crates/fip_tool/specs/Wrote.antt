-- What is printed and written, whatever files there are: texts one after the other, each behind its file where it has one.
use Rattle.std.specs.Prelude.{◌≡◌, ◌≢◌, ◌⊎◌, ◌+◌, ◌<◌, ◌≤◌, ℕ, zero, suc, List, [], ◌∷◌, ◌++◌, Option, Some, None, Result, Ok, Err, drop, filter, length, map, not, take}
use Rattle.std.specs.List.{concat}
use Rattle.std.specs.Io.KnownBytes.{Appends}
use Rattle.fwu_formats.specs.Package.{Toc}
use Rattle.capsule_tables.specs.Answers.{IsSomeTable}
use Rattle.host_io.specs.Calls.{raised}
use Rattle.fip_words.specs.Order.{FipAsked, info, info_of_source, create, update, remove, unpack, manifest, capsule, repackage}
use Rattle.fip_making.specs.{Stops.IsLate, declared.stops.Stop.Stop}
use Rattle.fip_making.specs.Values.{IsTableOfSome, first_missing, has_type_among}
use Rattle.fip_making.specs.declared.stops.Stop.TheVariants.{FileFault, SinkFault}
use Rattle.fip_tool.specs.Tool.{chosen}
use Rattle.fip_tool.specs.Lines.{capsule_line, info_text, manifest_line, packed_line, unpacked_line}

-- the listing of some package, with some size
abbrev pub IsListing : List ℕ → Type 0
IsListing text = (t : Toc) × (size : ℕ) × IsTableOfSome t × (text ≡ info_text t size)

-- The texts that a command prints, one after the other, when all is done, with some size. Where a table is read, it is some
-- package's, or one that a capsule might have by `IsSomeTable`. Words that ask for nothing have none.
abbrev pub IsTexts : Option FipAsked → List (List ℕ) → Type 0
IsTexts None texts = ⊥
IsTexts (Some (info file)) texts = (text : List ℕ) × IsListing text × (texts ≡ text ∷ [])
IsTexts (Some info_of_source) texts = (text : List ℕ) × IsListing text × (texts ≡ text ∷ [])
IsTexts (Some (create align out parts)) texts = (size : ℕ) × (texts ≡ packed_line (length parts) size ∷ [])
IsTexts (Some (update align from out parts)) texts =
    (t : Toc) × IsTableOfSome t × (size : ℕ) × (first_missing t (map (λ p. p.guid) parts) ≡ None)
    × (texts ≡ packed_line (length t.entries) size ∷ [])
IsTexts (Some (remove align from out names)) texts =
    (t : Toc) × IsTableOfSome t × (size : ℕ) × (first_missing t names ≡ None)
    × (texts ≡ packed_line (length (filter (λ e. not (has_type_among names e)) t.entries)) size ∷ [])
IsTexts (Some (unpack from prefix names)) texts =
    (t : Toc) × IsTableOfSome t × (first_missing t names ≡ None) × (texts ≡ map (unpacked_line prefix) (chosen names t.entries))
IsTexts (Some (manifest out security rows)) texts = (size : ℕ) × (texts ≡ manifest_line (length rows) size security ∷ [])
IsTexts (Some (capsule from out)) texts =
    (t : Toc) × IsTableOfSome t × (size : ℕ) × (texts ≡ capsule_line (length t.entries) size ∷ [])
IsTexts (Some (repackage align from out)) texts =
    (t : Toc) × IsSomeTable t × (size : ℕ) × (texts ≡ packed_line (length t.entries) size ∷ [])

-- so many bytes of the first text
abbrev pub half_of : ℕ → List (List ℕ) → List ℕ
half_of k [] = []
half_of k (text ∷ texts) = take k text

-- ---- what is written with it

-- how many files were written after one writing with this result
abbrev pub written_once : Result (Unit {0}) Stop → ℕ → ℕ
written_once (Ok done) before = raised before
written_once (Err s) before = before

-- a count that is n more; it stands still at the greatest u64
abbrev pub raised_by : ℕ → ℕ → ℕ
raised_by zero count = count
raised_by (suc n) count = raised (raised_by n count)

-- all texts were printed, and as many files were written as so many texts have
pub record WroteAll (T : List (List ℕ) → Type 0) (files_of : ℕ → ℕ) (was text : Option (List ℕ)) (before after : ℕ) : Type 0 where
  pub texts : List (List ℕ)
  pub are : T texts
  pub said : Appends was text (concat texts)
  pub count : after ≡ raised_by (files_of (length texts)) before

-- how many files may be written whose text was not printed whole: none where a file's fault is told
abbrev pub files_ahead : Stop → ℕ
files_ahead FileFault = 0
files_ahead s = 1

-- what stands behind the texts that were printed whole: a front of the next one where the sink failed, and else nothing
abbrev pub IsRestOfTexts : Stop → List ℕ → List (List ℕ) → Type 0
IsRestOfTexts SinkFault rest texts = (k : ℕ) × (rest ≡ half_of k texts)
IsRestOfTexts s rest texts = rest ≡ []

-- Before the stop s as many files were written as texts were printed, which are not all, or one more.
pub record WroteSome (T : List (List ℕ) → Type 0) (files_of : ℕ → ℕ) (s : Stop) (was text : Option (List ℕ))
    (before after : ℕ) : Type 0 where
  pub texts : List (List ℕ)
  pub are : T texts
  pub printed : ℕ
  pub left : printed < length texts
  pub rest : List ℕ
  pub rest_is : IsRestOfTexts s rest (drop printed texts)
  pub said : Appends was text (concat (take printed texts) ++ rest)
  pub files : ℕ
  pub least : printed ≤ files
  pub most : files ≤ printed + files_ahead s
  pub count : after ≡ raised_by (files_of files) before

-- By the result of a command, whose texts are these where all is done. Where it refuses, no file is written, and nothing printed.
abbrev pub CommandWrote : (List (List ℕ) → Type 0) → (ℕ → ℕ) → Option (List ℕ) → Option (List ℕ) → ℕ → ℕ → Result (Unit {0}) Stop
    → Type 0
CommandWrote T files_of was text before after (Ok done) = WroteAll T files_of was text before after
CommandWrote T files_of was text before after (Err s) =
    ((s ≢ SinkFault) × ((after ≡ before) × Appends was text [])) ⊎ (IsLate s × WroteSome T files_of s was text before after)

-- how many files so many texts have: one each, but for a listing
abbrev pub files_with : Option FipAsked → ℕ → ℕ
files_with (Some (info file)) n = 0
files_with (Some info_of_source) n = 0
files_with asked n = n

abbrev pub WroteFor : Option FipAsked → Option (List ℕ) → Option (List ℕ) → ℕ → ℕ → Result (Unit {0}) Stop → Type 0
WroteFor asked was text before after result = CommandWrote (IsTexts asked) (files_with asked) was text before after result
