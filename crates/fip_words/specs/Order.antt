-- What the words of `fip` ask for.
use Rattle.std.specs.Prelude.{ℕ, List, Option, Some, None, codes, if◌then◌else◌, map, option_and_then}
use Rattle.base_core.specs.Bytes.{same_bytes}
use Rattle.clap.specs.Words.{Row, Text, first_of}
use Rattle.clap_words.specs.Words.{reads}
pub use Rattle.clap_words.specs.Answers.{file_in, values_of}
use Rattle.fip_words.specs.{Commands.fip_app, declared.values.FileWord.FileWord, declared.order.FipOrder.FipOrder}
use Rattle.fip_words.specs.Values.{NamedFile, NamedImage, align_of, number_read, is_unpacked, names_of, named_parts_of, named_rows_of}
use Rattle.fip_words.specs.declared.values.ImageWord.{ImageWord}
use Rattle.fip_words.specs.declared.order.FipOrder.TheVariants.{Info, InfoOfSource, Create, Update, Remove, Unpack, Manifest, Capsule, Package}

-- a command with its values
pub data FipAsked : Type 0 where
  info : List ℕ → FipAsked
  info_of_source : FipAsked
  create : ℕ → List ℕ → List NamedFile → FipAsked
  update : ℕ → List ℕ → List ℕ → List NamedFile → FipAsked
  remove : ℕ → List ℕ → List ℕ → List (List ℕ) → FipAsked
  unpack : List ℕ → List ℕ → List (List ℕ) → FipAsked
  manifest : List ℕ → ℕ → List NamedImage → FipAsked
  capsule : List ℕ → List ℕ → FipAsked
  repackage : ℕ → List ℕ → List ℕ → FipAsked

abbrev pub part_view : FileWord → NamedFile
part_view p = record { guid = p.guid; file = p.file.now }

abbrev pub image_view : ImageWord → NamedImage
image_view r = record { guid = r.guid; version = r.version; file = r.file.now }

-- an order, without where its words lie in memory
abbrev pub view : FipOrder → FipAsked
view (Info file) = info file.now
view InfoOfSource = info_of_source
view (Create align out parts) = create align out.now (map part_view parts.items)
view (Update align from out parts) = update align from.now out.now (map part_view parts.items)
view (Remove align from out names) = remove align from.now out.now names.items
view (Unpack from prefix names) = unpack from.now prefix.now names.items
view (Manifest out security rows) = manifest out.now security (map image_view rows.items)
view (Capsule from out) = capsule from.now out.now
view (Package align from out) = repackage align from.now out.now

-- `-` is the source
abbrev pub info_by : Option Text → Option FipAsked
info_by file = option_and_then (λ name. if same_bytes name (codes "-") then Some info_of_source else Some (info name)) file

abbrev pub create_by : Option ℕ → Option Text → Option (List NamedFile) → Option FipAsked
create_by align out parts =
    option_and_then (λ a. option_and_then (λ o. option_and_then (λ ps. Some (create a o ps)) parts) out) align

abbrev pub update_by : Option ℕ → Option Text → Option Text → Option (List NamedFile) → Option FipAsked
update_by align from out parts =
    option_and_then (λ a. option_and_then (λ f. option_and_then (λ o.
    option_and_then (λ ps. Some (update a f o ps)) parts) out) from) align

abbrev pub remove_by : Option ℕ → Option Text → Option Text → Option (List (List ℕ)) → Option FipAsked
remove_by align from out names =
    option_and_then (λ a. option_and_then (λ f. option_and_then (λ o.
    option_and_then (λ ns. Some (remove a f o ns)) names) out) from) align

-- not where IN is a file that may be written
abbrev pub unpack_by : Option Text → Option Text → Option (List (List ℕ)) → Option FipAsked
unpack_by from prefix names =
    option_and_then (λ f. option_and_then (λ p.
    option_and_then (λ ns. if is_unpacked p f then None else Some (unpack f p ns)) names) prefix) from

abbrev pub manifest_by : Option Text → Option ℕ → Option (List NamedImage) → Option FipAsked
manifest_by out security rows =
    option_and_then (λ o. option_and_then (λ s. option_and_then (λ rs. Some (manifest o s rs)) rows) security) out

abbrev pub capsule_by : Option Text → Option Text → Option FipAsked
capsule_by from out = option_and_then (λ f. option_and_then (λ o. Some (capsule f o)) out) from

abbrev pub repackage_by : Option ℕ → Option Text → Option Text → Option FipAsked
repackage_by align from out =
    option_and_then (λ a. option_and_then (λ f. option_and_then (λ o. Some (repackage a f o)) out) from) align

abbrev pub align_in : List Row → Option ℕ
align_in rows = align_of (first_of (codes "align") rows)

abbrev pub info_of : List Row → Option FipAsked
info_of rows = info_by (file_in (codes "file") rows)

abbrev pub create_of : List Row → Option FipAsked
create_of rows = create_by (align_in rows) (file_in (codes "out") rows) (named_parts_of (values_of (codes "parts") rows))

abbrev pub update_of : List Row → Option FipAsked
update_of rows =
    update_by (align_in rows) (file_in (codes "in") rows) (file_in (codes "out") rows)
    (named_parts_of (values_of (codes "parts") rows))

abbrev pub remove_of : List Row → Option FipAsked
remove_of rows =
    remove_by (align_in rows) (file_in (codes "in") rows) (file_in (codes "out") rows) (names_of (values_of (codes "parts") rows))

abbrev pub unpack_of : List Row → Option FipAsked
unpack_of rows = unpack_by (file_in (codes "in") rows) (file_in (codes "prefix") rows) (names_of (values_of (codes "names") rows))

abbrev pub manifest_order_of : List Row → Option FipAsked
manifest_order_of rows =
    manifest_by (file_in (codes "out") rows) (option_and_then number_read (first_of (codes "security") rows))
    (named_rows_of (values_of (codes "rows") rows))

abbrev pub capsule_order_of : List Row → Option FipAsked
capsule_order_of rows = capsule_by (file_in (codes "in") rows) (file_in (codes "out") rows)

abbrev pub repackage_of : List Row → Option FipAsked
repackage_of rows = repackage_by (align_in rows) (file_in (codes "in") rows) (file_in (codes "out") rows)

-- the command of a name, where its values are in their grammars and keep the rules on names
abbrev pub order_of : Text → List Row → Option FipAsked
order_of name rows =
    if same_bytes name (codes "info") then info_of rows
    else if same_bytes name (codes "create") then create_of rows
    else if same_bytes name (codes "update") then update_of rows
    else if same_bytes name (codes "remove") then remove_of rows
    else if same_bytes name (codes "unpack") then unpack_of rows
    else if same_bytes name (codes "manifest") then manifest_order_of rows
    else if same_bytes name (codes "capsule") then capsule_order_of rows
    else if same_bytes name (codes "package") then repackage_of rows
    else None

-- What the words ask for. None where they are refused.
abbrev pub asked : List Text → Option FipAsked
asked words = option_and_then (λ p. order_of p.0 p.1) (reads fip_app words)
