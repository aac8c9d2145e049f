-- Packages that are made of others.
use Rattle.std.proofs.Common.{◌≡◌, ◌≤◌, ◌+◌, ℕ, List, [], ◌∷◌, Bool, Option, Some, None, Result, Ok, Err, length, map, refl, sym, ap, subst, ◌∙◌}
use Rattle.std.specs.Prelude.{not, unwrap_or, filter}
use Rattle.std.specs.List.{All}
use Rattle.std.proofs.lemmas.List.Elements.{All-filter}
use Rattle.host_io.specs.Contents.{Directory}
use Rattle.fwu_formats.specs.{Package.Entry, Package.Part, Package.Toc, Package.toc_of, declared.kinds.FipFault.FipFault}
use Rattle.fip_tables.specs.Files.{Lacks, Tells}
use Rattle.fip_words.specs.{Order.part_view, Values.NamedFile, declared.values.FileWord.FileWord}
use Rattle.fip_making.specs.{Payloads.HasEntry, Payloads.file_bytes, declared.stops.Stop.Stop}
use Rattle.fip_making.specs.Values.{and_then, first_missing, has_type_among, kept_part, pack_value, package_read_in, parts_in, remove_value, sized_table, or_stop, there, unless, update_value, updated_part}
use Rattle.fip_making.specs.declared.stops.Stop.TheVariants as stop
use Rattle.fwu_formats.proofs.Tables.{ends-within}
use Rattle.fip_making.proofs.{Packings.held-entries, Packings.held-stored, Packings.held-there, Refusing.err-of}

-- ---- a table that has all named entries

-- the table in a file, where it has an entry of each of these types
abbrev pub table_with : Directory → List ℕ → List (List ℕ) → Result Toc Stop
table_with told name guids = and_then (sized_table told name) (λ t. unless stop.NoSuchEntry (first_missing t.0 guids) (Ok t.0))

-- what is made of such a package
abbrev made_with : {Y : Type 0} → List (List ℕ) → (List ℕ × Toc → Result Y Stop) → Result (List ℕ × Toc) Stop → Result Y Stop
made_with guids k r = and_then r (λ p. unless stop.NoSuchEntry (first_missing p.1 guids) (k p))

abbrev package_of : Option (List ℕ) → Result (List ℕ × Toc) Stop
package_of o = and_then (there o) (λ bytes. and_then (or_stop stop.NotFip (toc_of bytes)) (λ t. Ok (bytes, t)))

abbrev table_by : List (List ℕ) → Result (List ℕ × Toc) Stop → Result Toc Stop
table_by guids r = and_then {X = Toc × ℕ} (and_then r (λ p. Ok (p.1, length p.0))) (λ t. unless stop.NoSuchEntry (first_missing t.0 guids) (Ok t.0))

-- the package that such a table is of
pub record IsOpened (told : Directory) (name : List ℕ) (guids : List (List ℕ)) (toc : Toc) : Type 0 where
  pub bytes : List ℕ
  pub is : told name ≡ Some bytes
  pub table : toc_of bytes ≡ Ok toc
  pub all : first_missing toc guids ≡ None

pub opened : (told : Directory) (name : List ℕ) (guids : List (List ℕ)) (toc : Toc) → table_with told name guids ≡ Ok toc → IsOpened told name guids toc
unfolding sized_table
opened told name guids toc e = by-file (told name) refl e
  where
    by-missing : (bytes : List ℕ) (found : Toc) (m : Option (List ℕ)) → told name ≡ Some bytes → toc_of bytes ≡ Ok found → first_missing found guids ≡ m → unless stop.NoSuchEntry m (Ok found) ≡ Ok toc
        → IsOpened told name guids toc
    by-missing bytes found None is t none h =
        let same : found ≡ toc = cc in
        record { bytes = bytes; is = is; table = t ∙ ap (λ (x : Toc). Ok x) same; all = subst (λ (x : Toc). first_missing x guids ≡ None) same none }
    by-missing bytes found (Some guid) is t some h = cc

    by-table : (bytes : List ℕ) (r : Result Toc FipFault) → told name ≡ Some bytes → toc_of bytes ≡ r → table_by guids (and_then (or_stop stop.NotFip r) (λ t. Ok (bytes, t))) ≡ Ok toc → IsOpened told name guids toc
    by-table bytes (Err f) is t h = cc
    by-table bytes (Ok found) is t h = by-missing bytes found (first_missing found guids) is t refl h

    by-file : (o : Option (List ℕ)) → told name ≡ o → table_by guids (package_of o) ≡ Ok toc → IsOpened told name guids toc
    by-file None is h = cc
    by-file (Some bytes) is h = by-table bytes (toc_of bytes) is refl h

-- a stop of the table is one of what is made
pub stopped : {Y : Type 0} (told : Directory) (name : List ℕ) (guids : List (List ℕ)) (k : List ℕ × Toc → Result Y Stop) (s : Stop) → table_with told name guids ≡ Err s
    → and_then (package_read_in told name) (λ p. unless stop.NoSuchEntry (first_missing p.1 guids) (k p)) ≡ Err s
unfolding sized_table
stopped {Y} told name guids k s e = by-file (told name) e
  where
    by-missing : (bytes : List ℕ) (found : Toc) (m : Option (List ℕ)) → unless stop.NoSuchEntry m (Ok found) ≡ Err s → unless stop.NoSuchEntry m (k (bytes, found)) ≡ Err s
    by-missing bytes found None h = cc
    by-missing bytes found (Some guid) h = err-of h

    by-table : (bytes : List ℕ) (r : Result Toc FipFault) → table_by guids (and_then (or_stop stop.NotFip r) (λ t. Ok (bytes, t))) ≡ Err s → made_with guids k (and_then (or_stop stop.NotFip r) (λ t. Ok (bytes, t))) ≡ Err s
    by-table bytes (Err f) h = err-of h
    by-table bytes (Ok found) h = by-missing bytes found (first_missing found guids) h

    by-file : (o : Option (List ℕ)) → table_by guids (package_of o) ≡ Err s → made_with guids k (package_of o) ≡ Err s
    by-file None h = err-of h
    by-file (Some bytes) h = by-table bytes (toc_of bytes) h

-- and where there is none
pub going-on : {Y : Type 0} (told : Directory) (name : List ℕ) (guids : List (List ℕ)) (toc : Toc) (k : List ℕ × Toc → Result Y Stop) → (o : IsOpened told name guids toc)
    → and_then (package_read_in told name) (λ p. unless stop.NoSuchEntry (first_missing p.1 guids) (k p)) ≡ k (file_bytes told name, toc)
going-on told name guids toc k o =
    ap (λ (f : Option (List ℕ)). made_with guids k (package_of f)) o.is
    ∙ ap (λ (r : Result Toc FipFault). made_with guids k (and_then (or_stop stop.NotFip r) (λ t. Ok (o.bytes, t)))) o.table
    ∙ ap (λ (m : Option (List ℕ)). unless stop.NoSuchEntry m (k (o.bytes, toc))) o.all
    ∙ ap (λ (f : Option (List ℕ)). k (unwrap_or f [], toc)) (sym o.is)

-- ---- what its file holds

module _ (o p : Option Directory) (name : List ℕ) (guids : List (List ℕ)) (toc : Toc) (same : p ≡ o)
    (knows : (told : Directory) → o ≡ Some told → table_with told name guids ≡ Ok toc) where
  held : (told : Directory) → o ≡ Some told
      → (bytes : List ℕ) × (told name ≡ Some bytes) × All (λ e. e.offset + e.size ≤ length bytes) toc.entries
  held told e = let s = opened told name guids toc (knows told e) in (s.bytes, s.is, ends-within s.bytes toc s.table)

  pub stored-of : (bytes : List ℕ) → Tells p name bytes → All (λ e. e.offset + e.size ≤ length bytes) toc.entries
  stored-of = held-stored o p name toc.entries same held

  pub there-of : Lacks p name → ⊥
  there-of = held-there o p name toc.entries same held

  -- each entry's payload is there
  pub has-entries : All (HasEntry p name) toc.entries
  has-entries = held-entries o p name toc.entries same held

-- ---- what is made of it

pub remove-of : (told : Directory) (a : ℕ) (name : List ℕ) (guids : List (List ℕ)) (toc : Toc) (o : IsOpened told name guids toc)
    → remove_value told a name guids ≡ pack_value toc.serial toc.flags (map (kept_part (file_bytes told name)) (filter (λ e. not (has_type_among guids e)) toc.entries)) a
unfolding remove_value
remove-of told a name guids toc o =
    going-on told name guids toc (λ p. pack_value p.1.serial p.1.flags (map (kept_part p.0) (filter (λ e. not (has_type_among guids e)) p.1.entries)) a) o

pub remove-err : (told : Directory) (a : ℕ) (name : List ℕ) (guids : List (List ℕ)) (s : Stop) → table_with told name guids ≡ Err s → remove_value told a name guids ≡ Err s
unfolding remove_value
remove-err told a name guids s e =
    stopped told name guids (λ p. pack_value p.1.serial p.1.flags (map (kept_part p.0) (filter (λ e. not (has_type_among guids e)) p.1.entries)) a) s e

-- the types of the named files
pub types-are : (words : List FileWord) → map (λ q. q.guid) (map part_view words) ≡ map (λ (w : FileWord). w.guid) words
types-are [] = refl
types-are (w ∷ words) = ap (λ (l : List (List ℕ)). w.guid ∷ l) (types-are words)

abbrev updating : Directory → ℕ → List NamedFile → List ℕ × Toc → Result (ℕ × List ℕ) Stop
updating told a parts p = and_then (parts_in told parts) (λ fresh. pack_value p.1.serial p.1.flags (map (updated_part p.0 fresh) p.1.entries) a)

pub update-of : (told : Directory) (a : ℕ) (name : List ℕ) (words : List FileWord) (guids : List (List ℕ)) (toc : Toc) (o : IsOpened told name guids toc) → guids ≡ map (λ (w : FileWord). w.guid) words
    → update_value told a name (map part_view words) ≡ and_then (parts_in told (map part_view words)) (λ fresh. pack_value toc.serial toc.flags (map (updated_part (file_bytes told name) fresh) toc.entries) a)
unfolding update_value
update-of told a name words guids toc o e =
    ap (λ (g : List (List ℕ)). made_with g (updating told a (map part_view words)) (package_read_in told name)) (types-are words ∙ sym e)
    ∙ going-on told name guids toc (updating told a (map part_view words)) o

pub update-err : (told : Directory) (a : ℕ) (name : List ℕ) (words : List FileWord) (guids : List (List ℕ)) (s : Stop) → guids ≡ map (λ (w : FileWord). w.guid) words → table_with told name guids ≡ Err s
    → update_value told a name (map part_view words) ≡ Err s
unfolding update_value
update-err told a name words guids s is e =
    ap (λ (g : List (List ℕ)). made_with g (updating told a (map part_view words)) (package_read_in told name)) (types-are words ∙ sym is)
    ∙ stopped told name guids (updating told a (map part_view words)) s e

-- ---- the parts of a package's entries

pub kept-all : (P : Entry → Type 0) (p : Entry → Bool) (entries kept : List Entry) → kept ≡ filter p entries → All P entries → All P kept
kept-all P p entries kept e h = subst (λ (l : List Entry). All P l) (sym e) (All-filter p P entries h)

pub kept-updated : (bytes : List ℕ) (fresh : List Part) (entries kept : List Entry) → entries ≡ kept → fresh ≡ [] → map (kept_part bytes) kept ≡ map (updated_part bytes fresh) entries
kept-updated bytes fresh entries kept same none =
    ap (map (kept_part bytes)) (sym same) ∙ ap (λ (ps : List Part). map (updated_part bytes ps) entries) (sym none)

pub replaced-value : (parts : Result (List Part) Stop) (serial flags a : ℕ) (bytes : List ℕ) (fresh new : List Part) (es entries : List Entry) → parts ≡ Ok new → fresh ≡ new → es ≡ entries
    → and_then parts (λ ps. pack_value serial flags (map (updated_part bytes ps) entries) a) ≡ pack_value serial flags (map (updated_part bytes fresh) es) a
replaced-value parts serial flags a bytes fresh new es entries e same all =
    ap (λ (r : Result (List Part) Stop). and_then r (λ ps. pack_value serial flags (map (updated_part bytes ps) entries) a)) e
    ∙ ap (λ (ps : List Part). pack_value serial flags (map (updated_part bytes ps) entries) a) (sym same)
    ∙ ap (λ (l : List Entry). pack_value serial flags (map (updated_part bytes fresh) l) a) (sym all)
