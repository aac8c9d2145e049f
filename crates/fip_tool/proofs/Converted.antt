-- The conversions keep the types and the payloads.
use Rattle.std.proofs.Common.{◌≡◌, ◌≢◌, ◌≤◌, ◌+◌, ◌*◌, ◌==◌, ℕ, suc, true, List, [], ◌∷◌, Option, Some, None, Result, Ok, Err, IsTrue, get_or, length, map, drop, arith, refl, sym, ap, subst, ◌∙◌, eq-eqb, ltb}
use Rattle.std.specs.List.{All, list_all}
use Rattle.std.specs.Str.{bytes_eq}
use Rattle.std.proofs.lemmas.Bool.{and_from}
use Rattle.std.proofs.lemmas.List.{length-drop, length-take-le}
use Rattle.std.proofs.lemmas.List.FromFn.{get_or-map-range_with_len}
use Rattle.std.proofs.lemmas.Slice.Eq.{bytes_eq-Decides}
use Rattle.host_io.specs.Contents.{Directory}
use Rattle.fwu_formats.specs.Capsule.{capsule_of}
use Rattle.fwu_formats.specs.Package.{Entry, Part, Toc, entry_at, packed, payload, toc_of}
use Rattle.fwu_formats.proofs.Tables.{table-of}
use Rattle.fip_tables.specs.{Again.part_has_fields, Files.Tells, Frame.AreSixteen, Packing.pack_fault}
use Rattle.fip_tables.specs.declared.faults.PackFault.{PackFault}
use Rattle.fip_tables.proofs.Again.{passed-is-read}
use Rattle.capsule_tables.specs.Making.{IsCapsuleOf, capsule_bytes, make_fault}
use Rattle.capsule_tables.proofs.{ReadAgain.made-is-read, Within.is-read, Within.no-flags, Within.types-sixteen}
use Rattle.fip_words.specs.Order.{FipAsked, info_of_source, capsule, repackage}
use Rattle.fip_tool.specs.{Converted.Converts, Converted.IsConverted, Lines.capsule_line, Lines.packed_line, Tool.outcome_of, Tool.puts}
use Rattle.fip_tool.specs.Steps.{Are, Did, Makes, Refuses, CommandStep, outcome_by, with_file, with_steps}
use Rattle.fip_making.specs.Values.{and_then, capsule_value, enclose_value, kept_part, pack_value, repackage_value, or_stop, there, unless}
use Rattle.fip_making.specs.declared.stops.Stop.{Stop}
use Rattle.fip_making.specs.declared.stops.Stop.TheVariants as stop

-- ---- the parts of entries

map-map : {X Y Z : Type 0} (f : X → Y) (g : Y → Z) (h : X → Z) (xs : List X) → ((x : X) → g (f x) ≡ h x) → map g (map f xs) ≡ map h xs
map-map f g h [] same = refl
map-map {X} {Y} {Z} f g h (x ∷ xs) same =
    ap (λ (z : Z). z ∷ map g (map f xs)) (same x) ∙ ap (λ (zs : List Z). h x ∷ zs) (map-map f g h xs same)

sixteen-parts : (bytes : List ℕ) (es : List Entry) → All (λ e. length e.guid ≡ 16) es → AreSixteen (map (kept_part bytes) es)
sixteen-parts bytes [] all = tt
sixteen-parts bytes (e ∷ es) all = (all 0 e (omega arith), sixteen-parts bytes es (λ k d lt. all (suc k) d (omega (arith, lt))))

fields-parts : (bytes : List ℕ) (es : List Entry) → All (λ e. length e.guid ≡ 16) es → All (λ e. e.flags ≡ 0) es → IsTrue (list_all part_has_fields (map (kept_part bytes) es))
fields-parts bytes [] long none = refl
fields-parts bytes (e ∷ es) long none =
    and_from (part_has_fields (kept_part bytes e)) (list_all part_has_fields (map (kept_part bytes) es))
    (and_from (length e.guid == 16) (ltb e.flags 18446744073709551616) (eq-eqb (length e.guid) 16 (long 0 e (omega arith)))
    (let low : e.flags ≡ 0 = none 0 e (omega arith) in ap (λ (n : ℕ). ltb n 18446744073709551616) low))
    (fields-parts bytes es (λ k d lt. long (suc k) d (omega (arith, lt))) (λ k d lt. none (suc k) d (omega (arith, lt))))

-- the types of a package have sixteen bytes
package-sixteen : (bytes : List ℕ) (toc : Toc) → toc_of bytes ≡ Ok toc → All (λ e. length e.guid ≡ 16) toc.entries
package-sixteen bytes toc e = λ k d lt.
    let t = table-of bytes toc e in
    let at = 16 + 40 * k in
    let here : get_or toc.entries k d ≡ entry_at bytes k =
    ap (λ (es : List Entry). get_or es k d) t.entries ∙ get_or-map-range_with_len (entry_at bytes) 0 (length toc.entries) k k d lt (omega arith) in
    let whole = t.whole in
    let room : 16 ≤ length (drop at bytes) = omega (arith, length-drop at bytes, whole, lt) in
    subst (λ (x : Entry). length x.guid ≡ 16) (sym here) (length-take-le 16 (drop at bytes) room)

-- ---- what is written

-- the file is there then
file-there : (out bytes : List ℕ) (files : Directory) (now : Option Directory) → Are now (with_file out bytes files) → Tells now out bytes
file-there out bytes files None are = absurd are
file-there out bytes files (Some d) are =
    let same : bytes_eq out out ≡ true = (bytes_eq-Decides out out).1 refl in
    are out ∙ rw same refl

-- a command that was done has a value
done-has : {X : Type 0} (steps : X → List CommandStep) (r : Result X Stop) (files : Directory) (now : Option Directory) (was text : Option (List ℕ)) (rose spoiled sink-rose : Type 0)
    → Did (outcome_by steps r) files now was text rose spoiled sink-rose (Ok tt) → (x : X) × (r ≡ Ok x) × Are now (with_steps (steps x) files)
done-has steps (Ok x) files now was text rose spoiled sink-rose d = (x, refl, d.1)
done-has steps (Err s) files now was text rose spoiled sink-rose d = let no : Refuses s ≡ Makes [] = d.0 in cc

-- ---- a table of a file, and what is made of it

-- a value that a table of a file gives is one of some bytes with that table
record IsOfTable {F X : Type 0} (read : List ℕ → Result Toc F) (o : Option (List ℕ)) (f : List ℕ × Toc → Result X Stop) (made : X) : Type 0 where
  bytes : List ℕ
  toc : Toc
  is : o ≡ Some bytes
  table : read bytes ≡ Ok toc
  value : f (bytes, toc) ≡ Ok made

from-table : {F X : Type 0} (read : List ℕ → Result Toc F) (stopped : F → Stop) (o : Option (List ℕ)) (f : List ℕ × Toc → Result X Stop) (made : X)
    → and_then (and_then (there o) (λ bytes. and_then (or_stop stopped (read bytes)) (λ t. Ok (bytes, t)))) f ≡ Ok made → IsOfTable read o f made
from-table read stopped None f made h = cc
from-table {F = F} {X = X} read stopped (Some bytes) f made h = by-table (read bytes) refl h
  where
    by-table : (r : Result Toc F) → read bytes ≡ r → and_then (and_then (or_stop stopped r) (λ t. Ok (bytes, t))) f ≡ Ok made → IsOfTable read (Some bytes) f made
    by-table (Err s) is h = cc
    by-table (Ok toc) is h = record { bytes = bytes; toc = toc; is = refl; table = is; value = h }

-- what was made had no fault
fault-none : {X : Type 0} (o : Option PackFault) (x made : X) → unless stop.NotPacked o (Ok x) ≡ Ok made → (o ≡ None) × (made ≡ x)
fault-none None x made e = (refl, cc)
fault-none (Some f) x made e = absurd cc

module _ (files : Directory) (now : Option Directory) (from out : List ℕ) (made : ℕ × List ℕ) (are : Are now (with_file out made.1 files)) where
  -- parts that are read again keep all
  keeps-all : {F G : Type 0} (read : List ℕ → Result Toc F) (read_again : List ℕ → Result Toc G) (old new : List ℕ) (was is : Toc)
      → files from ≡ Some old → read old ≡ Ok was → made.1 ≡ new → read_again new ≡ Ok is
      → map (λ (e : Entry). e.guid) is.entries ≡ map (λ (p : Part). p.guid) (map (kept_part old) was.entries)
      → map (payload new) is.entries ≡ map (λ (p : Part). p.bytes) (map (kept_part old) was.entries) → IsConverted read read_again files now from out
  keeps-all read read_again old new was is given table same again types payloads = record {
    old = old;
    new = new;
    was = was;
    is = is;
    given = (given, table);
    made = (subst (λ (l : List ℕ). Tells now out l) same (file-there out made.1 files now are), again);
    types = types ∙ map-map (kept_part old) (λ (p : Part). p.guid) (λ (e : Entry). e.guid) was.entries (λ e. refl);
    payloads = payloads ∙ map-map (kept_part old) (λ (p : Part). p.bytes) (payload old) was.entries (λ e. refl);
  }

  capsule-kept : capsule_value files from ≡ Ok made → IsConverted toc_of capsule_of files now from out
  unfolding capsule_value enclose_value
  capsule-kept value =
      let t = from-table toc_of stop.NotFip (files from) (λ p. enclose_value (map (kept_part p.0) p.1.entries)) made value in
      let parts = map (kept_part t.bytes) t.toc.entries in
      let two = fault-none {X = ℕ × List ℕ} (make_fault parts) (length parts, capsule_bytes parts) made t.value in
      let again : IsCapsuleOf parts (capsule_bytes parts) = made-is-read parts two.0 (sixteen-parts t.bytes t.toc.entries (package-sixteen t.bytes t.toc t.table)) in
      keeps-all toc_of capsule_of t.bytes (capsule_bytes parts) t.toc again.toc t.is t.table (ap (λ (m : ℕ × List ℕ). m.1) two.1) again.read again.types again.payloads

  package-kept : (a : ℕ) → repackage_value files a from ≡ Ok made → IsConverted capsule_of toc_of files now from out
  unfolding repackage_value pack_value
  package-kept a value =
      let t = from-table capsule_of stop.NotCapsule (files from) (λ p. pack_value p.1.serial p.1.flags (map (kept_part p.0) p.1.entries) a) made value in
      let parts = map (kept_part t.bytes) t.toc.entries in
      let two = fault-none {X = ℕ × List ℕ} (pack_fault parts a) (length parts, packed t.toc.serial t.toc.flags parts a) made t.value in
      let r = is-read t.bytes t.toc t.table in
      let serial = r.serial in
      let flags = r.flags in
      let again =
      passed-is-read t.toc.serial t.toc.flags parts a two.0 (fields-parts t.bytes t.toc.entries (types-sixteen t.bytes t.toc t.table) (no-flags t.bytes t.toc t.table))
      (omega (arith, serial)) (omega (arith, serial)) (omega (arith, flags)) in
      keeps-all capsule_of toc_of t.bytes (packed t.toc.serial t.toc.flags parts a) t.toc again.0 t.is t.table (ap (λ (m : ℕ × List ℕ). m.1) two.1) again.1 again.4 again.6

-- ---- by the words

pub converted : (a : Option FipAsked) (files : Directory) (now : Option Directory) (was text : Option (List ℕ)) (rose spoiled sink-rose : Type 0)
    → (a ≢ Some info_of_source → Did (outcome_of a files) files now was text rose spoiled sink-rose (Ok tt)) → Converts a files now
converted (Some (capsule from out)) files now was text rose spoiled sink-rose h =
    let d = done-has (puts capsule_line out) (capsule_value files from) files now was text rose spoiled sink-rose (h (λ e. cc)) in
    capsule-kept files now from out d.0 d.2 d.1
converted (Some (repackage a from out)) files now was text rose spoiled sink-rose h =
    let d = done-has (puts packed_line out) (repackage_value files a from) files now was text rose spoiled sink-rose (h (λ e. cc)) in
    package-kept files now from out d.0 d.2 a d.1
converted a files now was text rose spoiled sink-rose h = tt
