-- Where the payloads of a package stand.
use Rattle.std.proofs.Common.{◌≡◌, ◌≤◌, ◌<◌, ◌+◌, ◌-◌, ◌*◌, ℕ, suc, List, [], ◌∷◌, ◌++◌, length, get_or, map, drop, replicate, refl, sym, ap, subst, ◌∙◌, arith, length-append, append_assoc, zero, Bool, take, cond, ltb, Option, Some, None}
use Rattle.std.proofs.lemmas.List.{length-replicate}
use Rattle.std.proofs.Math.Seq.{drop-cons}
use Rattle.std.specs.Int.{next_multiple_of}
use Rattle.base_core.specs.Bytes.{le, same_bytes}
use Rattle.fwu_formats.specs.Package.{Entry, Part, fip_name, packed, packed_entries, payloads, table_bytes, entry_limit}
use Rattle.fip_tables.specs.Packing.{AreOutlines, zeroed, first_of, first_repeat, is_alignment, is_nil, is_repeat, pack_fault, package_limit, packed_part_at, parts_fault}
use Rattle.std.specs.Prelude.{flat_map, position, option_map, nat_lt, not, if◌then◌else◌}
use Rattle.fip_tables.specs.Frame.{AreSixteen, toc_entry_bytes, last_end, marker, table_end}
use Rattle.std.specs.List.{list_any, position_or_len, range_with_len}
use Rattle.fip_tables.specs.declared.faults.PackFault.{PackFault}
use Rattle.fip_tables.specs.declared.faults.PackFault.TheVariants as fault

-- ---- where the payloads of a package go

-- the first payloads are placed
pub record IsPlanning (parts : List Part) (a : ℕ) (entries : List Entry) (end at : ℕ) : Type 0 where
  pub inside : at ≤ length parts
  pub placed : packed_entries a (table_end parts) parts ≡ entries ++ packed_entries a end (drop at parts)
  pub last : last_end a (table_end parts) parts ≡ last_end a end (drop at parts)
  pub count : length entries ≡ at
  pub small : end ≤ 67108864

pub end-le-last : (a end : ℕ) (ps : List Part) → end ≤ last_end a end ps
end-le-last a end [] = omega arith
end-le-last a end (p ∷ ps) = omega (arith, end-le-last a (next_multiple_of end a + length p.bytes) ps)

pub payloads-length : (a end : ℕ) (ps : List Part) → end + length (payloads a end ps) ≡ last_end a end ps
payloads-length a end [] = omega (arith, length-replicate {A = ℕ} (next_multiple_of end a - end) 0)
payloads-length a end (p ∷ ps) =
    let offset = next_multiple_of end a in
    let pad : List ℕ = replicate (offset - end) 0 in
    omega (arith, length-append (pad ++ p.bytes) (payloads a (offset + length p.bytes) ps), length-append pad p.bytes, length-replicate {A = ℕ} (offset - end) 0, payloads-length a (offset + length p.bytes) ps)

-- the next payload ends before the package does
pub next-le-last : (a end at : ℕ) (parts : List Part) (d : Part) → at < length parts → next_multiple_of end a + length (get_or parts at d).bytes ≤ last_end a end (drop at parts)
next-le-last a end at parts d lt =
    subst (λ (ps : List Part). next_multiple_of end a + length (get_or parts at d).bytes ≤ last_end a end ps) (sym (drop-cons parts at d lt))
    (end-le-last a (next_multiple_of end a + length (get_or parts at d).bytes) (drop (suc at) parts))

-- the first entries are appended
pub record HasAdded (before now : List ℕ) (entries : List Entry) (at : ℕ) : Type 0 where
  pub inside : at ≤ length entries
  pub added : before ++ flat_map toc_entry_bytes entries ≡ now ++ flat_map toc_entry_bytes (drop at entries)
  pub forty : length (flat_map toc_entry_bytes entries) ≡ 40 * at + length (flat_map toc_entry_bytes (drop at entries))

-- four pieces, one after another
pub appended : (v a b c d g o s f : List ℕ) → a ≡ v ++ g → b ≡ a ++ o → c ≡ b ++ s → d ≡ c ++ f → d ≡ v ++ (g ++ o ++ s ++ f)
appended v a b c d g o s f p q r t =
    t ∙ ap (λ (x : List ℕ). x ++ f) (r ∙ ap (λ (x : List ℕ). x ++ s) (q ∙ ap (λ (x : List ℕ). x ++ o) p))
    ∙ append_assoc ((v ++ g) ++ o) s f ∙ append_assoc (v ++ g) o (s ++ f) ∙ append_assoc v g (o ++ (s ++ f))
    ∙ ap (λ (x : List ℕ). v ++ x) (sym (append_assoc g o (s ++ f)) ∙ sym (append_assoc (g ++ o) s f))

-- ---- the table of a package

pub table-spelled : (a end : ℕ) (ps : List Part) → table_bytes a end ps ≡ flat_map toc_entry_bytes (packed_entries a end ps) ++ toc_entry_bytes (marker (last_end a end ps))
table-spelled a end [] = refl
table-spelled a end (p ∷ ps) =
    let offset = next_multiple_of end a in
    let next = offset + length p.bytes in
    let e = p.guid ++ le 8 offset ++ le 8 (length p.bytes) ++ le 8 p.flags in
    ap (λ (x : List ℕ). e ++ x) (table-spelled a next ps)
    ∙ sym (append_assoc e (flat_map toc_entry_bytes (packed_entries a next ps)) (toc_entry_bytes (marker (last_end a next ps))))

-- ---- the length of a package

pub outlines-sixteen : (parts : List Part) → AreOutlines parts → AreSixteen parts
outlines-sixteen [] h = tt
outlines-sixteen (p ∷ ps) h = ((h 0 (omega arith)).sixteen, outlines-sixteen ps (λ i lt. h (suc i) (omega (arith, lt))))

pub sixteen-zeroed : (ps : List Part) → AreSixteen (map zeroed ps) → AreSixteen ps
sixteen-zeroed [] h = tt
sixteen-zeroed (p ∷ ps) h = (h.0, sixteen-zeroed ps h.1)

pub table-length : (a end : ℕ) (ps : List Part) → AreSixteen ps → length (table_bytes a end ps) ≡ 40 * (length ps + 1)
table-length a end [] ok = refl
table-length a end (p ∷ ps) ok =
    let next = next_multiple_of end a + length p.bytes in
    let e = p.guid ++ le 8 (next_multiple_of end a) ++ le 8 (length p.bytes) ++ le 8 p.flags in
    length-append e (table_bytes a next ps)
    ∙ omega (arith, length-append (p.guid ++ le 8 (next_multiple_of end a) ++ le 8 (length p.bytes)) (le 8 p.flags), length-append (p.guid ++ le 8 (next_multiple_of end a)) (le 8 (length p.bytes)), length-append p.guid (le 8 (next_multiple_of end a)), ok.0, table-length a next ps ok.1)

pub packed-length : (serial flags : ℕ) (parts : List Part) (a : ℕ) → AreSixteen parts → length (packed serial flags parts a) ≡ last_end a (table_end parts) parts
unfolding packed
packed-length serial flags parts a ok =
    let end = table_end parts in
    let head = le 4 fip_name ++ le 4 serial ++ le 8 flags in
    length-append (head ++ table_bytes a end parts) (payloads a end parts)
    ∙ omega (arith, length-append head (table_bytes a end parts), table-length a end parts ok, payloads-length a end parts)

-- ---- the same first fault

same-position : {X Y : Type 0} (p : X → Bool) (q : Y → Bool) (xs : List X) (ys : List Y) → position_or_len p xs ≡ position_or_len q ys → length xs ≡ length ys → position p xs ≡ position q ys
same-position p q xs ys e f =
    ap (λ (n : ℕ). cond (ltb n (length xs)) (Some n) None) e ∙ ap (λ (m : ℕ). cond (ltb (position_or_len q ys) m) (Some (position_or_len q ys)) None) f

same-places : (p q : ℕ → Bool) (xs : List ℕ) → ((x : ℕ) → p x ≡ q x) → position_or_len p xs ≡ position_or_len q xs
same-places p q [] h = refl
same-places p q (x ∷ xs) h = let e = same-places p q xs h in let f = h x in cc

pub length-zeroed : (ps : List Part) → length (map zeroed ps) ≡ length ps
length-zeroed [] = refl
length-zeroed (p ∷ ps) = let e = length-zeroed ps in cc

same-nil : (ps : List Part) → position_or_len is_nil (map zeroed ps) ≡ position_or_len is_nil ps
same-nil [] = refl
same-nil (p ∷ ps) = let e = same-nil ps in cc

same-type : (ps : List Part) (k : ℕ) (d : Part) → (get_or (map zeroed ps) k d).guid ≡ (get_or ps k d).guid
same-type [] k d = refl
same-type (p ∷ ps) zero d = refl
same-type (p ∷ ps) (suc k) d = same-type ps k d

same-types : (g : List ℕ) (ps : List Part) (k : ℕ) → list_any (λ (p : Part). same_bytes g p.guid) (take k (map zeroed ps)) ≡ list_any (λ (p : Part). same_bytes g p.guid) (take k ps)
same-types g [] zero = refl
same-types g [] (suc k) = refl
same-types g (p ∷ ps) zero = refl
same-types g (p ∷ ps) (suc k) = let e = same-types g ps k in cc

same-repeat : (ps : List Part) (k : ℕ) → is_repeat (map zeroed ps) k ≡ is_repeat ps k
same-repeat ps k =
    ap (λ (g : List ℕ). list_any (λ (p : Part). same_bytes g p.guid) (take k (map zeroed ps))) (same-type ps k (record { guid = []; flags = 0; bytes = [] }))
    ∙ same-types (packed_part_at ps k).guid ps k

same-first-repeat : (ps : List Part) → first_repeat (map zeroed ps) ≡ first_repeat ps
same-first-repeat ps =
    ap (λ (n : ℕ). position (is_repeat (map zeroed ps)) (range_with_len 0 n)) (length-zeroed ps)
    ∙ same-position (is_repeat (map zeroed ps)) (is_repeat ps) (range_with_len 0 (length ps)) (range_with_len 0 (length ps)) (same-places (is_repeat (map zeroed ps)) (is_repeat ps) (range_with_len 0 (length ps)) (same-repeat ps)) refl

pub same-end : (a end : ℕ) (ps : List Part) → last_end a end (map zeroed ps) ≡ last_end a end ps
same-end a end [] = refl
same-end a end (p ∷ ps) = ap (λ (n : ℕ). last_end a (next_multiple_of end a + n) (map zeroed ps)) (length-replicate {A = ℕ} (length p.bytes) 0) ∙ same-end a (next_multiple_of end a + length p.bytes) ps

pub same-entries : (a end : ℕ) (ps : List Part) → packed_entries a end (map zeroed ps) ≡ packed_entries a end ps
same-entries a end [] = refl
same-entries a end (p ∷ ps) =
    ap (λ (n : ℕ). record { guid = p.guid; offset = next_multiple_of end a; size = n; flags = p.flags } ∷ packed_entries a (next_multiple_of end a + n) (map zeroed ps)) (length-replicate {A = ℕ} (length p.bytes) 0)
    ∙ ap (λ (es : List Entry). record { guid = p.guid; offset = next_multiple_of end a; size = length p.bytes; flags = p.flags } ∷ es) (same-entries a (next_multiple_of end a + length p.bytes) ps)

pub same-table : (a end : ℕ) (ps : List Part) → table_bytes a end (map zeroed ps) ≡ table_bytes a end ps
same-table a end [] = refl
same-table a end (p ∷ ps) =
    ap (λ (n : ℕ). p.guid ++ le 8 (next_multiple_of end a) ++ le 8 n ++ le 8 p.flags ++ table_bytes a (next_multiple_of end a + n) (map zeroed ps)) (length-replicate {A = ℕ} (length p.bytes) 0)
    ∙ ap (λ (xs : List ℕ). p.guid ++ le 8 (next_multiple_of end a) ++ le 8 (length p.bytes) ++ le 8 p.flags ++ xs) (same-table a (next_multiple_of end a + length p.bytes) ps)

same-length : (ps : List Part) (a : ℕ) → length (packed 0 0 (map zeroed ps) a) ≡ length (packed 0 0 ps a)
unfolding packed
same-length ps a =
    let head = le 4 fip_name ++ le 4 0 ++ le 8 0 in
    let end = table_end ps in
    ap (λ (n : ℕ). length ((head ++ table_bytes a (16 + 40 * (n + 1)) (map zeroed ps)) ++ payloads a (16 + 40 * (n + 1)) (map zeroed ps))) (length-zeroed ps)
    ∙ ap (λ (xs : List ℕ). length ((head ++ xs) ++ payloads a end (map zeroed ps))) (same-table a end ps)
    ∙ omega (arith, length-append (head ++ table_bytes a end ps) (payloads a end (map zeroed ps)), length-append (head ++ table_bytes a end ps) (payloads a end ps), payloads-length a end (map zeroed ps), payloads-length a end ps, same-end a end ps)

-- the first fault that does not go by sizes, by what it depends on
abbrev shared_by : ℕ → Option ℕ → Option ℕ → Option PackFault
shared_by count repeat nil =
    if nat_lt entry_limit count then Some fault.TooMany else first_of (option_map fault.Duplicate repeat) (option_map fault.NilGuid nil)

shared-is : (ps : List Part) → parts_fault ps ≡ shared_by (length ps) (first_repeat ps) (position is_nil ps)
unfolding parts_fault
shared-is ps = refl

pub zeros-share : (ps : List Part) → parts_fault (map zeroed ps) ≡ parts_fault ps
zeros-share ps =
    let zs = map zeroed ps in
    shared-is zs
    ∙ ap (λ (n : ℕ). shared_by n (first_repeat zs) (position is_nil zs)) (length-zeroed ps)
    ∙ ap (λ (o : Option ℕ). shared_by (length ps) o (position is_nil zs)) (same-first-repeat ps)
    ∙ ap (λ (o : Option ℕ). shared_by (length ps) (first_repeat ps) o) (same-position is_nil is_nil zs ps (same-nil ps) (length-zeroed ps))
    ∙ sym (shared-is ps)

-- and the one that does
abbrev size_by : ℕ → ℕ → Option PackFault
size_by a size = if not (is_alignment a) then Some fault.BadAlign else if nat_lt package_limit size then Some fault.TooLarge else None

fault-is : (ps : List Part) (a : ℕ) → pack_fault ps a ≡ first_of (parts_fault ps) (size_by a (length (packed 0 0 ps a)))
unfolding pack_fault
fault-is ps a = refl

pub zeros-decide : (ps : List Part) (a : ℕ) → pack_fault (map zeroed ps) a ≡ pack_fault ps a
zeros-decide ps a =
    let zs = map zeroed ps in
    fault-is zs a
    ∙ ap (λ (o : Option PackFault). first_of o (size_by a (length (packed 0 0 zs a)))) (zeros-share ps)
    ∙ ap (λ (n : ℕ). first_of (parts_fault ps) (size_by a n)) (same-length ps a)
    ∙ sym (fault-is ps a)
