-- Payloads that are put into a frame, each behind its gap.
use Rattle.std.proofs.Common.{◌≡◌, ◌≤◌, ◌<◌, ◌+◌, ◌-◌, ◌*◌, ℕ, List, [], ◌∷◌, ◌++◌, length, get_or, drop, take, map, replicate, refl, sym, ap, subst, ◌∙◌, arith, length-append, append_assoc}
use Rattle.std.specs.Prelude.{Bool, true, false, flat_map, min, nat_lt}
use Rattle.std.proofs.lemmas.Bool.{ltb-false, ltb-true}
use Rattle.std.proofs.lemmas.List.{drop-replicate, drop_all, drop_more, take-replicate, take_all}
use Rattle.std.proofs.lemmas.List.Sums.{sum_by-cons}
use Rattle.std.proofs.Math.Seq.{drop-append-add, take-append-add}
use Rattle.std.specs.Int.{next_multiple_of}
use Rattle.base_core.specs.Bytes.{le}
use Rattle.fwu_formats.specs.Package.{Entry, Part, fip_name, packed, packed_entries, payloads, table_bytes}
use Rattle.host_io.specs.Joined.{Chunk, joined}
use Rattle.fip_tables.specs.Packing.{AreOutlines, zeroed}
use Rattle.fip_tables.specs.Frame.{AreInOrder, AreSixteen, chunks, toc_entry_bytes, gaps_from, last_end, marker, sizes_of, table_end, tabled, up_to}
use Rattle.fip_tables.proofs.Plans.{outlines-sixteen, packed-length, sixteen-zeroed, table-length, table-spelled, length-zeroed, same-end, same-entries}

-- ---- the order of the payloads

pub entries-count : (a end : ℕ) (ps : List Part) → length (packed_entries a end ps) ≡ length ps
entries-count a end [] = refl
entries-count a end (p ∷ ps) = omega (arith, entries-count a (next_multiple_of end a + length p.bytes) ps)

pub gaps-count : (end : ℕ) (es : List Entry) → length (gaps_from end es) ≡ length es
gaps-count end [] = refl
gaps-count end (e ∷ es) = omega (arith, gaps-count (e.offset + e.size) es)

pub sizes-cons : (e : Entry) (es : List Entry) → sizes_of (e ∷ es) ≡ e.size + sizes_of es
sizes-cons e es = sum_by-cons (λ (x : Entry). x.size) e es

entries-in-order : (a end : ℕ) (ps : List Part) → AreInOrder end (packed_entries a end ps) (last_end a end ps)
entries-in-order a end [] = omega arith
entries-in-order a end (p ∷ ps) = (omega arith, entries-in-order a (next_multiple_of end a + length p.bytes) ps)

pub order-room : (at : ℕ) (es : List Entry) (size : ℕ) → AreInOrder at es size → at + sizes_of es ≤ size
order-room at [] size h = omega (arith, h)
order-room at (e ∷ es) size h = omega (arith, h.0, order-room (e.offset + e.size) es size h.1, sizes-cons e es)

order-ends : (at : ℕ) (es : List Entry) (size big : ℕ) → size ≤ big → AreInOrder at es size → AreInOrder at es big
order-ends at [] size big le h = omega (arith, le, h)
order-ends at (e ∷ es) size big le h = (h.0, order-ends (e.offset + e.size) es size big le h.1)

order-begins : (low at : ℕ) (es : List Entry) (size : ℕ) → low ≤ at → AreInOrder at es size → AreInOrder low es size
order-begins low at [] size le h = omega (arith, le, h)
order-begins low at (e ∷ es) size le h = (omega (arith, le, h.0), h.1)

pub planned-in-order : (os : List Part) (a : ℕ) (es : List Entry) (size : ℕ) → es ≡ packed_entries a (table_end os) os → size ≡ last_end a (table_end os) os → size ≤ 67108864
    → AreInOrder 0 es 67108864
planned-in-order os a es size entries last small =
    let end = table_end os in
    subst (λ (xs : List Entry). AreInOrder 0 xs 67108864) (sym entries)
    (order-ends 0 (packed_entries a end os) (last_end a end os) 67108864 (omega (arith, last, small))
    (order-begins 0 end (packed_entries a end os) (last_end a end os) (omega arith) (entries-in-order a end os)))

pub planned-room : (os : List Part) (a : ℕ) (es : List Entry) (size : ℕ) → es ≡ packed_entries a (table_end os) os → size ≡ last_end a (table_end os) os
    → table_end os + sizes_of es ≤ size
planned-room os a es size entries last =
    let end = table_end os in
    omega (arith, last, ap sizes_of entries, order-room end (packed_entries a end os) (last_end a end os) (entries-in-order a end os))

-- ---- what the loops keep

-- the first gaps are found, and the next one begins at end
pub record HasGaps (entries : List Entry) (gaps : List ℕ) (end at : ℕ) : Type 0 where
  pub found : gaps ++ gaps_from end (drop at entries) ≡ gaps_from 0 entries
  pub order : AreInOrder end (drop at entries) 67108864

pub next-ends : (es : List Entry) (end i : ℕ) (e : Entry) → i < length es → e ≡ get_or es i e → AreInOrder end (drop i es) 67108864 → e.offset + e.size ≤ 67108864
next-ends es end i e lt is order =
    let rest = drop (i + 1) es in
    let split : drop i es ≡ e ∷ rest = drop_more es i e lt ∙ ap (λ (x : Entry). x ∷ rest) (sym is) in
    let more : AreInOrder end (e ∷ rest) 67108864 = subst (λ (xs : List Entry). AreInOrder end xs 67108864) split order in
    omega (arith, order-room (e.offset + e.size) rest 67108864 more.1)

-- the first payloads are in, with what is left of the frame
abbrev pub AreFilled : List ℕ → List ℕ → List Part → List ℕ → List ℕ → ℕ → Type 0
AreFilled frame gaps parts bytes left i = bytes ++ joined left (chunks (drop i gaps) (drop i parts)) ≡ joined frame (chunks gaps parts)

chunks-none : (gaps : List ℕ) → chunks gaps [] ≡ []
chunks-none [] = refl
chunks-none (g ∷ gs) = refl

filled-without-gaps : (frame gaps : List ℕ) (parts : List Part) (bytes left : List ℕ) (i : ℕ) → length gaps ≤ i
    → AreFilled frame gaps parts bytes left i → bytes ++ left ≡ joined frame (chunks gaps parts)
filled-without-gaps frame gaps parts bytes left i le before =
    ap (λ (xs : List ℕ). bytes ++ joined left (chunks xs (drop i parts))) (sym (drop_all i gaps le)) ∙ before

filled-without-parts : (frame gaps : List ℕ) (parts : List Part) (bytes left : List ℕ) (i : ℕ) → length parts ≤ i
    → AreFilled frame gaps parts bytes left i → bytes ++ left ≡ joined frame (chunks gaps parts)
filled-without-parts frame gaps parts bytes left i le before =
    ap (λ (cs : List Chunk). bytes ++ joined left cs) (sym (chunks-none (drop i gaps)))
    ∙ ap (λ (ps : List Part). bytes ++ joined left (chunks (drop i gaps) ps)) (sym (drop_all i parts le)) ∙ before

pub all-filled : (frame gaps : List ℕ) (parts : List Part) (bytes left : List ℕ) (i : ℕ) → min (length gaps) (length parts) ≤ i
    → AreFilled frame gaps parts bytes left i → bytes ++ left ≡ joined frame (chunks gaps parts)
all-filled frame gaps parts bytes left i le before = by (nat_lt i (length gaps)) refl
  where
    by : (b : Bool) → nat_lt i (length gaps) ≡ b → bytes ++ left ≡ joined frame (chunks gaps parts)
    by true e = filled-without-parts frame gaps parts bytes left i (let lt = ltb-true i (length gaps) e in omega (arith, lt, le)) before
    by false e = filled-without-gaps frame gaps parts bytes left i (ltb-false i (length gaps) e) before

-- ---- the frame of a package

-- bytes that stand before the first payload stand before all
front-joined : (head rest : List ℕ) (es : List Entry) (ps : List Part) (size : ℕ) → AreInOrder (length head) es size
    → joined (head ++ rest) (chunks (gaps_from 0 es) ps) ≡ head ++ joined rest (chunks (gaps_from (length head) es) ps)
front-joined head rest [] ps size h = refl
front-joined head rest (e ∷ es) [] size h = refl
front-joined head rest (e ∷ es) (p ∷ ps) size h =
    let g = e.offset - length head in
    let cs = chunks (gaps_from (e.offset + e.size) es) ps in
    let split : e.offset - 0 ≡ length head + g = omega (arith, h.0) in
    ap (λ (n : ℕ). take n (head ++ rest) ++ (p.bytes ++ joined (drop n (head ++ rest)) cs)) split
    ∙ ap (λ (l : List ℕ). l ++ (p.bytes ++ joined (drop (length head + g) (head ++ rest)) cs)) (take-append-add head rest g)
    ∙ ap (λ (l : List ℕ). (head ++ take g rest) ++ (p.bytes ++ joined l cs)) (drop-append-add head rest g)
    ∙ append_assoc head (take g rest) (p.bytes ++ joined (drop g rest) cs)

-- zeros with payloads between them
zeros-joined : (a end zeros : ℕ) (ps : List Part) → end + zeros + sizes_of (packed_entries a end ps) ≡ last_end a end ps
    → joined (replicate zeros 0) (chunks (gaps_from end (packed_entries a end ps)) ps) ≡ payloads a end ps
zeros-joined a end zeros [] all = ap (λ (n : ℕ). replicate n 0) (let e : zeros ≡ next_multiple_of end a - end = omega (arith, all) in e)
zeros-joined a end zeros (p ∷ ps) all =
    let offset = next_multiple_of end a in
    let next = offset + length p.bytes in
    let g = offset - end in
    let es = packed_entries a next ps in
    let cs = chunks (gaps_from next es) ps in
    let e : Entry = record { guid = p.guid; offset = offset; size = length p.bytes; flags = p.flags } in
    let room = order-room next es (last_end a next ps) (entries-in-order a next ps) in
    let more : sizes_of (e ∷ es) ≡ length p.bytes + sizes_of es = sizes-cons e es in
    let enough : g ≤ zeros = omega (arith, all, room, more) in
    ap (λ (l : List ℕ). l ++ (p.bytes ++ joined (drop g (replicate zeros 0)) cs)) (take-replicate g zeros 0 enough)
    ∙ ap (λ (l : List ℕ). replicate g 0 ++ (p.bytes ++ joined l cs)) (drop-replicate g zeros 0)
    ∙ ap (λ (l : List ℕ). replicate g 0 ++ (p.bytes ++ l)) (zeros-joined a next (zeros - g) ps (omega (arith, all, room, more)))
    ∙ sym (append_assoc (replicate g 0) p.bytes (payloads a next ps))

-- the frame of these parts, by their entries and the package's end
abbrev framed : ℕ → ℕ → List Entry → ℕ → List ℕ
framed serial flags es last = up_to (last - sizes_of es) (tabled serial flags es last)

parts-joined : (serial flags : ℕ) (ps : List Part) (a : ℕ) → AreSixteen ps
    → joined (framed serial flags (packed_entries a (table_end ps) ps) (last_end a (table_end ps) ps)) (chunks (gaps_from 0 (packed_entries a (table_end ps) ps)) ps)
    ≡ packed serial flags ps a
unfolding packed
parts-joined serial flags ps a sixteen =
    let end = table_end ps in
    let es = packed_entries a end ps in
    let last = last_end a end ps in
    let numbers : List ℕ = le 4 fip_name ++ le 4 serial ++ le 8 flags in
    let head : List ℕ = numbers ++ table_bytes a end ps in
    let cs = chunks (gaps_from 0 es) ps in
    let order = entries-in-order a end ps in
    let room = order-room end es last order in
    let spelled : tabled serial flags es last ≡ head =
    append_assoc numbers (flat_map toc_entry_bytes es) (toc_entry_bytes (marker last)) ∙ ap (λ (xs : List ℕ). numbers ++ xs) (sym (table-spelled a end ps)) in
    let long : length head ≡ end = omega (arith, length-append numbers (table_bytes a end ps), table-length a end ps sixteen) in
    let zeros = last - sizes_of es - length head in
    ap (λ (xs : List ℕ). joined (up_to (last - sizes_of es) xs) cs) spelled
    ∙ ap (λ (xs : List ℕ). joined (xs ++ replicate zeros 0) cs) (take_all (last - sizes_of es) head (omega (arith, room, long)))
    ∙ front-joined head (replicate zeros 0) es ps last (subst (λ (n : ℕ). AreInOrder n es last) (sym long) order)
    ∙ ap (λ (n : ℕ). head ++ joined (replicate zeros 0) (chunks (gaps_from n es) ps)) long
    ∙ ap (λ (xs : List ℕ). head ++ xs) (zeros-joined a end zeros ps (omega (arith, room, long)))

-- ---- the frame of outlines

ends-alike : (os parts : List Part) → map zeroed parts ≡ os → table_end os ≡ table_end parts
ends-alike os parts same = ap (λ (n : ℕ). 16 + 40 * (n + 1)) (ap length (sym same) ∙ length-zeroed parts)

entries-alike : (os parts : List Part) (a : ℕ) → map zeroed parts ≡ os → packed_entries a (table_end os) os ≡ packed_entries a (table_end parts) parts
entries-alike os parts a same =
    ap (packed_entries a (table_end os)) (sym same) ∙ same-entries a (table_end os) parts ∙ ap (λ (n : ℕ). packed_entries a n parts) (ends-alike os parts same)

last-alike : (os parts : List Part) (a : ℕ) → map zeroed parts ≡ os → last_end a (table_end os) os ≡ last_end a (table_end parts) parts
last-alike os parts a same =
    ap (last_end a (table_end os)) (sym same) ∙ same-end a (table_end os) parts ∙ ap (λ (n : ℕ). last_end a n parts) (ends-alike os parts same)

sixteen-of : (os parts : List Part) → AreOutlines os → map zeroed parts ≡ os → AreSixteen parts
sixteen-of os parts ok same = sixteen-zeroed parts (subst AreSixteen (sym same) (outlines-sixteen os ok))

pub frame-joined : (serial flags : ℕ) (os : List Part) (a : ℕ) (bytes gaps : List ℕ) (es : List Entry) (size : ℕ) → AreOutlines os
    → es ≡ packed_entries a (table_end os) os → size ≡ last_end a (table_end os) os
    → bytes ≡ up_to (size - sizes_of es) (tabled serial flags es size) → gaps ≡ gaps_from 0 es
    → (parts : List Part) → map zeroed parts ≡ os → joined bytes (chunks gaps parts) ≡ packed serial flags parts a
frame-joined serial flags os a bytes gaps es size ok entries last made found parts same =
    let all = packed_entries a (table_end parts) parts in
    ap (λ (xs : List ℕ). joined xs (chunks gaps parts)) made
    ∙ ap (λ (xs : List ℕ). joined (framed serial flags es size) (chunks xs parts)) found
    ∙ ap (λ (xs : List Entry). joined (framed serial flags xs size) (chunks (gaps_from 0 xs) parts)) (entries ∙ entries-alike os parts a same)
    ∙ ap (λ (n : ℕ). joined (framed serial flags all n) (chunks (gaps_from 0 all) parts)) (last ∙ last-alike os parts a same)
    ∙ parts-joined serial flags parts a (sixteen-of os parts ok same)

pub frame-size : (serial flags : ℕ) (os : List Part) (a size : ℕ) → AreOutlines os → size ≡ last_end a (table_end os) os
    → (parts : List Part) → map zeroed parts ≡ os → size ≡ length (packed serial flags parts a)
frame-size serial flags os a size ok last parts same = last ∙ last-alike os parts a same ∙ sym (packed-length serial flags parts a (sixteen-of os parts ok same))
