-- Bytes that are written one after another.
use Rattle.std.proofs.Common.{IsTrue, map, ◌≡◌, ℕ, ◌+◌, ◌-◌, ◌≤◌, ◌<◌, List, [], ◌∷◌, ◌++◌, length, get_or, take, drop, replicate, refl, sym, ap, ◌∙◌, arith, append_assoc, append-nil, length-append}
use Rattle.std.proofs.Math.Seq.{take-append-add}
use Rattle.std.proofs.lemmas.List.{take-replicate, length-replicate, take_all, drop-replicate, get_or_default, length-drop, drop_all, drop-take, drop-append-le, length-take-le, drop_at}
use Rattle.fwu_formats.specs.Metadata.{Meta, meta_size, entry_size, state_byte, fits_meta, entry_bytes, entries_bytes, meta_body}
use Rattle.fwu_formats.specs.Layout.{ImageRow, Layout, nil_guid}
use Rattle.meta_layout.proofs.Fits.{meta-fits, row-length}
use Rattle.meta_layout.specs.Entries.{HasBits, meta_entry_of, front_bytes, rest_bytes}
use Rattle.base_core.specs.{Bytes.overwritten, Bytes.le, Bytes.part, Crc.crc}

pub seal-is : (out blanked new : List ℕ) (size sum : ℕ) → 4 ≤ size → size ≤ length out → new ≡ overwritten 0 (le 4 sum) blanked → sum ≡ crc (part out 4 size)
    → blanked ≡ take size out ++ replicate (length out - size) 0xFF → new ≡ le 4 (crc (part out 4 size)) ++ part out 4 size ++ replicate (length out - size) 0xFF
unfolding overwritten
seal-is out blanked new size sum low room is summed blank =
    let whole : length (take size out) ≡ size = length-take-le size out room in
    let long : 4 ≤ length (take size out) = omega arith in
    let n : size ≡ 4 + (size - 4) = omega arith in
    let tail : drop 4 (take size out) ≡ part out 4 size = ap (λ (k : ℕ). drop 4 (take k out)) n ∙ drop-take 4 (size - 4) out in
    let rest : drop 4 (take size out ++ replicate (length out - size) 0xFF) ≡ part out 4 size ++ replicate (length out - size) 0xFF =
    drop-append-le 4 (take size out) (replicate (length out - size) 0xFF) long ∙ ap (λ l. l ++ replicate (length out - size) 0xFF) tail in
    is ∙ ap (λ l. le 4 sum ++ drop 4 l) blank ∙ ap (λ l. le 4 sum ++ l) rest ∙ ap (λ s. le 4 s ++ (part out 4 size ++ replicate (length out - size) 0xFF)) summed
    ∙ sym (append_assoc (le 4 (crc (part out 4 size))) (part out 4 size) (replicate (length out - size) 0xFF))

pub blank-tail : (out ys : List ℕ) (size : ℕ) → size ≤ length out → ys ≡ replicate (length (take (length out - size) (drop size out))) 0xFF
    → take size out ++ (ys ++ drop (length out - size) (drop size out)) ≡ take size out ++ replicate (length out - size) 0xFF
blank-tail out ys size room is =
    let behind : length (drop size out) ≡ length out - size = length-drop size out in
    let count : length (take (length out - size) (drop size out)) ≡ length out - size = length-take-le (length out - size) (drop size out) (omega arith) in
    let none : drop (length out - size) (drop size out) ≡ [] = drop_all (length out - size) (drop size out) (omega arith) in
    ap (λ l. take size out ++ (ys ++ l)) none ∙ ap (λ l. take size out ++ l) (append-nil ys ∙ is ∙ ap (λ n. replicate n 0xFF) count)

-- a body that was written from place 4 on, and sealed
pub written : (body out w new : List ℕ) (size : ℕ) → 4 ≤ size → size ≤ length out → length w ≡ length out - 4 → take (size - 4) w ≡ body
    → (let one : List ℕ = take 4 out ++ (w ++ drop (length out - 4) (drop 4 out)) in new ≡ le 4 (crc (part one 4 size)) ++ part one 4 size ++ replicate (length one - size) 0xFF)
    → new ≡ (le 4 (crc body) ++ body) ++ replicate (length out - size) 0xFF
written body out w new size low room long is so =
    let one : List ℕ = take 4 out ++ (w ++ drop (length out - 4) (drop 4 out)) in
    let four : length (take 4 out) ≡ 4 = length-take-le 4 out (omega arith) in
    let none : drop (length out - 4) (drop 4 out) ≡ [] = drop_all (length out - 4) (drop 4 out) (omega (arith, length-drop 4 out)) in
    let plain : one ≡ take 4 out ++ w = ap (λ l. take 4 out ++ (w ++ l)) none ∙ ap (λ l. take 4 out ++ l) (append-nil w) in
    let count : length one ≡ length out = ap (λ (l : List ℕ). length l) plain ∙ length-append (take 4 out) w ∙ omega arith in
    let inner : part one 4 size ≡ body = ap (λ (l : List ℕ). take (size - 4) (drop 4 l)) plain ∙ ap (take (size - 4)) (drop_at (take 4 out) w 4 four) ∙ is in
    so ∙ ap (λ l. le 4 (crc l) ++ l ++ replicate (length one - size) 0xFF) inner ∙ ap (λ n. le 4 (crc body) ++ body ++ replicate (n - size) 0xFF) count

-- ---- metadata that fits

pub has-bits : (L : Layout) (m : Meta) (image banks : ℕ) → IsTrue (fits_meta L m) → banks ≡ L.banks → image < length L.rows → HasBits m banks image
has-bits L m image banks fit same lt =
    let f = meta-fits L m fit in
    record {
      count = f.bits ∙ sym same;
      within = λ bank below. omega (arith, row-length L m bank f (omega (arith, same, below)), lt);
    }

pub entry-bytes : (L : Layout) (m : Meta) (image : ℕ) (row : ImageRow) (rows : List ImageRow) (banks : ℕ)
    → row ≡ get_or rows image row → rows ≡ L.rows → image < length rows → banks ≡ L.banks → meta_entry_of banks row.guid m image ≡ entry_bytes L m image
entry-bytes L m image row rows banks is same lt count =
    let none : ImageRow = record { guid = nil_guid; slots = 0 } in
    let guid : row.guid ≡ (get_or L.rows image none).guid =
    ap (λ (r : ImageRow). r.guid) (is ∙ get_or_default rows image row none lt ∙ ap (λ l. get_or l image none) same) in
    rw (guid, count) refl

pub unused : (banks : ℕ) → banks ≤ 4 → (let four : List ℕ = 255 ∷ 255 ∷ 255 ∷ 255 ∷ [] in take (4 - banks) (drop banks four) ≡ replicate (4 - banks) 255)
unused banks h = ap (λ (l : List ℕ). take (4 - banks) l) (drop-replicate banks 4 255) ∙ take_all (4 - banks) (replicate (4 - banks) 255) (omega (arith, length-replicate {A = ℕ} (4 - banks) 255))

pub rest-is : (L : Layout) (banks images entry : ℕ) (z a b c d e f : List ℕ)
    → a ≡ z ++ le 4 0 → b ≡ a ++ le 1 banks → c ≡ b ++ le 1 0 → d ≡ c ++ le 2 images → e ≡ d ++ le 2 entry → f ≡ e ++ le 2 24
    → banks ≡ L.banks → images ≡ length L.rows → entry ≡ entry_size L → f ≡ z ++ rest_bytes L
rest-is L banks images entry z a b c d e f ea eb ec ed ee ef banked counted sized = rw (ef, ee, ed, ec, eb, ea, sized, counted, banked) (simp append_assoc)

-- bytes with so many 0xFF behind them, cut from a longer run of these
pub padded : (bytes out : List ℕ) (size more room : ℕ) → length bytes ≡ size → size + more ≤ room → out ≡ bytes ++ replicate (room - size) 0xFF → take (size + more) out ≡ bytes ++ replicate more 0xFF
padded bytes out size more room is fits so =
    let n : size + more ≡ length bytes + more = omega (arith, is) in
    ap (take (size + more)) so ∙ ap (λ (k : ℕ). take k (bytes ++ replicate (room - size) 0xFF)) n ∙ take-append-add bytes (replicate (room - size) 0xFF) more
    ∙ ap (λ l. bytes ++ l) (take-replicate more (room - size) 0xFF (omega (arith, fits)))

nine : (f m p r1 r2 r3 r4 r5 r6 : List ℕ) → (f ++ (m ++ p)) ++ (r1 ++ r2 ++ r3 ++ r4 ++ r5 ++ r6) ≡ f ++ m ++ p ++ r1 ++ r2 ++ r3 ++ r4 ++ r5 ++ r6
nine f m p r1 r2 r3 r4 r5 r6 = simp append_assoc

-- the parts of version 2 are its bytes from place 4 on
pub body-two : (L : Layout) (m : Meta) → length m.states ≡ L.banks → (front_bytes L m ++ rest_bytes L) ++ entries_bytes L m ≡ meta_body L m
body-two L m count =
    ap (λ n. ((le 4 2 ++ le 4 m.active ++ le 4 m.previous ++ le 4 (meta_size L) ++ le 2 0x20 ++ le 2 0) ++ (map state_byte m.states ++ replicate (4 - n) 0xFF)) ++ rest_bytes L ++ entries_bytes L m) count
    ∙ ap (λ l. l ++ entries_bytes L m)
    (nine (le 4 2 ++ le 4 m.active ++ le 4 m.previous ++ le 4 (meta_size L) ++ le 2 0x20 ++ le 2 0) (map state_byte m.states) (replicate (4 - L.banks) 0xFF)
    (le 4 0) (le 1 L.banks) (le 1 0) (le 2 (length L.rows)) (le 2 (entry_size L)) (le 2 24))
