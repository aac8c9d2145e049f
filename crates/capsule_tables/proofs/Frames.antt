-- Payloads that are put into the frame of a capsule, each behind its gap.
use Rattle.std.proofs.Common.{◌≡◌, ◌∙◌, ◌≤◌, ◌<◌, ◌+◌, ◌++◌, ◌∷◌, [], ℕ, List, length, map, take, drop, ap, sym, subst, refl, arith, append_assoc, length-append}
use Rattle.std.proofs.Math.Seq.{drop-append-add, drop-append_seam, take-append-add, take-append_seam}
use Rattle.fwu_formats.specs.Package.{Part}
use Rattle.host_io.specs.Joined.{joined}
use Rattle.fip_tables.specs.{Frame.AreSixteen, Frame.chunks, Packing.AreOutlines, Packing.zeroed}
use Rattle.capsule_tables.specs.Making.{capsule_bytes, capsule_size, capsule_front_bytes, head_gaps, heads_bytes, item_head, items_bytes, made_head}
use Rattle.capsule_tables.proofs.Made.{same-front, same-gaps, same-heads, same-size, sizes, sizes-cons, types-of}
use Rattle.capsule_tables.proofs.ReadAgain.{front-total, head-length, items-length}

pub gaps-count : (front : ℕ) (ps : List Part) → length (head_gaps front ps) ≡ length ps
gaps-count front [] = refl
gaps-count front (p ∷ ps) = omega (arith, gaps-count 0 ps)

-- bytes that stand before the first image stand before all
front-joined : (front rest : List ℕ) (ps : List Part) → joined (front ++ rest) (chunks (head_gaps (length front) ps) ps) ≡ front ++ joined rest (chunks (head_gaps 0 ps) ps)
front-joined front rest [] = refl
front-joined front rest (p ∷ ps) =
    let cs = chunks (head_gaps 0 ps) ps in
    ap (λ (l : List ℕ). l ++ (p.bytes ++ joined (drop (length front + made_head) (front ++ rest)) cs)) (take-append-add front rest made_head)
    ∙ ap (λ (l : List ℕ). (front ++ take made_head rest) ++ (p.bytes ++ joined l cs)) (drop-append-add front rest made_head)
    ∙ append_assoc front (take made_head rest) (p.bytes ++ joined (drop made_head rest) cs)

-- heads with their images between them are items
items-joined : (index : ℕ) (ps : List Part) → AreSixteen ps → sizes ps < 4294967296 → joined (heads_bytes index ps) (chunks (head_gaps 0 ps) ps) ≡ items_bytes index ps
items-joined index [] types low = refl
items-joined index (p ∷ ps) types low =
    let head = item_head index p in
    let rest = heads_bytes (index + 1) ps in
    let cs = chunks (head_gaps 0 ps) ps in
    let more = items_bytes (index + 1) ps in
    let long : 40 ≡ length head = sym (head-length index p types.0 (omega (arith, low, sizes-cons p ps))) in
    ap (λ (n : ℕ). take n (head ++ rest) ++ (p.bytes ++ joined (drop n (head ++ rest)) cs)) long
    ∙ ap (λ (l : List ℕ). l ++ (p.bytes ++ joined (drop (length head) (head ++ rest)) cs)) (take-append_seam head rest)
    ∙ ap (λ (l : List ℕ). head ++ (p.bytes ++ joined l cs)) (drop-append_seam head rest)
    ∙ ap (λ (l : List ℕ). head ++ (p.bytes ++ l)) (items-joined (index + 1) ps types.1 (omega (arith, low, sizes-cons p ps)))
    ∙ sym (append_assoc head p.bytes more)

low-sizes : (ps : List Part) → capsule_size ps ≤ 67108864 → sizes ps < 4294967296
low-sizes ps le = omega (arith, le)

parts-joined : (ps : List Part) → AreSixteen ps → capsule_size ps ≤ 67108864
    → joined (capsule_front_bytes ps ++ heads_bytes 1 ps) (chunks (head_gaps (length (capsule_front_bytes ps)) ps) ps) ≡ capsule_bytes ps
unfolding capsule_bytes
parts-joined ps types le =
    front-joined (capsule_front_bytes ps) (heads_bytes 1 ps) ps ∙ ap (λ (xs : List ℕ). capsule_front_bytes ps ++ xs) (items-joined 1 ps types (low-sizes ps le))

capsule-length : (ps : List Part) → AreSixteen ps → capsule_size ps ≤ 67108864 → length (capsule_bytes ps) ≡ capsule_size ps
unfolding capsule_bytes
capsule-length ps types le =
    length-append (capsule_front_bytes ps) (items_bytes 1 ps) ∙ omega (arith, items-length 1 ps types (low-sizes ps le), front-total ps)

-- ---- of outlines

sixteen-of : (os ps : List Part) → AreOutlines os → map zeroed ps ≡ os → AreSixteen ps
sixteen-of os ps ok same = types-of ps (subst AreOutlines (sym same) ok)

size-alike : (os ps : List Part) → map zeroed ps ≡ os → capsule_size os ≡ capsule_size ps
size-alike os ps same = ap capsule_size (sym same) ∙ same-size ps

pub frame-joined : (os : List Part) (bytes gaps : List ℕ) (front : ℕ) → AreOutlines os → capsule_size os ≤ 67108864
    → bytes ≡ capsule_front_bytes os ++ heads_bytes 1 os → gaps ≡ head_gaps front os → front ≡ length (capsule_front_bytes os)
    → (ps : List Part) → map zeroed ps ≡ os → joined bytes (chunks gaps ps) ≡ capsule_bytes ps
frame-joined os bytes gaps front ok le made found long ps same =
    let fronts : capsule_front_bytes os ≡ capsule_front_bytes ps = ap capsule_front_bytes (sym same) ∙ same-front ps in
    let heads : heads_bytes 1 os ≡ heads_bytes 1 ps = ap (heads_bytes 1) (sym same) ∙ same-heads 1 ps in
    let before : front ≡ length (capsule_front_bytes ps) = long ∙ ap length fronts in
    ap (λ (xs : List ℕ). joined xs (chunks gaps ps)) made
    ∙ ap (λ (xs : List ℕ). joined (xs ++ heads_bytes 1 os) (chunks gaps ps)) fronts
    ∙ ap (λ (xs : List ℕ). joined (capsule_front_bytes ps ++ xs) (chunks gaps ps)) heads
    ∙ ap (λ (gs : List ℕ). joined (capsule_front_bytes ps ++ heads_bytes 1 ps) (chunks gs ps)) (found ∙ ap (head_gaps front) (sym same) ∙ same-gaps front ps ∙ ap (λ (n : ℕ). head_gaps n ps) before)
    ∙ parts-joined ps (sixteen-of os ps ok same) (omega (arith, le, size-alike os ps same))

pub frame-size : (os : List Part) (size : ℕ) → AreOutlines os → size ≡ capsule_size os → size ≤ 67108864
    → (ps : List Part) → map zeroed ps ≡ os → size ≡ length (capsule_bytes ps)
frame-size os size ok counted le ps same =
    let alike = size-alike os ps same in
    counted ∙ alike ∙ sym (capsule-length ps (sixteen-of os ps ok same) (omega (arith, counted, le, alike)))

-- the headers and the places are no longer than the capsule
pub front-low : (os : List Part) → length (capsule_front_bytes os) ≤ capsule_size os
front-low os = omega (arith, front-total os)
