-- Capsules that are made.
use Rattle.std.proofs.Common.{◌≡◌, ◌∙◌, ◌≤◌, ◌<◌, List, Option, Some, None, Result, Err, ap, sym, refl, ltb, le-ltb, ◌+◌, ◌*◌, ◌++◌, ◌∷◌, [], ℕ, length, map, replicate, arith, get_or, drop, append_assoc}
use Rattle.std.specs.Prelude.{IsErrAnd, nat_lt, if◌then◌else◌, sum_by}
use Rattle.std.proofs.lemmas.Result.{err_from_is_err_and}
use Rattle.fwu_formats.specs.{Package.Part, Capsule.swapped}
use Rattle.fip_tables.proofs.Steps.{is-less, skips, takes}
use Rattle.fip_tables.proofs.Again.{at-most, count-passes, none-of, some-none}
use Rattle.fip_tables.proofs.Plans.{outlines-sixteen, sixteen-zeroed, length-zeroed, zeros-share}
use Rattle.fip_tables.specs.{declared.faults.PackFault.PackFault, declared.faults.PackStop.PackStop, Frame.AreSixteen}
use Rattle.fip_tables.specs.Packing.{first_of, package_limit, parts_fault, AreOutlines, zeroed}
use Rattle.fip_tables.specs.declared.faults.PackFault.TheVariants as fault
use Rattle.fip_tables.specs.declared.faults.PackStop.TheVariants as stop
use Rattle.capsule_tables.specs.Making.{capsule_size, make_fault, capsule_front_bytes, head_gaps, headers_bytes, heads_bytes, item_head, made_head, places_bytes}
use Rattle.std.proofs.lemmas.List.{length-replicate, drop_more}
use Rattle.std.proofs.lemmas.List.Sums.{sum_by-cons}
use Rattle.base_core.specs.Bytes.{le}

-- ---- the first fault of parts to be made

abbrev by_size : List Part → Option PackFault
by_size parts = if nat_lt package_limit (capsule_size parts) then Some fault.TooLarge else None

pub shared : (parts : List Part) (f : PackFault) → parts_fault parts ≡ Some f → make_fault parts ≡ Some f
unfolding make_fault
shared parts f h = ap (λ (o : Option PackFault). first_of o (by_size parts)) h

pub too-large : (parts : List Part) → parts_fault parts ≡ None → package_limit < capsule_size parts → make_fault parts ≡ Some fault.TooLarge
unfolding make_fault
too-large parts h lt =
    ap (λ (o : Option PackFault). first_of o (by_size parts)) h
    ∙ takes (ltb package_limit (capsule_size parts)) (Some fault.TooLarge) None _ (is-less _ _ lt) refl

pub no-fault : (parts : List Part) → parts_fault parts ≡ None → capsule_size parts ≤ package_limit → make_fault parts ≡ None
unfolding make_fault
no-fault parts h le =
    ap (λ (o : Option PackFault). first_of o (by_size parts)) h
    ∙ skips (ltb package_limit (capsule_size parts)) (Some fault.TooLarge) None _ (le-ltb package_limit (capsule_size parts) le) refl

-- ---- what passes has none of the faults

module _ (parts : List Part) (ok : make_fault parts ≡ None) where
  pub parts-pass : parts_fault parts ≡ None
  parts-pass = none-of _ (λ f e. some-none ok f (shared parts f e))

  pub size-passes : capsule_size parts ≤ package_limit
  size-passes = at-most _ _ (λ lt. some-none ok _ (too-large parts parts-pass lt))

-- ---- a fault that is handed on

pub same-fault : {T : Type 0} (r : Result T PackStop) (found f : PackFault) → IsErrAnd r (λ s. s ≡ stop.Fault found) → r ≡ Err (stop.Fault f) → Some found ≡ Some f
same-fault r found f is here =
    let p = err_from_is_err_and r is in
    let both : Err (stop.Fault found) ≡ Err (stop.Fault f) = sym (p.1 ∙ ap Err p.2) ∙ here in
    let same : found ≡ f = cc in
    ap Some same

-- ---- parts with zeros in place of their bytes: the same front of a capsule, and the same faults

abbrev pub sizes : List Part → ℕ
sizes ps = sum_by (λ p. length p.bytes) ps

pub sizes-cons : (p : Part) (ps : List Part) → sizes (p ∷ ps) ≡ length p.bytes + sizes ps
sizes-cons p ps = sum_by-cons (λ (q : Part). length q.bytes) p ps

same-sizes : (ps : List Part) → sizes (map zeroed ps) ≡ sizes ps
same-sizes [] = refl
same-sizes (p ∷ ps) =
    omega (arith, sizes-cons (zeroed p) (map zeroed ps), sizes-cons p ps, same-sizes ps, length-replicate {A = ℕ} (length p.bytes) 0)

pub same-size : (ps : List Part) → capsule_size (map zeroed ps) ≡ capsule_size ps
same-size ps = omega (arith, same-sizes ps, length-zeroed ps)

same-places : (at : ℕ) (ps : List Part) → places_bytes at (map zeroed ps) ≡ places_bytes at ps
same-places at [] = refl
same-places at (p ∷ ps) =
    ap (λ (n : ℕ). le 8 at ++ places_bytes (at + made_head + n) (map zeroed ps)) (length-replicate {A = ℕ} (length p.bytes) 0)
    ∙ ap (λ (xs : List ℕ). le 8 at ++ xs) (same-places (at + made_head + length p.bytes) ps)

pub same-front : (ps : List Part) → capsule_front_bytes (map zeroed ps) ≡ capsule_front_bytes ps
same-front ps =
    ap (λ (n : ℕ). headers_bytes n (length (map zeroed ps)) ++ places_bytes (8 + 8 * length (map zeroed ps)) (map zeroed ps)) (same-size ps)
    ∙ ap (λ (n : ℕ). headers_bytes (capsule_size ps) n ++ places_bytes (8 + 8 * n) (map zeroed ps)) (length-zeroed ps)
    ∙ ap (λ (xs : List ℕ). headers_bytes (capsule_size ps) (length ps) ++ xs) (same-places (8 + 8 * length ps) ps)

pub same-make_fault : (ps : List Part) → make_fault (map zeroed ps) ≡ make_fault ps
unfolding make_fault
same-make_fault ps =
    ap (λ (o : Option PackFault). first_of o (if nat_lt package_limit (capsule_size (map zeroed ps)) then Some fault.TooLarge else None)) (zeros-share ps)
    ∙ ap (λ (n : ℕ). first_of (parts_fault ps) (if nat_lt package_limit n then Some fault.TooLarge else None)) (same-size ps)

same-head : (index : ℕ) (p : Part) → item_head index (zeroed p) ≡ item_head index p
same-head index p =
    ap (λ (n : ℕ). le 4 2 ++ swapped p.guid ++ (index ∷ 0 ∷ 0 ∷ 0 ∷ []) ++ le 4 n ++ replicate 12 0) (length-replicate {A = ℕ} (length p.bytes) 0)

pub same-heads : (index : ℕ) (ps : List Part) → heads_bytes index (map zeroed ps) ≡ heads_bytes index ps
same-heads index [] = refl
same-heads index (p ∷ ps) =
    ap (λ (xs : List ℕ). xs ++ heads_bytes (index + 1) (map zeroed ps)) (same-head index p)
    ∙ ap (λ (xs : List ℕ). item_head index p ++ xs) (same-heads (index + 1) ps)

pub same-gaps : (front : ℕ) (ps : List Part) → head_gaps front (map zeroed ps) ≡ head_gaps front ps
same-gaps front [] = refl
same-gaps front (p ∷ ps) = ap (λ (gs : List ℕ). (front + made_head) ∷ gs) (same-gaps 0 ps)

pub types-of : (ps : List Part) → AreOutlines (map zeroed ps) → AreSixteen ps
types-of ps ok = sixteen-zeroed ps (outlines-sixteen (map zeroed ps) ok)

pub few-parts : (ps : List Part) → make_fault ps ≡ None → length ps ≤ 64
few-parts ps ok = count-passes ps (parts-pass ps ok)

-- ---- what the loops keep that make a capsule

-- so many parts are counted
pub record IsSized (parts : List Part) (size k : ℕ) : Type 0 where
  pub total : size + sizes (drop k parts) ≡ capsule_size parts
  pub small : size ≤ 67108864
  pub each : (j : ℕ) (d : Part) → j < k → length (get_or parts j d).bytes ≤ 67108864

-- so many heads are written, the next item's number is index
pub record HasHeads (old now : List ℕ) (parts : List Part) (index k : ℕ) : Type 0 where
  pub number : index ≡ k + 1
  pub rest : now ++ heads_bytes index (drop k parts) ≡ old ++ heads_bytes 1 parts

-- so many gaps are found, and before the next head stand so many more bytes
pub record HasGaps (parts : List Part) (front : ℕ) (gaps : List ℕ) (before k : ℕ) : Type 0 where
  pub low : before ≤ 67108864
  pub rest : gaps ++ head_gaps before (drop k parts) ≡ head_gaps front parts

-- so many places are written, the next one is at
pub record HasPlaces (old now : List ℕ) (parts : List Part) (at k : ℕ) : Type 0 where
  pub low : at ≤ 520 + k * 67108904
  pub rest : now ++ places_bytes at (drop k parts) ≡ old ++ places_bytes (8 + 8 * length parts) parts

pub next-size : (parts : List Part) (k : ℕ) (d : Part) → k < length parts → sizes (drop k parts) ≡ length (get_or parts k d).bytes + sizes (drop (k + 1) parts)
next-size parts k d lt = ap sizes (drop_more parts k d lt) ∙ sizes-cons (get_or parts k d) (drop (k + 1) parts)

-- what is appended to what was appended
pub further : (v x y s piece : List ℕ) → x ≡ v ++ s → y ≡ x ++ piece → y ≡ v ++ (s ++ piece)
further v x y s piece before now = now ∙ ap (λ (l : List ℕ). l ++ piece) before ∙ append_assoc v s piece
