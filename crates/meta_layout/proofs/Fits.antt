-- Metadata that is of a layout: its parts, what is read, what stays when a part is set, and the metadata after a format.
use Rattle.std.proofs.Common.{◌≡◌, ℕ, zero, suc, ◌+◌, ◌<◌, Bool, not, ◌==◌, IsTrue, eq-eqb, eqb-true, List, [], ◌∷◌, length, get_or, set, map, Result, Ok, Err, refl, sym, subst, ◌∙◌, arith, ltb, ◌-◌, ◌≤◌, true, false, replicate, ap}
use Rattle.std.specs.Prelude.{IfOk}
use Rattle.std.specs.List.{list_all, range_with_len}
use Rattle.std.proofs.lemmas.Bool.{and_parts, and_from, lt-ltb, ltb-true, not-false, cond_both}
use Rattle.std.proofs.lemmas.List.{length-set, length-replicate}
use Rattle.std.proofs.lemmas.List.FromFn.{length-map-range_with_len}
use Rattle.base_core.specs.{Bytes.num_at, Bytes.part, Crc.crc}
use Rattle.fwu_formats.specs.{Layout.Layout, Layout.fits_layout, declared.kinds.BankState.BankState}
use Rattle.fwu_formats.specs.Metadata.{Meta, MetaRead, fits_meta, meta_of, read_v2, read_v1, meta_at, meta_at_v1, meta_size, meta_size_v1, fits_v2, fits_v1, has_fields, header_fields, has_indices, has_states, has_entries, bits_from, bits_v1, state_at_v1, state_of_byte, first_meta}
use Rattle.fwu_formats.specs.declared.kinds.MetaFault.{MetaFault}
use Rattle.fwu_formats.specs.declared.kinds.BankState.TheVariants.{Invalid, Accepted}
use Rattle.fwu_formats.specs.declared.kinds.MetaFault.TheVariants as fault
use Rattle.fwu_formats.proofs.{SealLaws.was_not_refused, SealLaws.limits, OneSpelling.all-at, Read.bits-length, Read.v1-length}
use Rattle.base_core.proofs.Results.{same-Ok}

-- the parts of the condition
pub record MetaFits (L : Layout) (m : Meta) : Type 0 where
  pub active : m.active < L.banks
  pub previous : m.previous < L.banks
  pub states : length m.states ≡ L.banks
  pub bits : length m.bits ≡ L.banks
  pub rows : IsTrue (list_all (λ row. length row == length L.rows) m.bits)

pub meta-fits : (L : Layout) (m : Meta) → IsTrue (fits_meta L m) → MetaFits L m
unfolding fits_meta
meta-fits L m h =
    let one = and_parts _ (list_all (λ row. length row == length L.rows) m.bits) h in
    let two = and_parts _ (length m.bits == L.banks) one.0 in
    let three = and_parts _ (length m.states == L.banks) two.0 in
    let four = and_parts (ltb m.active L.banks) (ltb m.previous L.banks) three.0 in
    record { active = ltb-true _ _ four.0; previous = ltb-true _ _ four.1; states = eqb-true _ _ three.1; bits = eqb-true _ _ two.1; rows = one.1 }

pub fits-meta : (L : Layout) (m : Meta) → MetaFits L m → IsTrue (fits_meta L m)
unfolding fits_meta
fits-meta L m f =
    and_from _ _ (and_from _ _ (and_from _ _ (and_from _ _ (lt-ltb m.active L.banks f.active) (lt-ltb m.previous L.banks f.previous)) (eq-eqb _ _ f.states)) (eq-eqb _ _ f.bits)) f.rows

-- ---- tests that each element meets

all-set : {X : Type 0} (test : X → Bool) (xs : List X) (i : ℕ) (x : X) → IsTrue (list_all test xs) → IsTrue (test x) → IsTrue (list_all test (set xs i x))
all-set test [] i x h t = refl
all-set test (y ∷ xs) zero x h t = and_from _ _ t (and_parts (test y) _ h).1
all-set test (y ∷ xs) (suc i) x h t = let both = and_parts (test y) _ h in and_from _ _ both.0 (all-set test xs i x both.1 t)

all-map : {X : Type 0} (test : X → Bool) (f : ℕ → X) (from n : ℕ) → ((i : ℕ) → IsTrue (test (f i))) → IsTrue (list_all test (map f (range_with_len from n)))
all-map test f from zero h = refl
all-map test f from (suc n) h = and_from _ _ (h from) (all-map test f (from + 1) n h)

-- the bits of an image in each bank
pub row-length : (L : Layout) (m : Meta) (bank : ℕ) → MetaFits L m → bank < L.banks → length (get_or m.bits bank []) ≡ length L.rows
row-length L m bank f lt = eqb-true _ _ (all-at (λ row. length row == length L.rows) m.bits bank [] f.rows (omega (arith, f.bits, lt)))

-- ---- a part is set

module _ (L : Layout) (m : Meta) (fits : IsTrue (fits_meta L m)) where
  pub fits-active : (bank : ℕ) → bank < L.banks → IsTrue (fits_meta L (record m { active = bank }))
  fits-active bank lt = let f = meta-fits L m fits in fits-meta L (record m { active = bank }) (record { active = lt; previous = f.previous; states = f.states; bits = f.bits; rows = f.rows })

  pub fits-previous : (bank : ℕ) → bank < L.banks → IsTrue (fits_meta L (record m { previous = bank }))
  fits-previous bank lt = let f = meta-fits L m fits in fits-meta L (record m { previous = bank }) (record { active = f.active; previous = lt; states = f.states; bits = f.bits; rows = f.rows })

  pub fits-state : (bank : ℕ) (state : BankState) → IsTrue (fits_meta L (record m { states = set m.states bank state }))
  fits-state bank state =
      let f = meta-fits L m fits in
      fits-meta L (record m { states = set m.states bank state }) (record { active = f.active; previous = f.previous; states = length-set m.states bank state ∙ f.states; bits = f.bits; rows = f.rows })

  pub fits-bit : (bank image : ℕ) (on : Bool) → bank < length m.bits → IsTrue (fits_meta L (record m { bits = set m.bits bank (set (get_or m.bits bank []) image on) }))
  fits-bit bank image on lt =
      let f = meta-fits L m fits in
      let row : length (set (get_or m.bits bank []) image on) ≡ length L.rows = length-set (get_or m.bits bank []) image on ∙ row-length L m bank f (omega (arith, f.bits, lt)) in
      fits-meta L (record m { bits = set m.bits bank (set (get_or m.bits bank []) image on) }) (record {
        active = f.active;
        previous = f.previous;
        states = f.states;
        bits = length-set m.bits bank _ ∙ f.bits;
        rows = all-set (λ r. length r == length L.rows) m.bits bank (set (get_or m.bits bank []) image on) f.rows (eq-eqb _ _ row);
      })

  pub fits-bits : (bank : ℕ) (bits : List Bool) → length bits ≡ length L.rows → IsTrue (fits_meta L (record m { bits = set m.bits bank bits }))
  fits-bits bank bits row =
      let f = meta-fits L m fits in
      fits-meta L (record m { bits = set m.bits bank bits }) (record {
        active = f.active;
        previous = f.previous;
        states = f.states;
        bits = length-set m.bits bank bits ∙ f.bits;
        rows = all-set (λ r. length r == length L.rows) m.bits bank bits f.rows (eq-eqb _ _ row);
      })

-- ---- what is read is of the layout

indices-fit : (L : Layout) (block : List ℕ) → IsTrue (has_indices L block) → (num_at 4 block 8 < L.banks) × (num_at 4 block 12 < L.banks)
indices-fit L block h = let both = and_parts (ltb (num_at 4 block 8) L.banks) (ltb (num_at 4 block 12) L.banks) h in (ltb-true _ _ both.0, ltb-true _ _ both.1)

pub meta_at-fits : (L : Layout) (block : List ℕ) → IsTrue (has_indices L block) → IsTrue (fits_meta L (meta_at L block))
meta_at-fits L block h =
    let indices = indices-fit L block h in
    fits-meta L (meta_at L block) (record {
      active = indices.0;
      previous = indices.1;
      states = length-map-range_with_len (λ bank. state_of_byte (num_at 1 block (24 + bank))) 0 L.banks;
      bits = length-map-range_with_len (bits_from L 0x28 block) 0 L.banks;
      rows = all-map (λ row. length row == length L.rows) (bits_from L 0x28 block) 0 L.banks (λ bank. eq-eqb _ _ (bits-length L 0x28 block bank));
    })

meta_at_v1-fits : (L : Layout) (block : List ℕ) → IsTrue (has_indices L block) → IsTrue (fits_meta L (meta_at_v1 L block))
meta_at_v1-fits L block h =
    let indices = indices-fit L block h in
    let row = λ (bank : ℕ). bits_v1 (state_at_v1 L block bank) (bits_from L 0x10 block bank) in
    fits-meta L (meta_at_v1 L block) (record {
      active = indices.0;
      previous = indices.1;
      states = length-map-range_with_len (state_at_v1 L block) 0 L.banks;
      bits = length-map-range_with_len row 0 L.banks;
      rows = all-map (λ r. length r == length L.rows) row 0 L.banks (λ bank. eq-eqb _ _ (v1-length (state_at_v1 L block bank) (bits_from L 0x10 block bank) ∙ bits-length L 0x10 block bank));
    })

two-fits : (L : Layout) (block : List ℕ) (r : MetaRead) → read_v2 L block ≡ Ok r → IsTrue (fits_meta L r.meta)
two-fits L block r e =
    let c = was_not_refused (not (num_at 4 block 16 == meta_size L)) _ _ r e in
    let d = was_not_refused (not (num_at 4 block 0 == crc (part block 4 (meta_size L)))) _ _ r c.1 in
    let f = was_not_refused (not (fits_v2 L block)) _ _ r d.1 in
    let indices = (and_parts (has_fields (header_fields L) block) (has_indices L block) (and_parts _ (has_states L block) (and_parts _ (has_entries L 0x28 block) (not-false _ f.0)).0).0).1 in
    subst (λ (x : MetaRead). IsTrue (fits_meta L x.meta)) (same-Ok {F = MetaFault} (record { form = 2; meta = meta_at L block }) r f.1) (meta_at-fits L block indices)

one-fits : (L : Layout) (block : List ℕ) (r : MetaRead) → read_v1 L block ≡ Ok r → IsTrue (fits_meta L r.meta)
one-fits L block r e =
    let d = was_not_refused (not (num_at 4 block 0 == crc (part block 4 (meta_size_v1 L)))) _ _ r e in
    let f = was_not_refused (not (fits_v1 L block)) _ _ r d.1 in
    let indices = (and_parts (has_indices L block) (has_entries L 0x10 block) (not-false _ f.0)).0 in
    subst (λ (x : MetaRead). IsTrue (fits_meta L x.meta)) (same-Ok {F = MetaFault} (record { form = 1; meta = meta_at_v1 L block }) r f.1) (meta_at_v1-fits L block indices)

-- metadata that is read is of the layout
pub read-fits : (L : Layout) (block : List ℕ) (r : MetaRead) → meta_of L block ≡ Ok r → IsTrue (fits_meta L r.meta)
unfolding meta_of
read-fits L block r e =
    let a = was_not_refused (ltb (length block) (meta_size L)) fault.Short _ r e in
    cond_both (num_at 4 block 4 == 2) (read_v2 L block) _ (λ (x : Result MetaRead MetaFault). x ≡ Ok r → IsTrue (fits_meta L r.meta))
    (λ two h. two-fits L block r h)
    (λ not_two h. cond_both (num_at 4 block 4 == 1) (read_v1 L block) (Err fault.NotTwo) (λ (x : Result MetaRead MetaFault). x ≡ Ok r → IsTrue (fits_meta L r.meta))
    (λ one g. one-fits L block r g)
    (λ not_v1 g. absurd cc) h) a.1

pub answer-fits : (L : Layout) (block : List ℕ) (o : Result MetaRead MetaFault) → o ≡ meta_of L block → IfOk o (λ r. IsTrue (fits_meta L r.meta))
answer-fits L block (Ok r) e = read-fits L block r (sym e)
answer-fits L block (Err f) e = tt

-- ---- the metadata after a format

all-same : {X : Type 0} (test : X → Bool) (n : ℕ) (x : X) → IsTrue (test x) → IsTrue (list_all test (replicate n x))
all-same test zero x h = refl
all-same test (suc n) x h = and_from _ _ h (all-same test n x h)

pub first-fits : (L : Layout) → IsTrue (fits_layout L) → IsTrue (fits_meta L (first_meta L))
unfolding fits_meta
first-fits L fits =
    let low : 2 ≤ L.banks = (limits L fits).fewest_banks in
    let index : IsTrue (_) = lt-ltb 0 L.banks (omega arith) in
    let states : length (first_meta L).states ≡ L.banks = ap suc (length-replicate {A = BankState} (L.banks - 1) Invalid) ∙ omega arith in
    let bits : length (first_meta L).bits ≡ L.banks = ap suc (length-replicate {A = List Bool} (L.banks - 1) (replicate (length L.rows) false)) ∙ omega arith in
    and_from _ _ (and_from _ _ (and_from _ _ (and_from _ _ index index) (eq-eqb _ _ states)) (eq-eqb _ _ bits))
    (and_from _ _ (eq-eqb _ _ (length-replicate {A = Bool} (length L.rows) true)) (all-same (λ row. length row == length L.rows) (L.banks - 1) (replicate (length L.rows) false) (eq-eqb _ _ (length-replicate {A = Bool} (length L.rows) false))))

pub first-value : (L : Layout) (states : List BankState) (bits : List (List Bool)) (r : MetaRead) → states ≡ Accepted ∷ replicate (L.banks - 1) Invalid
    → bits ≡ replicate (length L.rows) true ∷ replicate (L.banks - 1) (replicate (length L.rows) false)
    → r ≡ record { form = 2; meta = record { active = 0; previous = 0; states = states; bits = bits } } → r ≡ record { form = 2; meta = first_meta L }
first-value L states bits r es ebits er = rw (er, es, ebits) refl

pub value-fits : (L : Layout) (r : MetaRead) → IsTrue (fits_layout L) → r ≡ record { form = 2; meta = first_meta L } → IsTrue (fits_meta L r.meta)
value-fits L r fits is = rw is (first-fits L fits)
