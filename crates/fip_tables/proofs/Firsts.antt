-- The first faults of parts, as loops find them.
use Rattle.std.proofs.Common.{◌≡◌, ◌<◌, ◌≤◌, ◌+◌, ℕ, Bool, true, false, List, length, get_or, Option, Some, None, refl, ap, ◌∙◌, arith, ltb, le-ltb}
use Rattle.std.proofs.lemmas.List.Sums.{position_or_len_is}
use Rattle.std.proofs.lemmas.List.FromFn.{get_or-range_with_len, length-range_with_len}
use Rattle.std.specs.Prelude.{position, option_map, nat_lt, not, if◌then◌else◌}
use Rattle.std.specs.List.{position_or_len, range_with_len}
use Rattle.fwu_formats.specs.Package.{Part, entry_limit, packed}
use Rattle.fip_tables.specs.Packing.{IsOutline, first_of, first_repeat, is_alignment, is_nil, is_repeat, pack_fault, package_limit, packed_part_at, parts_fault}
use Rattle.fip_tables.specs.declared.faults.PackFault.{PackFault}
use Rattle.fip_tables.specs.declared.faults.PackFault.TheVariants as fault
use Rattle.fip_tables.proofs.Steps.{is-less, skips, takes}

-- none of the first parts has the nil UUID
pub record HasNoneNil (parts : List Part) (count : ℕ) : Type 0 where
  pub some : (k : ℕ) → k < count → is_nil (packed_part_at parts k) ≡ false
  pub outlines : (k : ℕ) → k < count → IsOutline (packed_part_at parts k)

pub position-none : {X : Type 0} (p : X → Bool) (xs : List X) (d : X) → ((k : ℕ) → k < length xs → p (get_or xs k d) ≡ false) → position p xs ≡ None
position-none p xs d h =
    let all : position_or_len p xs ≡ length xs = position_or_len_is p xs (length xs) d (omega arith) h (λ lt. absurd (omega (arith, lt))) in
    skips (ltb (position_or_len p xs) (length xs)) _ None None (le-ltb (position_or_len p xs) (length xs) (omega (arith, all))) refl

pub position-at : {X : Type 0} (p : X → Bool) (xs : List X) (i : ℕ) (d : X) → i < length xs → ((k : ℕ) → k < i → p (get_or xs k d) ≡ false) → p (get_or xs i d) ≡ true → position p xs ≡ Some i
position-at p xs i d lt h here =
    let at : position_or_len p xs ≡ i = position_or_len_is p xs i d (omega (arith, lt)) h (λ _. here) in
    takes (ltb (position_or_len p xs) (length xs)) (Some (position_or_len p xs)) None (Some i) (is-less _ _ (omega (arith, at, lt))) (ap Some at)

pub numbers : (n k : ℕ) → k < n → get_or (range_with_len 0 n) k 0 ≡ k
numbers n k lt = get_or-range_with_len 0 n k 0 lt ∙ (let e : 0 + k ≡ k = omega arith in e)

pub none-repeats : (parts : List Part) → ((k : ℕ) → k < length parts → is_repeat parts k ≡ false) → first_repeat parts ≡ None
none-repeats parts h =
    position-none (is_repeat parts) (range_with_len 0 (length parts)) 0 (λ k lt.
    let small : k < length parts = omega (arith, lt, length-range_with_len 0 (length parts)) in
    ap (is_repeat parts) (numbers (length parts) k small) ∙ h k small)

pub repeats-at : (parts : List Part) (i : ℕ) → i < length parts → ((k : ℕ) → k < i → is_repeat parts k ≡ false) → is_repeat parts i ≡ true → first_repeat parts ≡ Some i
repeats-at parts i lt h here =
    position-at (is_repeat parts) (range_with_len 0 (length parts)) i 0 (omega (arith, lt, length-range_with_len 0 (length parts)))
    (λ k below. ap (is_repeat parts) (numbers (length parts) k (omega (arith, below, lt))) ∙ h k below)
    (ap (is_repeat parts) (numbers (length parts) i lt) ∙ here)

-- ---- the first fault, whatever is made

module _ (parts : List Part) where
  pub too-many : entry_limit < length parts → parts_fault parts ≡ Some fault.TooMany
  unfolding parts_fault
  too-many lt = takes (ltb entry_limit (length parts)) (Some fault.TooMany) _ _ (is-less _ _ lt) refl

  module _ (few : length parts ≤ entry_limit) where
    later : (f : Option PackFault) → first_of (option_map fault.Duplicate (first_repeat parts)) (option_map fault.NilGuid (position is_nil parts)) ≡ f → parts_fault parts ≡ f
    unfolding parts_fault
    later f e = skips (ltb entry_limit (length parts)) (Some fault.TooMany) _ _ (le-ltb entry_limit (length parts) few) e

    pub repeat-fault : (i : ℕ) → first_repeat parts ≡ Some i → parts_fault parts ≡ Some (fault.Duplicate i)
    repeat-fault i e = later _ (ap (λ (o : Option ℕ). first_of (option_map fault.Duplicate o) (option_map fault.NilGuid (position is_nil parts))) e)

    module _ (distinct : first_repeat parts ≡ None) where
      by-nil : (o : Option ℕ) → position is_nil parts ≡ o → parts_fault parts ≡ option_map fault.NilGuid o
      by-nil o e =
          later _ (ap (λ (r : Option ℕ). first_of (option_map fault.Duplicate r) (option_map fault.NilGuid (position is_nil parts))) distinct
          ∙ ap (λ (n : Option ℕ). option_map fault.NilGuid n) e)

      pub nil-fault : (i : ℕ) → position is_nil parts ≡ Some i → parts_fault parts ≡ Some (fault.NilGuid i)
      nil-fault i e = by-nil (Some i) e

      pub none-shared : position is_nil parts ≡ None → parts_fault parts ≡ None
      none-shared e = by-nil None e

-- ---- and as a package

module _ (parts : List Part) (a : ℕ) where
  abbrev by_size : Option PackFault
  by_size = if not (is_alignment a) then Some fault.BadAlign else if nat_lt package_limit (length (packed 0 0 parts a)) then Some fault.TooLarge else None

  pub shared-fault : (f : PackFault) → parts_fault parts ≡ Some f → pack_fault parts a ≡ Some f
  unfolding pack_fault
  shared-fault f e = ap (λ (o : Option PackFault). first_of o by_size) e

  module _ (shared : parts_fault parts ≡ None) where
    last : (f : Option PackFault) → by_size ≡ f → pack_fault parts a ≡ f
    unfolding pack_fault
    last f e = ap (λ (o : Option PackFault). first_of o by_size) shared ∙ e

    pub align-fault : is_alignment a ≡ false → pack_fault parts a ≡ Some fault.BadAlign
    align-fault no-power = last _ (takes (not (is_alignment a)) (Some fault.BadAlign) _ _ (ap not no-power) refl)

    pub size-fault : is_alignment a ≡ true → package_limit < length (packed 0 0 parts a) → pack_fault parts a ≡ Some fault.TooLarge
    size-fault power large =
        last _ (skips (not (is_alignment a)) (Some fault.BadAlign) _ _ (ap not power)
        (takes (ltb package_limit (length (packed 0 0 parts a))) (Some fault.TooLarge) None _ (is-less _ _ large) refl))

    pub no-fault : is_alignment a ≡ true → length (packed 0 0 parts a) ≤ package_limit → pack_fault parts a ≡ None
    no-fault power small =
        last _ (skips (not (is_alignment a)) (Some fault.BadAlign) _ _ (ap not power)
        (skips (ltb package_limit (length (packed 0 0 parts a))) (Some fault.TooLarge) None _ (le-ltb package_limit (length (packed 0 0 parts a)) small) refl))
