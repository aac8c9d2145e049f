-- A metadata block, test by test.
use Rattle.std.proofs.Common.{◌≡◌, ℕ, zero, suc, ◌≤◌, ◌<◌, Bool, true, false, ◌==◌, eq-eqb, List, [], ◌∷◌, length, take, map, replicate, ltb, Err, refl, sym, ap, ◌∙◌, arith}
use Rattle.std.proofs.lemmas.Bool.{lt-ltb, ne_eqb}
use Rattle.base_core.specs.Bytes.{num_at}
use Rattle.fwu_formats.specs.{Layout.Layout, Metadata.meta_size, Metadata.read_v2, Metadata.read_v1, Metadata.meta_of}
use Rattle.fwu_formats.specs.declared.kinds.MetaFault.TheVariants as fault
use Rattle.meta_layout.proofs.Layouts.{ge-ltb}

take-falses : (n m : ℕ) → n ≤ m → take n (replicate m false) ≡ replicate n false
take-falses zero m h = refl
take-falses (suc n) zero h = absurd (omega arith)
take-falses (suc n) (suc m) h = ap (λ l. false ∷ l) (take-falses n m (omega arith))

map-falses : (bits : List Bool) → map (λ (bit : Bool). false) bits ≡ replicate (length bits) false
map-falses [] = refl
map-falses (b ∷ bits) = ap (λ l. false ∷ l) (map-falses bits)

pub cleared : (n m : ℕ) (bits : List Bool) → n ≤ m → length bits ≡ n → take n (replicate m false) ≡ map (λ (bit : Bool). false) bits
cleared n m bits h e = take-falses n m h ∙ ap (λ k. replicate k false) (sym e) ∙ sym (map-falses bits)

module _ (L : Layout) (block : List ℕ) where
  pub meta-short : length block < meta_size L → Err fault.Short ≡ meta_of L block
  unfolding meta_of
  meta-short few = let e : ltb (length block) (meta_size L) ≡ true = lt-ltb _ _ few in rw e refl

  module _ (long : meta_size L ≤ length block) where
    whole : ltb (length block) (meta_size L) ≡ false
    whole = ge-ltb _ _ long

    pub meta-two : num_at 4 block 4 ≡ 2 → read_v2 L block ≡ meta_of L block
    unfolding meta_of
    meta-two two = let e : (num_at 4 block 4 == 2) ≡ true = eq-eqb _ _ two in rw (whole, e) refl

    pub meta-one : num_at 4 block 4 ≡ 1 → read_v1 L block ≡ meta_of L block
    unfolding meta_of
    meta-one one = rw (whole, one) refl

    pub meta-none : (num_at 4 block 4 ≡ 2 → ⊥) → (num_at 4 block 4 ≡ 1 → ⊥) → Err fault.NotTwo ≡ meta_of L block
    unfolding meta_of
    meta-none two one =
        let e : (num_at 4 block 4 == 2) ≡ false = ne_eqb _ _ two in
        let f : (num_at 4 block 4 == 1) ≡ false = ne_eqb _ _ one in
        rw (whole, e, f) refl
