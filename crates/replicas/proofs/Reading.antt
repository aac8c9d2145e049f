-- What reads as metadata, and what decides.
use Rattle.std.proofs.Common.{◌≡◌, inl, inr, cond, ℕ, Bool, true, false, List, ◌++◌, length, replicate, Option, Some, None, Result, Ok, Err, refl, sym, ap, subst, ◌∙◌, IsTrue, append_assoc}
use Rattle.std.specs.Prelude.{not, ◌==◌, ◌-◌, ◌%◌}
use Rattle.std.specs.Option.{ForSome, option_or}
use Rattle.std.specs.Result.{result_ok}
use Rattle.base_core.specs.{Bytes.num_at, Bytes.part, Crc.crc, Block.block, Block.blank, Seal.Sealed}
use Rattle.flash_core.specs.Replaces.{padded}
use Rattle.fwu_formats.specs.{declared.kinds.MetaFault.MetaFault, Layout.Layout, Layout.fits_layout, Image.deciding}
use Rattle.fwu_formats.specs.Metadata.{Meta, MetaRead, meta_of, meta_read, meta_bytes, meta_size, meta_size_v1, replica_bytes, fits_meta, fits_v1, fits_v2, meta_at, meta_at_v1, read_v1, read_v2}
use Rattle.fwu_formats.specs.declared.kinds.MetaFault.TheVariants as fault
use Rattle.fwu_model.specs.Replica.{in_version}
use Rattle.fwu_formats.proofs.{SealLaws.read-sealed, SealLaws.was_not_refused, MetaWritten.meta-read}
use Rattle.replicas.specs.{Which.HasForm, Which.Finds, Which.Loads, declared.which.Which.Which}
use Rattle.replicas.specs.declared.which.Which.TheVariants.{RepairZero, MigrateOne}

-- ---- one block

pub read_is : (L : Layout) (bytes : List ℕ) (r : MetaRead) → meta_of L bytes ≡ Ok r → meta_read L bytes ≡ Some r
unfolding meta_read
read_is L bytes r is = ap result_ok is

pub none_is : (L : Layout) (bytes : List ℕ) (f : MetaFault) → meta_of L bytes ≡ Err f → meta_read L bytes ≡ None
unfolding meta_read
none_is L bytes f is = ap result_ok is

abbrev the_ok : MetaRead → Result MetaRead MetaFault
the_ok x = Ok x

same_ok : (x y : MetaRead) → the_ok x ≡ the_ok y → x ≡ y
same_ok x y is = cc

past_two : (a b : Bool) (e f : MetaFault) (x r : MetaRead) → cond a (Err e) (cond b (Err f) (Ok x)) ≡ the_ok r → x ≡ r
past_two true b e f x r is = absurd cc
past_two false true e f x r is = absurd cc
past_two false false e f x r is = same_ok x r is

past_three : (a b c : Bool) (e f h : MetaFault) (x r : MetaRead) → cond a (Err e) (cond b (Err f) (cond c (Err h) (Ok x))) ≡ the_ok r → x ≡ r
past_three true b c e f h x r is = absurd cc
past_three false b c e f h x r is = past_two b c f h x r is

form_one : (L : Layout) (bytes : List ℕ) (r : MetaRead) → read_v1 L bytes ≡ Ok r → r.form ≡ 1
form_one L bytes r is =
    let same = past_two (not (num_at 4 bytes 0 == crc (part bytes 4 (meta_size_v1 L)))) (not (fits_v1 L bytes)) fault.BadCrc fault.BadField (in_version 1 (meta_at_v1 L bytes)) r is in
    ap (λ (x : MetaRead). x.form) (sym same)

form_two : (L : Layout) (bytes : List ℕ) (r : MetaRead) → read_v2 L bytes ≡ Ok r → r.form ≡ 2
form_two L bytes r is =
    let same = past_three (not (num_at 4 bytes 16 == meta_size L)) (not (num_at 4 bytes 0 == crc (part bytes 4 (meta_size L)))) (not (fits_v2 L bytes)) fault.BadSize fault.BadCrc fault.BadField (in_version 2 (meta_at L bytes)) r is in
    ap (λ (x : MetaRead). x.form) (sym same)

-- metadata is read in version 1 or 2
pub has_form : (L : Layout) (bytes : List ℕ) (r : MetaRead) → meta_of L bytes ≡ Ok r → HasForm r
unfolding meta_of
has_form L bytes r is = by_version (num_at 4 bytes 4 == 2) (num_at 4 bytes 4 == 1) (was_not_refused _ _ _ r is).1
  where
    by_version : (two one : Bool) → cond two (read_v2 L bytes) (cond one (read_v1 L bytes) (Err fault.NotTwo)) ≡ Ok r → HasForm r
    by_version true one is = inr (form_two L bytes r is)
    by_version false true is = inl (form_one L bytes r is)
    by_version false false is = absurd cc

-- a replica that is written is read again, in version 2
pub replica_read : (L : Layout) (m : Meta) → IsTrue (fits_layout L) → IsTrue (fits_meta L m) → meta_read L (padded (replica_bytes L m)) ≡ Some (in_version 2 m)
replica_read L m layout fits =
    let fill = replicate ((16 - meta_size L % 16) % 16) 0xFF in
    let rest = blank (4096 - length (replica_bytes L m)) in
    read_is L (padded (replica_bytes L m)) (in_version 2 m) (ap (meta_of L) (append_assoc (meta_bytes L m) fill rest) ∙ meta-read L m (fill ++ rest) layout fits)

pub unread : (L : Layout) → IsTrue (fits_layout L) → (bytes : List ℕ) → (Sealed bytes → ⊥) → meta_read L bytes ≡ None
unread L fits bytes none = none_of (meta_read L bytes) (λ r is. none (read-sealed L bytes r fits is))
  where
    none_of : (o : Option MetaRead) → ((r : MetaRead) → o ≡ Some r → ⊥) → o ≡ None
    none_of None never = refl
    none_of (Some r) never = absurd (never r refl)

-- ---- an image

pub by_zero : (L : Layout) (r : MetaRead) (image : List ℕ) → meta_read L (block 1 image) ≡ Some r → deciding L image ≡ Some r
unfolding deciding
by_zero L r image is = ap (λ o. option_or o (meta_read L (block 2 image))) is

pub by_one : (L : Layout) (r : MetaRead) (image : List ℕ) → meta_read L (block 1 image) ≡ None → meta_read L (block 2 image) ≡ Some r → deciding L image ≡ Some r
unfolding deciding
by_one L r image none is = ap (λ o. option_or o (meta_read L (block 2 image))) none ∙ is

pub by_none : (L : Layout) (image : List ℕ) → meta_read L (block 1 image) ≡ None → meta_read L (block 2 image) ≡ None → deciding L image ≡ None
unfolding deciding
by_none L image zero one = ap (λ o. option_or o (meta_read L (block 2 image))) zero ∙ one

-- what decides depends on the replicas alone
pub deciding_of : (L : Layout) (image other : List ℕ) → block 1 image ≡ block 1 other → block 2 image ≡ block 2 other → deciding L image ≡ deciding L other
unfolding deciding
deciding_of L image other zero one = ap (λ bytes. option_or (meta_read L bytes) (meta_read L (block 2 image))) zero ∙ ap (λ bytes. option_or (meta_read L (block 1 other)) (meta_read L bytes)) one

-- what is found of what the replicas read as decides
found_decides : (L : Layout) (which : Which) (r : MetaRead) (image : List ℕ) → Finds which r (meta_read L (block 1 image)) (meta_read L (block 2 image)) → deciding L image ≡ Some r
found_decides L RepairZero r image finds = by_one L r image finds.0 finds.1
found_decides L MigrateOne r image finds = by_one L r image finds.0 finds.1
found_decides L other r image finds = by_zero L r image finds.0

pub found_loads : (L : Layout) (which : Which) (r : MetaRead) (image : List ℕ) (zero one : Option MetaRead) → zero ≡ meta_read L (block 1 image) → one ≡ meta_read L (block 2 image) → Finds which r zero one → Loads L which r image
found_loads L which r image zero one is_zero is_one finds =
    let there = subst (λ (o : Option MetaRead). Finds which r (meta_read L (block 1 image)) o) is_one (subst (λ (o : Option MetaRead). Finds which r o one) is_zero finds) in
    record { decides = found_decides L which r image there; finds = there }

-- and is what one of them reads as
pub found_is : (P : MetaRead → Type 0) (which : Which) (r : MetaRead) (zero one : Option MetaRead) → ForSome zero P → ForSome one P → Finds which r zero one → P r
found_is P RepairZero r zero one of_zero of_one finds = of_one r finds.1
found_is P MigrateOne r zero one of_zero of_one finds = of_one r finds.1
found_is P other r zero one of_zero of_one finds = of_zero r finds.0
