-- What each exit of `store` and of `repair` leaves.
use Rattle.std.proofs.Common.{◌≡◌, inl, inr, ℕ, ◌+◌, ◌*◌, ◌≤◌, List, length, Some, ◌∙◌, ap, subst, arith, IsTrue, ◌⊎◌, Option, None, refl, sym}
use Rattle.std.proofs.lemmas.Result.{on_ok_weaker}
use Rattle.std.specs.Prelude.{Result, Ok, Err, OnOk}
use Rattle.base_core.specs.Block.{block}
use Rattle.flash_core.specs.{declared.flash.FlashStop.FlashStop, Told.Told, Told.is_guarded, May.May, May.Guards, May.Quiet}
use Rattle.flash_core.specs.{May.Keeps, Replaces.padded, Replaces.IsOldOrNew, Replaces.IsSettled, Replaces.Replaces}
use Rattle.flash_core.proofs.Calls.{keeps_wider, keeps_then, block_kept, now_kept, guarded_kept, quiet_fresh, keeps_same, block_quiet, guards_kept}
use Rattle.fwu_formats.specs.{Layout.Layout, Layout.fits_layout, Image.deciding}
use Rattle.fwu_formats.specs.Metadata.{Meta, MetaRead, meta_read, fits_meta, replica_bytes}
use Rattle.fwu_model.specs.Replica.{BothHold, Decides, in_version}
use Rattle.replicas.specs.Stores.{IsBetween, IsBacked, WritesBoth, Stores, Rewrites, replica_block, Repairs}
use Rattle.replicas.specs.Which.{Loads}
use Rattle.replicas.specs.declared.which.Which.TheVariants.{Same, RepairZero, RepairOne, MigrateZero, MigrateOne}
use Rattle.replicas.proofs.Reading.{by_zero, by_one, deciding_of, unread, replica_read}
use Rattle.std.proofs.lemmas.Option.{same_Some}

pub quiet_zero : (s : Told) → Quiet 4096 12288 s → Quiet (4096 * 1) (4096 * 1 + 4096) s
quiet_zero s quiet i above below = quiet i above (omega (arith, below))

pub quiet_one : (s : Told) → Quiet 4096 12288 s → Quiet (4096 * 2) (4096 * 2 + 4096) s
quiet_one s quiet i above below = quiet i (omega (arith, above)) (omega (arith, below))

pub guard_zero : (s : Told) → Guards 1 2 s → IsTrue (is_guarded s 1)
guard_zero s guards = guards 1 (omega arith) (omega arith)

pub guard_one : (s : Told) → Guards 1 2 s → IsTrue (is_guarded s 2)
guard_one s guards = guards 2 (omega arith) (omega arith)

-- ---- bytes

module _ {T U : Type 0} (given : Result U FlashStop) (result : Result T FlashStop) (new : List ℕ) where
  -- replica 0 is the old one, the new one or unsealed, and replica 1 is as it was
  pub zero_written : (s t : Told) → 12288 ≤ length s.now → Replaces given 1 new s t → ((A : Type 0) → OnOk result A) → WritesBoth result new s t
  zero_written s t room replaced stopped = record {
    keeps = keeps_wider 4096 8192 4096 12288 s t (omega arith) (omega arith) replaced.keeps;
    between = λ guards quiet image may. inl (
      replaced.either (guard_zero s guards) (quiet_zero s quiet) image may,
      block_kept 2 4096 8192 s t image (omega (arith, room)) (inr (omega arith)) (quiet_one s quiet) replaced.keeps may.leaves,
    );
    other = λ guards quiet image may.
        inl (block_kept 2 4096 8192 s t image (omega (arith, room)) (inr (omega arith)) (quiet_one s quiet) replaced.keeps may.leaves);
    zero = stopped _;
    one = stopped _;
    stable = stopped _;
  }

  -- replica 0 is the new one, whatever replica 1 is
  pub one_written : (s m t : Told) → 12288 ≤ length s.now → 12288 ≤ length m.now → Replaces given 1 new s m → IsSettled 1 new m → Replaces result 2 new m t → WritesBoth result new s t
  one_written s m t space room first settled second = record {
    keeps = keeps_then 4096 12288 s m t (keeps_wider 4096 8192 4096 12288 s m (omega arith) (omega arith) first.keeps) (keeps_wider 8192 12288 4096 12288 m t (omega arith) (omega arith) second.keeps);
    between = λ guards quiet image may.
        inr (block_kept 1 8192 12288 m t image (omega (arith, room)) (inl (omega arith)) (quiet_fresh (4096 * 1) (4096 * 1 + 4096) m settled.stable) second.keeps may.leaves ∙ settled.bytes_are);
    other = λ guards quiet image may.
        subst (λ (old : List ℕ). IsOldOrNew old new (block 2 image))
        (now_kept 2 4096 8192 s m (omega (arith, space)) (inr (omega arith)) first.keeps)
        (second.either (guarded_kept 2 4096 8192 s m first.keeps (guard_one s guards)) (quiet_fresh (4096 * 2) (4096 * 2 + 4096) m settled.stable) image may);
    zero = on_ok_weaker result (λ ok. now_kept 1 8192 12288 m t (omega (arith, room)) (inl (omega arith)) second.keeps ∙ settled.bytes_are) second.ok;
    one = on_ok_weaker result (λ ok. ok.bytes_are) second.ok;
    stable = on_ok_weaker result (λ ok. ok.stable) second.ok;
  }

-- ---- metadata

module _ (L : Layout) (layout : IsTrue (fits_layout L)) (old new : MetaRead) (bytes : List ℕ) (spelled : meta_read L bytes ≡ Some new) (was : List ℕ) (backed : IsBacked L old was) where
  -- replica 0 is being written, and replica 1 is as it was
  pub zero_either : (image : List ℕ) → IsOldOrNew (block 1 was) bytes (block 1 image) → block 2 image ≡ block 2 was → Decides L old new image
  zero_either image (inl as_old) same = inl (deciding_of L image was as_old same ∙ backed.decides)
  zero_either image (inr (inl as_new)) same = inr (by_zero L new image (ap (meta_read L) as_new ∙ spelled))
  zero_either image (inr (inr none)) same = inl (by_one L old image (unread L layout (block 1 image) none) (ap (meta_read L) same ∙ backed.one))

  pub between_either : (image : List ℕ) → IsBetween was bytes image → Decides L old new image
  between_either image (inl both) = zero_either image both.0 both.1
  between_either image (inr as_new) = inr (by_zero L new image (ap (meta_read L) as_new ∙ spelled))

both_of : {T : Type 0} (result : Result T FlashStop) (L : Layout) (new : MetaRead) (bytes image : List ℕ) → meta_read L bytes ≡ Some new → OnOk result (block 1 image ≡ bytes) → OnOk result (block 2 image ≡ bytes)
    → OnOk result (BothHold L new image)
both_of (Err stop) L new bytes image spelled zero one = tt
both_of (Ok x) L new bytes image spelled zero one = record { zero = ap (meta_read L) zero ∙ spelled; one = ap (meta_read L) one ∙ spelled }

-- both replicas were written: what was backed, or the new one
module _ {T : Type 0} (result : Result T FlashStop) (L : Layout) (layout : IsTrue (fits_layout L)) (new : MetaRead) (bytes : List ℕ) (spelled : meta_read L bytes ≡ Some new) (s t : Told) (writes : WritesBoth result bytes s t) where
  pub written_either : Guards 1 2 s → Quiet 4096 12288 s → (old : MetaRead) → IsBacked L old s.now → (image : List ℕ) → May t image → Decides L old new image
  written_either guards quiet old backed image may = between_either L layout old new bytes spelled s.now backed image (writes.between guards quiet image may)

  pub written_both : OnOk result (BothHold L new t.now)
  written_both = both_of result L new bytes t.now spelled writes.zero writes.one

pub stored : {T : Type 0} (result : Result T FlashStop) (L : Layout) → IsTrue (fits_layout L) → (m : Meta) → IsTrue (fits_meta L m) → (s t : Told) → WritesBoth result (padded (replica_bytes L m)) s t → Stores result L m s t
stored result L layout m fits s t writes = record {
  writes = writes;
  either = written_either result L layout (in_version 2 m) (padded (replica_bytes L m)) (replica_read L m layout fits) s t writes;
  both = written_both result L layout (in_version 2 m) (padded (replica_bytes L m)) (replica_read L m layout fits) s t writes;
}

-- ---- what each exit of `repair` leaves

-- metadata of version 2 is what is written of it
as_two : (r : MetaRead) → r.form ≡ 2 → in_version 2 r.meta ≡ r
as_two r is = ap (λ form. in_version form r.meta) (sym is)

-- a block doesn't read as two things
not_none : (o : Option MetaRead) (r : MetaRead) → o ≡ None → o ≡ Some r → ⊥
not_none o r none some = absurd cc

not_two : (o : Option MetaRead) (r : MetaRead) → r.form ≡ 1 → o ≡ Some r → o ≡ Some (in_version 2 r.meta) → ⊥
not_two o r one as_one as_two_ =
    let same : r ≡ in_version 2 r.meta = same_Some r (in_version 2 r.meta) (sym as_one ∙ as_two_) in
    absurd (omega (arith, one, ap (λ (x : MetaRead). x.form) same))

-- what was written, by its spelling, over the flash as it was before a read
pub spelled_out : {T : Type 0} (result : Result T FlashStop) (b : ℕ) (bytes new : List ℕ) (old s t : Told) → bytes ≡ new → old ≡ s → Replaces result b (padded bytes) old t → Replaces result b (padded new) s t
spelled_out result b bytes new old s t is same replaced =
    subst (λ (u : Told). Replaces result b (padded new) u t) same (subst (λ (x : List ℕ). Replaces result b (padded x) old t) is replaced)

-- a replica that isn't written
kept_writes : {T : Type 0} (result : Result T FlashStop) (L : Layout) (b low high : ℕ) (r : MetaRead) (new : List ℕ) (s t : Told) → 1 ≤ b → b ≤ 2 → 12288 ≤ length s.now → (4096 * b + 4096 ≤ low) ⊎ (high ≤ 4096 * b)
    → Keeps low high s t → (((A : Type 0) → OnOk result A) ⊎ (meta_read L (block b s.now) ≡ Some r)) → Rewrites result L b r new s t
kept_writes result L b low high r new s t from to room apart keeps why = record {
  written = λ lacks. idle lacks why;
  either = λ guards quiet image may. inl (block_kept b low high s t image (omega (arith, room, to)) apart (λ i above below. quiet i (omega (arith, above, from)) (omega (arith, below, to))) keeps may.leaves);
}
  where
    idle : (meta_read L (block b s.now) ≡ Some r → ⊥) → ((A : Type 0) → OnOk result A) ⊎ (meta_read L (block b s.now) ≡ Some r) → OnOk result (block b t.now ≡ new)
    idle lacks (inl stopped) = stopped _
    idle lacks (inr held) = absurd (lacks held)

-- the one that is
block_writes : {T U : Type 0} (given : Result U FlashStop) (result : Result T FlashStop) (L : Layout) (b : ℕ) (r : MetaRead) (new : List ℕ) (s t : Told) → 1 ≤ b → b ≤ 2 → Replaces given b new s t → OnOk result (IsSettled b new t) → Rewrites result L b r new s t
block_writes given result L b r new s t from to replaced ok = record {
  written = λ lacks. on_ok_weaker result (λ done. done.bytes_are) ok;
  either = λ guards quiet image may. replaced.either (guards b from to) (λ i above below. quiet i (omega (arith, above, from)) (omega (arith, below, to))) image may;
}

module _ (L : Layout) (layout : IsTrue (fits_layout L)) (r : MetaRead) (spelled : meta_read L (replica_block L r) ≡ Some (in_version 2 r.meta)) where
  abbrev new : List ℕ
  new = replica_block L r

  -- what decides, where nothing dirty or under way meets the replicas
  undisturbed : (s : Told) (image : List ℕ) → 12288 ≤ length s.now → Quiet 4096 12288 s → May s image → deciding L image ≡ deciding L s.now
  undisturbed s image room quiet may = deciding_of L image s.now
      (block_quiet 1 s image (omega (arith, room)) (quiet_zero s quiet) may.leaves) (block_quiet 2 s image (omega (arith, room)) (quiet_one s quiet) may.leaves)

  -- nothing was written
  pub unchanged : {T : Type 0} (result : Result T FlashStop) (s : Told) → 12288 ≤ length s.now → deciding L s.now ≡ Some r → OnOk result (BothHold L (in_version 2 r.meta) s.now) → Repairs result L r s s
  unchanged result s room decides both = record {
    keeps = keeps_same 4096 12288 s;
    idle = λ holds. refl;
    zero_alone = λ one. keeps_same 4096 8192 s;
    one_alone = λ zero. keeps_same 8192 12288 s;
    zero = kept_writes result L 1 8192 12288 (in_version 2 r.meta) new s s (omega arith) (omega arith) room (inl (omega arith)) (keeps_same 8192 12288 s) (why_zero result both);
    one = kept_writes result L 2 4096 8192 (in_version 2 r.meta) new s s (omega arith) (omega arith) room (inr (omega arith)) (keeps_same 4096 8192 s) (why_one result both);
    stays = λ guards quiet image may. inl (undisturbed s image room quiet may ∙ decides);
    both = both;
    quiet = λ quiet. on_ok_any result quiet;
  }
    where
      on_ok_any : {U A : Type 0} (x : Result U FlashStop) → A → OnOk x A
      on_ok_any (Ok y) a = a
      on_ok_any (Err e) a = tt

      why_zero : {U : Type 0} (x : Result U FlashStop) → OnOk x (BothHold L (in_version 2 r.meta) s.now) → ((A : Type 0) → OnOk x A) ⊎ (meta_read L (block 1 s.now) ≡ Some (in_version 2 r.meta))
      why_zero (Ok y) holds = inr holds.zero
      why_zero (Err e) holds = inl (λ A. tt)

      why_one : {U : Type 0} (x : Result U FlashStop) → OnOk x (BothHold L (in_version 2 r.meta) s.now) → ((A : Type 0) → OnOk x A) ⊎ (meta_read L (block 2 s.now) ≡ Some (in_version 2 r.meta))
      why_one (Ok y) holds = inr holds.one
      why_one (Err e) holds = inl (λ A. tt)

  -- replica 1 is written, and replica 0 decides
  one_decides : {U : Type 0} (given : Result U FlashStop) (s t : Told) → 12288 ≤ length s.now → meta_read L (block 1 s.now) ≡ Some r → Replaces given 2 new s t → Quiet 4096 12288 s
      → (image : List ℕ) → May t image → deciding L image ≡ Some r
  one_decides given s t room zero replaced quiet image may =
      by_zero L r image (ap (meta_read L) (block_kept 1 8192 12288 s t image (omega (arith, room)) (inl (omega arith)) (quiet_zero s quiet) replaced.keeps may.leaves) ∙ zero)

  module _ {T : Type 0} (result : Result T FlashStop) (s t : Told) (room : 12288 ≤ length s.now) where
    pub same_mended : (x : T) → Loads L Same r s.now → Repairs {T = T} (Ok x) L r s s
    same_mended x loads = unchanged (Ok x) s room loads.decides
        (record { zero = loads.finds.0 ∙ ap Some (sym (as_two r loads.finds.2)); one = loads.finds.1 ∙ ap Some (sym (as_two r loads.finds.2)) })

    -- replica 1 holds it in version 2, and replica 0 is written
    zero_mended : deciding L s.now ≡ Some r → (meta_read L (block 1 s.now) ≡ Some (in_version 2 r.meta) → ⊥) → meta_read L (block 2 s.now) ≡ Some (in_version 2 r.meta)
        → (Guards 1 2 s → Quiet 4096 12288 s → (image : List ℕ) → May t image → Decides L r (in_version 2 r.meta) image) → Replaces result 1 new s t → Repairs result L r s t
    zero_mended decides other one stays replaced = record {
      keeps = keeps_wider 4096 8192 4096 12288 s t (omega arith) (omega arith) replaced.keeps;
      idle = λ both. absurd (other both.zero);
      zero_alone = λ held. replaced.keeps;
      one_alone = λ held. absurd (other held);
      zero = block_writes result result L 1 (in_version 2 r.meta) new s t (omega arith) (omega arith) replaced replaced.ok;
      one = kept_writes result L 2 4096 8192 (in_version 2 r.meta) new s t (omega arith) (omega arith) room (inr (omega arith)) replaced.keeps (inr one);
      stays = stays;
      both = on_ok_weaker result (λ ok. record { zero = ap (meta_read L) ok.bytes_are ∙ spelled; one = ap (meta_read L) (now_kept 2 4096 8192 s t (omega (arith, room)) (inr (omega arith)) replaced.keeps) ∙ one }) replaced.ok;
      quiet = λ quiet. on_ok_weaker result (λ ok. quiet_fresh 4096 12288 t ok.stable) replaced.ok;
    }

    -- an image while replica 0 is written and replica 1 holds it in version 2
    zero_stays : Guards 1 2 s → Quiet 4096 12288 s → meta_read L (block 2 s.now) ≡ Some (in_version 2 r.meta) → deciding L s.now ≡ Some r → Replaces result 1 new s t
        → (image : List ℕ) → May t image → Decides L r (in_version 2 r.meta) image
    zero_stays guards quiet one decides replaced image may = by_case (replaced.either (guard_zero s guards) (quiet_zero s quiet) image may)
      where
        same : block 2 image ≡ block 2 s.now
        same = block_kept 2 4096 8192 s t image (omega (arith, room)) (inr (omega arith)) (quiet_one s quiet) replaced.keeps may.leaves

        by_case : IsOldOrNew (block 1 s.now) new (block 1 image) → Decides L r (in_version 2 r.meta) image
        by_case (inl as_old) = inl (deciding_of L image s.now as_old same ∙ decides)
        by_case (inr (inl as_new)) = inr (by_zero L (in_version 2 r.meta) image (ap (meta_read L) as_new ∙ spelled))
        by_case (inr (inr none)) = inr (by_one L (in_version 2 r.meta) image (unread L layout (block 1 image) none) (ap (meta_read L) same ∙ one))

    pub zero_repaired : Loads L RepairZero r s.now → Replaces result 1 new s t → Repairs result L r s t
    zero_repaired loads replaced =
        let one = loads.finds.1 ∙ ap Some (sym (as_two r loads.finds.2)) in
        zero_mended loads.decides (λ held. not_none _ (in_version 2 r.meta) loads.finds.0 held) one (λ guards quiet. zero_stays guards quiet one loads.decides replaced) replaced

    pub one_repaired : Loads L RepairOne r s.now → Replaces result 2 new s t → Repairs result L r s t
    one_repaired loads replaced =
        let two = as_two r loads.finds.2 in
        record {
          keeps = keeps_wider 8192 12288 4096 12288 s t (omega arith) (omega arith) replaced.keeps;
          idle = λ both. absurd (loads.finds.1 (both.one ∙ ap Some two));
          zero_alone = λ held. absurd (loads.finds.1 (held ∙ ap Some two));
          one_alone = λ held. replaced.keeps;
          zero = kept_writes result L 1 8192 12288 (in_version 2 r.meta) new s t (omega arith) (omega arith) room (inl (omega arith)) replaced.keeps (inr (loads.finds.0 ∙ ap Some (sym two)));
          one = block_writes result result L 2 (in_version 2 r.meta) new s t (omega arith) (omega arith) replaced replaced.ok;
          stays = λ guards quiet image may. inl (one_decides result s t room loads.finds.0 replaced quiet image may);
          both = on_ok_weaker result (λ ok. record {
            zero = ap (meta_read L) (now_kept 1 8192 12288 s t (omega (arith, room)) (inl (omega arith)) replaced.keeps) ∙ loads.finds.0 ∙ ap Some (sym two);
            one = ap (meta_read L) ok.bytes_are ∙ spelled;
          }) replaced.ok;
          quiet = λ quiet. on_ok_weaker result (λ ok. quiet_fresh 4096 12288 t ok.stable) replaced.ok;
        }

    first_either : (was : Told) (image : List ℕ) → IsBetween was.now new image → IsOldOrNew (block 1 was.now) new (block 1 image)
    first_either was image (inl both) = both.0
    first_either was image (inr as_new) = inr (inl as_new)

    -- version 1 in replica 1: both are written
    pub one_migrated : Loads L MigrateOne r s.now → WritesBoth result new s t → Repairs result L r s t
    one_migrated loads writes =
        let not_one : meta_read L (block 1 s.now) ≡ Some (in_version 2 r.meta) → ⊥ = λ held. not_none _ (in_version 2 r.meta) loads.finds.0 held in
        record {
          keeps = writes.keeps;
          idle = λ both. absurd (not_one both.zero);
          zero_alone = λ held. absurd (not_two _ r loads.finds.2 loads.finds.1 held);
          one_alone = λ held. absurd (not_one held);
          zero = record { written = λ lacks. writes.zero; either = λ guards quiet image may. first_either s image (writes.between guards quiet image may) };
          one = record { written = λ lacks. writes.one; either = writes.other };
          stays = λ guards quiet image may. written_either result L layout (in_version 2 r.meta) new spelled s t writes guards quiet r (record { decides = loads.decides; one = loads.finds.1 }) image may;
          both = written_both result L layout (in_version 2 r.meta) new spelled s t writes;
          quiet = λ quiet. on_ok_weaker result (λ stable. quiet_fresh 4096 12288 t stable) writes.stable;
        }

    -- ---- version 1 in replica 0: replica 1 is written first, unless it holds version 2

    never_two : Loads L MigrateZero r s.now → meta_read L (block 1 s.now) ≡ Some (in_version 2 r.meta) → ⊥
    never_two loads held = not_two _ r loads.finds.1 loads.finds.0 held

    -- replica 1 holds it, and replica 0 was being written
    pub held_migrated : Loads L MigrateZero r s.now → meta_read L (block 2 s.now) ≡ Some (in_version 2 r.meta) → Replaces result 1 new s t → Repairs result L r s t
    held_migrated loads one replaced = zero_mended loads.decides (never_two loads) one (λ guards quiet. zero_stays guards quiet one loads.decides replaced) replaced

    -- replica 1 was being written
    pub other_stopped : {U : Type 0} (given : Result U FlashStop) → Loads L MigrateZero r s.now → (meta_read L (block 2 s.now) ≡ Some (in_version 2 r.meta) → ⊥) → Replaces given 2 new s t
        → ((A : Type 0) → OnOk result A) → Repairs result L r s t
    other_stopped given loads other replaced stopped = record {
      keeps = keeps_wider 8192 12288 4096 12288 s t (omega arith) (omega arith) replaced.keeps;
      idle = λ both. absurd (other both.one);
      zero_alone = λ held. absurd (other held);
      one_alone = λ held. absurd (never_two loads held);
      zero = kept_writes result L 1 8192 12288 (in_version 2 r.meta) new s t (omega arith) (omega arith) room (inl (omega arith)) replaced.keeps (inl stopped);
      one = block_writes given result L 2 (in_version 2 r.meta) new s t (omega arith) (omega arith) replaced (stopped _);
      stays = λ guards quiet image may. inl (one_decides given s t room loads.finds.0 replaced quiet image may);
      both = stopped _;
      quiet = λ quiet. stopped _;
    }

-- replica 1 was written and is settled, and replica 0 was being written
pub both_migrated : (L : Layout) → IsTrue (fits_layout L) → (r : MetaRead) → meta_read L (replica_block L r) ≡ Some (in_version 2 r.meta) → {T U : Type 0} (given : Result U FlashStop) (result : Result T FlashStop) (s m t : Told)
    → 12288 ≤ length s.now → Loads L MigrateZero r s.now → (meta_read L (block 2 s.now) ≡ Some (in_version 2 r.meta) → ⊥) → Replaces given 2 (replica_block L r) s m → IsSettled 2 (replica_block L r) m → Replaces result 1 (replica_block L r) m t → Repairs result L r s t
both_migrated L layout r spelled given result s m t room loads other first settled replaced = record {
  keeps = keeps_then 4096 12288 s m t (keeps_wider 8192 12288 4096 12288 s m (omega arith) (omega arith) first.keeps) after.keeps;
  idle = λ both. absurd (other both.one);
  zero_alone = λ held. absurd (other held);
  one_alone = λ held. absurd (not_two _ r loads.finds.1 loads.finds.0 held);
  zero = record {
    written = λ lacks. on_ok_weaker result (λ ok. ok.bytes_are) replaced.ok;
    either = λ guards quiet image may.
        subst (λ (old : List ℕ). IsOldOrNew old (replica_block L r) (block 1 image)) (now_kept 1 8192 12288 s m (omega (arith, room)) (inl (omega arith)) first.keeps)
        (replaced.either (guarded_kept 1 8192 12288 s m first.keeps (guard_zero s guards)) (quiet_fresh (4096 * 1) (4096 * 1 + 4096) m settled.stable) image may);
  };
  one = record {
    written = λ lacks. on_ok_weaker result (λ ok. second_kept ∙ settled.bytes_are) replaced.ok;
    either = λ guards quiet image may.
        inr (inl (block_kept 2 4096 8192 m t image (omega (arith, room, first.keeps.size)) (inr (omega arith)) (quiet_fresh (4096 * 2) (4096 * 2 + 4096) m settled.stable) replaced.keeps may.leaves ∙ settled.bytes_are));
  };
  stays = λ guards quiet image may. after.stays (guards_kept 1 2 8192 12288 s m first.keeps guards) (quiet_fresh 4096 12288 m settled.stable) image may;
  both = after.both;
  quiet = λ quiet. after.quiet (quiet_fresh 4096 12288 m settled.stable);
}
  where
    second_kept : block 2 t.now ≡ block 2 m.now
    second_kept = now_kept 2 4096 8192 m t (omega (arith, room, first.keeps.size)) (inr (omega arith)) replaced.keeps

    zero : meta_read L (block 1 m.now) ≡ Some r
    zero = ap (meta_read L) (now_kept 1 8192 12288 s m (omega (arith, room)) (inl (omega arith)) first.keeps) ∙ loads.finds.0

    one : meta_read L (block 2 m.now) ≡ Some (in_version 2 r.meta)
    one = ap (meta_read L) settled.bytes_are ∙ spelled

    after : Repairs result L r m t
    after = held_migrated L layout r spelled result m t (omega (arith, room, first.keeps.size)) (record { decides = by_zero L r m.now zero; finds = (zero, loads.finds.1) }) one replaced
