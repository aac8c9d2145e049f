-- The metadata that decides in an image that a loss leaves is the old one or the new.
use Rattle.std.proofs.Common.{◌≡◌, inl, inr, ℕ, ◌+◌, ◌*◌, ◌≤◌, List, Result, sym, ap, ◌∙◌, subst, arith}
use Rattle.base_core.specs.Block.{block}
use Rattle.flash_core.specs.{declared.flash.FlashStop.FlashStop, Told.Told, May.Guards, May.Keeps, May.May, May.Quiet}
use Rattle.flash_core.proofs.Calls.{guards_kept, keeps_same}
use Rattle.fwu_formats.specs.{Layout.Layout, Metadata.Meta, Metadata.MetaRead, Metadata.meta_read}
use Rattle.fwu_formats.proofs.Same.{block-same}
use Rattle.fwu_model.specs.Replica.{BothHold, Decides, in_version}
use Rattle.moves.proofs.Beside.{both-beside}
use Rattle.replicas.specs.Stores.{Stores}
use Rattle.agent_machine.specs.{Deciding.KeepsOldOrNew, Ends.ClearsAndStores}
use Rattle.agent_machine.proofs.Known.{both-decides}

-- ---- what isn't written

module _ (L : Layout) (r : MetaRead) (low high : ℕ) (s t : Told) (above : 12288 ≤ low) (keeps : Keeps low high s t) where
  -- the replicas of an image that a loss leaves
  both-left : Quiet 4096 12288 s → BothHold L r s.now → (image : List ℕ) → May t image → BothHold L r image
  both-left quiet both image may = record {
    zero = ap (meta_read L) (replica 1 (omega arith) (omega arith)) ∙ both.zero;
    one = ap (meta_read L) (replica 2 (omega arith) (omega arith)) ∙ both.one;
  }
    where
      replica : (k : ℕ) → 4096 ≤ 4096 * k → 4096 * (k + 1) ≤ 12288 → block k image ≡ block k s.now
      replica k first last =
          block-same image s.now k (may.leaves.size ∙ keeps.size) (λ place from to.
          may.leaves.sure place (keeps.sure place (inl (omega (arith, above, last, to))) (quiet place (omega (arith, first, from)) (omega (arith, last, to))))
          ∙ keeps.now place (inl (omega (arith, above, last, to))))

  pub decides-kept : (new : MetaRead) → KeepsOldOrNew L r new s t
  decides-kept new rest both image may =
      inl (both-decides L image r (both-left (λ i from to. rest.front i (omega arith) (omega (arith, to))) both image may))

pub decides-same : (L : Layout) (r new : MetaRead) (s t : Told) → t ≡ s → KeepsOldOrNew L r new s t
decides-same L r new s t is =
    subst (λ (u : Told). KeepsOldOrNew L r new s u) (sym is) (decides-kept L r 12288 12288 s s (omega arith) (keeps_same 12288 12288 s) new)

-- ---- a store

stores-decide : {T : Type 0} (result : Result T FlashStop) (L : Layout) (r : MetaRead) (m : Meta) (s t : Told) → Guards 1 7 s → Quiet 4096 12288 s
    → BothHold L r s.now → Stores result L m s t → (image : List ℕ) → May t image → Decides L r (in_version 2 m) image
stores-decide result L r m s t guards quiet both stores image may =
    stores.either (λ b from to. guards b from (omega (arith, to))) quiet r (record { decides = both-decides L s.now r both; one = both.one }) image may

pub decides-stores : {T : Type 0} (result : Result T FlashStop) (L : Layout) (r new : MetaRead) (m : Meta) (s t : Told) → new ≡ in_version 2 m
    → Stores result L m s t → KeepsOldOrNew L r new s t
decides-stores result L r new m s t is stores rest both image may =
    subst (λ (n : MetaRead). Decides L r n image) (sym is)
    (stores-decide result L r m s t rest.guard (λ i from to. rest.front i (omega arith) (omega (arith, to))) both stores image may)

-- and before it a clear of the marks
pub decides-ends : {T : Type 0} (result : Result T FlashStop) (L : Layout) (r new : MetaRead) (m : Meta) (s t : Told) → new ≡ in_version 2 m
    → ClearsAndStores result L m s t → KeepsOldOrNew L r new s t
decides-ends result L r new m s t is (inl (mid, clears, stores)) rest both image may =
    subst (λ (n : MetaRead). Decides L r n image) (sym is)
    (stores-decide result L r m mid t (guards_kept 1 7 (4096 * 3) (4096 * 3 + 4096) s mid clears.keeps rest.guard)
    (λ i from to. clears.keeps.sure i (inl (omega (arith, to))) (rest.front i (omega arith) (omega (arith, to))))
    (both-beside L r (4096 * 3) (4096 * 3 + 4096) s mid (omega arith) clears.keeps both) stores image may)
decides-ends result L r new m s t is (inr (err, clears)) rest both image may =
    decides-kept L r (4096 * 3) (4096 * 3 + 4096) s t (omega arith) clears.keeps new rest both image may
