-- Blocks that are erased and then written at their front, and what a loss leaves of them.
use Rattle.std.proofs.Common.{◌≡◌, ◌⊎◌, inl, inr, ℕ, ◌+◌, ◌-◌, ◌*◌, ◌/◌, ◌<◌, ◌≤◌, List, ◌++◌, length, get_or, replicate, Some, Result, Ok, Err, refl, sym, ap, subst, ◌∙◌, arith, IsTrue, append_assoc, Bool}
use Rattle.std.specs.Prelude.{IsErr, OnOk, ◌%◌, Result, Ok, Err}
use Rattle.std.proofs.lemmas.List.{get_or_default, get_or_past, append-nil, length-append, length-replicate}
use Rattle.std.proofs.lemmas.Bool.{cases_lt, cases_eq}
use Rattle.std.specs.Result.{result_ok}
use Rattle.base_core.specs.{Block.blank, Block.block, Bytes.overwritten, Seal.Sealed}
use Rattle.base_core.proofs.{Blocks.length-blank, Blocks.get_or-blank, Seals.blank_unsealed}
use Rattle.base_core.proofs.Images.{length-overwritten, overwritten_inside, overwritten_above, block-overwritten_other}
use Rattle.flash_core.specs.{Told.Told, Told.put, Told.settled, Told.written, Told.NothingDirty, Replaces.padded}
use Rattle.flash_core.specs.May.{Keeps, Leaves, May, KeepsBlock, as_stable, as_now, as_finished, unsealed}
use Rattle.flash_core.proofs.Calls.{now-halt, now-put, now-settle, keeps_put, keeps_settle, settle-fresh, now_kept, block_kept, block_quiet, keeps_same, quiet_fresh, quiet_kept, stable-put, stable-halt, stable-settle, finished-put, finished-halt, finished-settle}
use Rattle.fwu_formats.specs.{Image.layout_seen, Package.Entry}
use Rattle.fwu_formats.specs.Layout.{Layout, fits_layout, layout_of, blocks_needed, slot_total, start}
use Rattle.fwu_formats.specs.Metadata.{Meta, MetaRead, meta_of, meta_read, meta_bytes, meta_size, replica_bytes, fits_meta, first_meta}
use Rattle.fwu_model.specs.Replica.{BothHold, in_version}
use Rattle.fwu_formats.proofs.MetaWritten.{meta-read}
use Rattle.flash_format.specs.Formatted.{HasAtMost, IsBlank, IsInOrder, IsOrdered, IsUnlaid, IsWholeFormat, bared, begun, filled}
use Rattle.flash_format.specs.Places.{Erased, HoldsThenErased, IsBare, OnlyErased, AllStand, LeavesNoMore}
use Rattle.flash_format.proofs.{Formats.unlaid, Formats.block_blank, Formats.unlaid_by, Ranges.stands_whole, Ranges.erased_stays}

-- ---- results

pub on_ok_from : {T E : Type 0} (A : Type 0) (r : Result T E) → A → OnOk r A
on_ok_from A (Ok x) a = a
on_ok_from A (Err e) a = tt

pub on_ok_map : {T E : Type 0} (A B : Type 0) (r : Result T E) → (A → B) → OnOk r A → OnOk r B
on_ok_map A B (Ok x) f a = f a
on_ok_map A B (Err e) f a = tt

-- ---- a barrier, whatever its result

pub keeps_settled : {T E : Type 0} (result : Result T E) (low high : ℕ) (s t : Told) → Keeps low high s t → Keeps low high s (settled result t)
keeps_settled (Ok x) low high s t keeps = keeps_settle low high s t keeps
keeps_settled (Err e) low high s t keeps = keeps

pub now_settled : {T E : Type 0} (result : Result T E) (t : Told) → (settled result t).now ≡ t.now
now_settled (Ok x) t = now-settle t
now_settled (Err e) t = refl

pub clean_after : {T E : Type 0} (A : Type 0) (result : Result T E) (t u : Told) → (A → u ≡ settled result t) → OnOk result (A → NothingDirty u)
clean_after A (Ok x) t u is = λ a. subst NothingDirty (sym (is a)) (settle-fresh t)
clean_after A (Err e) t u is = tt

-- ---- a block

stands_put : (b : ℕ) (bytes : List ℕ) (t : Told) → 4096 * b + 4096 ≤ length t.now → length bytes ≤ 4096 → Erased (4096 * b) (4096 * b + 4096) t.now → HoldsThenErased (4096 * b) 4096 bytes (put (4096 * b) bytes t).now
stands_put b bytes t inside short erased i below = ap (λ (l : List ℕ). get_or l (4096 * b + i) 0) (now-put (4096 * b) bytes t) ∙ at (cases_lt i (length bytes))
  where
    fits : 4096 * b + length bytes ≤ length t.now
    fits = omega arith

    at : (i < length bytes) ⊎ (length bytes ≤ i) → get_or (overwritten (4096 * b) bytes t.now) (4096 * b + i) 0 ≡ get_or bytes i 255
    at (inl l) =
        overwritten_inside (4096 * b) bytes t.now fits (4096 * b + i) 0 (omega arith) (omega arith)
        ∙ ap (λ (k : ℕ). get_or bytes k 0) (omega arith) ∙ get_or_default bytes i 0 255 l
    at (inr r) =
        overwritten_above (4096 * b) bytes t.now fits (4096 * b + i) 0 (omega arith)
        ∙ erased (4096 * b + i) (omega arith) (omega arith) ∙ sym (get_or_past bytes i 255 r)

block_padded : (b : ℕ) (bytes image : List ℕ) → 4096 * b + 4096 ≤ length image → length bytes ≤ 4096 → HoldsThenErased (4096 * b) 4096 bytes image → block b image ≡ padded bytes
unfolding block
block_padded b bytes image inside short stands = stands_whole (4096 * b) 4096 bytes image inside short stands

-- a block that is written whole
padded_whole : (bytes : List ℕ) → length bytes ≡ 4096 → padded bytes ≡ bytes
unfolding blank
padded_whole bytes whole = let none : 4096 - length bytes ≡ 0 = omega arith in ap (λ (n : ℕ). bytes ++ replicate n 255) none ∙ append-nil bytes

pub length_put : (at : ℕ) (bytes : List ℕ) (t : Told) → at + length bytes ≤ length t.now → length (put at bytes t).now ≡ length t.now
length_put at bytes t fits = ap length (now-put at bytes t) ∙ length-overwritten at bytes t.now fits

-- block 0 that is programmed whole
pub whole_put : (bytes : List ℕ) (t : Told) → 4096 ≤ length t.now → length bytes ≡ 4096 → Erased 0 4096 t.now → block 0 (put 0 bytes t).now ≡ bytes
whole_put bytes t room whole erased =
    block_padded 0 bytes (put 0 bytes t).now (omega (arith, room, length_put 0 bytes t (omega (arith, room, whole)))) (omega (arith, whole)) (stands_put 0 bytes t (omega (arith, room)) (omega (arith, whole)) erased)
    ∙ padded_whole bytes whole

-- a block of bytes that ends with erased ones
pub padded_front : (bytes front : List ℕ) (n : ℕ) → length bytes ≡ 4096 → bytes ≡ front ++ replicate n 255 → bytes ≡ padded front
unfolding blank
padded_front bytes front n whole is =
    let rest : n ≡ 4096 - length front = omega (arith, whole, ap length is, length-append front (replicate n 255), length-replicate {A = ℕ} n 255) in
    is ∙ ap (λ (k : ℕ). front ++ replicate k 255) rest

-- ---- what is read

read-is : (L : Layout) (bytes : List ℕ) (r : MetaRead) → meta_of L bytes ≡ Ok r → meta_read L bytes ≡ Some r
unfolding meta_read
read-is L bytes r is = ap result_ok is

replica_read : (L : Layout) (m : Meta) → IsTrue (fits_layout L) → IsTrue (fits_meta L m) → meta_read L (padded (replica_bytes L m)) ≡ Some (in_version 2 m)
replica_read L m layout fits =
    let fill = replicate ((16 - meta_size L % 16) % 16) 0xFF in
    let rest = blank (4096 - length (replica_bytes L m)) in
    read-is L (padded (replica_bytes L m)) (in_version 2 m) (ap (meta_of L) (append_assoc (meta_bytes L m) fill rest) ∙ meta-read L m (fill ++ rest) layout fits)

-- blocks 1 and 2 have these bytes, and behind them erased ones
abbrev pub HoldTwice : List ℕ → List ℕ → Type 0
HoldTwice bytes image = (block 1 image ≡ padded bytes) × (block 2 image ≡ padded bytes)

pub put_twice : {T E : Type 0} (result : Result T E) (bytes : List ℕ) (s : Told) → 12288 ≤ length s.now → length bytes ≤ 4096 → Erased 4096 12288 s.now → HoldTwice bytes (settled result (put 8192 bytes (put 4096 bytes s))).now
put_twice result bytes s room few erased = subst (HoldTwice bytes) (sym (now_settled result t)) (kept ∙ first, second)
  where
    m : Told
    m = put 4096 bytes s

    t : Told
    t = put 8192 bytes m

    same : length m.now ≡ length s.now
    same = length_put 4096 bytes s (omega (arith, room, few))

    fits : 8192 + length bytes ≤ length m.now
    fits = omega (arith, room, few, same)

    first : block 1 m.now ≡ padded bytes
    first = block_padded 1 bytes m.now (omega (arith, room, same)) few (stands_put 1 bytes s (omega (arith, room)) few (λ i above below. erased i above (omega (arith, below))))

    kept : block 1 t.now ≡ block 1 m.now
    kept = ap (block 1) (now-put 8192 bytes m) ∙ block-overwritten_other 8192 bytes m.now fits 1 (omega (arith, room, same)) (inr (omega arith))

    behind : Erased 8192 12288 m.now
    behind = erased_stays 8192 12288 4096 8192 s m (inr (omega arith)) (keeps_put 4096 8192 s s 4096 bytes (omega arith) (omega (arith, few)) (omega (arith, room, few)) (keeps_same 4096 8192 s)) (λ i above below. erased i (omega (arith, above)) below)

    second : block 2 t.now ≡ padded bytes
    second = block_padded 2 bytes t.now (omega (arith, room, same, length_put 8192 bytes m fits)) few (stands_put 2 bytes m (omega (arith, room, same)) few behind)

pub both_first : (L : Layout) (image : List ℕ) → IsTrue (fits_layout L) → IsTrue (fits_meta L (first_meta L)) → HoldTwice (replica_bytes L (first_meta L)) image → BothHold L (in_version 2 (first_meta L)) image
both_first L image layout fits twice =
    let read = replica_read L (first_meta L) layout fits in
    record { zero = ap (meta_read L) twice.0 ∙ read; one = ap (meta_read L) twice.1 ∙ read }

pub layout_read : (L : Layout) (bytes image : List ℕ) (blocks : ℕ) → length image ≡ 4096 * blocks → blocks_needed L ≤ blocks → block 0 image ≡ bytes
    → ((n : ℕ) → blocks_needed L ≤ n → layout_of bytes n ≡ Ok L) → layout_seen image ≡ Ok L
layout_read L bytes image blocks size enough is reads =
    let n : length image / 4096 ≡ blocks = omega (arith, size) in
    ap (λ (l : List ℕ). layout_of l (length image / 4096)) is ∙ reads (length image / 4096) (omega (arith, n, enough))

-- a program of the layout over block 0, which is erased, whatever its result
pub at_most_written : {T E : Type 0} (result : Result T E) (L : Layout) (bytes : List ℕ) (blocks : ℕ) (s : Told) → length s.now ≡ 4096 * blocks → 8 ≤ blocks → blocks_needed L ≤ blocks → Erased 0 4096 s.now → length bytes ≡ 4096
    → ((n : ℕ) → blocks_needed L ≤ n → layout_of bytes n ≡ Ok L) → HasAtMost L (written result 0 bytes s).now
at_most_written (Err e) L bytes blocks s size many enough erased whole reads = inl (subst (λ (image : List ℕ). IsErr (layout_seen image)) (sym (now-halt 0 bytes s)) (unlaid s.now (omega (arith, size, many)) erased))
at_most_written (Ok x) L bytes blocks s size many enough erased whole reads =
    let same = length_put 0 bytes s (omega (arith, size, many, whole)) in
    inr (layout_read L bytes (put 0 bytes s).now blocks (same ∙ size) enough (whole_put bytes s (omega (arith, size, many)) whole erased) reads)

-- the replicas stay where block 0 is written
pub both_stay : (L : Layout) (r : MetaRead) (s t : Told) → 12288 ≤ length s.now → Keeps 0 4096 s t → BothHold L r s.now → BothHold L r t.now
both_stay L r s t room keeps both = record {
  zero = ap (meta_read L) (now_kept 1 0 4096 s t (omega (arith, room)) (inr (omega arith)) keeps) ∙ both.zero;
  one = ap (meta_read L) (now_kept 2 0 4096 s t (omega (arith, room)) (inr (omega arith)) keeps) ∙ both.one;
}

-- ---- what a loss leaves once block 0 is bare, and while the records are written

-- ---- block 0 is bare

pub bare_fresh : (t : Told) → Erased 0 4096 t.now → NothingDirty t → IsBare t
bare_fresh t erased clean = record { erased = erased; quiet = quiet_fresh 0 4096 t clean }

-- no call has touched it since
pub bare_stays : (low high : ℕ) (s t : Told) → 4096 ≤ low → Keeps low high s t → IsBare s → IsBare t
bare_stays low high s t above keeps bare = record {
  erased = erased_stays 0 4096 low high s t (inl above) keeps bare.erased;
  quiet = quiet_kept 0 4096 low high s t (inl above) bare.quiet keeps;
}

pub bare_settled : {T E : Type 0} (result : Result T E) (t : Told) → IsBare t → IsBare (settled result t)
bare_settled result t bare = bare_stays 4096 4096 t (settled result t) (omega arith) (keeps_settled result 4096 4096 t t (keeps_same 4096 4096 t)) bare

pub bare_unlaid : (t : Told) (image : List ℕ) → 4096 ≤ length t.now → IsBare t → May t image → IsErr (layout_seen image)
bare_unlaid t image room bare may = unlaid_by image (block_quiet 0 t image (omega arith) bare.quiet may.leaves ∙ block_blank 0 t.now (omega arith) bare.erased)

pub bare_is_unlaid : (t : Told) → 4096 ≤ length t.now → IsBare t → IsUnlaid t
bare_is_unlaid t room bare = record { now = unlaid t.now room bare.erased; left = λ image may. bare_unlaid t image room bare may }

-- ---- up to the images

pub in_order_before : (passes : List ℕ → Bool) (L : Layout) (s t : Told) → 4096 ≤ length t.now → OnlyErased s t → Keeps 0 4096 s t ⊎ IsBare t → IsInOrder passes L s t
in_order_before passes L s t room only (inl keeps) = begun only keeps
in_order_before passes L s t room only (inr bare) = bared only (λ image may. bare_unlaid t image room bare may)

-- ---- the records

-- block 0 is erased, and no call has touched it
pub ordered_before : (L : Layout) (low : ℕ) (s t : Told) → 4096 ≤ low → 4096 ≤ length s.now → Erased 0 4096 s.now → NothingDirty s → Keeps low 12288 s t → IsOrdered L t
ordered_before L low s t above room erased clean keeps image may =
    inl (unlaid_by image (block_kept 0 low 12288 s t image (omega arith) (inl (omega arith)) (quiet_fresh 0 4096 s clean) keeps may.leaves ∙ block_blank 0 s.now (omega arith) erased))

-- both replicas are there, and only block 0 was touched
pub ordered_after : (L : Layout) (s t : Told) → 12288 ≤ length s.now → NothingDirty s → BothHold L (in_version 2 (first_meta L)) s.now → Keeps 0 4096 s t → IsOrdered L t
ordered_after L s t room clean both keeps image may = inr (record {
  zero = ap (meta_read L) (block_kept 1 0 4096 s t image (omega (arith, room)) (inr (omega arith)) (quiet_fresh 4096 8192 s clean) keeps may.leaves) ∙ both.zero;
  one = ap (meta_read L) (block_kept 2 0 4096 s t image (omega (arith, room)) (inr (omega arith)) (quiet_fresh 8192 12288 s clean) keeps may.leaves) ∙ both.one;
})

-- what is blank stays so while the records are written
pub blank_stays : (L : Layout) (s t : Told) → Keeps 0 12288 s t → IsBlank L s.now → IsBlank L t.now
blank_stays L s t keeps blank = record {
  front = erased_stays 12288 32768 0 12288 s t (inr (omega arith)) keeps blank.front;
  banks = erased_stays (4096 * (8 + slot_total L.rows)) (4096 * blocks_needed L) 0 12288 s t (inr (omega arith)) keeps blank.banks;
}

-- and so do the images
pub images_stay : (count : ℕ) (L : Layout) (file : List ℕ) (entries : List Entry) (s t : Told) → Keeps 0 12288 s t → AllStand count L file entries s.now → AllStand count L file entries t.now
images_stay count L file entries s t keeps stand k below i within =
    let place : 12288 ≤ 4096 * start L 0 k + i = omega arith in
    keeps.now (4096 * start L 0 k + i) (inr place) ∙ stand k below i within

-- and a loss leaves it so
blank_left : (L : Layout) (s t : Told) (image : List ℕ) → NothingDirty s → Keeps 0 12288 s t → IsBlank L s.now → Leaves t image → IsBlank L image
blank_left L s t image clean keeps blank leaves = record {
  front = λ i above below. at i above ∙ blank.front i above below;
  banks = λ i above below. at i (omega (arith, above)) ∙ blank.banks i above below;
}
  where
    at : (i : ℕ) → 12288 ≤ i → get_or image i 0 ≡ get_or s.now i 0
    at i above = leaves.sure i (keeps.sure i (inr above) (quiet_fresh 0 (i + 1) s clean i (omega arith) (omega arith))) ∙ keeps.now i (inr above)

pub in_order_filled : (passes : List ℕ → Bool) (L : Layout) (r s t : Told) → NothingDirty s → Keeps 0 12288 s t → IsBlank L s.now → IsOrdered L t → IsWholeFormat passes L t → HasAtMost L t.now → IsInOrder passes L r t
in_order_filled passes L r s t clean keeps blank ordered whole seen = filled (λ image may. blank_left L s t image clean keeps blank may.leaves) ordered whole seen

-- ---- what a loss leaves of the first blocks while they are erased, and while blocks above them are written

-- ---- one call after another

pub left_same : (count : ℕ) (s : Told) → LeavesNoMore count s s
left_same count s b below image left = left

pub left_then : (count : ℕ) (s t u : Told) → LeavesNoMore count s t → LeavesNoMore count t u → LeavesNoMore count s u
left_then count s t u first second b below image left = first b below image (second b below image left)

pub left_fewer : (fewer count : ℕ) (s t : Told) → fewer ≤ count → LeavesNoMore count s t → LeavesNoMore fewer s t
left_fewer fewer count s t less left b below image = left b (omega arith) image

-- ---- an erase or a program, whatever its result

-- it leaves block b alone
left_other : {T E : Type 0} (result : Result T E) (b at : ℕ) (bytes : List ℕ) (t : Told) (image : List ℕ) → block b (overwritten at bytes t.now) ≡ block b t.now → KeepsBlock (written result at bytes t) b image → KeepsBlock t b image
left_other (Ok x) b at bytes t image other left = elim left [
  | as_stable e ↦ as_stable (e ∙ ap (block b) (stable-put at bytes t))
  | as_now e ↦ as_now (e ∙ ap (block b) (now-put at bytes t) ∙ other)
  | as_finished e ↦ as_now (e ∙ ap (block b) (finished-put at bytes t) ∙ other)
  | unsealed none ↦ unsealed none
]
left_other (Err f) b at bytes t image other left = elim left [
  | as_stable e ↦ as_stable (e ∙ ap (block b) (stable-halt at bytes t))
  | as_now e ↦ as_now (e ∙ ap (block b) (now-halt at bytes t))
  | as_finished e ↦ as_now (e ∙ ap (block b) (finished-halt at bytes t) ∙ other)
  | unsealed none ↦ unsealed none
]

-- an erased block has no seal
unsealed_blank : (b : ℕ) (t : Told) (image : List ℕ) → block b image ≡ blank 4096 → KeepsBlock t b image
unsealed_blank b t image is = unsealed (subst (λ (c : List ℕ). Sealed c → ⊥) (sym is) (blank_unsealed 4096 (omega arith)))

-- it makes block b an erased one
left_blank : {T E : Type 0} (result : Result T E) (b at : ℕ) (bytes : List ℕ) (t : Told) (image : List ℕ) → block b (overwritten at bytes t.now) ≡ blank 4096 → KeepsBlock (written result at bytes t) b image → KeepsBlock t b image
left_blank (Ok x) b at bytes t image whole left = elim left [
  | as_stable e ↦ as_stable (e ∙ ap (block b) (stable-put at bytes t))
  | as_now e ↦ unsealed_blank b t image (e ∙ ap (block b) (now-put at bytes t) ∙ whole)
  | as_finished e ↦ unsealed_blank b t image (e ∙ ap (block b) (finished-put at bytes t) ∙ whole)
  | unsealed none ↦ unsealed none
]
left_blank (Err f) b at bytes t image whole left = elim left [
  | as_stable e ↦ as_stable (e ∙ ap (block b) (stable-halt at bytes t))
  | as_now e ↦ as_now (e ∙ ap (block b) (now-halt at bytes t))
  | as_finished e ↦ unsealed_blank b t image (e ∙ ap (block b) (finished-halt at bytes t) ∙ whole)
  | unsealed none ↦ unsealed none
]

-- the blocks below a program
pub left_below : {T E : Type 0} (result : Result T E) (count at : ℕ) (bytes : List ℕ) (t : Told) → 4096 * count ≤ at → at + length bytes ≤ length t.now → LeavesNoMore count t (written result at bytes t)
left_below result count at bytes t above fits b below image =
    left_other result b at bytes t image (block-overwritten_other at bytes t.now fits b (omega arith) (inr (omega arith)))

-- ---- the first eight blocks

pub only_same : (s : Told) → OnlyErased s s
only_same s = record { now = λ b below. inl refl; left = left_same 8 s }

pub only_then : (s t u : Told) → OnlyErased s t → OnlyErased t u → OnlyErased s u
only_then s t u first second = record {
  now = λ b below. at b (second.now b below) (first.now b below);
  left = left_then 8 s t u first.left second.left;
}
  where
    at : (b : ℕ) → (block b u.now ≡ block b t.now) ⊎ (block b u.now ≡ blank 4096) → (block b t.now ≡ block b s.now) ⊎ (block b t.now ≡ blank 4096) → (block b u.now ≡ block b s.now) ⊎ (block b u.now ≡ blank 4096)
    at b (inr is) old = inr is
    at b (inl is) (inl old) = inl (is ∙ old)
    at b (inl is) (inr old) = inr (is ∙ old)

-- block b after an erase of block i
module _ (i : ℕ) (t : Told) (room : 32768 ≤ length t.now) (inside : 4096 * i + 4096 ≤ length t.now) where
  fits : 4096 * i + length (blank 4096) ≤ length t.now
  fits = omega (arith, inside, length-blank 4096)

  whole : block i (overwritten (4096 * i) (blank 4096) t.now) ≡ blank 4096
  whole = block_blank i (overwritten (4096 * i) (blank 4096) t.now) (omega (arith, inside, length-overwritten (4096 * i) (blank 4096) t.now fits)) (λ k above below.
      overwritten_inside (4096 * i) (blank 4096) t.now fits k 0 above (omega (arith, length-blank 4096, below)) ∙ get_or-blank 4096 (k - 4096 * i) 0 (omega (arith, below, above)))

  other : (b : ℕ) → b < 8 → (b ≡ i → ⊥) → block b (overwritten (4096 * i) (blank 4096) t.now) ≡ block b t.now
  other b below ne = block-overwritten_other (4096 * i) (blank 4096) t.now fits b (omega (arith, room, below)) (apart (cases_lt b i))
    where
      apart : (b < i) ⊎ (i ≤ b) → (4096 * i + length (blank 4096) ≤ 4096 * b) ⊎ (4096 * b + 4096 ≤ 4096 * i)
      apart (inl l) = inr (omega (arith, l))
      apart (inr r) = inl (omega (arith, r, ne, length-blank 4096))

  left_erased : {T E : Type 0} (result : Result T E) → LeavesNoMore 8 t (written result (4096 * i) (blank 4096) t)
  left_erased result b below image = elim (cases_eq b i) [
    | inl same ↦ left_blank result b (4096 * i) (blank 4096) t image (subst (λ (k : ℕ). block k (overwritten (4096 * i) (blank 4096) t.now) ≡ blank 4096) (sym same) whole)
    | inr ne ↦ left_other result b (4096 * i) (blank 4096) t image (other b below ne)
  ]

  now_erased : {T E : Type 0} (result : Result T E) (b : ℕ) → b < 8 → (block b (written result (4096 * i) (blank 4096) t).now ≡ block b t.now) ⊎ (block b (written result (4096 * i) (blank 4096) t).now ≡ blank 4096)
  now_erased (Err f) b below = inl (ap (block b) (now-halt (4096 * i) (blank 4096) t))
  now_erased (Ok x) b below = elim (cases_eq b i) [
    | inl same ↦ inr (ap (block b) (now-put (4096 * i) (blank 4096) t) ∙ subst (λ (k : ℕ). block k (overwritten (4096 * i) (blank 4096) t.now) ≡ blank 4096) (sym same) whole)
    | inr ne ↦ inl (ap (block b) (now-put (4096 * i) (blank 4096) t) ∙ other b below ne)
  ]

  pub only_erase : {T E : Type 0} (result : Result T E) (s : Told) → OnlyErased s t → OnlyErased s (written result (4096 * i) (blank 4096) t)
  only_erase result s before = only_then s t (written result (4096 * i) (blank 4096) t) before (record { now = λ b below. now_erased result b below; left = left_erased result })

-- only blocks above the first eight were written
pub only_above : (high : ℕ) (s t u : Told) → 32768 ≤ length t.now → OnlyErased s t → Keeps 32768 high t u → LeavesNoMore 8 t u → OnlyErased s u
only_above high s t u room before keeps left = only_then s t u before (record {
  now = λ b below. inl (now_kept b 32768 high t u (omega arith) (inl (omega arith)) keeps);
  left = left;
})

-- a barrier, whatever its result
pub only_settled : {T E : Type 0} (result : Result T E) (s t : Told) → OnlyErased s t → OnlyErased s (settled result t)
only_settled (Err f) s t before = before
only_settled (Ok x) s t before = record {
  now = λ b below. subst (λ (l : List ℕ). (block b l ≡ block b s.now) ⊎ (block b l ≡ blank 4096)) (sym (now-settle t)) (before.now b below);
  left = λ b below image left. elim left [
    | as_stable e ↦ at b image (e ∙ ap (block b) (stable-settle t)) (before.now b below)
    | as_now e ↦ at b image (e ∙ ap (block b) (now-settle t)) (before.now b below)
    | as_finished e ↦ at b image (e ∙ ap (block b) (finished-settle t)) (before.now b below)
    | unsealed none ↦ unsealed none
  ];
}
  where
    at : (b : ℕ) (image : List ℕ) → block b image ≡ block b t.now → (block b t.now ≡ block b s.now) ⊎ (block b t.now ≡ blank 4096) → KeepsBlock s b image
    at b image is (inl old) = as_now (is ∙ old)
    at b image is (inr old) = unsealed_blank b s image (is ∙ old)
