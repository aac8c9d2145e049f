-- Ranges of a flash: what an erase or a program makes of them, and what stays.
-- The pieces of an image: what a buffer holds of one, and what stands in a slot after some of them.
use Rattle.std.proofs.Common.{◌≡◌, ◌⊎◌, inl, inr, ℕ, ◌+◌, ◌-◌, ◌*◌, ◌<◌, ◌≤◌, List, ◌++◌, length, get_or, take, drop, Result, Ok, Err, sym, ◌∙◌, ap, arith, refl}
use Rattle.std.proofs.lemmas.List.{length-take-le, length-append, length-drop, get_or-take, get_or-drop, get_or_append_left, get_or-append_right, get_or_default, get_or_past, same_lists}
use Rattle.std.proofs.lemmas.Bool.{cases_lt}
use Rattle.std.specs.Prelude.{slice_range}
use Rattle.base_core.specs.{Block.blank, Bytes.overwritten}
use Rattle.base_core.proofs.Blocks.{length-blank, get_or-blank}
use Rattle.base_core.proofs.Images.{overwritten_below, overwritten_inside, overwritten_above}
use Rattle.flash_core.specs.{Told.Told, Told.put, Told.written, May.Keeps}
use Rattle.flash_core.proofs.Calls.{keeps_put, keeps_halt, now-put}
use Rattle.flash_format.specs.Places.{Erased, HoldsThenErased}
use Rattle.fwu_formats.specs.Package.{Entry, payload}

-- ---- an erase or a program, whatever its result

pub keeps_written : {T E : Type 0} (result : Result T E) (low high at : ℕ) (bytes : List ℕ) (s t : Told) → low ≤ at → at + length bytes ≤ high → at + length bytes ≤ length s.now → Keeps low high s t → Keeps low high s (written result at bytes t)
keeps_written (Ok x) low high at bytes s t above below fits keeps = keeps_put low high s t at bytes above below fits keeps
keeps_written (Err e) low high at bytes s t above below fits keeps = keeps_halt low high s t at bytes above below keeps

-- ---- erased bytes

-- a range that no write met
pub erased_stays : (from to low high : ℕ) (s t : Told) → (to ≤ low) ⊎ (high ≤ from) → Keeps low high s t → Erased from to s.now → Erased from to t.now
erased_stays from to low high s t apart keeps erased i above below = keeps.now i (outside apart) ∙ erased i above below
  where
    outside : (to ≤ low) ⊎ (high ≤ from) → (i < low) ⊎ (high ≤ i)
    outside (inl l) = inl (omega arith)
    outside (inr r) = inr (omega arith)

-- one block more
pub erased_more : (from b : ℕ) (t : Told) → 4096 * b + 4096 ≤ length t.now → Erased from (4096 * b) t.now → Erased from (4096 * (b + 1)) (put (4096 * b) (blank 4096) t).now
erased_more from b t inside erased i above below = ap (λ (l : List ℕ). get_or l i 0) (now-put (4096 * b) (blank 4096) t) ∙ at (cases_lt i (4096 * b))
  where
    fits : 4096 * b + length (blank 4096) ≤ length t.now
    fits = omega (arith, inside, length-blank 4096)

    at : (i < 4096 * b) ⊎ (4096 * b ≤ i) → get_or (overwritten (4096 * b) (blank 4096) t.now) i 0 ≡ 255
    at (inl l) = overwritten_below (4096 * b) (blank 4096) t.now fits i 0 l ∙ erased i above l
    at (inr r) = overwritten_inside (4096 * b) (blank 4096) t.now fits i 0 r (omega (arith, length-blank 4096, below)) ∙ get_or-blank 4096 (i - 4096 * b) 0 (omega (arith, below))

pub erased_range : (at n : ℕ) (image : List ℕ) → at + n ≤ length image → Erased at (at + n) image → slice_range image at (at + n) ≡ blank n
erased_range at n image fits erased =
    ap (λ (k : ℕ). take k (drop at image)) (omega arith)
    ∙ same_lists (take n (drop at image)) (blank n) (size ∙ sym (length-blank n)) (λ k d below. at_place k d (omega (arith, size, below)))
  where
    size : length (take n (drop at image)) ≡ n
    size = length-take-le n (drop at image) (omega (arith, length-drop at image))

    at_place : (k d : ℕ) → k < n → get_or (take n (drop at image)) k d ≡ get_or (blank n) k d
    at_place k d lt =
        get_or-take n (drop at image) k d lt ∙ get_or-drop at image k d ∙ get_or_default image (at + k) d 0 (omega arith)
        ∙ erased (at + k) (omega arith) (omega arith) ∙ sym (get_or-blank n k d lt)

-- ---- bytes that stand at a place, with erased ones behind them

pub stands_stays : (at count low high : ℕ) (bytes : List ℕ) (s t : Told) → (at + count ≤ low) ⊎ (high ≤ at) → Keeps low high s t → HoldsThenErased at count bytes s.now → HoldsThenErased at count bytes t.now
stands_stays at count low high bytes s t apart keeps stands i below = keeps.now (at + i) (outside apart) ∙ stands i below
  where
    outside : (at + count ≤ low) ⊎ (high ≤ at) → (at + i < low) ⊎ (high ≤ at + i)
    outside (inl l) = inl (omega arith)
    outside (inr r) = inr (omega arith)

pub stands_whole : (at count : ℕ) (bytes image : List ℕ) → at + count ≤ length image → length bytes ≤ count → HoldsThenErased at count bytes image → take count (drop at image) ≡ bytes ++ blank (count - length bytes)
stands_whole at count bytes image fits short stands =
    same_lists (take count (drop at image)) (bytes ++ blank (count - length bytes))
    (size ∙ omega (arith, length-append bytes (blank (count - length bytes)), length-blank (count - length bytes)))
    (λ k d below. at_place k d (omega (arith, size, below)) (cases_lt k (length bytes)))
  where
    size : length (take count (drop at image)) ≡ count
    size = length-take-le count (drop at image) (omega (arith, length-drop at image))

    at_place : (k d : ℕ) → k < count → (k < length bytes) ⊎ (length bytes ≤ k) → get_or (take count (drop at image)) k d ≡ get_or (bytes ++ blank (count - length bytes)) k d
    at_place k d lt split =
        get_or-take count (drop at image) k d lt ∙ get_or-drop at image k d ∙ get_or_default image (at + k) d 0 (omega arith)
        ∙ stands k lt ∙ here split
      where
        here : (k < length bytes) ⊎ (length bytes ≤ k) → get_or bytes k 255 ≡ get_or (bytes ++ blank (count - length bytes)) k d
        here (inl l) = get_or_default bytes k 255 d l ∙ sym (get_or_append_left bytes (blank (count - length bytes)) d k l)
        here (inr r) =
            get_or_past bytes k 255 r
            ∙ sym (get_or-append_right bytes (blank (count - length bytes)) (length bytes) k d refl r ∙ get_or-blank (count - length bytes) (k - length bytes) d (omega arith))

-- ---- the pieces of an image

pub length-payload : (file : List ℕ) (e : Entry) → e.offset + e.size ≤ length file → length (payload file e) ≡ e.size
length-payload file e stored = length-take-le e.size (drop e.offset file) (omega (arith, length-drop e.offset file, stored))

-- ---- a buffer that was erased, with so many bytes of the payload read to its front

module _ (size : ℕ) (out old : List ℕ) (erased : old ≡ blank 4096) (filled : length out ≡ size) where
  behind : (i : ℕ) → size ≤ i → i < 4096 → get_or (out ++ drop size old) i 0 ≡ 255
  behind i above below =
      get_or-append_right out (drop size old) size i 0 filled above ∙ get_or-drop size old (i - size) 0
      ∙ ap (λ (k : ℕ). get_or old k 0) (omega arith) ∙ ap (λ (l : List ℕ). get_or l i 0) erased ∙ get_or-blank 4096 i 0 below

  pub piece_erased : (n : ℕ) → size ≤ n → Erased n 4096 (out ++ drop size old)
  piece_erased n le i above below = behind i (omega arith) below

  pub piece_stands : (done : ℕ) (bytes : List ℕ) → out ≡ take size (drop done bytes) → (size < 4096 → length bytes ≤ done + size) → HoldsThenErased 0 4096 (drop done bytes) (out ++ drop size old)
  piece_stands done bytes is last i below = ap (λ (k : ℕ). get_or (out ++ drop size old) k 0) (omega arith) ∙ at (cases_lt i size)
    where
      at : (i < size) ⊎ (size ≤ i) → get_or (out ++ drop size old) i 0 ≡ get_or (drop done bytes) i 255
      at (inl l) =
          get_or_append_left out (drop size old) 0 i (omega (arith, filled, l))
          ∙ get_or_default out i 0 255 (omega (arith, filled, l)) ∙ ap (λ (x : List ℕ). get_or x i 255) is
          ∙ get_or-take size (drop done bytes) i 255 l
      at (inr r) = behind i r below ∙ sym (get_or_past (drop done bytes) i 255 (let end = last (omega arith) in omega (arith, length-drop done bytes, end, r)))

-- ---- a block that was erased, with so many bytes of the buffer programmed to its front

pub piece_written : (b n : ℕ) (x bytes : List ℕ) (t : Told) → 4096 * b + 4096 ≤ length t.now → length bytes ≡ 4096 → n ≤ 4096 → Erased (4096 * b) (4096 * b + 4096) t.now → Erased n 4096 bytes → HoldsThenErased 0 4096 x bytes
    → HoldsThenErased (4096 * b) 4096 x (put (4096 * b) (take n bytes) t).now
piece_written b n x bytes t inside whole few erased rest stands i below = ap (λ (l : List ℕ). get_or l (4096 * b + i) 0) (now-put (4096 * b) (take n bytes) t) ∙ at (cases_lt i n)
  where
    size : length (take n bytes) ≡ n
    size = length-take-le n bytes (omega arith)

    fits : 4096 * b + length (take n bytes) ≤ length t.now
    fits = omega (arith, size)

    in_buffer : get_or bytes i 0 ≡ get_or x i 255
    in_buffer = ap (λ (k : ℕ). get_or bytes k 0) (omega arith) ∙ stands i below

    at : (i < n) ⊎ (n ≤ i) → get_or (overwritten (4096 * b) (take n bytes) t.now) (4096 * b + i) 0 ≡ get_or x i 255
    at (inl l) =
        overwritten_inside (4096 * b) (take n bytes) t.now fits (4096 * b + i) 0 (omega arith) (omega (arith, size, l))
        ∙ ap (λ (k : ℕ). get_or (take n bytes) k 0) (omega arith) ∙ get_or-take n bytes i 0 l ∙ in_buffer
    at (inr r) =
        overwritten_above (4096 * b) (take n bytes) t.now fits (4096 * b + i) 0 (omega (arith, size, r))
        ∙ erased (4096 * b + i) (omega arith) (omega arith) ∙ sym (sym in_buffer ∙ rest i r below)

-- ---- a slot

-- one piece more
pub stands_more : (first k : ℕ) (bytes image : List ℕ) → HoldsThenErased (4096 * first) (4096 * k) bytes image → HoldsThenErased (4096 * (first + k)) 4096 (drop (4096 * k) bytes) image → HoldsThenErased (4096 * first) (4096 * (k + 1)) bytes image
stands_more first k bytes image front piece i below = at (cases_lt i (4096 * k))
  where
    at : (i < 4096 * k) ⊎ (4096 * k ≤ i) → get_or image (4096 * first + i) 0 ≡ get_or bytes i 255
    at (inl l) = front i l
    at (inr r) =
        ap (λ (n : ℕ). get_or image n 0) (omega arith) ∙ piece (i - 4096 * k) (omega arith)
        ∙ get_or-drop (4096 * k) bytes (i - 4096 * k) 255 ∙ ap (λ (n : ℕ). get_or bytes n 255) (omega arith)
