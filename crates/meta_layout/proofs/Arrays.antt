-- Lists in arrays, seen by what stands in front.
use Rattle.std.proofs.Common.{◌≡◌, ℕ, ◌+◌, ◌-◌, ◌<◌, List, length, take, drop, replicate, set, sym, ap, ◌∙◌, arith}
use Rattle.std.proofs.lemmas.List.{length-set, drop-set-lt, drop-drop, drop-replicate}
use Rattle.std.proofs.Math.Seq.{take-set-lt}
use Rattle.meta_layout.specs.Padded.{IsPadded, length-padded}

module _ {X : Type 0} (room : ℕ) (filler : X) (count : ℕ) (array list : List X) (is : IsPadded room filler count array) (view : take count array ≡ list) where
  pub length-view : length list ≡ count
  length-view = ap (λ (l : List X). length l) (sym view) ∙ length-padded room filler count array is

  -- an element is added
  pub push-view : (x : X) → length list < room → IsPadded room filler (count + 1) (set array count x)
  push-view x lt = let n = length-view in record {
    few = omega (arith, n, lt);
    whole = length-set array count x ∙ is.whole;
    padding = drop-set-lt (count + 1) array count x (omega arith) ∙ sym (drop-drop 1 count array) ∙ ap (drop 1) is.padding
        ∙ drop-replicate 1 (room - count) filler ∙ ap (λ (n : ℕ). replicate n filler) (omega arith);
  }

  pub set-view : (i : ℕ) (x : X) → i < length list → take count (set array i x) ≡ set list i x
  set-view i x lt = let n = length-view in take-set-lt count array i x (omega (arith, n, lt)) ∙ ap (λ l. set l i x) view
