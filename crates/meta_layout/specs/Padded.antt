-- Lists of few elements in arrays: the elements stand in front, and a filler in each place behind them.
use Rattle.std.specs.Prelude.{◌≡◌, ℕ, ◌+◌, ◌-◌, ◌≤◌, List, ◌++◌, length, take, drop, replicate}
use Rattle.std.proofs.Common.{ap, sym, ◌∙◌, arith}
use Rattle.std.proofs.lemmas.List.{length-take-le, take-append-drop}

-- the array has room for so many elements, holds count of them, and is filled up
pub record IsPadded {X : Type 0} (room : ℕ) (filler : X) (count : ℕ) (array : List X) : Type 0 where
  pub few : count ≤ room
  pub whole : length array ≡ room
  pub padding : drop count array ≡ replicate (room - count) filler

module _ {X : Type 0} (room : ℕ) (filler : X) (count : ℕ) (array : List X) (is : IsPadded room filler count array) where
  pub length-padded : length (take count array) ≡ count
  length-padded = length-take-le count array (omega (arith, is.few, is.whole))

  pub array-padded : take count array ++ replicate (room - length (take count array)) filler ≡ array
  array-padded =
      ap (λ n. take count array ++ replicate (room - n) filler) length-padded ∙ ap (λ l. take count array ++ l) (sym is.padding)
      ∙ take-append-drop count array

-- what is made of a count and an array is the same if it is made of the elements in front, with the filler behind them
pub padded-made : {X Y : Type 0} {room : ℕ} {filler : X} {count : ℕ} {array : List X} (make : ℕ → List X → Y)
    → IsPadded room filler count array
    → make (length (take count array)) (take count array ++ replicate (room - length (take count array)) filler) ≡ make count array
padded-made {room = room} {filler = filler} {count = count} {array = array} make is =
    ap (λ n. make n (take count array ++ replicate (room - length (take count array)) filler))
    (length-padded room filler count array is) ∙ ap (make count) (array-padded room filler count array is)
