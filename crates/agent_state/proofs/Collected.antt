-- The bits of the committed images, one after the other.
use Rattle.std.proofs.Common.{◌≡◌, ℕ, ◌+◌, ◌<◌, Bool, false, [], ◌∷◌, ◌++◌, length, take, ap, ◌∙◌, arith}
use Rattle.std.proofs.lemmas.List.{length-map, take_more}
use Rattle.std.proofs.lemmas.List.FromFn.{length-map-range_with_len, get_or-map-range_with_len}
use Rattle.std.proofs.Math.ListN as listn
use Rattle.agent_kept.specs.{declared.parts.Part.TheVariants.Nothing, Kept.Kept, Kept.part_at, Judged.parts_of}
use Rattle.agent_state.specs.Settles.{bit_kept, bits_kept}

module _ (k : Kept) where
  pub bits-count : length (bits_kept k) ≡ length k.rows
  bits-count = length-map (parts_of k) bit_kept ∙ length-map-range_with_len (part_at k) 0 (length k.rows)

  pub bits-step : (i : ℕ) → i < length k.rows → take (i + 1) (bits_kept k) ≡ take i (bits_kept k) ++ bit_kept (part_at k i) ∷ []
  bits-step i lt =
      take_more (bits_kept k) i false (omega (arith, lt, bits-count))
      ∙ ap (λ (b : Bool). take i (bits_kept k) ++ b ∷ [])
      (listn.get_or-map bit_kept (parts_of k) i Nothing ∙ ap bit_kept (get_or-map-range_with_len (part_at k) 0 (length k.rows) i i Nothing lt (omega arith)))
