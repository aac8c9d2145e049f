-- An element of a script, and the script without it.
use Rattle.std.proofs.Common.{◌≡◌, ℕ, ◌<◌, List, length, get_or, slice_set, map, Some, refl, sym, ap, subst, ◌∙◌, arith}
use Rattle.std.specs.Prelude.{All, option_map, slice_get}
use Rattle.std.proofs.lemmas.List.{get_or-map, length-map, map-set}
use Rattle.std.proofs.lemmas.List.Elements.{All-set}
use Rattle.std.proofs.lemmas.Option.{slice_get-map, slice_get_read}
use Rattle.script_text.specs.{declared.call.Call.Call, Armable.IsArmable, Shown.HasBuffer, Shown.shown}
use Rattle.script_text.specs.declared.call.Call.TheVariants.{Show}

pub shown_at : (calls : List Call) (k : ℕ) (c : Call) → k < length (map shown calls) → c ≡ get_or calls k c → slice_get (map shown calls) k ≡ Some (shown c)
shown_at calls k c within is =
    slice_get-map shown calls k ∙ ap (option_map shown) (slice_get_read calls (length calls) k c refl (omega (arith, within, length-map calls shown)) is)

pub armable_at : (calls : List Call) (k : ℕ) (c : Call) → All IsArmable (map shown calls) → k < length (map shown calls) → c ≡ get_or calls k c → IsArmable (shown c)
armable_at calls k c all within is = subst IsArmable (get_or-map shown calls k c (shown c) (omega (arith, within, length-map calls shown)) ∙ ap shown (sym is)) (all k (shown c) within)

-- with `show` in the place of a call
pub armable_without : (calls : List Call) (k : ℕ) (c : Call) → c ≡ Show → All IsArmable (map shown calls) → All IsArmable (map shown (slice_set calls k c))
armable_without calls k c is all =
    subst (All IsArmable) (sym (map-set shown calls k c)) (All-set IsArmable (map shown calls) k (shown c) (subst (λ (d : Call). IsArmable (shown d)) (sym is) tt) all)

pub buffers_without : (calls : List Call) (k : ℕ) (c : Call) → c ≡ Show → All HasBuffer calls → All HasBuffer (slice_set calls k c)
buffers_without calls k c is all = All-set HasBuffer calls k c (subst HasBuffer (sym is) tt) all
