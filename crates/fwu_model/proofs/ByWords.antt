-- What a run gives that has no partial update: it is told by the words of its journal alone.
use Rattle.std.proofs.Common.{◌≡◌, ℕ, ◌<◌, Bool, true, false, cond, List, [], ◌∷◌, length, map, Option, refl, sym, ap, ◌∙◌, arith, ext_get_or, IsFalse}
use Rattle.std.proofs.lemmas.List.{length-map, get_or-map}
use Rattle.std.proofs.lemmas.List.FromFn.{length-map-range_with_len, get_or-map-range_with_len}
use Rattle.base_core.specs.Bytes.{listed}
use Rattle.fwu_formats.specs.Layout.{ImageRow}
use Rattle.fwu_model.specs.{State.State, Sound.Setting, Reply.Reply, Reply.Turn, Reply.Call}
use Rattle.fwu_model.specs.Answer.{images_of, type_of_image}
use Rattle.fwu_model.specs.Given.{maybe_done, bytes_given, Since, package_given, file_given, given_by}
use Rattle.fwu_model.specs.Call as call

abbrev pub is_partial : Call → Bool
is_partial (call.BeginPartial types) = true
is_partial (call.SendPartial name request) = true
is_partial other = false

-- ---- by the words alone

abbrev pub package_in_words : List ImageRow → List Turn → List (List ℕ)
package_in_words rows turns = map (λ (r : ImageRow). bytes_given r.guid turns) rows

abbrev pub words_by : Setting → List Turn → Call → Reply → List (List (List ℕ))
words_by E since call.End r = cond (maybe_done r) (package_in_words E.layout.rows since ∷ []) []
words_by E since (call.Send name request) r = cond (maybe_done r) (file_given (images_of E.layout.rows) (E.files name)) []
words_by E since other r = []

-- ---- the same

abbrev nothing_copied : List Turn → Since
nothing_copied since = record { copied = []; turns = since }

package-same : (rows : List ImageRow) (since : List Turn) → package_given rows (nothing_copied since) ≡ package_in_words rows since
package-same rows since =
    let no_row : ImageRow = record { guid = []; slots = 0 } in
    let f = λ (r : ImageRow). bytes_given r.guid since in
    let g = λ (i : ℕ). bytes_given (type_of_image rows i) since in
    let long = length-map-range_with_len g 0 (length rows) in
    ext_get_or [] (listed (length rows) g) (map f rows) (long ∙ sym (length-map rows f)) (λ i below.
    let lt : i < length rows = omega (arith, below, long) in
    get_or-map-range_with_len g 0 (length rows) i i [] lt (omega arith) ∙ sym (get_or-map f rows i no_row [] lt))

by-same : (E : Setting) (since : List Turn) (at : Option State) (c : Call) (r : Reply) → IsFalse (is_partial c)
    → given_by E (nothing_copied since) at c r ≡ words_by E since c r
by-same E since at call.End r whole = ap (λ (p : List (List ℕ)). cond (maybe_done r) (p ∷ []) []) (package-same E.layout.rows since)
by-same E since at (call.BeginPartial types) r whole = absurd cc
by-same E since at (call.SendPartial name request) r whole = absurd cc
by-same E since at other r whole = refl
