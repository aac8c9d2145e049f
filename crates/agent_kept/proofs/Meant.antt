-- The session that is meant, where an image or a handle changes.
use Rattle.std.proofs.Common.{◌≡◌, ◌≢◌, inl, inr, ℕ, ◌-◌, ◌<◌, Bool, true, cond, List, length, get_or, set, Some, None, sym, ap, ◌∙◌, arith, ext_get_or, get_or-set_same, get_or-set_other, length-set}
use Rattle.std.proofs.lemmas.Bool.{cases_eq}
use Rattle.std.proofs.lemmas.List.{map-set}
use Rattle.std.proofs.lemmas.List.FromFn.{length-map-range_with_len, get_or-map-range_with_len}
use Rattle.base_core.specs.Bytes.{listed}
use Rattle.fwu_model.specs.Session as machine
use Rattle.fwu_model.specs.Session.{Staged}
use Rattle.fwu_formats.specs.Layout.{ImageRow}
use Rattle.agent_kept.specs.declared.parts.Handle.{Handle}
use Rattle.agent_kept.specs.Kept.{Kept, part_at, part_meant, parts_meant, staging_meant, handle_meant, handles_meant, with_handle}

-- an image of those that are meant
pub part-meant : (k : Kept) (bytes : ℕ → List ℕ) (image : ℕ) → image < length k.rows → get_or (parts_meant k bytes) image machine.Nothing ≡ part_meant (part_at k image) (bytes image)
part-meant k bytes image lt = get_or-map-range_with_len (λ (i : ℕ). part_meant (part_at k i) (bytes i)) 0 (length k.rows) image image machine.Nothing lt (omega arith)

-- one image changes
pub parts-changed : (k new : Kept) (image : ℕ) (part : Staged) (bytes after : ℕ → List ℕ) → new.rows ≡ k.rows → image < length k.rows → part_meant (part_at new image) (after image) ≡ part
    → ((i : ℕ) → i ≢ image → part_meant (part_at new i) (after i) ≡ part_meant (part_at k i) (bytes i)) → parts_meant new after ≡ set (parts_meant k bytes) image part
parts-changed k new image part bytes after rows lt here there =
    let f = λ (i : ℕ). part_meant (part_at k i) (bytes i) in
    let g = λ (i : ℕ). part_meant (part_at new i) (after i) in
    let n : ℕ = length k.rows in
    let old : List Staged = listed n f in
    let left : length (listed n g) ≡ n = length-map-range_with_len g 0 n in
    let count : length old ≡ n = length-map-range_with_len f 0 n in
    ap (λ (rs : List ImageRow). listed (length rs) g) rows
    ∙ ext_get_or machine.Nothing (listed n g) (set old image part) (left ∙ sym (length-set old image part ∙ count)) (λ i below.
    let inside : i < n = omega (arith, below, left) in
    get_or-map-range_with_len g 0 n i i machine.Nothing inside (omega arith)
    ∙ elim (cases_eq i image) [
      | inl same ↦ ap g same ∙ here ∙ sym (get_or-set_same old image part machine.Nothing (omega (arith, lt, count))) ∙ ap (λ (j : ℕ). get_or (set old image part) j machine.Nothing) (sym same)
      | inr ne ↦ there i ne ∙ sym (get_or-map-range_with_len f 0 n i i machine.Nothing inside (omega arith)) ∙ sym (get_or-set_other old image i part machine.Nothing ne)
    ])

pub staging-on : (k : Kept) (bytes : ℕ → List ℕ) → k.staging ≡ true → staging_meant k bytes ≡ Some (parts_meant k bytes)
staging-on k bytes on = ap (λ (b : Bool). cond b (Some (parts_meant k bytes)) None) on

-- a handle changes
pub handle-meant : (k : Kept) (number : ℕ) (h : Handle) → handles_meant (with_handle k number h) ≡ set (handles_meant k) (number - 1) (handle_meant h)
handle-meant k number h = map-set handle_meant k.handles (number - 1) h
