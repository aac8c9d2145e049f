use Rattle.std.proofs.Common.{◌≡◌, ◌∙◌, ◌++◌, ◌∷◌, [], ap, sym, ℕ, List, length, replicate}
use Rattle.std.proofs.lemmas.List.{length-replicate}
use Rattle.base_core.proofs.Spelled.{four_spelled}
use Rattle.base_core.specs.Bytes.{le}
use Rattle.fwu_formats.specs.{Package.Part, Capsule.swapped}
use Rattle.capsule_tables.proofs.Made.{further}
use Rattle.capsule_tables.proofs.making.add_head.Goals as goal

pub returns : goal.returns
returns c =
    let v = c.args.bytes.now.items in
    let p : Part = c.args.part.now in
    let index = c.args.index in
    let long : c.part.inside.size ≡ length p.bytes = sym (length-replicate {A = ℕ} c.part.inside.size 0) ∙ ap (λ (q : Part). length q.bytes) c.part.view_is in
    let a = further v _ _ (le 4 2) (swapped p.guid) (c.in_ok-extend_from_slice.ensures.items ∙ ap (λ (x : List ℕ). v ++ x) (c.to_le_bytes.ensures ∙ four_spelled 2))
    (c.in_ok-extend_from_slice-2.ensures.items ∙ ap (λ (x : List ℕ). c.extend_from_slice.new.self.items ++ x) (c.bytes.ensures.value ∙ c.swapped-guid.ensures ∙ ap (λ (q : Part). swapped q.guid) c.part.view_is)) in
    let b = further v _ _ (le 4 2 ++ swapped p.guid) (index ∷ 0 ∷ 0 ∷ 0 ∷ []) a c.in_ok-extend_from_slice-3.ensures.items in
    let d = further v _ _ (le 4 2 ++ swapped p.guid ++ (index ∷ 0 ∷ 0 ∷ 0 ∷ [])) (le 4 (length p.bytes)) b
    (c.in_ok-extend_from_slice-4.ensures.items ∙ ap (λ (x : List ℕ). c.extend_from_slice-3.new.self.items ++ x) (c.to_le_bytes-2.ensures ∙ four_spelled c.part.inside.size ∙ ap (le 4) long)) in
    further v _ _ (le 4 2 ++ swapped p.guid ++ (index ∷ 0 ∷ 0 ∷ 0 ∷ []) ++ le 4 (length p.bytes)) (replicate 12 0) d c.in_ok-extend_from_slice-5.ensures.items
