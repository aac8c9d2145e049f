-- The length of an image that is held is the one that the agent keeps.
use Rattle.std.proofs.Common.{◌≡◌, ℕ, ◌<◌, List, [], length, get_or, take, map, Some, sym, ap, ◌∙◌}
use Rattle.std.proofs.Math.ListN as listn
use Rattle.std.proofs.lemmas.List.{get_or-take}
use Rattle.agent_machine.specs.Fields.{Fields, total_of}

-- the length of an image of a package
pub held-long : (f : Fields) (p : List (List ℕ)) (image : ℕ) → take (length f.layout.rows) f.lengths ≡ map (λ (bytes : List ℕ). length bytes) p
    → image < length f.layout.rows → total_of f (Some image) ≡ length (get_or p image [])
held-long f p image lengths lt =
    sym (get_or-take (length f.layout.rows) f.lengths image 0 lt) ∙ ap (λ (l : List ℕ). get_or l image 0) lengths
    ∙ listn.get_or-map (λ (bytes : List ℕ). length bytes) p image []
