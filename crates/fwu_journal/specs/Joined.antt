-- Pieces with commas between them.
use Rattle.std.specs.Prelude.{ℕ, List, [], ◌∷◌, zero, suc}
use Rattle.fwu_model.specs.Text.{comma}

-- what stands before the piece of this index
abbrev pub comma_before : ℕ → List ℕ
comma_before zero = []
comma_before (suc index) = comma ∷ []
