use Rattle.std.proofs.Common.{◌≡◌, [], ◌∷◌, List, IsTrue, subst}
use Rattle.fwu_formats.specs.Layout.{ImageRow}
use Rattle.gen_core.specs.{Generated.are_images, Setup.soak_layout}
use Rattle.gen_core.proofs.Making.{soak-images}
use Rattle.gen_core.proofs.setup.soak_rows.Goals as goal

pub returns-clause-images : goal.returns-clause-images
returns-clause-images c =
    let rows : List ImageRow = record { guid = c.of.result; slots = 1 } ∷ record { guid = c.of-2.result; slots = 2 } ∷ record
    { guid = c.of-3.result; slots = 4 } ∷ [] in
    let e : soak_layout.rows ≡ rows = cc in
    subst (λ (x : List ImageRow). IsTrue (are_images x)) e soak-images
