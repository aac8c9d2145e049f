use Rattle.std.proofs.Common.{List, ℕ, ◌==◌, ◌∷◌, ◌∙◌, sym, ap, take}
use Rattle.std.specs.List.{slice_split}
use Rattle.script_text.proofs.Parts.{split_found, split_alone}
use Rattle.script_text.proofs.split.split.Goals as goal

pub returns-in-Some-clause-parts : goal.returns-in-Some-clause-parts
returns-in-Some-clause-parts c =
    let text = c.args.text.now in
    (split_found (λ b. b == c.args.byte) text c.in-Some.place (sym c.place_of.ensures ∙ c.in-Some.is)).0
    ∙ ap (λ (l : List ℕ). take c.in-Some.place text ∷ slice_split (λ b. b == c.args.byte) l) (sym c.after.ensures)

pub returns-in-None-clause-parts : goal.returns-in-None-clause-parts
returns-in-None-clause-parts c = split_alone (λ b. b == c.args.byte) c.args.text.now (sym c.place_of.ensures ∙ c.in-None.is)
