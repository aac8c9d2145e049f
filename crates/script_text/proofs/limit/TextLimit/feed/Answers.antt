use Rattle.std.proofs.Common.{◌≡◌, ◌++◌, List, ℕ, take, get_or, true, refl, subst}
use Rattle.fwu_model.specs.Script.{is_too_long}
use Rattle.script_text.specs.Limit.{IsExtentOf}
use Rattle.script_text.proofs.Extents.{next_byte}
use Rattle.script_text.proofs.limit.TextLimit.feed.Goals as goal

pub returns-then-not-take-clause-full : goal.returns-then-not-take-clause-full
returns-then-not-take-clause-full c within text of =
    let piece = c.args.piece.now in
    let i = c.loop-place.place in
    subst (λ (l : List ℕ). is_too_long l ≡ true) (next_byte text piece i (get_or piece i 0) within refl) (c.if-not-take.ensures.full (text ++ take i piece) (c.loop-place.invariant text of))

pub loop-place-preserved : goal.loop-place-preserved
loop-place-preserved c text of =
    let piece = c.args.piece.now in
    let i = c.loop-place.place in
    subst (IsExtentOf c.take.new.self) (next_byte text piece i (get_or piece i 0) c.loop-place-test.true refl) (c.if-not-take.ensures.taken (text ++ take i piece) (c.loop-place.invariant text of))
