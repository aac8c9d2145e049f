use Rattle.std.proofs.Common.{◌≡◌, ◌∙◌, ap, sym, subst, arith, ℕ, List, Option, Some, None, length, option_map}
use Rattle.host_io.specs.Contents.{Directory, TellsSize}
use Rattle.fip_tables.specs.Files.{Lacks}
use Rattle.fip_tables.proofs.Told.{size_is}
use Rattle.fip_vectors.proofs.tables.hello_in.Goals as goal

-- told contents that tell a size have the name
has-name : (told : Option Directory) (name : List ℕ) (size : ℕ) → TellsSize told name (Some size) → Lacks told name → ⊥
has-name None name size known lacks = absurd lacks
has-name (Some files) name size known lacks = let e : Some size ≡ None = known ∙ ap (option_map length) lacks in absurd cc

-- the size that is told still, after it was asked for
still : (old new : Option Directory) (name : List ℕ) (found : Option ℕ) (size : ℕ) → new ≡ old → found ≡ Some size → TellsSize old name found → TellsSize new name (Some size)
still old new name found size same is known =
    subst (λ (d : Option Directory). TellsSize d name (Some size)) (sym same) (subst (TellsSize old name) is known)

pub payload_at-requires-clause-stored : goal.payload_at-requires-clause-stored
payload_at-requires-clause-stored g c = λ bytes told.
    let is = c.in-Some-eq101.is ∙ ap Some c.in-Some-eq101.field-0-test in
    let known = still _ _ c.args.name.now c.in_ok-size.field-0 101 c.in_ok-size.ensures.same is c.in_ok-size.ensures.size in
    omega (arith, size_is _ c.args.name.now bytes 101 told known)

pub payload_at-requires-clause-there : goal.payload_at-requires-clause-there
payload_at-requires-clause-there g c =
    let is = c.in-Some-eq101.is ∙ ap Some c.in-Some-eq101.field-0-test in
    has-name _ c.args.name.now 101 (still _ _ c.args.name.now c.in_ok-size.field-0 101 c.in_ok-size.ensures.same is c.in_ok-size.ensures.size)
