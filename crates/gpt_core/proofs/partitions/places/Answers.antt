use Rattle.std.proofs.Common.{rules, ◌≡◌, length, arith, ap, sym, ◌∙◌, Ok, Err}
use Rattle.std.specs.Prelude.{Result, IfOk}
use Rattle.gpt_core.specs.{declared.layout.Places.Places, declared.layout.PlaceFault.PlaceFault, Places.Fit}
use Rattle.gpt_core.specs.PlacesOf.{metadata_type, places_of}
use Rattle.gpt_core.proofs.Placing.{few_of_type, places_fit}
use Rattle.gpt_core.proofs.partitions.places.Goals as goal

pub place-requires-clause-counted : goal.place-requires-clause-counted
place-requires-clause-counted c =
    omega (arith, ap length (c.as_slice-2.ensures.value ∙ c.in-Ok-of_type.ensures), few_of_type metadata_type c.args.table.now, c.requires.fits.number.1)

-- what `placed` gives fits the device
pub returns-clause-fit : goal.returns-clause-fit
returns-clause-fit c = fits c.place.result is
  where
    is : c.place.result ≡ places_of c.args.blocks c.args.table.now
    is = search rules

    fits : (r : Result Places PlaceFault) → r ≡ places_of c.args.blocks c.args.table.now → IfOk r (λ places. Fit c.args.blocks places)
    fits (Ok p) e = places_fit c.args.blocks c.args.table.now p c.requires.fits.number.0 (sym e)
    fits (Err fault) e = tt
