-- Refusals, and what they ask for.
use Rattle.std.proofs.Common.{zero, suc, List, [], ◌∷◌, map, arith, ◌≡◌, Option, Some, None, Result, refl}
use Rattle.std.proofs.lemmas.Result.{IfErr-weaker}
use Rattle.std.specs.List.{All}
use Rattle.std.specs.Prelude.{IfErr}
use Rattle.fip_making.specs.{Stops.PackingOr, Stops.exit_status, Stops.IsLate, declared.stops.Stop.Stop}
use Rattle.fip_tool.specs.{Names.MayRefuse, Names.IsRefusalStatus}
use Rattle.fip_words.specs.Order.{FipAsked, info_of_source}
use Rattle.fip_making.specs.declared.stops.Stop.TheVariants as stop

-- ---- files that are named, as the words have them

pub of-map : {X Y : Type 0} (P : Y → Type 0) (f : X → Y) (xs : List X) → All P (map f xs) → All (λ x. P (f x)) xs
of-map P f [] all k d lt = absurd (omega (arith, lt))
of-map P f (x ∷ xs) all zero d lt = all 0 (f d) (omega arith)
of-map P f (x ∷ xs) all (suc k) d lt = of-map P f xs (λ j e less. all (suc j) e (omega (arith, less))) k d (omega (arith, lt))

-- ---- which stops a command may end with

-- what comes late is no refusal
pub late-unrefused : (s : Stop) → IsLate s → IsRefusalStatus (exit_status s) → ⊥
late-unrefused stop.FileFault h refuses = omega (arith, refuses.0)
late-unrefused stop.SinkFault h refuses = omega (arith, refuses.0)
late-unrefused stop.NoMemory h refuses = omega (arith, refuses.1)
late-unrefused s h refuses = h

pub late-alone : {X : Type 0} (r : Result X Stop) (P : Stop → Type 0) → IfErr r IsLate → IfErr r (λ s. IsRefusalStatus (exit_status s) → P s)
late-alone r P h = IfErr-weaker r IsLate (λ s. IsRefusalStatus (exit_status s) → P s) (λ s late refuses. absurd (late-unrefused s late refuses)) h

-- a refusal of what is packed
pub packing-six : (s : Stop) → PackingOr IsLate s → IsRefusalStatus (exit_status s) → exit_status s ≡ 6
packing-six (stop.NotPacked f) h refuses = refl
packing-six s h refuses = absurd (late-unrefused s h refuses)

-- any command may end for want of memory
pub memory-may : (a : Option FipAsked) → MayRefuse a stop.NoMemory
memory-may None = tt
memory-may (Some info_of_source) = tt
memory-may (Some a) = tt

-- none that asks for something answers usage
pub usage-unasked : (one : FipAsked) → MayRefuse (Some one) stop.Usage → ⊥
usage-unasked info_of_source h = h
usage-unasked one h = h
