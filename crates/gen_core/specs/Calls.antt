-- The calls of a soak, as those of the machine, and the packages that they name.
use Rattle.std.specs.Prelude.{ℕ, if◌then◌else◌, List, [], ◌∷◌, ◌++◌, map, flat_map, Option, Some, None, codes, decimal}
use Rattle.base_core.specs.Bytes.{same_bytes}
use Rattle.fwu_formats.specs.Layout.{ImageRow}
use Rattle.fwu_model.specs.Call.{Call}
use Rattle.fwu_model.specs.Call as call
use Rattle.gen_core.specs.{Generated.generated, Setup.soak_layout, declared.rounds.Cut.Cut, declared.rounds.Ending.Ending}
use Rattle.gen_core.specs.{declared.rounds.Round.Round, declared.calls.SoakCall.SoakCall}
use Rattle.gen_core.specs.Rounds.{sizes_in_round, soak_rounds}
use Rattle.gen_core.specs.declared.rounds.Ending.TheVariants.{Nothing, Boot, Accept, Previous}
use Rattle.gen_core.specs.declared.calls.SoakCall.TheVariants as does

-- the name of the package of a round, as g1
abbrev pub file_name : ℕ → List ℕ
file_name number = codes "g" ++ decimal number

abbrev pub cut_calls : Option Cut → List Call
cut_calls None = []
cut_calls (Some cut) = call.Cut cut.n cut.k ∷ []

abbrev pub accept_calls : List ImageRow → List Call
accept_calls rows = map (λ r. call.Accepts r.guid) rows

abbrev pub ending_calls : List ImageRow → Ending → List Call
ending_calls rows Nothing = []
ending_calls rows Boot = call.Boot ∷ []
ending_calls rows Accept = accept_calls rows ++ call.Boot ∷ []
ending_calls rows Previous = call.Previous ∷ call.Boot ∷ []

-- a cut where there is one, the round's package, a boot, and what the round ends with
unfoldable pub round_calls : List ImageRow → Round → List Call
round_calls rows r = cut_calls r.cut ++ (call.Send (file_name r.number) r.acceptance ∷ call.Boot ∷ ending_calls rows r.ending)

-- all calls of a soak of so many rounds
unfoldable pub soak_calls : ℕ → ℕ → List Call
soak_calls seed n = call.Boot ∷ flat_map (round_calls soak_layout.rows) (soak_rounds seed n)

-- ---- packages

-- the package that the flash is formatted with, of number 0
abbrev pub first_package : ℕ → List ℕ
first_package seed = generated soak_layout.rows (sizes_in_round seed) 0 1

abbrev pub round_package : Round → List ℕ
round_package r = generated soak_layout.rows r.sizes r.number r.security

-- the packages of these rounds, by name
abbrev pub packages_of : List Round → List ℕ → Option (List ℕ)
packages_of [] name = None
packages_of (r ∷ rounds) name = if same_bytes name (file_name r.number) then Some (round_package r) else packages_of rounds name

-- ---- the calls of the code as those of the machine

abbrev pub shown : SoakCall → Call
shown does.Boot = call.Boot
shown (does.Cut cut) = call.Cut cut.n cut.k
shown (does.Send number acceptance) = call.Send (file_name number) acceptance
shown (does.Accept guid) = call.Accepts guid
shown does.Previous = call.Previous
