-- The rounds of a soak: what each draws, in this order.
use Rattle.std.specs.Prelude.{ℕ, zero, suc, ◌+◌, ◌-◌, ◌/◌, min, ◌==◌, if◌then◌else◌, List, [], ◌∷◌, Option, Some, None}
use Rattle.gen_core.specs.{declared.rounds.Cut.Cut, declared.rounds.Ending.Ending, declared.rounds.Round.Round}
use Rattle.gen_core.specs.Draws.{draw, register_after}
use Rattle.gen_core.specs.declared.rounds.Ending.TheVariants.{Nothing, Boot, Accept, Previous}

-- the sizes in bytes of the two images behind the manifest
abbrev pub sizes_in_round : ℕ → List ℕ
sizes_in_round x = draw x 1 8193 ∷ draw x 2 16385 ∷ []

-- the security version of a round's package: it rises by one every eight rounds, and is one lower where that was drawn
abbrev pub security_in_round : ℕ → ℕ → ℕ
security_in_round number lower = min 223 (1 + number / 8) - lower

-- of what the first draw is, and where it isn't zero with what the second is
abbrev pub cut_of : ℕ → Option Cut
cut_of x = if draw x 1 32 == 0 then None else Some (record { n = draw x 1 32; k = draw x 2 4097 })

abbrev pub ending_of : ℕ → Ending
ending_of zero = Nothing
ending_of (suc zero) = Boot
ending_of (suc (suc zero)) = Accept
ending_of (suc (suc (suc more))) = Previous

-- how many draws a round takes: the length of a cut is drawn only where there is one
abbrev pub draws_of : ℕ → ℕ
draws_of x = if draw x 5 32 == 0 then 6 else 7

-- The round of a number, from the register as it is before its draws: two sizes, the security version, `now` or `trial`, a cut, and
-- how the round ends.
unfoldable pub round_of : ℕ → ℕ → Round
round_of x number = record {
  number = number;
  sizes = sizes_in_round x;
  security = security_in_round number (draw x 3 2);
  acceptance = if draw x 4 4 == 0 then 0 else 1;
  cut = cut_of (register_after 4 x);
  ending = ending_of (draw x (draws_of x) 4);
}

-- so many rounds, the first of this number
abbrev pub rounds_from : ℕ → ℕ → ℕ → List Round
rounds_from x number zero = []
rounds_from x number (suc n) = round_of x number ∷ rounds_from (register_after (draws_of x) x) (number + 1) n

-- the rounds of a soak: they follow the two draws of the first package's sizes
abbrev pub soak_rounds : ℕ → ℕ → List Round
soak_rounds seed n = rounds_from (register_after 2 seed) 1 n
