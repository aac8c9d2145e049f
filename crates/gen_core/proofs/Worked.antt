-- Worked values of the generator, each computed: the two worked soaks, of seed 1 with no round and with one.
use Rattle.std.proofs.Common.{◌≡◌, true, false, codes, refl, [], ◌∷◌, map, Some, None}
use Rattle.std.specs.Fmt.{digits}
use Rattle.fwu_formats.specs.Layout.{blocks_needed, fits_layout}
use Rattle.fwu_formats.proofs.Worked.{L}
use Rattle.fwu_model.specs.Call as call
use Rattle.fwu_model.specs.Reply as reply
use Rattle.gen_core.specs.{Calls.soak_calls, Calls.round_calls, Generated.image_bytes, Line.soak_line, Line.totals_of}
use Rattle.gen_core.specs.{Setup.soak_layout, Setup.is_too_small, declared.rounds.Ending.TheVariants.Nothing}
use Rattle.gen_core.specs.Draws.{register_after, step, drawn}
use Rattle.gen_core.specs.Rounds.{round_of, security_in_round, sizes_in_round}

-- ---- what a soak runs on

layout : (soak_layout ≡ L) × (fits_layout soak_layout ≡ true) × (blocks_needed soak_layout ≡ 22) × (is_too_small 21 ≡ true)
    × (is_too_small 22 ≡ false)
unfolding fits_layout
layout = (refl, refl, refl, refl, refl)

-- ---- draws

first-sizes : sizes_in_round 1 ≡ 452 ∷ 5758 ∷ []
unfolding step drawn
first-sizes = refl

first-round : round_of (register_after 2 1) 1 ≡ record {
  number = 1;
  sizes = 1920 ∷ 1130 ∷ [];
  security = 0;
  acceptance = 1;
  cut = Some (record { n = 2; k = 3322 });
  ending = Nothing;
}
unfolding round_of step drawn
first-round = refl

-- it rises every eighth round, up to a limit
securities :
    (map (λ number. security_in_round number 0) (0 ∷ 7 ∷ 8 ∷ 1775 ∷ 1776 ∷ 4294967295 ∷ []) ≡ 1 ∷ 1 ∷ 2 ∷ 222 ∷ 223 ∷ 223 ∷ [])
    × (map (λ number. security_in_round number 1) (0 ∷ 8 ∷ 4294967295 ∷ []) ≡ 0 ∷ 1 ∷ 222 ∷ [])
securities = (refl, refl)

-- ---- calls

calls : (soak_calls 1 0 ≡ call.Boot ∷ [])
    × (soak_calls 1 1 ≡ call.Boot ∷ call.Cut 2 3322 ∷ call.Send (codes "g1") 1 ∷ call.Boot ∷ [])
unfolding soak_calls round_calls round_of step drawn digits
calls = (refl, refl)

-- ---- bytes

image : image_bytes 300 2 5 ≡ 46 ∷ 53 ∷ 60 ∷ 67 ∷ 74 ∷ []
unfolding image_bytes
image = refl

-- ---- the line

-- no turn; one round that lost power; and a package that was installed, then a boot of it, and a fallback from it
lines :
    (soak_line 1 [] ≡ codes "soak rounds=1 turns=0 boots=0 losses=0 fallbacks=0 sends=0 bank=0 version=0 counter=0\n")
    × (soak_line 0 (record { call = call.Boot; reply = reply.Booted 0 1 0 1 false; numbers = None } ∷ [])
    ≡ codes "soak rounds=0 turns=1 boots=1 losses=0 fallbacks=0 sends=0 bank=0 version=1 counter=1\n")
    × (soak_line 1 (record { call = call.Boot; reply = reply.Booted 0 1 0 1 false; numbers = None }
    ∷ record { call = call.Cut 2 3322; reply = reply.CutOk; numbers = None }
    ∷ record { call = call.Send (codes "g1") 1; reply = reply.Lost; numbers = None }
    ∷ record { call = call.Boot; reply = reply.Booted 0 1 0 1 false; numbers = None } ∷ [])
    ≡ codes "soak rounds=1 turns=4 boots=2 losses=1 fallbacks=0 sends=0 bank=0 version=1 counter=1\n")
    × (soak_line 2 (record { call = call.Send (codes "g1") 1; reply = reply.Sent 3 0; numbers = None }
    ∷ record { call = call.Boot; reply = reply.Booted 1 2 1 1 false; numbers = None }
    ∷ record { call = call.Boot; reply = reply.Booted 0 1 3 1 true; numbers = None } ∷ [])
    ≡ codes "soak rounds=2 turns=3 boots=2 losses=0 fallbacks=1 sends=1 bank=0 version=1 counter=1\n")
unfolding totals_of digits
lines = (refl, refl, refl, refl)
