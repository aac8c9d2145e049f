-- The metadata that a move writes over both replicas.
use Rattle.std.specs.Prelude.{ℕ, Bool, true, false, if◌then◌else◌, List, [], map, slice_index_or, slice_set}
use Rattle.fwu_formats.specs.Metadata.{Meta, state_at}
use Rattle.fwu_model.specs.State.{State, Move, Free, Switch, Accept, Back, state_by, all_set, BankState, Invalid, Accepted}

-- the bits of a bank
abbrev pub bits_in : Meta → ℕ → List Bool
bits_in m b = slice_index_or m.bits b []

-- a bank with another state and other bits
abbrev pub with_bank : Meta → ℕ → BankState → List Bool → Meta
with_bank m b state bits = record m { states = slice_set m.states b state; bits = slice_set m.bits b bits }

-- the bits of the active bank with an image's bit set
abbrev pub accepted_bits : Meta → ℕ → List Bool
accepted_bits m image = slice_set (bits_in m m.active) image true

-- what a move writes, or what stays
abbrev pub meta_after : Meta → Move → Meta
meta_after m (Free b) = with_bank m b Invalid (map (λ bit. false) (bits_in m b))
meta_after m (Switch b p bits) =
    record { active = b; previous = m.active; states = slice_set m.states b (state_by bits); bits = slice_set m.bits b bits }
meta_after m (Accept image) =
    with_bank m m.active (if all_set (accepted_bits m image) then Accepted else state_at m m.active) (accepted_bits m image)
meta_after m Back = record m { active = m.previous; previous = m.active }
meta_after m other = m

-- the metadata that a state shows
abbrev pub meta_in : State → Meta
meta_in s =
    record { active = s.active; previous = s.previous; states = map (λ k. k.state) s.banks; bits = map (λ k. k.bits) s.banks }
