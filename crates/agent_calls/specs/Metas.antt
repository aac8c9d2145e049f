-- The metadata that an agent keeps once a call changed it.
use Rattle.std.specs.Prelude.{ℕ, Bool, if◌then◌else◌, []}
use Rattle.fwu_formats.specs.Metadata.{MetaRead, state_at, bit_at}
use Rattle.fwu_model.specs.{State.Free, State.Switch, State.Accept, State.Back, State.is_invalid, MoveMetas.meta_after}
use Rattle.agent_state.specs.Settles.{bits_kept}
use Rattle.agent_machine.specs.Fields.{Fields, target}

-- whether the update bank is invalid already
abbrev pub has_invalid_target : Fields → Bool
has_invalid_target f = is_invalid (state_at f.meta.meta (target f))

-- the update bank is invalid
abbrev pub meta_begun : Fields → MetaRead
meta_begun f = record f.meta {
  meta = if has_invalid_target f then f.meta.meta else meta_after f.meta.meta (Free (target f));
}

-- an image of the active bank is accepted
abbrev pub meta_accepted : Fields → ℕ → MetaRead
meta_accepted f image = record f.meta {
  meta = if bit_at f.meta.meta f.meta.meta.active image then f.meta.meta else meta_after f.meta.meta (Accept image);
}

-- the bank that was the previous one is active
abbrev pub meta_back : Fields → MetaRead
meta_back f = record f.meta { meta = meta_after f.meta.meta Back }

-- the update bank is active, with the bits of the images that are committed
abbrev pub meta_ended : Fields → MetaRead
meta_ended f = record f.meta { meta = meta_after f.meta.meta (Switch (target f) [] (bits_kept f.session)) }
