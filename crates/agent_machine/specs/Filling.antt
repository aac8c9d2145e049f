-- An image of a staging that is opened, written through handle 1 and committed.
use Rattle.std.specs.Prelude.{ℕ, Bool, List, Some, slice_set}
use Rattle.fwu_model.specs.Session.{Session, On, Staged, Open, Committed, Writes, no_handles}

-- a staging of these parts, with no handle open
abbrev pub between : ℕ → List Staged → Session
between boot parts = On boot (Some parts) no_handles

-- the same, while handle 1 writes an image that has these bytes
abbrev pub within : ℕ → List Staged → ℕ → List ℕ → Session
within boot parts image bytes = On boot (Some (slice_set parts image (Open bytes))) (slice_set no_handles 0 (Writes image))

-- and with the image committed
abbrev pub filled : List Staged → ℕ → List ℕ → Bool → List Staged
filled parts image bytes bit = slice_set parts image (Committed bytes bit)
