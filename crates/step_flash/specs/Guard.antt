-- The image and the package that a device began with, as part of what it tells.
--
-- A generic call as `boot` takes a device by value and gives one back. Its contract speaks of both by the ghost members of `Flash`
-- alone. That the device which comes back still has the caller's image and package has to follow from a member that no call
-- changes. The guard is such a member: each call keeps it, and so does a power-on. So the guard of this device has blocks 1 to 7,
-- as the usual one, and behind these the package and the image. Each byte of these is the number of a block beyond the last that a
-- flash may have. One more such number stands between both. These numbers guard no block. Where two devices have the same guard,
-- they have the same image and the same package.
use Rattle.std.specs.Prelude.{ℕ, ◌+◌, ◌++◌, List, ◌∷◌, map}
use Rattle.base_core.specs.Block.{most_blocks}
use Rattle.flash_core.specs.{Told.Told, Told.fresh, May.usual_guard}

-- bytes as numbers of blocks that no flash has
abbrev pub beyond : List ℕ → List ℕ
beyond bytes = map (λ byte. byte + (most_blocks + 1)) bytes

-- blocks 1 to 7, the package, and behind one number more the image; where there is no package its bytes are none
unfoldable pub guard_with : List ℕ → List ℕ → List ℕ
guard_with image file = usual_guard ++ (beyond file ++ (most_blocks ∷ beyond image))

-- the image before the first step: nothing is dirty, and nothing under way
abbrev pub start_with : List ℕ → List ℕ → Told
start_with image file = fresh (guard_with image file) image
