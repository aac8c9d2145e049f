-- The limits of a layout: how many banks it has, how many images, and how many blocks an image has in each bank.
use Rattle.std.specs.Prelude.{ℕ, ◌+◌, ◌-◌, List}
use Rattle.std.specs.List.{range_with_len}

-- a layout has so many banks at least, and so many at most
abbrev pub fewest_banks : ℕ
fewest_banks = 2

abbrev pub most_banks : ℕ
most_banks = 4

-- a layout has so many images at least, the manifest among them, and so many at most
abbrev pub fewest_images : ℕ
fewest_images = 2

abbrev pub most_images : ℕ
most_images = 16

-- an image has so many blocks in each bank at most
abbrev pub most_slots : ℕ
most_slots = 256

-- the numbers of banks, and those of images, that a layout may have
abbrev pub bank_counts : List ℕ
bank_counts = range_with_len fewest_banks (most_banks + 1 - fewest_banks)

abbrev pub image_counts : List ℕ
image_counts = range_with_len fewest_images (most_images + 1 - fewest_images)
