-- What a soak runs on: a layout of three images in two banks, and the flashes that have room for it.
use Rattle.std.specs.Prelude.{ℕ, Bool, nat_lt, List, [], ◌∷◌}
use Rattle.fwu_formats.specs.Layout.{Layout, blocks_needed}

-- 4657554d-414e-4946-4553-540000000001
abbrev pub manifest_guid : List ℕ
manifest_guid = 0x46 ∷ 0x57 ∷ 0x55 ∷ 0x4d ∷ 0x41 ∷ 0x4e ∷ 0x49 ∷ 0x46 ∷ 0x45 ∷ 0x53 ∷ 0x54 ∷ 0 ∷ 0 ∷ 0 ∷ 0 ∷ 1 ∷ []

-- 5ff9ec0b-4d22-3e4d-a544-c39d81c73f0a, tb-fw
abbrev pub boot_guid : List ℕ
boot_guid = 0x5f ∷ 0xf9 ∷ 0xec ∷ 0x0b ∷ 0x4d ∷ 0x22 ∷ 0x3e ∷ 0x4d ∷ 0xa5 ∷ 0x44 ∷ 0xc3 ∷ 0x9d ∷ 0x81 ∷ 0xc7 ∷ 0x3f ∷ 0x0a ∷ []

-- d6d0eea7-fcea-d54b-9782-9934f234b6e4, nt-fw
abbrev pub normal_guid : List ℕ
normal_guid = 0xd6 ∷ 0xd0 ∷ 0xee ∷ 0xa7 ∷ 0xfc ∷ 0xea ∷ 0xd5 ∷ 0x4b ∷ 0x97 ∷ 0x82 ∷ 0x99 ∷ 0x34 ∷ 0xf2 ∷ 0x34 ∷ 0xb6 ∷ 0xe4 ∷ []

-- a manifest of one block, and images of two and four blocks, in each of two banks
abbrev pub soak_layout : Layout
soak_layout = record {
  banks = 2;
  rows = record { guid = manifest_guid; slots = 1 } ∷ record { guid = boot_guid; slots = 2 } ∷
      record { guid = normal_guid; slots = 4 } ∷
      [];
}

-- a flash of fewer blocks than that layout needs, 22
abbrev pub is_too_small : ℕ → Bool
is_too_small blocks = nat_lt blocks (blocks_needed soak_layout)
