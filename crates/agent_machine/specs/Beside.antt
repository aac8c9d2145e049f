-- What no call of the agent changes, at any exit: on any flash that tells its content the bytes, and on every device the blocks.
use Rattle.std.specs.Prelude.{◌≡◌, ◌⊎◌, ℕ, ◌+◌, ◌*◌, ◌%◌, ◌<◌, ◌≤◌, length, IsFalse, slice_index}
use Rattle.base_core.specs.Block.{block_bytes}
use Rattle.flash_core.specs.Told.{Told, is_unsure}
use Rattle.fwu_formats.specs.{Layout.Layout, Layout.start, Places.first_replica, Places.counter_block}
use Rattle.agent_machine.specs.Fields.{Fields, target}

-- byte i lies beside blocks 1 to 3, which have the metadata and the marks of the starts on trial
abbrev pub IsBesideMetadata : ℕ → Type 0
IsBesideMetadata i = (i < block_bytes * first_replica) ⊎ (block_bytes * counter_block ≤ i)

-- byte i lies beside a bank
abbrev pub IsBesideBank : Layout → ℕ → ℕ → Type 0
IsBesideBank L bank i = (i < block_bytes * start L bank 0) ⊎ (block_bytes * start L (bank + 1) 0 ≤ i)

-- What a call spares: all beside blocks 1 to 3 and the update bank, and the update bank too where the bank that was started isn't
-- the active one.
abbrev pub IsSpared : Fields → ℕ → Type 0
IsSpared f i = IsBesideMetadata i × (f.boot ≡ f.meta.meta.active → IsBesideBank f.layout (target f) i)

-- What all calls in a row spare: the bank that they may write is the one behind the one that was started.
abbrev pub IsSparedByAll : Layout → ℕ → ℕ → Type 0
IsSparedByAll L boot i = IsBesideMetadata i × IsBesideBank L ((boot + 1) % L.banks) i

-- These bytes are as they were, and not less sure.
pub record KeepsWhere (Spared : ℕ → Type 0) (s t : Told) : Type 0 where
  pub size : length t.now ≡ length s.now
  pub now : (i : ℕ) → Spared i → slice_index t.now i ≡ slice_index s.now i
  pub sure : (i : ℕ) → Spared i → IsFalse (is_unsure s i) → IsFalse (is_unsure t i)

-- at any exit of one call, and of calls in a row
abbrev pub KeepsSpared : Fields → Told → Told → Type 0
KeepsSpared f s t = KeepsWhere (IsSpared f) s t

abbrev pub KeepsSparedByAll : Fields → Told → Told → Type 0
KeepsSparedByAll f s t = KeepsWhere (IsSparedByAll f.layout f.boot) s t

-- On every device, whatever its reads give: no block that is spared was erased or programmed, by one call and by calls in a row.
abbrev pub SparesBlocksWhere : (ℕ → Type 0) → (ℕ → ℕ) → (ℕ → ℕ) → Type 0
SparesBlocksWhere Spared old new = (b : ℕ) → Spared (block_bytes * b) → new b ≡ old b

abbrev pub SparesBlocks : Fields → (ℕ → ℕ) → (ℕ → ℕ) → Type 0
SparesBlocks f old new = SparesBlocksWhere (IsSpared f) old new

abbrev pub SparesBlocksByAll : Fields → (ℕ → ℕ) → (ℕ → ℕ) → Type 0
SparesBlocksByAll f old new = SparesBlocksWhere (IsSparedByAll f.layout f.boot) old new
