-- The machine of an agent: the state that its flash shows, and the session that its fields and the flash say together.
use Rattle.std.specs.Prelude.{ℕ, ◌*◌, List, [], drop, take}
use Rattle.base_core.specs.Block.{block_bytes}
use Rattle.fwu_formats.specs.Layout.{start}
use Rattle.fwu_model.specs.{State.State, Session.Session, Seen.state_of}
use Rattle.slot_writer.specs.Slots.{bytes_stored}
use Rattle.agent_kept.specs.{declared.parts.Part.Part, Kept.part_at, Kept.session_meant}
use Rattle.agent_kept.specs.declared.parts.Part.TheVariants.{Nothing, Open, Committed}
use Rattle.agent_machine.specs.Fields.{Fields, target, rest_of}

-- the bytes of a staged image whose slot begins at a block
abbrev pub part_bytes : ℕ → Part → List ℕ → List ℕ → List ℕ
part_bytes first Nothing rest now = []
part_bytes first (Open size hasher) rest now = bytes_stored first size rest now
part_bytes first (Committed size digest bit) rest now = take size (drop (block_bytes * first) now)

abbrev pub staged_bytes : Fields → List ℕ → ℕ → List ℕ
staged_bytes f now image = part_bytes (start f.layout (target f) image) (part_at f.session image) (rest_of f image) now

abbrev pub session_in : Fields → List ℕ → Session
session_in f now = session_meant f.session f.boot (staged_bytes f now)

abbrev pub state_in : Fields → List ℕ → State
state_in f now = state_of f.layout now f.meta
