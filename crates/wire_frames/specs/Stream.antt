-- Frames that come from a source.
use Rattle.std.specs.Prelude.{◌≡◌, ◌⊎◌, ◌+◌, ◌<◌, ◌≤◌, ℕ, Bool, if◌then◌else◌, List, [], ◌∷◌, ◌++◌, Option, Result, Err, OnOk, length, ⊤}
use Rattle.std.specs.Io.KnownBytes.{Consumes, IsAtEnd}
use Rattle.host_io.specs.{Calls.raised, Once.ReadsBytes, Once.ReadsOnce, declared.source.Source.Ghosts}
use Rattle.wire_frames.specs.{declared.stream.Cut.Cut, declared.stream.FrameStop.FrameStop}
use Rattle.wire_frames.specs.Frames.{HasBadLength, IsBody, IsPartialFrame, Splits, frame}
use Rattle.wire_frames.specs.declared.stream.Cut.TheVariants as cut
use Rattle.wire_frames.specs.declared.stream.FrameStop.TheVariants as stop

-- the most bytes that are taken from a source
abbrev pub most_bytes : ℕ
most_bytes = 1073741824

-- ---- reads

-- how many reads have failed after an answer
abbrev pub stop_faults : {T : Type 0} → Result T FrameStop → ℕ → ℕ
stop_faults (Err stop.Failed) before = raised before
stop_faults other before = before

-- How a source was read for an answer.
pub record ReadsSource {I T : Type 0} (g : Ghosts I) (old new : I) (answer : Result T FrameStop) : Type 0 where
  pub faults : g.faults new ≡ stop_faults answer (g.faults old)
  pub later : g.faults old ≤ g.faults new
  -- each read for all that was asked gave bytes
  pub goes : OnOk answer (ReadsBytes g old new)
  -- and whatever the answer, none is made behind one that gave none or failed
  pub once : ReadsOnce g old new

-- ---- a piece that was cut short

-- These bytes of the piece came, and were counted. Behind them the source ended, or gave a byte more than are taken, or failed.
abbrev pub CutsShort : Cut → List ℕ → ℕ → ℕ → Option (List ℕ) → Option (List ℕ) → Type 0
CutsShort cut.Ended got taken now old new = Consumes old new got × IsAtEnd new × (now ≡ taken + length got)
CutsShort cut.TooLong got taken now old new =
    (b : ℕ) × Consumes old new (got ++ b ∷ []) × (now ≡ taken + length got) × (now ≡ most_bytes)
CutsShort cut.Failed got taken now old new = Consumes old new got × (now ≡ taken + length got)

-- an end is none within a frame
abbrev pub stop_by : Cut → Bool → FrameStop
stop_by cut.Ended between = if between then stop.End else stop.BadFrame
stop_by cut.TooLong between = stop.TooLong
stop_by cut.Failed between = stop.Failed

-- ---- a frame

-- a frame was taken, and nothing behind it
pub record ReadsFrame (body : List ℕ) (taken now : ℕ) (old new : Option (List ℕ)) : Type 0 where
  pub is : IsBody body
  pub consumed : Consumes old new (frame body)
  pub count : now ≡ taken + length (frame body)

-- Why there is none. The source is at its end; or the four bytes that were taken are a bad length, or those that were taken are no
-- whole frame at its end. Or they are no whole frame, and the source gave a byte more than are taken, or failed. They were counted.
abbrev pub StopsReading : FrameStop → ℕ → ℕ → Option (List ℕ) → Option (List ℕ) → Type 0
StopsReading stop.End taken now old new = Consumes old new [] × IsAtEnd new × (now ≡ taken)
StopsReading stop.BadFrame taken now old new =
    (bytes : List ℕ) × Consumes old new bytes × (now ≡ taken + length bytes)
    × ((HasBadLength bytes × (length bytes ≡ 4)) ⊎ (IsPartialFrame bytes × (1 ≤ length bytes) × IsAtEnd new))
StopsReading stop.TooLong taken now old new =
    (bytes : List ℕ) × (b : ℕ) × IsPartialFrame bytes × Consumes old new (bytes ++ b ∷ [])
    × (now ≡ taken + length bytes) × (now ≡ most_bytes)
StopsReading stop.Failed taken now old new =
    (bytes : List ℕ) × IsPartialFrame bytes × Consumes old new bytes × (now ≡ taken + length bytes)

-- ---- a whole stream

-- what a stream is where reading stops behind these frames
abbrev pub StopsStream : FrameStop → List ℕ → List (List ℕ) → Type 0
StopsStream stop.End stream bodies = Splits stream bodies []
StopsStream stop.BadFrame stream bodies = (rest : List ℕ) × Splits stream bodies rest × (1 ≤ length rest)
StopsStream stop.TooLong stream bodies = most_bytes < length stream
StopsStream stop.Failed stream bodies = ⊤
