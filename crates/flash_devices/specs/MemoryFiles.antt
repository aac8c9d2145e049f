-- What a file in memory holds and counts, and which of its calls fail.
use Rattle.std.specs.Prelude.{◌≡◌, ℕ, Bool, List}
use Rattle.flash_devices.specs.{Meters.is_listed, Meters.following, Meters.counts_in, declared.memory_file.MemoryFile.MemoryFile}

abbrev pub content_of : MemoryFile → List ℕ
content_of f = f.bytes.items

-- the numbers of the calls that fail
abbrev pub fails_of : MemoryFile → List ℕ
fails_of f = f.fails.items

-- how many calls were made
abbrev pub calls_made : MemoryFile → ℕ
calls_made f = f.calls

-- how often each 4096 bytes were written to
abbrev pub writes_of : MemoryFile → ℕ → ℕ
writes_of f = counts_in f.written.items

-- whether the next call is listed
abbrev pub fails_next : MemoryFile → Bool
fails_next f = is_listed (fails_of f) (following (calls_made f))

-- One more call, and the same ones are listed.
pub record IsCalledOnce (old new : MemoryFile) : Type 0 where
  pub calls : calls_made new ≡ following (calls_made old)
  pub fails : fails_of new ≡ fails_of old
