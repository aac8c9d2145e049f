-- What a hash value and the hasher hold.
use Rattle.std.specs.Prelude.{◌≡◌, ℕ, ◌%◌, List, [], ◌∷◌, length}
use Rattle.sha2.specs.Sha256.{IsAbsorbed, initial_hash_256}
use Rattle.sha256_lanes.specs.{Lanes.lane, declared.alone.Message.Message, declared.lanes.Lanes.Lanes}

-- the hash value h has taken in the message m, which is of whole blocks
unfoldable pub IsOfBlocks : List ℕ → List ℕ → Type 0
IsOfBlocks h m = (length m % 64 ≡ 0) × IsAbsorbed initial_hash_256 h [] m

-- the hash values of the four messages, word by word
abbrev pub hash_values_of : Lanes → List (List ℕ)
hash_values_of s = s.h0 ∷ s.h1 ∷ s.h2 ∷ s.h3 ∷ s.h4 ∷ s.h5 ∷ s.h6 ∷ s.h7 ∷ []

-- lane j of the hasher s holds the message m, which is of whole blocks
abbrev pub HoldsInLane : ℕ → Lanes → List ℕ → Type 0
HoldsInLane j s m = IsOfBlocks (lane j (hash_values_of s)) m

-- a message that goes on alone is m, which is of whole blocks
abbrev pub GoesOnAs : Message → List ℕ → Type 0
GoesOnAs s m = IsOfBlocks s.words m
