-- What the conversions between packages and capsules keep: the types and the payloads, in their order.
use Rattle.std.specs.Prelude.{◌≡◌, ⊤, ℕ, List, Option, Some, Result, Ok, map}
use Rattle.host_io.specs.Contents.{Directory}
use Rattle.fwu_formats.specs.{Package.Toc, Package.payload, Package.toc_of, Capsule.capsule_of}
use Rattle.fip_tables.specs.Files.{Tells}
use Rattle.fip_words.specs.Order.{FipAsked, capsule, repackage}

-- One file had a table by one reading, and the other has one by another reading. Its entries are those of the first, in their
-- order, by their types and their payloads.
pub record IsConverted {F G : Type 0} (read : List ℕ → Result Toc F) (read_again : List ℕ → Result Toc G) (files : Directory)
    (now : Option Directory) (from out : List ℕ) : Type 0 where
  pub old : List ℕ
  pub new : List ℕ
  pub was : Toc
  pub is : Toc
  pub given : (files from ≡ Some old) × (read old ≡ Ok was)
  pub made : Tells now out new × (read_again new ≡ Ok is)
  pub types : map (λ e. e.guid) is.entries ≡ map (λ e. e.guid) was.entries
  pub payloads : map (payload new) is.entries ≡ map (payload old) was.entries

-- what a command that is a conversion has done
abbrev pub Converts : Option FipAsked → Directory → Option Directory → Type 0
Converts (Some (capsule from out)) files now = IsConverted toc_of capsule_of files now from out
Converts (Some (repackage align from out)) files now = IsConverted capsule_of toc_of files now from out
Converts other files now = ⊤
