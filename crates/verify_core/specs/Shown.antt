-- What the answers say of a file's lines.
use Rattle.std.specs.Prelude.{◌≡◌, ◌==◌, ℕ, List, Option, Result, Err, option_and_then, position, take}
use Rattle.fwu_formats.specs.Digests.{digest_of}
use Rattle.verify_core.specs.declared.list.ListFault.{ListFault}
use Rattle.verify_core.specs.declared.list.ListFault.TheVariants.{BadLine, NoMemory}

-- this line is the first bad one, or memory was wanting
abbrev pub IsListFault : Result (List (List ℕ)) ℕ → ListFault → Type 0
IsListFault r (BadLine n) = r ≡ Err n
IsListFault r NoMemory = Unit {0}

-- the digest that a text's first line is, where it has its end
abbrev pub first_digest : List ℕ → Option (List ℕ)
first_digest text = option_and_then (λ end. digest_of (take end text)) (position (λ b. b == 10) text)
