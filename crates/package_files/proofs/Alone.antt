-- The one file is there.
use Rattle.std.proofs.Common.{◌≡◌, ℕ, List, Some, Bool, refl, ap}
use Rattle.std.specs.Prelude.{if◌then◌else◌, None}
use Rattle.std.proofs.lemmas.Slice.Eq.{bytes_eq-Decides}
use Rattle.package_files.specs.OneFile.{one_file}

pub finds_it : (name bytes : List ℕ) → one_file name bytes name ≡ Some bytes
finds_it name bytes = ap (λ (b : Bool). if b then Some bytes else None) ((bytes_eq-Decides name name).1 refl)
