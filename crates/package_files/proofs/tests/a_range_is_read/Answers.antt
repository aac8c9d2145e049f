use Rattle.std.proofs.Common.{ℕ, List, [], ◌∷◌, Some, subst, sym, arith}
use Rattle.host_io.specs.Contents.{Directory, HasRange}
use Rattle.package_files.proofs.tests.a_range_is_read.Goals as goal

name : List ℕ
name = 112 ∷ 46 ∷ 102 ∷ 105 ∷ 112 ∷ []

pub read_at-requires : goal.read_at-requires
unfolding name
read_at-requires g c = subst (λ (files : Directory). HasRange (Some files) name 2 3) (sym c.new-files.ensures) (omega arith)
