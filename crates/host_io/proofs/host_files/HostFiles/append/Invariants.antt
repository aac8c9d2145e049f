use Rattle.std.proofs.Common.{◌≡◌, ◌+◌, ◌≤◌, take, vec_capacity, vec_len, ℕ, List}
use Rattle.host_io.proofs.host_files.HostFiles.append.Given as goal

-- the old bytes stand in front, and what is read and what is left make up the range
pub record Grows (count left len now least room : ℕ) (old new : List ℕ) : Type 0 where
  pub front : take len new ≡ old
  pub rest : now + left ≡ len + count
  pub within : left ≤ count
  pub capacity : least ≤ room

abbrev pub invariant-loop-left : goal.invariant-loop-left
invariant-loop-left g l =
    Grows l.fn.count l.left (vec_len l.fn.out) (vec_len l.out) (vec_capacity l.fn.out) (vec_capacity l.out) l.fn.out.items l.out.items

abbrev pub decreases-loop-left : goal.decreases-loop-left
decreases-loop-left g l = l.left
