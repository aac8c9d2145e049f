-- The pieces in which an image is written, one after another.
use Rattle.std.proofs.Common.{◌≡◌, ℕ, suc, ◌+◌, ◌-◌, ◌*◌, ◌<◌, ◌≤◌, min, arith}
use Rattle.std.proofs.Math.Nat.{mul_comm, mul-suc, mul-zero, le-div_iff_mul-le, div-lt_iff_lt-mul}
use Rattle.agent_calls.specs.Takes.{piece_at, pieces_of}

-- the first `at` bytes of so many are so many pieces
pub record Pieces (size total at count : ℕ) : Type 0 where
  pub at_is : at ≡ min (size * count) total
  pub few : size * count < total + size

pub pieces-none : (size total : ℕ) → 0 < size → Pieces size total 0 0
pieces-none size total some = record {
  at_is = omega (arith, mul-zero size);
  few = omega (arith, some, mul-zero size);
}

module _ (size total at count : ℕ) (p : Pieces size total at count) where
  -- where the next one begins
  pub next-piece : at < total → at ≡ size * count
  next-piece lt = omega (arith, lt, p.at_is)

  pub pieces-more : (n : ℕ) → at < total → n ≡ piece_at size total at → Pieces size total (at + n) (suc count)
  pieces-more n lt is =
      let here = next-piece lt in
      let next = mul-suc size count in
      record {
        at_is = omega (arith, lt, is, here, next);
        few = omega (arith, lt, here, next);
      }

  -- that was all
  pub pieces-all : 0 < size → total ≤ at → count ≡ pieces_of size total
  pieces-all some all =
      let over : total ≤ size * count = omega (arith, all, p.at_is) in
      let turned = mul_comm size count in
      let next = mul_comm (suc count) size in
      let more = mul-suc size count in
      let least : count ≤ pieces_of size total =
      (le-div_iff_mul-le {k = size} {x = count} {y = total + (size - 1)} some).1 (omega (arith, some, p.few, turned)) in
      let most : pieces_of size total < suc count =
      (div-lt_iff_lt-mul {k = size} {x = total + (size - 1)} {y = suc count} some).1 (omega (arith, some, over, next, more)) in
      omega (arith, least, most)
