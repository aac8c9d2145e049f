-- An armed loss lies ahead.
use Rattle.std.proofs.Common.{◌≡◌, ℕ, ◌-◌, ◌<◌, ◌≤◌, Option, Some, arith}
use Rattle.std.specs.Option.{ForSome}
use Rattle.flash_core.specs.declared.flash.Arming.{Arming}

-- what was done took less off it than it counted
pub less_done : (left : Option Arming) (armed : Arming) (done : ℕ) → ForSome left (λ a. 1 ≤ a.n) → left ≡ Some (record { n = armed.n - done; k = armed.k }) → done < armed.n
less_done left armed done ahead is =
    let some : 1 ≤ armed.n - done = ahead (record { n = armed.n - done; k = armed.k }) is in
    omega (arith, some)
