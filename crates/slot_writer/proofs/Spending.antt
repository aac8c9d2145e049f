-- What erases and programs leave of an arming, one after the other.
use Rattle.std.proofs.Common.{◌≡◌, ℕ, ◌+◌, ◌-◌, ◌<◌, ◌≤◌, ◌∙◌, ap, arith, Option, Some, None}
use Rattle.std.specs.Prelude.{Result, Ok, Err}
use Rattle.flash_core.specs.{declared.flash.Arming.Arming, declared.flash.Counts.Counts, declared.flash.FlashStop.FlashStop}
use Rattle.flash_core.specs.Counts.{Fires, arming_spent, lowered_by}
use Rattle.flash_core.proofs.{Spent.lowered_then, Unarmed.unarmed_spent, Unarmed.unarmed_then}
use Rattle.slot_writer.specs.Writes.{SpendsArming}

-- one erase or program
pub spends_one : {T : Type 0} (result : Result T FlashStop) (armed arming : Option Arming) (old new : Counts) → arming ≡ arming_spent result armed → Fires result armed old new → SpendsArming result 1 armed arming old new
spends_one (Ok x) None arming old new is fires = record {
  lowered = is;
  passed = λ a e. absurd cc;
  unarmed = unarmed_spent (Ok x) None arming old new is fires;
}
spends_one (Ok x) (Some armed) arming old new is fires = record {
  lowered = is;
  passed = λ a e some. let n : armed.n ≡ a.n = ap (λ (o : Option Arming). n_of o) e in omega (arith, n, some, not_due);
  unarmed = unarmed_spent (Ok x) (Some armed) arming old new is fires;
}
  where
    n_of : Option Arming → ℕ
    n_of None = 0
    n_of (Some a) = a.n

    not_due : armed.n ≡ 1 → ⊥
    not_due due = fires.not_done due
spends_one (Err stop) armed arming old new is fires = record {
  lowered = tt;
  passed = tt;
  unarmed = unarmed_spent (Err stop) armed arming old new is fires;
}

-- calls that were done, and one more
pub spends_then_arming : {T U : Type 0} (x : T) (result : Result U FlashStop) (i j n : ℕ) (a b c : Option Arming) (u v w : Counts) → i + j ≡ n → u.cuts ≤ v.cuts → SpendsArming {T = T} (Ok x) i a b u v → SpendsArming result j b c v w → SpendsArming result n a c u w
spends_then_arming x (Ok y) i j n a b c u v w sum less first second = record {
  lowered = second.lowered ∙ ap (lowered_by j) first.lowered ∙ lowered_then i j a ∙ ap (λ (m : ℕ). lowered_by m a) sum;
  passed = λ armed e some.
      let here : i < armed.n = first.passed armed e some in
      let b_is : b ≡ Some (record { n = armed.n - i; k = armed.k }) = first.lowered ∙ ap (lowered_by i) e in
      let there : j < armed.n - i = second.passed (record { n = armed.n - i; k = armed.k }) b_is (omega (arith, here)) in
      omega (arith, here, there, sum);
  unarmed = unarmed_then x (Ok y) a b c u v w less first.unarmed second.unarmed;
}
spends_then_arming x (Err stop) i j n a b c u v w sum less first second = record {
  lowered = tt;
  passed = tt;
  unarmed = unarmed_then x (Err stop) a b c u v w less first.unarmed second.unarmed;
}
