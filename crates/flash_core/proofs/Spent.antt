-- What erases, programs and barriers leave of an arming.
use Rattle.std.proofs.Common.{◌≡◌, ℕ, ◌+◌, ◌∙◌, refl, ap, arith, Option, Some, None}
use Rattle.std.specs.Prelude.{Result, Ok, Err, OnOk}
use Rattle.flash_core.specs.{declared.flash.Arming.Arming, declared.flash.FlashStop.FlashStop}
use Rattle.flash_core.specs.Counts.{arming_kept, arming_spent, lowered, lowered_by}

-- one erase or program that was done
pub spent_one : (armed arming : Option Arming) → arming ≡ lowered armed → arming ≡ lowered_by 1 armed
spent_one None arming is = is
spent_one (Some a) arming is = is

-- one that ends a call
pub spent_last : {T : Type 0} (result : Result T FlashStop) (armed arming : Option Arming) → arming ≡ arming_spent result armed → OnOk result (arming ≡ lowered_by 1 armed)
spent_last (Ok x) armed arming is = spent_one armed arming is
spent_last (Err stop) armed arming is = tt

pub spent_none : (armed : Option Arming) → armed ≡ lowered_by 0 armed
spent_none None = refl
spent_none (Some a) = ap (λ (n : ℕ). Some (record { n = n; k = a.k })) (omega arith)

pub lowered_then : (i j : ℕ) (o : Option Arming) → lowered_by j (lowered_by i o) ≡ lowered_by (i + j) o
lowered_then i j None = refl
lowered_then i j (Some a) = ap (λ (n : ℕ). Some (record { n = n; k = a.k })) (omega arith)

-- calls that were done, and one more
pub spent_then : {T E : Type 0} (result : Result T E) (i j n : ℕ) (a b c : Option Arming) → i + j ≡ n → b ≡ lowered_by i a → OnOk result (c ≡ lowered_by j b) → OnOk result (c ≡ lowered_by n a)
spent_then (Ok x) i j n a b c sum first second = second ∙ ap (lowered_by j) first ∙ lowered_then i j a ∙ ap (λ (m : ℕ). lowered_by m a) sum
spent_then (Err stop) i j n a b c sum first second = tt

pub spent_both : (i j n : ℕ) (a b c : Option Arming) → i + j ≡ n → b ≡ lowered_by i a → c ≡ lowered_by j b → c ≡ lowered_by n a
spent_both i j n a b c sum first second = second ∙ ap (lowered_by j) first ∙ lowered_then i j a ∙ ap (λ (m : ℕ). lowered_by m a) sum

-- calls that were done, and a barrier
pub spent_barrier : {T : Type 0} (result : Result T FlashStop) (n : ℕ) (a b c : Option Arming) → b ≡ lowered_by n a → c ≡ arming_kept result b → OnOk result (c ≡ lowered_by n a)
spent_barrier (Ok x) n a b c first is = is ∙ first
spent_barrier (Err stop) n a b c first is = tt

-- so many, counted otherwise
pub spent_as : {T E : Type 0} (result : Result T E) (n m : ℕ) (a b : Option Arming) → n ≡ m → OnOk result (b ≡ lowered_by n a) → OnOk result (b ≡ lowered_by m a)
spent_as (Ok x) n m a b same is = is ∙ ap (λ (k : ℕ). lowered_by k a) same
spent_as (Err stop) n m a b same is = tt
