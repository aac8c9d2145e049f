-- The loss of power that a device tells as armed.
use Rattle.std.proofs.Common.{◌≡◌, ◌∙◌, inl, inr, ℕ, ◌+◌, ◌-◌, ◌≤◌, ◌==◌, true, false, cond, not, Bool, List, [], ◌∷◌, ◌++◌, length, Option, Some, None, ap, arith, refl}
use Rattle.std.proofs.lemmas.Bool.{cases_lt}
use Rattle.std.proofs.lemmas.List.Sums.{count_by-le-length, sum_by_push}
use Rattle.std.specs.Option.{ForSome}
use Rattle.flash_core.specs.{Counts.IsDue, Counts.lowered, Counts.lowered_by, declared.flash.Arming.Arming}
use Rattle.step_flash.specs.{declared.step.Step.Step, declared.flash.StepFlash.StepFlash, Steps.NotesBytes, Steps.barrier_step}
use Rattle.step_flash.specs.{Flash.arming_of, Flash.most_of, Flash.steps_of}
use Rattle.step_flash.specs.Writes.{IsArmed, arming_by, erases_and_programs, far_loss}

-- an armed loss that was not due lies ahead still, once it is lowered
pub lowered_ahead : (a : Option Arming) → ForSome a IsArmed → (IsDue a → ⊥) → ForSome (lowered a) IsArmed
lowered_ahead None ahead undue = λ x e. absurd (cc)
lowered_ahead (Some a) ahead undue = λ x e.
    let n : a.n - 1 ≡ x.n = cc in
    let k : a.k ≡ x.k = cc in
    elim (cases_lt a.n 2) [
      | inl low ↦ absurd (undue (omega (arith, low, (ahead a refl).0)))
      | inr high ↦ (omega (arith, high, n), omega (arith, k, (ahead a refl).1))
    ]

-- ---- the loss that is told

pub none_written : erases_and_programs [] ≡ 0
unfolding erases_and_programs
none_written = refl

-- how many erases and programs one step more makes
more_writes : (ss : List Step) (s : Step) (barrier : Bool) → (s.kind == 3) ≡ barrier
    → erases_and_programs (ss ++ s ∷ []) ≡ erases_and_programs ss + cond barrier 0 1
unfolding erases_and_programs
more_writes ss s barrier is =
    sum_by_push (λ x. cond (not (x.kind == 3)) 1 0) ss s ∙ ap (λ b. erases_and_programs ss + cond (not b) 1 0) is ∙ either barrier
  where
    either : (b : Bool) → erases_and_programs ss + cond (not b) 1 0 ≡ erases_and_programs ss + cond b 0 1
    either true = refl
    either false = refl

-- an erase or a program was noted
pub arming_noted : (a later : Option Arming) (most : ℕ) (ss new : List Step) (s : Step) → later ≡ lowered a → new ≡ ss ++ s ∷ []
    → (s.kind == 3) ≡ false → arming_by later most new ≡ lowered (arming_by a most ss)
arming_noted None later most ss new s is noted other =
    let more : erases_and_programs new ≡ erases_and_programs ss + 1 = ap erases_and_programs noted ∙ more_writes ss s false other in
    rw (is, more) (ap (λ n. Some (record { n = n; k = most + 4294967296 })) (omega arith))
arming_noted (Some a) later most ss new s is noted other = rw is refl

pub arming_programmed : (file : List ℕ) (at : ℕ) (bytes : List ℕ) (a later : Option Arming) (most : ℕ) (ss new : List Step) (room more : List ℕ)
    → later ≡ lowered a → NotesBytes file at bytes ss room new more → arming_by later most new ≡ lowered (arming_by a most ss)
arming_programmed file at bytes a later most ss new room more is (inl copy) = arming_noted a later most ss new _ is copy.2 refl
arming_programmed file at bytes a later most ss new room more is (inr own) = arming_noted a later most ss new _ is own.0 refl

-- a barrier was noted
pub arming_settled : (a : Option Arming) (most : ℕ) (ss new : List Step) → new ≡ ss ++ barrier_step ∷ [] → arming_by a most new ≡ arming_by a most ss
arming_settled None most ss new noted =
    let same : erases_and_programs new ≡ erases_and_programs ss = ap erases_and_programs noted ∙ more_writes ss barrier_step true refl ∙ omega arith in
    rw same refl
arming_settled (Some a) most ss new noted = refl

few_writes : (ss : List Step) → erases_and_programs ss ≤ length ss
unfolding erases_and_programs
few_writes ss = count_by-le-length (λ s. not (s.kind == 3)) ss

-- a far loss is never due
pub undue_by : (a : Option Arming) (most : ℕ) (ss : List Step) → length ss ≤ most → (IsDue a → ⊥) → IsDue (arming_by a most ss) → ⊥
undue_by None most ss few undue due = omega (arith, due, few, few_writes ss)
undue_by (Some a) most ss few undue due = undue due

pub same_arming : (x y : Arming) → Some x ≡ Some y → x ≡ y
same_arming x y is = cc

-- what is told says how many were noted
pub steps_by_arming : (d : StepFlash) (most writes : ℕ) → arming_of d ≡ lowered_by writes (Some (far_loss most)) → erases_and_programs (steps_of d) ≡ writes
steps_by_arming d most writes told = let s = d.device.value in at s.arming s.ahead s.few told
  where
    at : (a : Option Arming) → ForSome a IsArmed → length (steps_of d) ≤ most_of d
        → arming_by a (most_of d) (steps_of d) ≡ lowered_by writes (Some (far_loss most)) → erases_and_programs (steps_of d) ≡ writes
    at None armed few is =
        let same = same_arming _ _ is in
        omega (arith, ap (λ (x : Arming). x.n) same, ap (λ (x : Arming). x.k) same, few, few_writes (steps_of d))
    at (Some a) armed few is = absurd (omega (arith, ap (λ (x : Arming). x.k) (same_arming _ _ is), (armed a refl).1))
