-- Steps that can be done when their turn comes.
use Rattle.std.proofs.Common.{◌≡◌, ◌⊎◌, inl, inr, ℕ, suc, ◌%◌, List, [], ◌∷◌, ◌++◌, length, All, sym, subst, arith, refl}
use Rattle.base_core.specs.Block.{block_bytes}
use Rattle.flash_core.specs.Told.{Told}
use Rattle.step_flash.specs.declared.step.Step.{Step}
use Rattle.step_flash.specs.Steps.{AreDoable, IsDoable, IsInsideWith, TakesProgram, run_step, run_with}
use Rattle.step_flash.proofs.Grows.{run_kept, step_kept}

-- one step more
pub doable_more : (file room : List ℕ) (t : Told) (ss : List Step) (s : Step) → AreDoable file room t ss → IsDoable (run_with file room t ss) s
    → AreDoable file room t (ss ++ s ∷ [])
unfolding run_with
doable_more file room t [] s all one = (one, tt)
doable_more file room t (x ∷ ss) s all one = (all.0, doable_more file room (run_step file room t x) ss s all.1 one)

-- in a room that grew
pub doable_kept : (file room more : List ℕ) (size : ℕ) (t : Told) (ss : List Step) → All (IsInsideWith (length file) (length room) size) ss
    → AreDoable file room t ss → AreDoable file (room ++ more) t ss
doable_kept file room more size t [] all doable = tt
doable_kept file room more size t (s ∷ ss) all doable = (
  doable.0,
  subst (λ (u : Told). AreDoable file (room ++ more) u ss) (sym (step_kept file room more size t s (all 0 s (omega arith))))
      (doable_kept file room more size (run_step file room t s) ss (λ k d h. all (suc k) d (omega (arith, h))) doable.1),
)

neither : (k : ℕ) → (k ≡ 2 → ⊥) → (k ≡ 4 → ⊥) → (k ≡ 2) ⊎ (k ≡ 4) → ⊥
neither k two four (inl e) = two e
neither k two four (inr e) = four e

pub erase_doable : (t : Told) (at : ℕ) → at % block_bytes ≡ 0 → IsDoable t (record { kind = 1; at = at; length = block_bytes; from = 0 })
erase_doable t at place = record {
  block = λ _. (place, refl);
  bytes = λ k. absurd (neither 1 (λ e. omega (arith, e)) (λ e. omega (arith, e)) k);
  barrier = λ e. absurd (omega (arith, e));
}

pub barrier_doable : (t : Told) → IsDoable t (record { kind = 3; at = 0; length = 0; from = 0 })
barrier_doable t = record {
  block = λ e. absurd (omega (arith, e));
  bytes = λ k. absurd (neither 3 (λ e. omega (arith, e)) (λ e. omega (arith, e)) k);
  barrier = λ _. (refl, refl, refl);
}

pub program_doable : (t : Told) (kind at n from : ℕ) → (kind ≡ 1 → ⊥) → (kind ≡ 3 → ⊥) → TakesProgram t at n
    → IsDoable t (record { kind = kind; at = at; length = n; from = from })
program_doable t kind at n from not_one not_three takes = record {
  block = λ e. absurd (not_one e);
  bytes = λ _. takes;
  barrier = λ e. absurd (not_three e);
}

-- a program is noted
pub program_more : (file room bytes : List ℕ) (size at : ℕ) (t : Told) (ss : List Step) → All (IsInsideWith (length file) (length room) size) ss
    → AreDoable file room t ss → TakesProgram (run_with file room t ss) at (length bytes)
    → AreDoable file (room ++ bytes) t (ss ++ (record { kind = 2; at = at; length = length bytes; from = length room }) ∷ [])
program_more file room bytes size at t ss inside all takes =
    doable_more file (room ++ bytes) t ss _ (doable_kept file room bytes size t ss inside all)
    (program_doable (run_with file (room ++ bytes) t ss) 2 at (length bytes) (length room) (λ e. omega (arith, e)) (λ e. omega (arith, e))
    (subst (λ (u : Told). TakesProgram u at (length bytes)) (sym (run_kept file room bytes size t ss inside)) takes))
