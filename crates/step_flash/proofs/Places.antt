-- Where steps lie, by the counts of the blocks that they meet.
use Rattle.std.proofs.Common.{◌≡◌, ◌⊎◌, inl, inr, ℕ, zero, suc, ◌+◌, ◌-◌, ◌*◌, ◌/◌, ◌<◌, ◌≤◌, ◌==◌, true, false, cond, not, List, [], ◌∷◌, ◌++◌, All, length, get_or, ◌∙◌, ap, arith, refl}
use Rattle.std.specs.List.{count_by}
use Rattle.std.proofs.lemmas.List.Sums.{get_or-le-sum_by, sum_by-le, sum_by_push}
use Rattle.std.proofs.lemmas.Bool.{and_from, cases_lt, le-ltb, lt-ltb}
use Rattle.base_core.specs.Block.{block_bytes}
use Rattle.flash_core.specs.{Told.Told, Touches.TouchesOnly}
use Rattle.step_flash.specs.{declared.step.Step.Step, Writes.LiesBeside, Writes.LiesWithin, Writes.meets, Writes.writes_in}
use Rattle.step_flash.specs.Steps.{AreDoable, IsDoable, IsInsideWith, NotesBytes, barrier_step, copy_step, program_step, run_step}

-- ---- what one step more counts

pub none_met : (b : ℕ) → writes_in [] b ≡ 0
unfolding writes_in
none_met b = refl

not_met : (ss new : List Step) (s : Step) (b : ℕ) → new ≡ ss ++ s ∷ [] → meets b s ≡ false → writes_in new b ≡ writes_in ss b
unfolding writes_in
not_met ss new s b is out =
    ap (λ (x : List Step). count_by (meets b) x) is ∙ sum_by_push (λ x. cond (meets b x) 1 0) ss s
    ∙ ap (λ m. count_by (meets b) ss + cond m 1 0) out ∙ omega arith

misses : (s : Step) (b : ℕ) → (block_bytes * b + block_bytes ≤ s.at) ⊎ (s.at + s.length ≤ block_bytes * b) → meets b s ≡ false
misses s b (inl below) = let e = le-ltb s.at (block_bytes * b + block_bytes) below in grind (arith, e)
misses s b (inr above) = let e = le-ltb (block_bytes * b) (s.at + s.length) above in grind (arith, e)

-- where no step does
pub none_meets : (ss : List Step) (b : ℕ) → All (λ s. meets b s ≡ false) ss → writes_in ss b ≡ 0
unfolding writes_in
none_meets ss b out = omega (arith, sum_by-le (λ x. cond (meets b x) 1 0) 0 ss (λ k d h. let e = ap {B = ℕ} (λ m. cond m 1 0) (out k d h) in omega (arith, e)))

-- no step meets a block behind the last
pub none_behind : (file room blocks : ℕ) (ss : List Step) (b : ℕ) → All (IsInsideWith file room (block_bytes * blocks)) ss → blocks ≤ b → writes_in ss b ≡ 0
none_behind file room blocks ss b inside behind = none_meets ss b (λ k d h. misses (get_or ss k d) b (inr (omega (arith, (inside k d h).place, behind))))

pub step_touches : (ss new : List Step) (s : Step) → new ≡ ss ++ s ∷ [] → TouchesOnly s.at (s.at + s.length) (writes_in ss) (writes_in new)
step_touches ss new s is b out = not_met ss new s b is (misses s b out)

pub program_touches : (file : List ℕ) (at : ℕ) (bytes : List ℕ) (ss new : List Step) (room more : List ℕ) → NotesBytes file at bytes ss room new more
    → TouchesOnly at (at + length bytes) (writes_in ss) (writes_in new)
program_touches file at bytes ss new room more (inl copy) = step_touches ss new (copy_step at (length bytes) copy.0) copy.2
program_touches file at bytes ss new room more (inr own) = step_touches ss new (program_step at (length bytes) (length room)) own.0

pub barrier_meets_none : (ss new : List Step) → new ≡ ss ++ barrier_step ∷ [] → writes_in new ≡ writes_in ss
barrier_meets_none ss new is = λ k b. not_met ss new barrier_step b is refl k

-- ---- where the steps lie

-- A step is a barrier, or has bytes.
abbrev HasBytes : Step → Type 0
HasBytes s = (s.kind ≡ 3) ⊎ ((s.kind == 3) ≡ false) × (0 < s.length)

kinds : (k : ℕ) → (1 ≤ k) × (k ≤ 4) → (k ≡ 3) ⊎ ((k ≡ 1) ⊎ ((k ≡ 2) ⊎ (k ≡ 4)))
kinds k known = elim (cases_lt k 2) [
  | inl low ↦ inr (inl (omega (arith, low, known.0)))
  | inr some ↦ elim (cases_lt k 3) [
    | inl two ↦ inr (inr (inl (omega (arith, some, two))))
    | inr more ↦ elim (cases_lt k 4) [
      | inl three ↦ inl (omega (arith, more, three))
      | inr four ↦ inr (inr (inr (omega (arith, four, known.1))))
    ]
  ]
]

one_has : (file room size : ℕ) (t : Told) (s : Step) → IsInsideWith file room size s → IsDoable t s → HasBytes s
one_has file room size t s inside doable = elim (kinds s.kind inside.known) [
  | inl barrier ↦ inl barrier
  | inr (inl erase) ↦ inr (ap (λ k. k == 3) erase, omega (arith, inside.block erase))
  | inr (inr (inl program)) ↦ inr (ap (λ k. k == 3) program, omega (arith, (doable.bytes (inl program)).some))
  | inr (inr (inr copy)) ↦ inr (ap (λ k. k == 3) copy, (inside.copied copy).0)
]

pub all_have : (file room : List ℕ) (n m size : ℕ) (t : Told) (ss : List Step) → All (IsInsideWith n m size) ss → AreDoable file room t ss
    → All HasBytes ss
all_have file room n m size t [] inside doable = λ k d h. absurd (omega (arith, h))
all_have file room n m size t (s ∷ ss) inside doable =
    at (all_have file room n m size (run_step file room t s) ss (λ k d h. inside (suc k) d (omega (arith, h))) doable.1)
  where
    at : All HasBytes ss → (k : ℕ) (d : Step) → k < length (s ∷ ss) → HasBytes (get_or (s ∷ ss) k d)
    at rest zero d h = one_has n m size t s (inside 0 d (omega arith)) doable.0
    at rest (suc k) d h = rest k d (omega (arith, h))

-- no step has a byte of a block that is not counted
counted : (ss : List Step) (k : ℕ) (d : Step) (b : ℕ) → k < length ss → (((get_or ss k d).kind == 3) ≡ false)
    → (get_or ss k d).at < block_bytes * b + block_bytes → block_bytes * b < (get_or ss k d).at + (get_or ss k d).length → writes_in ss b ≡ 0 → ⊥
unfolding writes_in
counted ss k d b inside other low high none =
    let met : meets b (get_or ss k d) ≡ true = and_from _ _ (ap not other) (and_from _ _ (lt-ltb _ _ low) (lt-ltb _ _ high)) in
    let one : ◌≡◌ {A = ℕ} (cond (meets b (get_or ss k d)) 1 0) 1 = ap (λ m. cond m 1 0) met in
    omega (arith, one, none, get_or-le-sum_by (λ x. cond (meets b x) 1 0) ss k d inside)

module _ (first last : ℕ) (ss : List Step) (some : All HasBytes ss) where
  pub all_within : TouchesOnly (block_bytes * first) (block_bytes * last) (λ b. 0) (writes_in ss)
      → All (LiesWithin (block_bytes * first) (block_bytes * last)) ss
  all_within only = λ k d inside. elim (some k d inside) [
    | inl barrier ↦ inl barrier
    | inr has ↦ inr (starts k d inside has, ends k d inside has)
  ]
    where
      starts : (k : ℕ) (d : Step) → k < length ss → (((get_or ss k d).kind == 3) ≡ false) × (0 < (get_or ss k d).length)
          → block_bytes * first ≤ (get_or ss k d).at
      starts k d inside has =
          let s = get_or ss k d in
          elim (cases_lt s.at (block_bytes * first)) [
            | inl below ↦ absurd (counted ss k d (s.at / block_bytes) inside has.0 (omega arith) (omega (arith, has.1)) (only (s.at / block_bytes) (inl (omega (arith, below)))))
            | inr fits ↦ fits
          ]

      ends : (k : ℕ) (d : Step) → k < length ss → (((get_or ss k d).kind == 3) ≡ false) × (0 < (get_or ss k d).length)
          → (get_or ss k d).at + (get_or ss k d).length ≤ block_bytes * last
      ends k d inside has =
          let s = get_or ss k d in
          let b = (s.at + s.length - 1) / block_bytes in
          elim (cases_lt (block_bytes * last) (s.at + s.length)) [
            | inl above ↦ absurd (counted ss k d b inside has.0 (omega (arith, has.1)) (omega (arith, has.1)) (only b (inr (omega (arith, above)))))
            | inr fits ↦ fits
          ]

  pub all_beside : first < last → ((b : ℕ) → first ≤ b → b < last → writes_in ss b ≡ 0) → All (LiesBeside (block_bytes * first) (block_bytes * last)) ss
  all_beside order none = λ k d inside. elim (some k d inside) [
    | inl barrier ↦ inl barrier
    | inr has ↦ inr (at k d inside has)
  ]
    where
      at : (k : ℕ) (d : Step) → k < length ss → (((get_or ss k d).kind == 3) ≡ false) × (0 < (get_or ss k d).length)
          → ((get_or ss k d).at + (get_or ss k d).length ≤ block_bytes * first) ⊎ (block_bytes * last ≤ (get_or ss k d).at)
      at k d inside has =
          let s = get_or ss k d in
          elim (cases_lt (block_bytes * first) (s.at + s.length)) [
            | inr before ↦ inl before
            | inl above ↦ elim (cases_lt s.at (block_bytes * last)) [
              | inr behind ↦ inr behind
              | inl below ↦ elim (cases_lt s.at (block_bytes * first)) [
                | inl over ↦ absurd (counted ss k d first inside has.0 (omega (arith, over)) above (none first (omega arith) order))
                | inr in_it ↦
                    absurd (counted ss k d (s.at / block_bytes) inside has.0 (omega arith) (omega (arith, has.1)) (none (s.at / block_bytes) (omega (arith, in_it)) (omega (arith, below))))
              ]
            ]
          ]
