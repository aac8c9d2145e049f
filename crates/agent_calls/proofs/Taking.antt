-- What erases and programs take of an armed loss, one after another.
use Rattle.std.proofs.Common.{◌≡◌, inl, inr, ℕ, zero, suc, ◌+◌, ◌-◌, cond, Bool, true, false, List, [], ◌∷◌, get_or, set, Option, Some, None, refl, sym, ap, ◌∙◌, arith}
use Rattle.std.proofs.Math.Logic.{∥∥₁_elim}
use Rattle.std.proofs.Math.Nat.{ℕ_set}
use Rattle.flash_core.specs.{declared.flash.Arming.Arming, Counts.lowered_by}
use Rattle.flash_core.proofs.Spent.{spent_both, spent_none}
use Rattle.fwu_formats.specs.{declared.kinds.BankState.BankState, declared.kinds.BankState.TheVariants.Invalid}
use Rattle.fwu_formats.specs.Metadata.{Meta, MetaRead, state_at}
use Rattle.fwu_model.specs.{State.Free, State.is_invalid, MoveMetas.meta_after}
use Rattle.agent_machine.specs.{Fields.Fields, Fields.target, Stored.TakesStore, Stored.stored_arming}
use Rattle.agent_calls.specs.{Metas.meta_begun, Takes.Takes, Takes.writes_to_begin}

pub takes-none : (armed : Option Arming) → Takes 0 armed armed
takes-none armed = spent_none armed

-- one after the other
pub takes-then : (i j n : ℕ) (a b c : Option Arming) → i + j ≡ n → Takes i a b → Takes j b c → Takes n a c
takes-then i j n a b c sum first second = spent_both i j n a b c sum first second

-- so many, counted otherwise
pub takes-as : (i n : ℕ) (a b : Option Arming) → i ≡ n → Takes i a b → Takes n a b
takes-as i n a b same is = is ∙ ap (λ (k : ℕ). lowered_by k a) same

-- a store
pub takes-four : (armed arming : Option Arming) → arming ≡ stored_arming armed → Takes 4 armed arming
takes-four armed arming is = is ∙ four armed
  where
    four : (o : Option Arming) → stored_arming o ≡ lowered_by 4 o
    four None = refl
    four (Some a) = ap (λ (n : ℕ). Some (record { n = n; k = a.k })) (omega arith)

-- ---- a begin

set-there : (l : List BankState) (b : ℕ) → get_or (set l b Invalid) b Invalid ≡ Invalid
set-there [] b = refl
set-there (x ∷ l) zero = refl
set-there (x ∷ l) (suc b) = set-there l b

module _ (f : Fields) where
  abbrev m : Meta
  m = f.meta.meta

  abbrev b : ℕ
  b = target f

  abbrev freed : Meta
  freed = meta_after m (Free b)

  -- It stores metadata exactly where the update bank isn't invalid: there the metadata is not as it was.
  pub takes-begin : (new : MetaRead) (armed arming : Option Arming) → TakesStore f.meta new armed arming → new ≡ meta_begun f
      → (is_invalid (state_at m b) ≡ true → arming ≡ armed) → Takes (writes_to_begin f) armed arming
  takes-begin new armed arming takes begun still = by-test (is_invalid (state_at m b)) refl
    where
      by-store : is_invalid (state_at m b) ≡ false → TakesStore f.meta new armed arming → Takes 4 armed arming
      by-store is (inl stored) = takes-four armed arming stored
      by-store is (inr same) =
          let both : false ≡ true = sym is ∙ ap (λ (l : MetaRead). is_invalid (state_at l.meta b)) (sym same.0 ∙ begun)
          ∙ ap (λ (i : Bool). is_invalid (state_at (cond i m freed) b)) is ∙ ap is_invalid (set-there m.states b) in
          absurd cc

      by-test : (invalid : Bool) → is_invalid (state_at m b) ≡ invalid → Takes (cond invalid 0 4) armed arming
      by-test true is = still is ∙ takes-none armed
      by-test false is = by-store is takes

-- ---- wherever there is a machine that is shown

abbrev n_of : Option Arming → ℕ
n_of None = 0
n_of (Some a) = a.n

abbrev k_of : Option Arming → ℕ
k_of None = 0
k_of (Some a) = a.k

-- it is a plain fact, and so no matter which
pub takes-some : {A : Type 0} (writes : ℕ) (armed arming : Option Arming) → ∥ A ∥₁ → (A → Takes writes armed arming) → Takes writes armed arming
takes-some writes None None some by = refl
takes-some writes None (Some y) some by = absurd (∥∥₁_elim some (λ p q. absurd p) (λ a. let e : Some y ≡ None = by a in cc))
takes-some writes (Some x) None some by =
    absurd (∥∥₁_elim some (λ p q. absurd p) (λ a. let e : None ≡ lowered_by writes (Some x) = by a in cc))
takes-some writes (Some x) (Some y) some by =
    both (∥∥₁_elim some (ℕ_set y.n (x.n - writes)) (λ a. ap n_of (by a))) (∥∥₁_elim some (ℕ_set y.k x.k) (λ a. ap k_of (by a)))
  where
    both : y.n ≡ x.n - writes → y.k ≡ x.k → Some y ≡ lowered_by writes (Some x)
    both n k = ap (λ (m : ℕ). Some (record { n = m; k = y.k })) n ∙ ap (λ (l : ℕ). Some (record { n = x.n - writes; k = l })) k
