-- What a read finds behind each step.
use Rattle.std.proofs.Common.{◌≡◌, ℕ, suc, ◌+◌, ◌<◌, ◌≤◌, ◌==◌, Bool, true, false, List, [], ◌∷◌, length, get_or, take, slice_range, eqb-true, eq-eqb, if◌then◌else◌, sym, subst, ◌∙◌, ap, arith, refl}
use Rattle.std.proofs.lemmas.Bool.{false≢true}
use Rattle.std.proofs.lemmas.List.Sums.{fold_more}
use Rattle.base_core.specs.Block.{blank, block_bytes}
use Rattle.base_core.proofs.Blocks.{length-blank}
use Rattle.flash_core.specs.Told.{Told, fresh, put, settle, overwritten}
use Rattle.flash_core.proofs.{Calls.now-put, Calls.now-settle, Images.length-overwritten}
use Rattle.step_flash.specs.declared.step.Step.{Step}
use Rattle.step_flash.specs.Steps.{IsInsideWith, step_bytes, run_step, run_with, source_of}
use Rattle.step_flash.proofs.Slices.{length-part}

-- the bytes of a program or a copy stand where they are to stand
pub stands : (file room : List ℕ) (size : ℕ) (s : Step) → IsInsideWith (length file) (length room) size s → (s.kind ≡ 1 → ⊥)
    → s.from + s.length ≤ length (source_of file room s)
stands file room size s inside not_one = at_kind (s.kind == 4) refl
  where
    at_kind : (b : Bool) → (s.kind == 4) ≡ b → s.from + s.length ≤ length (source_of file room s)
    at_kind true is = subst (λ b. s.from + s.length ≤ length (if b then file else room)) (sym is) (inside.copied (eqb-true s.kind 4 is)).1
    at_kind false is =
        subst (λ b. s.from + s.length ≤ length (if b then file else room)) (sym is) (inside.bytes not_one (λ e. false≢true (sym is ∙ eq-eqb s.kind 4 e)))

length-bytes_of : (file room : List ℕ) (size : ℕ) (s : Step) → IsInsideWith (length file) (length room) size s
    → length (step_bytes file room s) ≡ s.length
length-bytes_of file room size s inside = at_kind (s.kind == 1) refl
  where
    by : Bool → List ℕ
    by b = if b then blank block_bytes else slice_range (source_of file room s) s.from (s.from + s.length)

    at_kind : (b : Bool) → (s.kind == 1) ≡ b → length (step_bytes file room s) ≡ s.length
    at_kind true is = ap (λ c. length (by c)) is ∙ length-blank block_bytes ∙ sym (inside.block (eqb-true s.kind 1 is))
    at_kind false is =
        ap (λ c. length (by c)) is
        ∙ length-part (source_of file room s) s.from s.length (stands file room size s inside (λ e. false≢true (sym is ∙ eq-eqb s.kind 1 e)))

step_size : (file room : List ℕ) (size : ℕ) (t : Told) (s : Step) → length t.now ≡ size → IsInsideWith (length file) (length room) size s
    → length (run_step file room t s).now ≡ size
unfolding put settle fresh
step_size file room size t s is inside = at_kind (s.kind == 3)
  where
    at_kind : (b : Bool) → length (if b then settle t else put s.at (step_bytes file room s) t).now ≡ size
    at_kind true = is
    at_kind false =
        length-overwritten s.at (step_bytes file room s) t.now (omega (arith, inside.place, length-bytes_of file room size s inside, is)) ∙ is

-- steps keep the size
pub run_size : (file room : List ℕ) (size : ℕ) (t : Told) (ss : List Step) → length t.now ≡ size
    → ((k : ℕ) (d : Step) → k < length ss → IsInsideWith (length file) (length room) size (get_or ss k d))
    → length (run_with file room t ss).now ≡ size
unfolding run_with
run_size file room size t [] is all = is
run_size file room size t (s ∷ ss) is all =
    run_size file room size (run_step file room t s) ss (step_size file room size t s is (all 0 s (omega arith))) (λ k d h. all (suc k) d (omega (arith, h)))

pub run_none : (file room : List ℕ) (t : Told) → run_with file room t [] ≡ t
unfolding run_with
run_none file room t = refl

pub run_more : (file room : List ℕ) (t : Told) (ss : List Step) (i : ℕ) (d : Step) → i < length ss
    → run_with file room t (take (i + 1) ss) ≡ run_step file room (run_with file room t (take i ss)) (get_or ss i d)
unfolding run_with
run_more file room t ss i d h = fold_more (run_step file room) t ss i d h

-- ---- one step

-- what now is after a step, by whether it is a barrier and whether it is an erase
abbrev now_by : List ℕ → List ℕ → Told → Step → Bool → Bool → List ℕ
now_by file room t s three one =
    (if three then settle t else put s.at (if one then blank block_bytes else slice_range (source_of file room s) s.from (s.from + s.length)) t).now

pub now_erased : (file room : List ℕ) (t : Told) (s : Step) → s.kind ≡ 1 → (run_step file room t s).now ≡ overwritten s.at (blank block_bytes) t.now
now_erased file room t s e = ap (λ k. now_by file room t s (k == 3) (k == 1)) e ∙ now-put s.at (blank block_bytes) t

pub now_settled : (file room : List ℕ) (t : Told) (s : Step) → s.kind ≡ 3 → (run_step file room t s).now ≡ t.now
now_settled file room t s e = ap (λ k. now_by file room t s (k == 3) (k == 1)) e ∙ now-settle t

pub now_programmed : (file room : List ℕ) (t : Told) (s : Step) → (s.kind == 1) ≡ false → (s.kind == 3) ≡ false
    → (run_step file room t s).now ≡ overwritten s.at (slice_range (source_of file room s) s.from (s.from + s.length)) t.now
now_programmed file room t s not_one not_three =
    ap (λ b. now_by file room t s b (s.kind == 1)) not_three ∙ ap (λ b. now_by file room t s false b) not_one
    ∙ now-put s.at (slice_range (source_of file room s) s.from (s.from + s.length)) t
