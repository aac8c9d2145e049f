-- What is told tells whose image and whose package it was, and guards the usual blocks.
use Rattle.std.proofs.Common.{◌≡◌, ℕ, ◌+◌, ◌==◌, Bool, true, false, if◌then◌else◌, List, [], ◌∷◌, ◌++◌, sym, ◌∙◌, arith, refl}
use Rattle.std.proofs.lemmas.List.{append_cancel_left}
use Rattle.base_core.specs.Block.{most_blocks}
use Rattle.flash_core.specs.{Told.Told, Told.fresh, Told.put, Told.settle, May.usual_guard}
use Rattle.step_flash.specs.{declared.step.Step.Step, declared.flash.StepFlash.StepFlash, Device.after_steps, Device.back_on}
use Rattle.step_flash.specs.{Flash.image_of, Flash.package_of, Flash.told_of, Steps.run_with, Steps.run_step, Steps.step_bytes}
use Rattle.step_flash.specs.Guard.{beyond, guard_with, start_with}

step_guard : (file room : List ℕ) (t : Told) (s : Step) → (run_step file room t s).guard ≡ t.guard
unfolding put settle fresh
step_guard file room t s = at_kind (s.kind == 3)
  where
    at_kind : (b : Bool) → (if b then settle t else put s.at (step_bytes file room s) t).guard ≡ t.guard
    at_kind true = refl
    at_kind false = refl

run_guard : (file room : List ℕ) (t : Told) (ss : List Step) → (run_with file room t ss).guard ≡ t.guard
unfolding run_with
run_guard file room t [] = refl
run_guard file room t (s ∷ ss) = run_guard file room (run_step file room t s) ss ∙ step_guard file room t s

fresh_guard : (guard image : List ℕ) → (fresh guard image).guard ≡ guard
unfolding fresh
fresh_guard guard image = refl

moved_back : (xs ys : List ℕ) → beyond xs ≡ beyond ys → xs ≡ ys
moved_back [] [] e = refl
moved_back [] (y ∷ ys) e = absurd (cc)
moved_back (x ∷ xs) [] e = absurd (cc)
moved_back (x ∷ xs) (y ∷ ys) e =
    let head : x + (most_blocks + 1) ≡ y + (most_blocks + 1) = cc in
    let tail : beyond xs ≡ beyond ys = cc in
    let h : x ≡ y = omega (arith, head) in
    let t : xs ≡ ys = moved_back xs ys tail in
    cc

-- both have the same package and the same image
record IsSame (p q a b : List ℕ) : Type 0 where
  file : p ≡ q
  image : a ≡ b

parted : (p q a b : List ℕ) → beyond p ++ (most_blocks ∷ beyond a) ≡ beyond q ++ (most_blocks ∷ beyond b) → IsSame p q a b
parted [] [] a b e =
    let tail : beyond a ≡ beyond b = cc in
    record { file = refl; image = moved_back a b tail }
parted [] (y ∷ q) a b e =
    let head : most_blocks ≡ y + (most_blocks + 1) = cc in
    absurd (omega (arith, head))
parted (x ∷ p) [] a b e =
    let head : x + (most_blocks + 1) ≡ most_blocks = cc in
    absurd (omega (arith, head))
parted (x ∷ p) (y ∷ q) a b e =
    let head : x + (most_blocks + 1) ≡ y + (most_blocks + 1) = cc in
    let tail : beyond p ++ (most_blocks ∷ beyond a) ≡ beyond q ++ (most_blocks ∷ beyond b) = cc in
    let h : x ≡ y = omega (arith, head) in
    let rest = parted p q a b tail in
    let same : p ≡ q = rest.file in
    record { file = cc (h, same); image = rest.image }

same_guard : (p q a b : List ℕ) → guard_with a p ≡ guard_with b q → IsSame p q a b
unfolding guard_with
same_guard p q a b e = parted p q a b (append_cancel_left usual_guard (beyond p ++ (most_blocks ∷ beyond a)) (beyond q ++ (most_blocks ∷ beyond b)) e)

back_guard : (live : Bool) (t : Told) → (back_on live t).guard ≡ t.guard
unfolding settle fresh
back_guard true t = refl
back_guard false t = refl

-- the image and the package of a device, by what it tells
pub by_guard : (d : StepFlash) (image file : List ℕ) → (told_of d).guard ≡ guard_with image file
    → (image_of d ≡ image) × (package_of d ≡ file)
by_guard d image file is =
    let s = d.device.value in
    let was = image_of d in
    let had = package_of d in
    let same = same_guard had file was image
    (sym (back_guard s.live (after_steps s) ∙ run_guard had s.room.items (start_with was had) s.steps.items ∙ fresh_guard (guard_with was had) was) ∙ is) in
    (same.image, same.file)
