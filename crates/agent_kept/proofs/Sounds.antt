-- A session stays sound.
use Rattle.std.proofs.Common.{◌≡◌, ℕ, zero, suc, ◌+◌, ◌≤◌, Bool, true, false, List, ◌∷◌, length, get_or, map, replicate, cond, Option, Some, None, refl, sym, ap, ap₂, ◌∙◌, arith}
use Rattle.std.proofs.lemmas.Grind.{common_steps}
use Rattle.std.specs.List.{range_with_len}
use Rattle.fwu_model.specs.Session as machine
use Rattle.fwu_model.specs.Session.{Staged}
use Rattle.agent_kept.specs.{declared.parts.Part.Part, declared.parts.Part.TheVariants.Nothing, declared.parts.Handle.Handle}
use Rattle.agent_kept.specs.Kept.{Kept, HasNothing, part_meant, parts_meant, handle_meant, session_meant}
use Rattle.agent_kept.specs.declared.parts.Handle.TheVariants.{Free, Reads, Writes}
use Rattle.agent_kept.specs.Sound.{size_of, slot_room_of, IsSoundKept}
use Rattle.fwu_formats.specs.Layout.{ImageRow}

pub not-free-writes : (image : ℕ) → Free ≡ Writes image → ⊥
not-free-writes image e = cc

pub not-free-reads : (image : Option ℕ) (at total : ℕ) → Free ≡ Reads image at total → ⊥
not-free-reads image at total e = cc

pub new-sound : (staging : Bool) (rows : List ImageRow) (parts : List Part) (handles : List Handle) → length rows ≤ 16 → ((image : ℕ) → slot_room_of rows image ≤ 1048576)
    → ((image : ℕ) → get_or parts image Nothing ≡ Nothing) → ((place : ℕ) → get_or handles place Free ≡ Free) → IsSoundKept staging rows parts handles
new-sound staging rows parts handles few slots nothing free = record {
  few = few;
  slots = slots;
  sizes = λ image lt. let e : size_of (get_or parts image Nothing) ≡ 0 = ap size_of (nothing image) in omega (arith, e);
  within = λ place image e. absurd (not-free-writes image (sym (free place) ∙ e));
  opened = λ place image e. absurd (not-free-writes image (sym (free place) ∙ e));
  alone = λ place other image e f. absurd (not-free-writes image (sym (free place) ∙ e));
  staged = λ place image e. absurd (not-free-writes image (sym (free place) ∙ e));
  readers = λ place image at total e. absurd (not-free-reads image at total (sym (free place) ∙ e));
}

pub frees : (n place : ℕ) → get_or (replicate n Free) place Free ≡ Free
frees n place = grind (arith, common_steps)

-- ---- the session that is meant after a restart

pub none-listed : (f : ℕ → Staged) (a n : ℕ) → ((i : ℕ) → f i ≡ machine.Nothing) → map f (range_with_len a n) ≡ replicate n machine.Nothing
none-listed f a zero none = refl
none-listed f a (suc n) none = ap₂ (λ (x : Staged) (xs : List Staged). x ∷ xs) (none a) (none-listed f (a + 1) n none)

pub frees-meant : (n : ℕ) → map handle_meant (replicate n Free) ≡ replicate n machine.Free
frees-meant zero = refl
frees-meant (suc n) = ap (λ (xs : List machine.Handle). machine.Free ∷ xs) (frees-meant n)

-- nothing is staged yet: what `begin` leaves
pub restarts-staging : (k : Kept) (boot : ℕ) (staged : ℕ → List ℕ) → HasNothing k → k.staging ≡ true → k.handles ≡ replicate 32 Free
    → session_meant k boot staged ≡ machine.On boot (Some (replicate (length k.rows) machine.Nothing)) machine.no_handles
restarts-staging k boot staged none on closed =
    ap₂ (λ (b : Bool) (hs : List Handle). machine.On boot (cond b (Some (parts_meant k staged)) None) (map handle_meant hs)) on closed
    ∙ ap₂ (λ (ps : List Staged) (hs : List machine.Handle). machine.On boot (Some ps) hs) (none-listed _ 0 (length k.rows) (λ i. ap (λ (p : Part). part_meant p (staged i)) (none i))) (frees-meant 32)

-- the staging is over: what `cancel` and `end` leave
pub restarts-idle : (k : Kept) (boot : ℕ) (staged : ℕ → List ℕ) → k.staging ≡ false → k.handles ≡ replicate 32 Free → session_meant k boot staged ≡ machine.On boot None machine.no_handles
restarts-idle k boot staged off closed =
    ap₂ (λ (b : Bool) (hs : List Handle). machine.On boot (cond b (Some (parts_meant k staged)) None) (map handle_meant hs)) off closed
    ∙ ap (λ (hs : List machine.Handle). machine.On boot None hs) (frees-meant 32)
