-- What a device promises of its steps holds with one more of them.
use Rattle.std.proofs.Common.{◌≡◌, inl, inr, ℕ, ◌+◌, ◌*◌, ◌%◌, ◌≤◌, true, List, [], ◌∷◌, ◌++◌, All, length, subst, sym, ap, ◌∙◌, arith, refl}
use Rattle.std.proofs.lemmas.List.{length-append}
use Rattle.std.proofs.lemmas.List.Elements.{All-push}
use Rattle.std.proofs.lemmas.List.Sums.{fold-append}
use Rattle.base_core.specs.Block.{blank, block_bytes}
use Rattle.base_core.proofs.Blocks.{length-blank}
use Rattle.flash_core.specs.Told.{Told, IsSound, put}
use Rattle.step_flash.specs.declared.step.Step.{Step}
use Rattle.step_flash.specs.Steps.{AreDoable, IsDoable, IsInsideWith, NotesBytes, StandsAt, TakesProgram, barrier_step, bytes_in_room, copy_step, erase_step, program_step, room_bytes, run_step, run_with}
use Rattle.step_flash.proofs.{Grows.copy_noted, Grows.program_noted, Room.room_more, Room.room_same}
use Rattle.step_flash.proofs.Doable.{barrier_doable, doable_more, erase_doable, program_doable, program_more}
use Rattle.step_flash.proofs.Sounds.{sound_put, sound_settle}

-- what the ghost fields of a device say of its steps
pub record Fits (blocks : ℕ) (file room : List ℕ) (t : Told) (ss : List Step) : Type 0 where
  pub inside : All (IsInsideWith (length file) (length room) (block_bytes * blocks)) ss
  pub doable : AreDoable file room t ss
  pub theirs : length room ≡ room_bytes ss
  pub sound : IsSound blocks true (run_with file room t ss)

inside_grown : (file room more size : ℕ) (ss : List Step) → room ≤ more → All (IsInsideWith file room size) ss → All (IsInsideWith file more size) ss
inside_grown file room more size ss grown all = λ k d h.
    let s = all k d h in
    record { known = s.known; block = s.block; copied = s.copied; bytes = λ a b. omega (arith, s.bytes a b, grown); place = s.place }

-- ---- one step more, whose bytes don't stand in the room

pub run_push : (file room : List ℕ) (t : Told) (ss : List Step) (s : Step) → run_with file room t (ss ++ s ∷ []) ≡ run_step file room (run_with file room t ss) s
unfolding run_with
run_push file room t ss s = fold-append (run_step file room) t ss (s ∷ [])

one_more : (blocks : ℕ) (file room : List ℕ) (t : Told) (ss : List Step) (s : Step) → Fits blocks file room t ss
    → IsInsideWith (length file) (length room) (block_bytes * blocks) s → IsDoable (run_with file room t ss) s → bytes_in_room s ≡ 0
    → IsSound blocks true (run_step file room (run_with file room t ss) s) → Fits blocks file room t (ss ++ s ∷ [])
one_more blocks file room t ss s f inside doable none sound = record {
  inside = All-push (IsInsideWith (length file) (length room) (block_bytes * blocks)) ss s f.inside inside;
  doable = doable_more file room t ss s f.doable doable;
  theirs = f.theirs ∙ sym (room_same ss s none);
  sound = subst (IsSound blocks true) (sym (run_push file room t ss s)) sound;
}

pub erase_fits : (blocks : ℕ) (file room : List ℕ) (t : Told) (ss : List Step) (at : ℕ) → at % block_bytes ≡ 0
    → at + block_bytes ≤ block_bytes * blocks → Fits blocks file room t ss → Fits blocks file room t (ss ++ erase_step at ∷ [])
erase_fits blocks file room t ss at place fits f =
    one_more blocks file room t ss (erase_step at) f
    (record {
      known = (omega arith, omega arith);
      block = λ _. refl;
      copied = λ e. absurd (omega (arith, e));
      bytes = λ other _. absurd (other refl);
      place = fits;
    })
    (erase_doable _ at place) refl (sound_put blocks at (blank block_bytes) _ f.sound (omega (arith, fits, length-blank block_bytes)))

pub barrier_fits : (blocks : ℕ) (file room : List ℕ) (t : Told) (ss : List Step) → Fits blocks file room t ss
    → Fits blocks file room t (ss ++ barrier_step ∷ [])
barrier_fits blocks file room t ss f =
    one_more blocks file room t ss barrier_step f
    (record {
      known = (omega arith, omega arith);
      block = λ e. absurd (omega (arith, e));
      copied = λ e. absurd (omega (arith, e));
      bytes = λ _ _. omega arith;
      place = omega arith;
    })
    (barrier_doable _) refl (sound_settle blocks _ f.sound)

copy_fits : (blocks at from : ℕ) (file bytes : List ℕ) (t : Told) (ss : List Step) (room : List ℕ) → at + length bytes ≤ block_bytes * blocks
    → TakesProgram (run_with file room t ss) at (length bytes) → Fits blocks file room t ss → StandsAt file from bytes
    → Fits blocks file room t (ss ++ copy_step at (length bytes) from ∷ [])
copy_fits blocks at from file bytes t ss room fits takes f stands =
    one_more blocks file room t ss (copy_step at (length bytes) from) f
    (record {
      known = (omega arith, omega arith);
      block = λ e. absurd (omega (arith, e));
      copied = λ _. (omega (arith, takes.some), stands.fits);
      bytes = λ _ other. absurd (other refl);
      place = fits;
    })
    (program_doable _ 4 at (length bytes) from (λ e. omega (arith, e)) (λ e. omega (arith, e)) takes) refl
    (subst (IsSound blocks true) (sym (copy_noted file room bytes at from t ss stands) ∙ run_push file room t ss (copy_step at (length bytes) from))
    (sound_put blocks at bytes _ f.sound fits))

-- ---- a program whose bytes stand in the room

own_fits : (blocks at : ℕ) (file bytes : List ℕ) (t : Told) (ss : List Step) (room : List ℕ) → at + length bytes ≤ block_bytes * blocks
    → TakesProgram (run_with file room t ss) at (length bytes) → Fits blocks file room t ss
    → Fits blocks file (room ++ bytes) t (ss ++ program_step at (length bytes) (length room) ∷ [])
own_fits blocks at file bytes t ss room fits takes f =
    let long : length room + length bytes ≤ length (room ++ bytes) = omega (arith, length-append room bytes) in
    let more = length (room ++ bytes) in
    record {
      inside = All-push (IsInsideWith (length file) more (block_bytes * blocks)) ss (program_step at (length bytes) (length room))
          (inside_grown (length file) (length room) more (block_bytes * blocks) ss (omega (arith, long)) f.inside)
          (record {
            known = (omega arith, omega arith);
            block = λ e. absurd (omega (arith, e));
            copied = λ e. absurd (omega (arith, e));
            bytes = λ _ _. long;
            place = fits;
          });
      doable = program_more file room bytes (block_bytes * blocks) at t ss f.inside f.doable takes;
      theirs = length-append room bytes ∙ ap (λ n. n + length bytes) f.theirs ∙ sym (room_more ss (program_step at (length bytes) (length room)) (length bytes) refl);
      sound = subst (IsSound blocks true) (sym (program_noted file room bytes (block_bytes * blocks) at t ss f.inside)) (sound_put blocks at bytes _ f.sound fits);
    }

-- ---- a program, noted in either way

pub program_run : (blocks at : ℕ) (file bytes : List ℕ) (t : Told) (ss new : List Step) (room more : List ℕ) → Fits blocks file room t ss
    → NotesBytes file at bytes ss room new more → run_with file more t new ≡ put at bytes (run_with file room t ss)
program_run blocks at file bytes t ss new room more f (inl copy) = rw (copy.2, copy.3) (copy_noted file room bytes at copy.0 t ss copy.1)
program_run blocks at file bytes t ss new room more f (inr own) = rw (own.0, own.1) (program_noted file room bytes (block_bytes * blocks) at t ss f.inside)

pub program_fits : (blocks at : ℕ) (file bytes : List ℕ) (t : Told) (ss new : List Step) (room more : List ℕ)
    → at + length bytes ≤ block_bytes * blocks → TakesProgram (run_with file room t ss) at (length bytes) → Fits blocks file room t ss
    → NotesBytes file at bytes ss room new more → Fits blocks file more t new
program_fits blocks at file bytes t ss new room more fits takes f (inl copy) =
    rw (copy.2, copy.3) (copy_fits blocks at copy.0 file bytes t ss room fits takes f copy.1)
program_fits blocks at file bytes t ss new room more fits takes f (inr own) = rw (own.0, own.1) (own_fits blocks at file bytes t ss room fits takes f)
