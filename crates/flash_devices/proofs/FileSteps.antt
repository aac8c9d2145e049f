-- What a write to a file that failed leaves of it.
use Rattle.std.proofs.Common.{◌≡◌, ◌+◌, ℕ, Bool, true, List, [], ◌++◌, take, drop, min, length, Some, Ok, Err, sym, ◌∙◌, ap, subst, arith}
use Rattle.std.proofs.lemmas.Bool.{false≢true}
use Rattle.std.proofs.lemmas.List.{take_min, append-nil, take-append-drop}
use Rattle.std.specs.Prelude.{Option, Result, is_err, ◌==◌, if◌then◌else◌}
use Rattle.base_core.specs.Bytes.{overwritten}
use Rattle.flash_core.specs.{declared.flash.Arming.Arming, declared.flash.FlashStop.FlashStop}
use Rattle.flash_core.specs.declared.flash.FlashStop.TheVariants.{Lost, Failed}
use Rattle.flash_devices.specs.{File.to_write, File.LeavesFile, Meters.is_failed}
use Rattle.flash_devices.specs.ByteFiles.{FailsWithin, written_over, WritesBytes}

-- a write failed as the file tells it
pub failed_as_told : {T U E : Type 0} (result : Result T FlashStop) (write : Result U E) (told : Option Bool) (old : Option (List ℕ)) (at place : ℕ) (part whole : List ℕ)
    → result ≡ Err Failed → is_err write ≡ true → place ≡ at → part ≡ whole → FailsWithin told old place (length part) (is_err write) → FailsWithin told old at (length whole) (is_failed result)
failed_as_told result write told old at place part whole is failed there same within =
    rw (← there, ← same, is) (subst (λ b. FailsWithin told old place (length part) b) failed within)

-- a failed write leaves some of the first bytes that were to be written
pub failed_write : {T U E : Type 0} (result : Result T FlashStop) (write : Result U E) (arming : Option Arming) (at place : ℕ) (bytes part : List ℕ) (old new after : Option (List ℕ))
    → result ≡ Err Failed → is_err write ≡ true → place ≡ at → part ≡ to_write arming bytes → after ≡ new → WritesBytes write place part old new → LeavesFile result arming at bytes old after
failed_write (Ok x) write arming at place bytes part old new after is failed there same stays writes = absurd (cc)
failed_write (Err Lost) write arming at place bytes part old new after is failed there same stays writes = absurd (cc)
failed_write (Err Failed) (Ok x) arming at place bytes part old new after is failed there same stays writes = absurd (false≢true failed)
failed_write (Err Failed) (Err e) arming at place bytes part old new after is failed there same stays (n, left) =
    (n, stays ∙ left ∙ ap (λ a. written_over a (take n part) old) there ∙ ap (λ (l : List ℕ). written_over at (take n l) old) same)

-- where an arming is due, its first bytes are to be written
pub due_write : (arming : Option Arming) (armed : Arming) (landed : ℕ) (bytes : List ℕ) → arming ≡ Some armed → armed.n ≡ 1 → landed ≡ min (length bytes) armed.k → take landed bytes ≡ to_write arming bytes
due_write arming armed landed bytes is due front =
    ap (λ n. take n bytes) (front ∙ omega arith)
    ∙ take_min armed.k bytes
    ∙ sym (ap (λ (a : Option Arming). to_write a bytes) is ∙ ap (λ n. if n == 1 then take armed.k bytes else bytes) due)

overwritten_by_none : (at : ℕ) (all : List ℕ) → overwritten at [] all ≡ all
unfolding overwritten
overwritten_by_none at all = ap (λ (l : List ℕ). l ++ drop (at + 0) all) (append-nil (take at all)) ∙ ap (λ n. take at all ++ drop n all) (omega arith) ∙ take-append-drop at all

-- an error that wrote nothing
pub nothing_written : {T E : Type 0} (result : Result T E) (at : ℕ) (bytes all after : List ℕ) → is_err result ≡ true → after ≡ all → WritesBytes result at bytes (Some all) (Some after)
nothing_written (Ok x) at bytes all after failed same = absurd (false≢true failed)
nothing_written (Err e) at bytes all after failed same = (0, ap (λ (l : List ℕ). Some l) (same ∙ sym (overwritten_by_none at all)))
