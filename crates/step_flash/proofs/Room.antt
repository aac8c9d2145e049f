-- The bytes of the room, by the steps whose bytes they are.
use Rattle.std.proofs.Common.{◌≡◌, ◌∙◌, ap, refl, ℕ, ◌+◌, List, [], ◌∷◌, ◌++◌, arith}
use Rattle.std.proofs.lemmas.List.Sums.{fold-append}
use Rattle.step_flash.specs.{declared.step.Step.Step, Steps.bytes_in_room, Steps.room_bytes}

pub no_room_bytes : room_bytes [] ≡ 0
unfolding room_bytes
no_room_bytes = refl

pub room_more : (ss : List Step) (s : Step) (n : ℕ) → bytes_in_room s ≡ n → room_bytes (ss ++ s ∷ []) ≡ room_bytes ss + n
unfolding room_bytes
room_more ss s n is = fold-append (λ (m : ℕ) (x : Step). m + bytes_in_room x) 0 ss _ ∙ ap (λ k. room_bytes ss + k) is

-- a step that has none
pub room_same : (ss : List Step) (s : Step) → bytes_in_room s ≡ 0 → room_bytes (ss ++ s ∷ []) ≡ room_bytes ss
room_same ss s none = room_more ss s 0 none ∙ omega arith
