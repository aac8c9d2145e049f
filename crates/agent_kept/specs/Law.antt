-- Laws of what is kept.
use Rattle.std.specs.Prelude.{◌≡◌, ℕ, ◌≤◌, List, length}
use Rattle.fwu_model.specs.{State.State, Sound.Setting, Answer.may_end}
use Rattle.agent_kept.specs.{Kept.Kept, Kept.IsKept, Kept.parts_meant, Judged.is_installable}

-- What is kept of the staged images says whether the machine may install them.
abbrev pub JudgingIsExact : Type 0
JudgingIsExact = (E : Setting) (s : State) (k : Kept) (staged : ℕ → List ℕ) → k.rows ≡ E.layout.rows → 1 ≤ length k.rows
    → IsKept k staged
    → is_installable E.passes s.counter k ≡ may_end E s (parts_meant k staged)
