-- The calls of a script, line by line.
use Rattle.std.proofs.Common.{◌≡◌, ℕ, ◌+◌, ◌<◌, Bool, true, false, ◌==◌, List, [], ◌∷◌, ◌++◌, length, Option, Some, None, Result, Ok, Err, refl, sym, ap, ◌∙◌, arith, append_assoc, append-nil, eqb-true}
use Rattle.std.specs.List.{cons_option}
use Rattle.fwu_model.specs.Call.{Call}
use Rattle.fwu_model.specs.Script.{line_of, script_lines, onto_calls, after_line, calls_from}

-- the calls that were read before these
abbrev pub behind : List Call → Result (List Call) ℕ → Result (List Call) ℕ
behind front (Ok later) = Ok (front ++ later)
behind front (Err line) = Err line

-- the calls from line n on
abbrev pub from_line : ℕ → List ℕ → Result (List Call) ℕ
from_line n rest = calls_from line_of n (script_lines rest)

pub bad_line : (front : List Call) (n : ℕ) (rest line others : List ℕ) → script_lines rest ≡ line ∷ script_lines others → line_of line ≡ None → behind front (from_line n rest) ≡ Err n
bad_line front n rest line others parts bad =
    ap (λ (l : List (List ℕ)). behind front (calls_from line_of n l)) parts ∙ ap (λ (o : Option (Option Call)). behind front (after_line n o (from_line (n + 1) others))) bad

onto_front : (front : List Call) (content : Option Call) (later : Result (List Call) ℕ) → behind front (onto_calls content later) ≡ behind (front ++ cons_option content []) later
onto_front front None (Ok later) = ap (λ (l : List Call). Ok (l ++ later)) (sym (append-nil front))
onto_front front (Some call) (Ok later) = ap Ok (sym (append_assoc front (call ∷ []) later))
onto_front front content (Err line) = refl

pub next_line : (front : List Call) (n : ℕ) (rest line others : List ℕ) (content : Option Call) (more : List Call)
    → script_lines rest ≡ line ∷ script_lines others → line_of line ≡ Some content → more ≡ front ++ cons_option content []
    → behind front (from_line n rest) ≡ behind more (from_line (n + 1) others)
next_line front n rest line others content more parts good is =
    ap (λ (l : List (List ℕ)). behind front (calls_from line_of n l)) parts
    ∙ ap (λ (o : Option (Option Call)). behind front (after_line n o (from_line (n + 1) others))) good
    ∙ onto_front front content (from_line (n + 1) others)
    ∙ ap (λ (l : List Call). behind l (from_line (n + 1) others)) (sym is)

pub at_end : (front : List Call) (n : ℕ) (rest : List ℕ) → rest ≡ [] → behind front (from_line n rest) ≡ Ok front
at_end front n rest none = ap (λ (l : List ℕ). behind front (from_line n l)) none ∙ ap Ok (append-nil front)

pub some_left : (b : Bool) (rest : List ℕ) → b ≡ (length rest == 0) → b ≡ false → 0 < length rest
some_left b [] is h = absurd cc
some_left b (x ∷ xs) is h = omega arith

pub none_left : (b : Bool) (rest : List ℕ) → b ≡ (length rest == 0) → b ≡ true → rest ≡ []
none_left b [] is h = refl
none_left b (x ∷ xs) is h = absurd (omega (arith, eqb-true (length (x ∷ xs)) 0 (sym is ∙ h)))

pub front_of_none : (later : Result (List Call) ℕ) → behind [] later ≡ later
front_of_none (Ok later) = refl
front_of_none (Err line) = refl
