-- What a call leaves of a buffer as it was: of a part of it, and of the whole.
use Rattle.std.proofs.Common.{◌≡◌, ℕ, zero, suc, ◌+◌, ◌-◌, ◌≤◌, List, [], ◌∷◌, ◌++◌, length, take, drop, Option, Some, Result, Ok, Err, refl, sym, ap, ◌∙◌, arith}
use Rattle.std.specs.Prelude.{IfOk}
use Rattle.std.proofs.Math.Seq.{take-add}
use Rattle.std.proofs.lemmas.List.{append-nil, drop_all, drop-drop, length-append, length-drop, length-take-le, take_at, take-append-drop}
use Rattle.fwu_model.specs.Call.{Call}
use Rattle.fwu_model.specs.Call as call
use Rattle.fwu_wire.specs.Calls.{FitsFrame}
use Rattle.fwu_wire.specs.Replies.{le_words, message, replied}
use Rattle.fwu_wire.specs.Taken.{LeavesBuffer, count_read}
use Rattle.fwu_wire.specs.declared.replies.AgentReply.{AgentReply}
use Rattle.fwu_wire.specs.declared.replies.AgentReply.TheVariants as wire
use Rattle.fwu_wire.specs.declared.stops.Stop.{Stop}
use Rattle.fwu_wire.specs.declared.stops.Stop.TheVariants as stop
use Rattle.fwu_wire.proofs.Written.{behind-eight}

-- with the same bytes behind both
same-behind : (k : ℕ) (a b rest : List ℕ) → length a ≡ length b → drop k a ≡ drop k b → drop k (a ++ rest) ≡ drop k (b ++ rest)
same-behind zero a b rest long same = ap (λ (l : List ℕ). l ++ rest) same
same-behind (suc k) [] [] rest long same = refl
same-behind (suc k) [] (y ∷ b) rest long same = absurd (cc)
same-behind (suc k) (x ∷ a) [] rest long same = absurd (cc)
same-behind (suc k) (x ∷ a) (y ∷ b) rest long same = same-behind k a b rest (cc) same

-- what a read put at the front of a buffer, and what stands behind its room
pub read-behind : (result : Result AgentReply Stop) (room : ℕ) (out sub : List ℕ) → length sub ≡ length (take room out)
    → IfOk result (λ r. drop (count_read r) sub ≡ drop (count_read r) (take room out))
    → IfOk result (λ r. drop (count_read r) (sub ++ drop room out) ≡ drop (count_read r) out)
read-behind (Ok r) room out sub long same =
    same-behind (count_read r) sub (take room out) (drop room out) long same ∙ ap (drop (count_read r)) (take-append-drop room out)
read-behind (Err why) room out sub long same = tt

-- a buffer that is written from place 8 on, to its end
abbrev pub over-eight : List ℕ → List ℕ → List ℕ
over-eight out sub = take 8 out ++ (sub ++ drop (length out - 8) (drop 8 out))

same-over : (out sub : List ℕ) → 8 ≤ length out → sub ≡ drop 8 out → over-eight out sub ≡ out
same-over out sub room same =
    ap (λ (l : List ℕ). take 8 out ++ (sub ++ l)) (drop_all (length out - 8) (drop 8 out) (omega (arith, length-drop 8 out)))
    ∙ ap (λ (l : List ℕ). take 8 out ++ l) (append-nil sub ∙ same) ∙ take-append-drop 8 out

front-over : (at : ℕ) (out sub : List ℕ) → 8 ≤ length out → take at sub ≡ take at (drop 8 out) → take (8 + at) (over-eight out sub) ≡ take (8 + at) out
front-over at out sub room same =
    take-add 8 at (over-eight out sub)
    ∙ ap (λ (l : List ℕ). l ++ take at (drop 8 (over-eight out sub))) (take_at (take 8 out) (sub ++ drop (length out - 8) (drop 8 out)) 8 (length-take-le 8 out room))
    ∙ ap (λ (l : List ℕ). take 8 out ++ take at l) (behind-eight out sub room)
    ∙ ap (λ (l : List ℕ). take 8 out ++ l) same ∙ sym (take-add 8 at out)

behind-over : (n : ℕ) (out sub : List ℕ) → 8 ≤ length out → drop n sub ≡ drop n (drop 8 out) → drop (8 + n) (over-eight out sub) ≡ drop (8 + n) out
behind-over n out sub room same =
    sym (drop-drop n 8 (over-eight out sub)) ∙ ap (drop n) (behind-eight out sub room) ∙ same ∙ drop-drop n 8 out

-- a stop
pub stops-over : (at : ℕ) (asked : Option Call) (why : Stop) (out sub : List ℕ) → 8 ≤ length out → LeavesBuffer at asked why (drop 8 out) sub
    → LeavesBuffer (8 + at) asked why out (over-eight out sub)
stops-over at (Some (call.Read handle n)) stop.Gone out sub room same = same-over out sub room same
stops-over at (Some (call.Read handle n)) stop.Lost out sub room same =
    (front-over at out sub room same.0, ap (λ (k : ℕ). drop k (over-eight out sub)) (omega arith) ∙ behind-over (at + n) out sub room same.1 ∙ ap (λ (k : ℕ). drop k out) (omega arith))
stops-over at (Some (call.Read handle n)) stop.Fault out sub room same =
    (front-over at out sub room same.0, ap (λ (k : ℕ). drop k (over-eight out sub)) (omega arith) ∙ behind-over (at + n) out sub room same.1 ∙ ap (λ (k : ℕ). drop k out) (omega arith))
stops-over at asked why out sub room same = same-over out sub room same

-- a reply
pub reply-over : (reply : AgentReply) (n : ℕ) (out sub : List ℕ) → 4104 ≤ length out → FitsFrame reply → n ≡ length (message (replied reply (drop 8 (over-eight out sub))))
    → length sub ≡ length out - 8 → drop (count_read reply) sub ≡ drop (count_read reply) (drop 8 out) → drop n (over-eight out sub) ≡ drop n out
unfolding message
reply-over (wire.Got total count) n out sub room fits size long same =
    let got = take count (drop 8 (over-eight out sub)) in
    let few : length got ≡ count = length-take-le count (drop 8 (over-eight out sub)) (omega (arith, room, fits, long, ap length (behind-eight out sub (omega (arith, room))))) in
    let at : n ≡ 8 + count = omega (arith, size, few, length-append (le_words (0 ∷ total ∷ [])) got) in
    ap (λ (k : ℕ). drop k (over-eight out sub)) at ∙ behind-over count out sub (omega (arith, room)) same ∙ ap (λ (k : ℕ). drop k out) (sym at)
reply-over other n out sub room fits size long same = ap (drop n) (same-over out sub (omega (arith, room)) same)
