-- The machine's answers to the calls of a sending.
use Rattle.std.proofs.Common.{◌≡◌, cond, ◌≢◌, get_or-set_other, ℕ, suc, ◌+◌, ◌<◌, ◌≤◌, Bool, true, false, List, [], ◌∷◌, ◌++◌, map, length, get_or, set, replicate, Option, Some, None, refl, sym, ap, ◌∙◌, arith, length-append}
use Rattle.std.proofs.lemmas.List.{length-set}
use Rattle.agent_machine.specs.Filling.{between, filled}
use Rattle.std.specs.Prelude.{not, ◌&&◌, ◌%◌}
use Rattle.std.specs.List.{list_all, range_with_len}
use Rattle.fwu_model.specs.State.{State, bank, freed, is_invalid, update_bank, after}
use Rattle.fwu_model.specs.State as move
use Rattle.fwu_formats.specs.Manifest.{is_complete}
use Rattle.fwu_model.specs.Sound.{Setting, is_permitted}
use Rattle.fwu_model.specs.Session.{On, Staged, Handle, Nothing, Committed, no_handles, is_committed}
use Rattle.fwu_model.specs.declared.kinds.Status.TheVariants as status
use Rattle.fwu_model.specs.Call as call
use Rattle.fwu_model.specs.Reply as reply
use Rattle.fwu_model.specs.Answer.{Answer, answer, answer_end, answer_begin, answer_cancel, cannot_begin, begin_moves, may_install, staged_package, staged_bits, answered, refused}
use Rattle.update_client.specs.Images.{sent_parts}

-- ---- the images that are sent

pub set-place : (xs ys : List Staged) (y z : Staged) → set (xs ++ y ∷ ys) (length xs) z ≡ xs ++ z ∷ ys
set-place [] ys y z = refl
set-place (x ∷ xs) ys y z = ap (λ (l : List Staged). x ∷ l) (set-place xs ys y z)

pub sent-long : (parts : List Staged) (images : List (List ℕ)) (places : List ℕ) (bit : Bool) → length (sent_parts parts images places bit) ≡ length parts
sent-long parts [] places bit = refl
sent-long parts (b ∷ images) [] bit = refl
sent-long parts (b ∷ images) (p ∷ places) bit =
    sent-long (set parts p (Committed b bit)) images places bit ∙ length-set parts p (Committed b bit)

pub sent-next : (parts : List Staged) (images : List (List ℕ)) (places : List ℕ) (bit : Bool) (bytes : List ℕ) → length images < length places
    → filled (sent_parts parts images places bit) (get_or places (length images) 0) bytes bit ≡ sent_parts parts (images ++ bytes ∷ []) places bit
sent-next parts [] [] bit bytes lt = absurd (omega (arith, lt))
sent-next parts [] (p ∷ places) bit bytes lt = refl
sent-next parts (b ∷ images) [] bit bytes lt = absurd (omega (arith, lt))
sent-next parts (b ∷ images) (p ∷ places) bit bytes lt = sent-next (set parts p (Committed b bit)) images places bit bytes (omega (arith, lt))

-- another image stays as it was
pub sent-other : (parts : List Staged) (images : List (List ℕ)) (places : List ℕ) (bit : Bool) (i : ℕ) → length images ≤ length places
    → ((j : ℕ) → j < length images → get_or places j 0 ≢ i) → get_or (sent_parts parts images places bit) i Nothing ≡ get_or parts i Nothing
sent-other parts [] places bit i le apart = refl
sent-other parts (b ∷ images) [] bit i le apart = refl
sent-other parts (b ∷ images) (p ∷ places) bit i le apart =
    sent-other (set parts p (Committed b bit)) images places bit i (omega (arith, le)) (λ j lt. apart (suc j) (omega (arith, lt)))
    ∙ get_or-set_other parts p i (Committed b bit) Nothing (λ e. apart 0 (omega arith) (sym e))

pub append-one : (l : List Staged) (y : Staged) (rest : List Staged) → (l ++ y ∷ []) ++ rest ≡ l ++ y ∷ rest
append-one [] y rest = refl
append-one (x ∷ l) y rest = ap (λ (ys : List Staged). x ∷ ys) (append-one l y rest)

-- all images of a layout, one after another
pub sent-all : (front : List Staged) (images : List (List ℕ)) (a : ℕ) (bit : Bool) → length front ≡ a
    → sent_parts (front ++ replicate (length images) Nothing) images (range_with_len a (length images)) bit
    ≡ front ++ map (λ (b : List ℕ). Committed b bit) images
sent-all front [] a bit size = refl
sent-all front (b ∷ images) a bit size =
    let c = Committed b bit in
    let more : length (front ++ c ∷ []) ≡ a + 1 = omega (arith, length-append front (c ∷ []), size) in
    ap (λ (ps : List Staged). sent_parts ps images (range_with_len (a + 1) (length images)) bit)
    (ap (λ (i : ℕ). set (front ++ Nothing ∷ replicate (length images) Nothing) i c) (sym size)
    ∙ set-place front (replicate (length images) Nothing) Nothing c ∙ sym (append-one front c (replicate (length images) Nothing)))
    ∙ sent-all (front ++ c ∷ []) images (a + 1) bit more
    ∙ append-one front c (map (λ (x : List ℕ). Committed x bit) images)

-- ---- the end, and the begin

-- what is staged is this package with these bits
pub record IsPacked (sent : List Staged) (p : List (List ℕ)) (bits : List Bool) : Type 0 where
  pub package_is : staged_package sent ≡ p
  pub bits_are : staged_bits sent ≡ bits
  pub committed : list_all is_committed sent ≡ true

all-committed : (bit : Bool) (p : List (List ℕ)) → list_all is_committed (map (λ (b : List ℕ). Committed b bit) p) ≡ true
all-committed bit [] = refl
all-committed bit (b ∷ p) = all-committed bit p

package-is : (bit : Bool) (p : List (List ℕ)) → staged_package (map (λ (b : List ℕ). Committed b bit) p) ≡ p
package-is bit [] = refl
package-is bit (b ∷ p) = ap (λ (l : List (List ℕ)). b ∷ l) (package-is bit p)

bits-are : (bit : Bool) (p : List (List ℕ)) → staged_bits (map (λ (b : List ℕ). Committed b bit) p) ≡ replicate (length p) bit
bits-are bit [] = refl
bits-are bit (b ∷ p) = ap (λ (l : List Bool). bit ∷ l) (bits-are bit p)

-- all images of a layout were sent
whole-sent : (n : ℕ) (bit : Bool) (images : List (List ℕ)) → length images ≡ n
    → sent_parts (replicate n Nothing) images (range_with_len 0 n) bit ≡ map (λ (b : List ℕ). Committed b bit) images
whole-sent n bit images all =
    ap (λ (k : ℕ). sent_parts (replicate k Nothing) images (range_with_len 0 k) bit) (sym all) ∙ sent-all [] images 0 bit refl

pub whole-packed : (n : ℕ) (bit : Bool) (images : List (List ℕ)) → length images ≡ n
    → IsPacked (sent_parts (replicate n Nothing) images (range_with_len 0 n) bit) images (replicate n bit)
whole-packed n bit images all =
    let is = whole-sent n bit images all in
    record {
      package_is = ap (λ (ps : List Staged). staged_package ps) is ∙ package-is bit images;
      bits_are = ap (λ (ps : List Staged). staged_bits ps) is ∙ bits-are bit images ∙ ap (λ (k : ℕ). replicate k bit) all;
      committed = ap (λ (ps : List Staged). list_all is_committed ps) is ∙ all-committed bit images;
    }

-- all images committed: the end goes by whether they may be installed
abbrev pub end-answer : Setting → State → ℕ → List Staged → Bool → Answer
end-answer E s boot parts true =
    answered reply.Success (move.Switch (update_bank s) (staged_package parts) (staged_bits parts) ∷ []) (On boot None no_handles)
end-answer E s boot parts false = refused status.AuthFail (between boot parts)

pub end-answers : (E : Setting) (s : State) (boot : ℕ) (parts : List Staged) → list_all is_committed parts ≡ true
    → answer E s (between boot parts) call.End ≡ end-answer E s boot parts (may_install E s (staged_package parts))
unfolding answer answer_end
end-answers E s boot parts all =
    ap (λ (b : Bool). cond (not (b && may_install E s (staged_package parts))) (refused status.AuthFail (On boot (Some parts) no_handles))
    (answered reply.Success (move.Switch (update_bank s) (staged_package parts) (staged_bits parts) ∷ []) (On boot None no_handles))) all
    ∙ by-test (may_install E s (staged_package parts))
  where
    by-test : (b : Bool) → cond (not b) (refused status.AuthFail (between boot parts))
        (answered reply.Success (move.Switch (update_bank s) (staged_package parts) (staged_bits parts) ∷ []) (On boot None no_handles))
        ≡ end-answer E s boot parts b
    by-test true = refl
    by-test false = refl

-- what a begin moves changes neither the counter nor which bank is the update bank

pub begun-keeps : (s : State) → (update_bank (after s (begin_moves s)) ≡ update_bank s)
    × ((after s (begin_moves s)).counter ≡ s.counter)
begun-keeps s = by-state (is_invalid (bank s (update_bank s)).state)
  where
    by-state : (b : Bool) → (update_bank (after s (cond b [] (move.Free (update_bank s) ∷ []))) ≡ update_bank s)
        × ((after s (cond b [] (move.Free (update_bank s) ∷ []))).counter ≡ s.counter)
    by-state true = (refl, refl)
    by-state false = (ap (λ (k : ℕ). (s.active + 1) % k) (length-set s.banks (update_bank s) (freed (bank s (update_bank s)))), refl)

pub begun-may : (E : Setting) (s : State) (p : List (List ℕ)) → may_install E (after s (begin_moves s)) p ≡ may_install E s p
begun-may E s p = ap (λ (k : ℕ). is_complete E.layout.rows p && is_permitted E k p) (begun-keeps s).1

-- the begin
pub begin-answers : (E : Setting) (s : State) (boot : ℕ) (staging : Option (List Staged)) (handles : List Handle) (n : ℕ)
    → length E.layout.rows ≡ n
    → answer E s (On boot staging handles) (call.Begin 0) ≡ cond (cannot_begin s boot staging) (refused status.Denied (On boot staging handles))
    (answered reply.Success (begin_moves s) (between boot (replicate n Nothing)))
unfolding answer answer_begin
begin-answers E s boot staging handles n all =
    ap (λ (k : ℕ). cond (cannot_begin s boot staging) (refused status.Denied (On boot staging handles))
    (answered reply.Success (begin_moves s) (On boot (Some (replicate k Nothing)) no_handles))) all

-- a cancel within a staging
pub cancel-answers : (E : Setting) (s : State) (boot : ℕ) (parts : List Staged) (handles : List Handle)
    → answer E s (On boot (Some parts) handles) call.Cancel ≡ answered reply.Success [] (On boot None no_handles)
unfolding answer answer_cancel
cancel-answers E s boot parts handles = refl
