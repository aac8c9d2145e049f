-- The laws of scripts, line by line.
use Rattle.std.proofs.Common.{◌≡◌, ℕ, ◌+◌, ◌≤◌, Bool, cond, ◌==◌, nat_le, List, [], ◌∷◌, length, Option, Some, None, Result, Ok, Err, refl, ap, subst, arith, leb-true, nat_lt}
use Rattle.std.specs.Prelude.{codes, decimal, option_map, option_and_then, ◌&&◌}
use Rattle.std.specs.List.{slice_split, AllByRecursion}
use Rattle.std.proofs.lemmas.Bool.{cond_both, and_parts, eqb-false}
use Rattle.std.proofs.lemmas.List.Elements.{All-from_recursion}
use Rattle.std.proofs.lemmas.Option.{cond_some}
use Rattle.base_core.specs.Bytes.{same_bytes}
use Rattle.fwu_model.specs.Call.{Call}
use Rattle.fwu_model.specs.Script.{both, open_in_mode, simple_call, call_of_three, call_of_words, line_of, after_line, calls_from, script_lines, script_of, call_of_four, call_of_others, begin_call, names_limit, types_of}
use Rattle.fwu_model.specs.Call as call
use Rattle.fwu_formats.specs.Words.{is_word, digits_value, named, number_of, number_up_to, bytes_of, file_word_of, request_of, at_least_one}
use Rattle.script_text.specs.{Armable.IsArmable, Law.CutsAreArmable, Law.CallsHaveLines}

abbrev Outcome : Type 0
Outcome = Result (List Call) ℕ

-- ---- lines and calls

few_line : (n k : ℕ) (o : Option (Option Call)) (later : Outcome) → ((calls : List Call) → later ≡ Ok calls → length calls ≤ k) → (calls : List Call) → after_line n o later ≡ Ok calls → length calls ≤ k + 1
few_line n k None later few calls e = absurd cc
few_line n k (Some None) (Ok later) few calls e =
    let same : calls ≡ later = cc in
    omega (arith, few later refl, ap length same)
few_line n k (Some (Some c)) (Ok later) few calls e =
    let same : calls ≡ c ∷ later = cc in
    omega (arith, few later refl, ap length same)
few_line n k (Some None) (Err line) few calls e = absurd cc
few_line n k (Some (Some c)) (Err line) few calls e = absurd cc

few_from : (lines : List (List ℕ)) (n : ℕ) (calls : List Call) → calls_from line_of n lines ≡ Ok calls → length calls ≤ length lines
few_from [] n [] e = omega arith
few_from [] n (c ∷ calls) e = absurd cc
few_from (x ∷ xs) n calls e = omega (arith, few_line n (length xs) (line_of x) (calls_from line_of (n + 1) xs) (few_from xs (n + 1)) calls e)

pub calls-have-lines : CallsHaveLines
unfolding script_of
calls-have-lines bytes calls e = few_from (script_lines bytes) 1 calls e

-- ---- cuts

abbrev Sound : Option Call → Type 0
Sound None = Unit {0}
Sound (Some c) = IsArmable c

choice : (b : Bool) (x y : Option Call) → Sound x → Sound y → Sound (cond b x y)
choice b x y one other = cond_both b x y Sound (λ _. one) (λ _. other)

sound_simple : (w : List ℕ) → Sound (simple_call w)
sound_simple w =
    choice (is_word w (codes "discover")) _ _ tt
    (choice (is_word w (codes "begin")) _ _ tt
    (choice (is_word w (codes "end")) _ _ tt
    (choice (is_word w (codes "cancel")) _ _ tt
    (choice (is_word w (codes "previous")) _ _ tt
    (choice (is_word w (codes "boot")) _ _ tt
    (choice (is_word w (codes "show")) _ _ tt tt))))))

sound_two : (w a : List ℕ) → Sound (call_of_others (w ∷ a ∷ []))
sound_two w a = choice (is_word w (codes "accept")) _ _ (accepts (named a)) tt
  where
    accepts : (o : Option (List ℕ)) → Sound (option_map call.Accepts o)
    accepts None = tt
    accepts (Some guid) = tt

sound_begin : (names : List (List ℕ)) → Sound (begin_call names)
sound_begin names = choice (nat_lt names_limit (length names)) _ _ tt (begins (types_of names))
  where
    begins : (o : Option (List (List ℕ))) → Sound (option_map call.BeginPartial o)
    begins None = tt
    begins (Some types) = tt

sound_both : {A B : Type 0} (f : A → B → Call) → ((x : A) (y : B) → IsArmable (f x y)) → (o : Option A) (p : Option B) → Sound (both f o p)
sound_both f each (Some x) (Some y) = each x y
sound_both f each (Some x) None = tt
sound_both f each None (Some y) = tt
sound_both f each None None = tt

sound_open : (o : Option (List ℕ)) (mode : List ℕ) → Sound (option_and_then (λ guid. open_in_mode guid mode) o)
sound_open None mode = tt
sound_open (Some guid) mode = choice (is_word mode (codes "r")) _ _ tt (choice (is_word mode (codes "w")) _ _ tt tt)

number_fits : (w : List ℕ) (n : ℕ) → number_of w ≡ Some n → n ≤ 4294967295
number_fits w n e =
    let found = cond_some (nat_le (length w) 10 && nat_le (digits_value w) 4294967295 && same_bytes w (decimal (digits_value w))) (digits_value w) n e in
    let outer = and_parts (nat_le (length w) 10 && nat_le (digits_value w) 4294967295) (same_bytes w (decimal (digits_value w))) found.0 in
    let inner = and_parts (nat_le (length w) 10) (nat_le (digits_value w) 4294967295) outer.0 in
    let below = leb-true (digits_value w) 4294967295 inner.1 in
    omega (arith, below, found.1)

sound_cut : (o p : Option ℕ) → ((n : ℕ) → o ≡ Some n → n ≤ 4294967295)
    → Sound (both call.Cut (option_and_then at_least_one o) (option_and_then (λ n. cond (nat_le n 4096) (Some n) None) p))
sound_cut None None fits = tt
sound_cut None (Some k) fits = cond_both (nat_le k 4096) (Some k) None (λ (l : Option ℕ). Sound (both call.Cut None l)) (λ _. tt) (λ _. tt)
sound_cut (Some n) None fits = cond_both (n == 0) None (Some n) (λ (l : Option ℕ). Sound (both call.Cut l None)) (λ _. tt) (λ _. tt)
sound_cut (Some n) (Some k) fits =
    cond_both (n == 0) None (Some n) (λ (l : Option ℕ). Sound (both call.Cut l (cond (nat_le k 4096) (Some k) None)))
    (λ _. cond_both (nat_le k 4096) (Some k) None (λ (l : Option ℕ). Sound (both call.Cut None l)) (λ _. tt) (λ _. tt))
    (λ other. cond_both (nat_le k 4096) (Some k) None (λ (l : Option ℕ). Sound (both call.Cut (Some n) l))
    (λ few. let most = leb-true k 4096 few in (omega (arith, eqb-false n 0 other), fits n refl, most))
    (λ _. tt))

sound_three : (w a b : List ℕ) → Sound (call_of_three w a b)
sound_three w a b =
    choice (is_word w (codes "open")) _ _ (sound_open (named a) b)
    (choice (is_word w (codes "write")) _ _ (sound_both call.Write (λ _ _. tt) (number_of a) (bytes_of b))
    (choice (is_word w (codes "read")) _ _ (sound_both call.Read (λ _ _. tt) (number_of a) (number_up_to 4096 b))
    (choice (is_word w (codes "commit")) _ _ (sound_both call.Commit (λ _ _. tt) (number_of a) (request_of b))
    (choice (is_word w (codes "send")) _ _ (sound_both call.Send (λ _ _. tt) (file_word_of a) (request_of b))
    (choice (is_word w (codes "cut")) _ _ (sound_cut (number_of a) (number_of b) (number_fits a)) tt)))))

sound_four : (w a b c : List ℕ) → Sound (call_of_four w a b c)
sound_four w a b c = choice (is_word w (codes "send") && is_word c (codes "partial")) _ _ (sound_both call.SendPartial (λ _ _. tt) (file_word_of a) (request_of b)) tt

sound_others : (words : List (List ℕ)) → Sound (call_of_others words)
sound_others [] = tt
sound_others (w ∷ []) = sound_simple w
sound_others (w ∷ a ∷ []) = sound_two w a
sound_others (w ∷ a ∷ b ∷ []) = sound_three w a b
sound_others (w ∷ a ∷ b ∷ c ∷ []) = sound_four w a b c
sound_others (w ∷ a ∷ b ∷ c ∷ d ∷ more) = tt

sound_words : (words : List (List ℕ)) → Sound (call_of_words words)
sound_words [] = tt
sound_words (w ∷ []) = sound_simple w
sound_words (w ∷ a ∷ more) = choice (is_word w (codes "begin")) _ _ (sound_begin (a ∷ more)) (sound_others (w ∷ a ∷ more))

abbrev SoundLine : Option (Option Call) → Type 0
SoundLine None = Unit {0}
SoundLine (Some o) = Sound o

sound_line : (line : List ℕ) → SoundLine (line_of line)
unfolding line_of
sound_line [] = tt
sound_line (c ∷ rest) = cond_both (c == 35) (Some None) (option_map Some (call_of_words words)) SoundLine (λ _. tt) (λ _. kept (call_of_words words) (sound_words words))
  where
    words : List (List ℕ)
    words = slice_split (λ b. b == 32) (c ∷ rest)

    kept : (o : Option Call) → Sound o → SoundLine (option_map Some o)
    kept None sound = tt
    kept (Some d) sound = sound

abbrev AllArmable : List Call → Type 0
AllArmable = AllByRecursion IsArmable

armable_line : (n : ℕ) (o : Option (Option Call)) → SoundLine o → (later : Outcome) → ((calls : List Call) → later ≡ Ok calls → AllArmable calls) → (calls : List Call) → after_line n o later ≡ Ok calls → AllArmable calls
armable_line n None sound later all calls e = absurd cc
armable_line n (Some None) sound (Ok later) all calls e =
    let same : later ≡ calls = cc in
    subst AllArmable same (all later refl)
armable_line n (Some (Some c)) sound (Ok later) all calls e =
    let same : c ∷ later ≡ calls = cc in
    subst AllArmable same (sound, all later refl)
armable_line n (Some None) sound (Err line) all calls e = absurd cc
armable_line n (Some (Some c)) sound (Err line) all calls e = absurd cc

armable_from : (lines : List (List ℕ)) (n : ℕ) (calls : List Call) → calls_from line_of n lines ≡ Ok calls → AllArmable calls
armable_from [] n [] e = tt
armable_from [] n (c ∷ calls) e = absurd cc
armable_from (x ∷ xs) n calls e = armable_line n (line_of x) (sound_line x) (calls_from line_of (n + 1) xs) (armable_from xs (n + 1)) calls e

pub cuts-are-armable : CutsAreArmable
unfolding script_of
cuts-are-armable bytes calls e = All-from_recursion IsArmable calls (armable_from (script_lines bytes) 1 calls e)
