-- The rounds of a soak, one after the other.
use Rattle.std.proofs.Common.{◌≡◌, ℕ, zero, suc, ◌+◌, ◌-◌, ◌<◌, Bool, List, ◌∷◌, ◌++◌, length, get_or, take, drop, map, Option, Some, None, refl, sym, ap, subst, ◌∙◌, Contains, All, arith, append-nil, append_assoc}
use Rattle.std.specs.Prelude.{IfSome, flat_map, is_some, ◌==◌, []}
use Rattle.std.specs.List.{slice_get}
use Rattle.std.proofs.{lemmas.Bool.cond_both, lemmas.Bool.eqb-false, lemmas.List.drop_more, lemmas.List.take-append-drop}
use Rattle.std.proofs.{lemmas.List.Concat.flat_map-cons, lemmas.Grind.flat_map-append, lemmas.Option.get_or_from_slice_get}
use Rattle.std.proofs.{lemmas.Option.slice_get-get_or, lemmas.Slice.Eq.bytes_eq-Decides, Math.Seq.take-length}
use Rattle.std.proofs.lemmas.List.Elements.{All-append, All-cons, All-contains, All-head, All-nil, All-tail}
use Rattle.host_io.specs.Contents.{Directory}
use Rattle.fwu_formats.specs.Layout.{ImageRow}
use Rattle.fwu_model.specs.{Call.Call, Reply.Turn, Headline.IsPrefixOf, declared.kinds.Note.Note}
use Rattle.fwu_model.specs.Call as call
use Rattle.fwu_model.specs.declared.kinds.Note.TheVariants as note
use Rattle.gen_core.specs.Calls.{accept_calls, cut_calls, ending_calls, file_name, round_calls, round_package, shown as soak_shown}
use Rattle.gen_core.specs.{Draws.draw, Draws.drawn, Draws.register_after, Setup.soak_layout, declared.calls.SoakCall.SoakCall}
use Rattle.gen_core.specs.{declared.rounds.Cut.Cut, declared.rounds.Ending.Ending, declared.rounds.Round.Round}
use Rattle.gen_core.specs.Rounds.{cut_of, draws_of, round_of, rounds_from}
use Rattle.gen_core.specs.declared.rounds.Ending.TheVariants as ending
use Rattle.script_text.specs.Armable.{IsArmable}
use Rattle.script_turns.specs.Powered.{TurnMoment}
use Rattle.flash_commands.specs.Soaking.{GoesSoaking, SoakReached, only_file_of, starved, goes}
use Rattle.flash_commands.proofs.SoakSetting.{AgreeFor}
use Rattle.flash_commands.proofs.SoakTurns.{prefix-same, stands-going, stands-longer}
use Rattle.script_runs.proofs.RunEnds.{take-more}

-- ---- the calls of a round

-- what holds of each kind of call that a round has holds of all its calls
module _ (P : Call → Type 0) (r : Round) where
  cut-all : (cut : Option Cut) → IfSome cut (λ k. P (call.Cut k.n k.k)) → All P (cut_calls cut)
  cut-all None each = All-nil P
  cut-all (Some k) each = All-cons P (call.Cut k.n k.k) [] each (All-nil P)

  accepts-all : (rows : List ImageRow) → ((guid : List ℕ) → P (call.Accepts guid)) → All P (accept_calls rows)
  accepts-all [] accept = All-nil P
  accepts-all (x ∷ xs) accept = All-cons P (call.Accepts x.guid) (accept_calls xs) (accept x.guid) (accepts-all xs accept)

  ending-all : (rows : List ImageRow) (e : Ending) → P call.Boot → ((guid : List ℕ) → P (call.Accepts guid)) → P call.Previous → All P (ending_calls rows e)
  ending-all rows ending.Nothing boot accept back = All-nil P
  ending-all rows ending.Boot boot accept back = All-cons P call.Boot [] boot (All-nil P)
  ending-all rows ending.Accept boot accept back = All-append P (accept_calls rows) (call.Boot ∷ []) (accepts-all rows accept) (All-cons P call.Boot [] boot (All-nil P))
  ending-all rows ending.Previous boot accept back = All-cons P call.Previous (call.Boot ∷ []) back (All-cons P call.Boot [] boot (All-nil P))

  pub round-all : (rows : List ImageRow) → IfSome r.cut (λ k. P (call.Cut k.n k.k)) → P (call.Send (file_name r.number) r.acceptance) → P call.Boot → ((guid : List ℕ) → P (call.Accepts guid)) → P call.Previous
      → All P (round_calls rows r)
  unfolding round_calls
  round-all rows cut send boot accept back =
      All-append P (cut_calls r.cut) (call.Send (file_name r.number) r.acceptance ∷ call.Boot ∷ ending_calls rows r.ending) (cut-all r.cut cut)
      (All-cons P (call.Send (file_name r.number) r.acceptance) (call.Boot ∷ ending_calls rows r.ending) send
      (All-cons P call.Boot (ending_calls rows r.ending) boot (ending-all rows r.ending boot accept back)))

all-shown : (P : Call → Type 0) (calls : List SoakCall) → All P (map soak_shown calls) → All (λ c. P (soak_shown c)) calls
all-shown P [] each = All-nil (λ c. P (soak_shown c))
all-shown P (x ∷ xs) each =
    All-cons (λ c. P (soak_shown c)) x xs (All-head P (soak_shown x) (map soak_shown xs) each) (all-shown P xs (All-tail P (soak_shown x) (map soak_shown xs) each))

-- each call of a round may be armed
pub calls-armable : (rows : List ImageRow) (r : Round) (calls : List SoakCall) → map soak_shown calls ≡ round_calls rows r → IfSome r.cut (λ k. IsArmable (call.Cut k.n k.k)) → All (λ c. IsArmable (soak_shown c)) calls
calls-armable rows r calls is cut =
    all-shown IsArmable calls (subst (λ (cs : List Call). All IsArmable cs) (sym is) (round-all IsArmable r rows cut tt tt (λ guid. tt) tt))

-- ---- the file of a round

pub file-there : (name bytes : List ℕ) → only_file_of name bytes name ≡ Some bytes
file-there name bytes = rw ((bytes_eq-Decides name name).1 refl) refl

agree-cut : (one all : Directory) (cut : Option Cut) → IfSome cut (λ k. AgreeFor one all (call.Cut k.n k.k))
agree-cut one all None = tt
agree-cut one all (Some k) = tt

pub round-agrees : (rows : List ImageRow) (r : Round) (name bytes : List ℕ) (all : Directory) (cs : List Call) → cs ≡ round_calls rows r → name ≡ file_name r.number → bytes ≡ round_package r
    → all (file_name r.number) ≡ Some (round_package r) → (c : Call) → Contains cs c → AgreeFor (only_file_of name bytes) all c
round-agrees rows r name bytes all cs calls_are name_is bytes_are there c in_it =
    let here : only_file_of name bytes (file_name r.number) ≡ Some bytes = ap (only_file_of name bytes) (sym name_is) ∙ file-there name bytes in
    All-contains (AgreeFor (only_file_of name bytes) all) (round_calls rows r) c
    (round-all (AgreeFor (only_file_of name bytes) all) r rows (agree-cut (only_file_of name bytes) all r.cut) (here ∙ ap Some bytes_are ∙ sym there, ap is_some here) tt (λ guid. tt) tt)
    (subst (λ (l : List Call). Contains l c) calls_are in_it)

-- ---- a round that is drawn

-- a loss that is drawn may be armed
cut-armable : (y : ℕ) → IfSome (cut_of y) (λ k. IsArmable (call.Cut k.n k.k))
unfolding drawn
cut-armable y =
    cond_both (draw y 1 32 == 0) None (Some (record { n = draw y 1 32; k = draw y 2 4097 })) (λ o. IfSome o (λ k. IsArmable (call.Cut k.n k.k))) (λ is. tt)
    (λ other. let some = eqb-false (draw y 1 32) 0 other in (omega (arith, some), omega arith, omega arith))

pub drawn-armable : (x number : ℕ) (r : Round) → r ≡ round_of x number → IfSome r.cut (λ k. IsArmable (call.Cut k.n k.k))
unfolding round_of
drawn-armable x number r is = subst (λ (q : Round). IfSome q.cut (λ k. IsArmable (call.Cut k.n k.k))) (sym is) (cut-armable (register_after 4 x))

pub drawn-number : (x number : ℕ) (r : Round) → r ≡ round_of x number → r.number ≡ number
unfolding round_of
drawn-number x number r is = ap (λ (q : Round). q.number) is

-- ---- the rounds that are left

pub left-next : (x n i register : ℕ) → i < n → drop i (rounds_from x 1 n) ≡ rounds_from register (i + 1) (n - i)
    → drop i (rounds_from x 1 n) ≡ round_of register (i + 1) ∷ rounds_from (register_after (draws_of register) register) (i + 1 + 1) (n - (i + 1))
left-next x n i register below left =
    let more : n - i ≡ suc (n - (i + 1)) = omega (arith, below) in
    left ∙ ap (rounds_from register (i + 1)) more

first-left : {X : Type 0} (xs : List X) (i : ℕ) (y : X) (ys : List X) → i < length xs → drop i xs ≡ y ∷ ys → (slice_get xs i ≡ Some y) × (drop (i + 1) xs ≡ ys)
first-left {X} xs i y ys below is =
    let more : get_or xs i y ∷ drop (i + 1) xs ≡ y ∷ ys = sym (drop_more xs i y below) ∙ is in
    (slice_get-get_or xs i y below ∙ ap (λ (l : List X). Some (get_or l 0 y)) more, ap (λ (l : List X). drop 1 l) more)

pub rounds-count : (x number n : ℕ) → length (rounds_from x number n) ≡ n
rounds-count x number zero = refl
rounds-count x number (suc n) = let rest = rounds-count (register_after (draws_of x) x) (number + 1) n in omega (arith, rest)

module _ (x n i register : ℕ) (r : Round) (below : i < n) (left : drop i (rounds_from x 1 n) ≡ rounds_from register (i + 1) (n - i)) (is : r ≡ round_of register (i + 1)) where
  within : i < length (rounds_from x 1 n)
  within = let count = rounds-count x 1 n in omega (arith, count, below)

  pub round-here : slice_get (rounds_from x 1 n) i ≡ Some r
  round-here = (first-left (rounds_from x 1 n) i (round_of register (i + 1)) (rounds_from (register_after (draws_of register) register) (i + 1 + 1) (n - (i + 1))) within (left-next x n i register below left)).0 ∙ ap Some (sym is)

  pub rest-left : (next : ℕ) → next ≡ register_after (draws_of register) register → drop (i + 1) (rounds_from x 1 n) ≡ rounds_from next (i + 1 + 1) (n - (i + 1))
  rest-left next next_is =
      (first-left (rounds_from x 1 n) i (round_of register (i + 1)) (rounds_from (register_after (draws_of register) register) (i + 1 + 1) (n - (i + 1))) within (left-next x n i register below left)).1
      ∙ ap (λ (g : ℕ). rounds_from g (i + 1 + 1) (n - (i + 1))) (sym next_is)

  pub round-there : (all : Directory) → ((k : ℕ) (d : Round) → k < n → all (file_name (k + 1)) ≡ Some (round_package (get_or (rounds_from x 1 n) k d))) → all (file_name r.number) ≡ Some (round_package r)
  round-there all named =
      ap (λ (m : ℕ). all (file_name m)) (drawn-number register (i + 1) r is) ∙ named i r below
      ∙ ap (λ (q : Round). Some (round_package q)) (get_or_from_slice_get (rounds_from x 1 n) i r r round-here)

  calls-so-far : (done : List Call) → (done ++ flat_map (round_calls soak_layout.rows) (take i (rounds_from x 1 n))) ++ round_calls soak_layout.rows r
      ≡ done ++ flat_map (round_calls soak_layout.rows) (take (i + 1) (rounds_from x 1 n))
  calls-so-far done =
      let rounds = rounds_from x 1 n in
      let f = round_calls soak_layout.rows in
      append_assoc done (flat_map f (take i rounds)) (f r)
      ∙ ap (λ (l : List Call). done ++ l)
      (ap (λ (l : List Call). flat_map f (take i rounds) ++ l) (sym (append-nil (f r)) ∙ sym (flat_map-cons f r []))
      ∙ sym (flat_map-append f (take i rounds) (r ∷ [])) ∙ ap (flat_map f) (take-more Round rounds i r round-here))

  rounds-front : (done : List Call) → IsPrefixOf (done ++ flat_map (round_calls soak_layout.rows) (take (i + 1) (rounds_from x 1 n))) (done ++ flat_map (round_calls soak_layout.rows) (rounds_from x 1 n))
  rounds-front done =
      let rounds = rounds_from x 1 n in
      let f = round_calls soak_layout.rows in (
        flat_map f (drop (i + 1) rounds),
        append_assoc done (flat_map f (take (i + 1) rounds)) (flat_map f (drop (i + 1) rounds))
            ∙ ap (λ (l : List Call). done ++ l) (sym (flat_map-append f (take (i + 1) rounds) (drop (i + 1) rounds)) ∙ ap (flat_map f) (take-append-drop (i + 1) rounds)),
      )

  module _ (tells : Bool) (all : Directory) (done : List Call) (journal : List Turn) (old new : TurnMoment) (status : ℕ) (noted : Note) (text : List ℕ) where
    pub rounds-on : SoakReached tells all ((done ++ flat_map (round_calls soak_layout.rows) (take i (rounds_from x 1 n))) ++ round_calls soak_layout.rows r) journal old new status noted text → status ≡ 0
        → GoesSoaking tells all (done ++ flat_map (round_calls soak_layout.rows) (take (i + 1) (rounds_from x 1 n))) journal old new
    rounds-on stands zero_is =
        subst (λ (cs : List Call). GoesSoaking tells all cs journal old new) (calls-so-far done) (stands-going tells all _ journal old new status noted text zero_is stands)

    pub rounds-end : SoakReached tells all ((done ++ flat_map (round_calls soak_layout.rows) (take i (rounds_from x 1 n))) ++ round_calls soak_layout.rows r) journal old new status noted text → (status ≡ 0 → ⊥)
        → SoakReached tells all (done ++ flat_map (round_calls soak_layout.rows) (rounds_from x 1 n)) journal old new status noted text
    rounds-end stands other =
        stands-longer tells all _ (done ++ flat_map (round_calls soak_layout.rows) (rounds_from x 1 n)) journal old new status noted text
        (prefix-same _ (done ++ flat_map (round_calls soak_layout.rows) (take (i + 1) (rounds_from x 1 n))) (done ++ flat_map (round_calls soak_layout.rows) (rounds_from x 1 n)) (calls-so-far done) (rounds-front done)) other stands

-- memory is wanting before more calls
pub starved-before : (tells : Bool) (all : Directory) (done more : List Call) (journal : List Turn) (old mid : TurnMoment) (text : List ℕ) → GoesSoaking tells all done journal old mid
    → SoakReached tells all (done ++ more) journal old mid 9 note.Nothing text
starved-before tells all done more journal old mid text was = starved refl refl done (more, refl) was

-- all rounds were done
pub rounds-done : (tells : Bool) (all : Directory) (done : List Call) (x n i : ℕ) (journal : List Turn) (old mid : TurnMoment) (text : List ℕ) → i ≡ n
    → GoesSoaking tells all (done ++ flat_map (round_calls soak_layout.rows) (take i (rounds_from x 1 n))) journal old mid
    → SoakReached tells all (done ++ flat_map (round_calls soak_layout.rows) (rounds_from x 1 n)) journal old mid 0 note.Nothing text
rounds-done tells all done x n i journal old mid text end was =
    goes refl refl
    (subst (λ (rs : List Round). GoesSoaking tells all (done ++ flat_map (round_calls soak_layout.rows) rs) journal old mid)
    (ap (λ (k : ℕ). take k (rounds_from x 1 n)) (end ∙ sym (rounds-count x 1 n)) ∙ take-length (rounds_from x 1 n)) was)
