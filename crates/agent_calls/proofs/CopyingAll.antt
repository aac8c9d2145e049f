-- Copies of all images that aren't named, one after another.
use Rattle.std.proofs.Common.{◌≡◌, ◌≢◌, ℕ, ◌+◌, ◌<◌, ◌≤◌, Bool, true, false, cond, List, [], length, get_or, set, replicate, Some, Ok, Err, inl, inr, refl, sym, ap, subst, ◌∙◌, arith, length-set, ltb, eq-eqb, get_or-set_same, get_or-set_other, ext_get_or}
use Rattle.std.specs.Prelude.{IsTrue}
use Rattle.std.proofs.lemmas.Bool.{lt-ltb, le-ltb, cases_eq, cases_lt}
use Rattle.std.proofs.lemmas.List.{get_or-replicate, length-replicate}
use Rattle.std.proofs.lemmas.List.FromFn.{length-map-range_with_len, get_or-map-range_with_len}
use Rattle.fwu_model.specs.{Session.Staged, Session.Nothing, Session.Committed, State.State, Sound.Setting}
use Rattle.fwu_model.specs.Answer.{copied_part, copied_parts, image_held}
use Rattle.agent_machine.specs.{declared.stop.Stop.Stop, Fields.total_of, Moment.Moment, Moment.Shows, Goes.GoesByMoves}
use Rattle.agent_machine.specs.{Meets.Stays, Filling.between, Filling.filled}
use Rattle.agent_machine.proofs.{Going.goes-nothing, Going.goes-then, Going.stays-then, Answered.stays-same}
use Rattle.agent_calls.specs.{Partly.copied_first, Copies.CopiesImage, Copies.CopiesImages}
use Rattle.agent_calls.proofs.Copies.{plain, follows-after, other-end}
use Rattle.agent_state.specs.Settles.{with_bytes}
use Rattle.agent_state.proofs.Settled.{with-there}

-- each of the first images that isn't named was copied
pub record CopiesFirst (named : List Bool) (k : ℕ) (old new : Moment) : Type 0 where
  pub stays : Stays old new
  pub bytes : ℕ → List ℕ
  pub count : (i : ℕ) → i < k → get_or named i true ≡ false → length (bytes i) ≡ total_of old.fields (Some i)
  pub read : IsTrue old.tells → (s : State) (boot : ℕ) → Shows old s (between boot (replicate (length named) Nothing))
      → (i : ℕ) → i < k → get_or named i true ≡ false → bytes i ≡ image_held s boot i
  pub goes : (E : Setting) (s : State) (boot : ℕ) → E.layout ≡ old.fields.layout
      → Shows old s (between boot (replicate (length named) Nothing))
      → GoesByMoves E (Ok tt) old new s [] (between boot (copied_first named k bytes))

-- ---- the parts, place by place

abbrev part : List Bool → ℕ → (ℕ → List ℕ) → ℕ → Staged
part named k bytes i = cond (ltb i k) (copied_part (get_or named i true) (bytes i)) Nothing

pub first-long : (named : List Bool) (k : ℕ) (bytes : ℕ → List ℕ) → length (copied_first named k bytes) ≡ length named
first-long named k bytes = length-map-range_with_len (part named k bytes) 0 (length named)

first-at : (named : List Bool) (k : ℕ) (bytes : ℕ → List ℕ) (i : ℕ) → i < length named → get_or (copied_first named k bytes) i Nothing ≡ part named k bytes i
first-at named k bytes i lt = get_or-map-range_with_len (part named k bytes) 0 (length named) i i Nothing lt (omega arith)

under : (named : List Bool) (k : ℕ) (bytes : ℕ → List ℕ) (i : ℕ) → i < k → part named k bytes i ≡ copied_part (get_or named i true) (bytes i)
under named k bytes i lt = ap (λ (b : Bool). cond b (copied_part (get_or named i true) (bytes i)) Nothing) (lt-ltb i k lt)

over : (named : List Bool) (k : ℕ) (bytes : ℕ → List ℕ) (i : ℕ) → k ≤ i → part named k bytes i ≡ Nothing
over named k bytes i le = ap (λ (b : Bool). cond b (copied_part (get_or named i true) (bytes i)) Nothing) (le-ltb i k le)

first-none : (named : List Bool) (bytes : ℕ → List ℕ) → copied_first named 0 bytes ≡ replicate (length named) Nothing
first-none named bytes =
    let long = first-long named 0 bytes in
    ext_get_or Nothing (copied_first named 0 bytes) (replicate (length named) Nothing) (long ∙ sym (length-replicate (length named) Nothing)) (λ i below.
    first-at named 0 bytes i (omega (arith, below, long)) ∙ over named 0 bytes i (omega arith)
    ∙ sym (get_or-replicate (length named) i Nothing Nothing (omega (arith, below, long))))

pub first-all : (named : List Bool) (bytes : ℕ → List ℕ) → copied_first named (length named) bytes ≡ copied_parts named bytes
unfolding copied_parts
first-all named bytes =
    let g = λ (i : ℕ). copied_part (get_or named i true) (bytes i) in
    let long = first-long named (length named) bytes in
    let also = length-map-range_with_len g 0 (length named) in
    ext_get_or Nothing (copied_first named (length named) bytes) (copied_parts named bytes) (long ∙ sym also) (λ i below.
    let lt : i < length named = omega (arith, below, long) in
    first-at named (length named) bytes i lt ∙ under named (length named) bytes i lt
    ∙ sym (get_or-map-range_with_len g 0 (length named) i i Nothing lt (omega arith)))

-- an image that is named stays nothing
next-named : (named : List Bool) (k : ℕ) (bytes : ℕ → List ℕ) → get_or named k true ≡ true → copied_first named (k + 1) bytes ≡ copied_first named k bytes
next-named named k bytes is =
    let long = first-long named (k + 1) bytes in
    ext_get_or Nothing (copied_first named (k + 1) bytes) (copied_first named k bytes) (long ∙ sym (first-long named k bytes)) (λ i below.
    let lt : i < length named = omega (arith, below, long) in
    first-at named (k + 1) bytes i lt ∙ same i ∙ sym (first-at named k bytes i lt))
  where
    same : (i : ℕ) → part named (k + 1) bytes i ≡ part named k bytes i
    same i = elim (cases_lt i k) [
      | inl lt ↦ under named (k + 1) bytes i (omega (arith, lt)) ∙ sym (under named k bytes i lt)
      | inr le ↦ elim (cases_eq i k) [
        | inl e ↦ under named (k + 1) bytes i (omega (arith, e)) ∙ ap (λ (b : Bool). copied_part b (bytes i)) (ap (λ (j : ℕ). get_or named j true) e ∙ is) ∙ sym (over named k bytes i le)
        | inr ne ↦ over named (k + 1) bytes i (omega (arith, le, ne)) ∙ sym (over named k bytes i le)
      ]
    ]

with-same : (bytes : ℕ → List ℕ) (k : ℕ) (new : List ℕ) (i : ℕ) → i ≡ k → with_bytes bytes k new i ≡ new
with-same bytes k new i e = ap (λ (b : Bool). cond b new (bytes i)) (eq-eqb i k e)

-- another one is committed
next-copied : (named : List Bool) (k : ℕ) (bytes : ℕ → List ℕ) (new : List ℕ) → get_or named k true ≡ false → k < length named
    → filled (copied_first named k bytes) k new true ≡ copied_first named (k + 1) (with_bytes bytes k new)
next-copied named k bytes new is below-k =
    let old = copied_first named k bytes in
    let long = first-long named k bytes in
    let size = length-set old k (Committed new true) in
    ext_get_or Nothing (set old k (Committed new true)) (copied_first named (k + 1) (with_bytes bytes k new)) (size ∙ long ∙ sym (first-long named (k + 1) (with_bytes bytes k new))) (λ i below.
    let lt : i < length named = omega (arith, below, size, long) in
    by-place i lt ∙ sym (first-at named (k + 1) (with_bytes bytes k new) i lt))
  where
    by-place : (i : ℕ) → i < length named → get_or (set (copied_first named k bytes) k (Committed new true)) i Nothing ≡ part named (k + 1) (with_bytes bytes k new) i
    by-place i lt = elim (cases_eq i k) [
      | inl e ↦
          let here : get_or (set (copied_first named k bytes) k (Committed new true)) i Nothing ≡ Committed new true =
          ap (λ (j : ℕ). get_or (set (copied_first named k bytes) k (Committed new true)) j Nothing) e
          ∙ get_or-set_same (copied_first named k bytes) k (Committed new true) Nothing (omega (arith, below-k, first-long named k bytes)) in
          here ∙ sym (under named (k + 1) (with_bytes bytes k new) i (omega (arith, e))
          ∙ ap (λ (b : Bool). copied_part b (with_bytes bytes k new i)) (ap (λ (j : ℕ). get_or named j true) e ∙ is)
          ∙ ap (λ (xs : List ℕ). Committed xs true) (with-same bytes k new i e))
      | inr ne ↦
          get_or-set_other (copied_first named k bytes) k i (Committed new true) Nothing ne ∙ first-at named k bytes i lt ∙ elsewhere i ne
    ]
      where
        elsewhere : (i : ℕ) → i ≢ k → part named k bytes i ≡ part named (k + 1) (with_bytes bytes k new) i
        elsewhere i ne = elim (cases_lt i k) [
          | inl lt ↦ under named k bytes i lt ∙ ap (λ (xs : List ℕ). copied_part (get_or named i true) xs) (sym (with-there bytes k new i ne))
              ∙ sym (under named (k + 1) (with_bytes bytes k new) i (omega (arith, lt)))
          | inr le ↦ over named k bytes i le ∙ sym (over named (k + 1) (with_bytes bytes k new) i (omega (arith, le, ne)))
        ]

pub first-empty : (named : List Bool) (k : ℕ) (bytes : ℕ → List ℕ) → k < length named → get_or (copied_first named k bytes) k Nothing ≡ Nothing
first-empty named k bytes below = first-at named k bytes k below ∙ over named k bytes k (omega arith)

-- ---- the copies

pub copies-none : (named : List Bool) (m : Moment) → CopiesFirst named 0 m m
copies-none named m = record {
  stays = stays-same m;
  bytes = λ i. [];
  count = λ i lt is. absurd (omega (arith, lt));
  read = λ tells s boot shows i lt is. absurd (omega (arith, lt));
  goes = λ E s boot layout shows. goes-nothing E m s (between boot (copied_first named 0 (λ i. [])))
      (subst (λ (ps : List Staged). Shows m s (between boot ps)) (sym (first-none named (λ i. []))) shows);
}

module _ (named : List Bool) (k : ℕ) (old mid : Moment) (first : CopiesFirst named k old mid) where
  pub copies-named : get_or named k true ≡ true → CopiesFirst named (k + 1) old mid
  copies-named is = record {
    stays = first.stays;
    bytes = first.bytes;
    count = λ i lt not. first.count i (omega (arith, lt, other i not)) not;
    read = λ tells s boot shows i lt not. first.read tells s boot shows i (omega (arith, lt, other i not)) not;
    goes = λ E s boot layout shows. subst (λ (ps : List Staged). GoesByMoves E (Ok tt) old mid s [] (between boot ps)) (sym (next-named named k first.bytes is)) (first.goes E s boot layout shows);
  }
    where
      other : (i : ℕ) → get_or named i true ≡ false → i ≢ k
      other i not e = let both : false ≡ true = sym not ∙ ap (λ (j : ℕ). get_or named j true) e ∙ is in cc

  module _ (new : Moment) (below : k < length named) where
    within-parts : k < length (copied_first named k first.bytes)
    within-parts = omega (arith, below, first-long named k first.bytes)

    pub copies-more : get_or named k true ≡ false → CopiesImage k (Ok tt) mid new → CopiesFirst named (k + 1) old new
    copies-more is image = record {
      stays = stays-then old mid new first.stays image.stays;
      bytes = with_bytes first.bytes k image.bytes;
      count = λ i lt not. elim (cases_eq i k) [
        | inl e ↦ ap (λ (xs : List ℕ). length xs) (with-same first.bytes k image.bytes i e) ∙ image.count ∙ ap (λ (l : List ℕ). get_or l k 0) first.stays.lengths ∙ ap (λ (j : ℕ). total_of old.fields (Some j)) (sym e)
        | inr ne ↦ ap (λ (xs : List ℕ). length xs) (with-there first.bytes k image.bytes i ne)
            ∙ first.count i (omega (arith, lt, ne)) not
      ];
      read = λ tells s boot shows i lt not.
          let one = first.goes (plain old.fields) s boot refl shows in
          elim (cases_eq i k) [
            | inl e ↦ with-same first.bytes k image.bytes i e
                ∙ image.read (subst IsTrue (sym one.stays.tells) tells) s boot (copied_first named k first.bytes) within-parts
                (first-empty named k first.bytes below) one.shows
                ∙ ap (λ (j : ℕ). image_held s boot j) (sym e)
            | inr ne ↦ with-there first.bytes k image.bytes i ne ∙ first.read tells s boot shows i (omega (arith, lt, ne)) not
          ];
      goes = λ E s boot layout shows.
          let one = first.goes E s boot layout shows in
          let parts = copied_first named k first.bytes in
          subst (λ (ps : List Staged). GoesByMoves E (Ok tt) old new s [] (between boot ps)) (next-copied named k first.bytes image.bytes is below)
          (goes-then E (Ok tt) old mid new s [] [] (between boot parts) (between boot (filled parts k image.bytes true)) one
          (image.goes E s boot parts (layout ∙ sym one.stays.layout) within-parts (first-empty named k first.bytes below)
          one.shows));
    }

    pub copies-stopped : (st : Stop) → CopiesImage k (Err st) mid new → CopiesImages named (Err st) old new
    copies-stopped st image = record {
      stays = stays-then old mid new first.stays image.stays;
      bytes = first.bytes;
      count = tt;
      read = tt;
      goes = λ E s boot layout shows.
          let one = first.goes E s boot layout shows in
          let parts = copied_first named k first.bytes in
          other-end (Unit {0}) (Unit {0}) st E old new s (between boot (filled parts k image.bytes true)) (between boot (copied_first named (length named) first.bytes))
          (follows-after {T = Unit {0}} (Err st) E old mid new s (between boot parts) (between boot (filled parts k image.bytes true)) one
          (image.goes E s boot parts (layout ∙ sym one.stays.layout) within-parts (first-empty named k first.bytes below)
          one.shows));
    }

  pub copies-done : k ≡ length named → CopiesImages named (Ok tt) old mid
  copies-done all = record {
    stays = first.stays;
    bytes = first.bytes;
    count = λ i lt not. first.count i (omega (arith, lt, all)) not;
    read = λ tells s boot shows i lt not. first.read tells s boot shows i (omega (arith, lt, all)) not;
    goes = λ E s boot layout shows. subst (λ (n : ℕ). GoesByMoves E (Ok tt) old mid s [] (between boot (copied_first named n first.bytes))) all (first.goes E s boot layout shows);
  }
