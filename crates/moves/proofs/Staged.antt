-- Writes in a bank while it is invalid: no change is seen, and nothing in use is at risk, at any stop.
use Rattle.std.proofs.Common.{◌≡◌, ◌⊎◌, inl, inr, ℕ, ◌+◌, ◌*◌, ◌<◌, ◌≤◌, List, sym, ap, subst, ◌∙◌, arith, IsTrue, IsFalse}
use Rattle.std.proofs.lemmas.Bool.{cases_lt}
use Rattle.base_core.specs.Block.{block}
use Rattle.flash_core.specs.{Told.Told, May.May, May.Keeps, May.Quiet}
use Rattle.flash_core.proofs.Calls.{guards_kept}
use Rattle.fwu_formats.specs.{Layout.Layout, Layout.start, Layout.slot_total, Metadata.meta_read}
use Rattle.fwu_model.specs.{State.State, State.bank, State.is_invalid, Sound.Setting, Seen.SameWhereUsed, Calm.IsAtRest}
use Rattle.fwu_formats.proofs.Same.{block-same}
use Rattle.fwu_model.proofs.Frame.{seen-where-used}
use Rattle.replicas.proofs.Reading.{deciding_of}
use Rattle.moves.specs.Moved.{IsReady, IsShown}
use Rattle.moves.proofs.Agree.{no_meta, Agrees, layout-agrees, decides-agrees, shown-meta, shown-by, used-below, used-at, at-used}
use Rattle.moves.proofs.Repaired.{rest-used}
use Rattle.base_core.proofs.Results.{same-Ok}

-- banks follow one another
pub banks-order : (L : Layout) (b c : ℕ) → b < c → 4096 * start L (b + 1) 0 ≤ 4096 * start L c 0
banks-order L b c lt =
    let times : (b + 1) * slot_total L.rows ≤ c * slot_total L.rows = grind arith in
    omega (arith, times)

module _ (L : Layout) (s t : Told) (state : State) (u : ℕ) (invalid : IsTrue (is_invalid (bank state u).state)) (keeps : Keeps (4096 * start L u 0) (4096 * start L (u + 1) 0) s t) where
  abbrev low : ℕ
  low = 4096 * start L u 0

  abbrev high : ℕ
  high = 4096 * start L (u + 1) 0

  -- a bank in use lies before or behind
  apart : (b : ℕ) → IsFalse (is_invalid (bank state b).state) → (place : ℕ) → 4096 * start L b 0 ≤ place → place < 4096 * start L (b + 1) 0 → (place < low) ⊎ (high ≤ place)
  apart b used place above below = elim (cases_lt b u) [
    | inl before ↦ let order = banks-order L b u before in inl (omega (arith, order, below))
    | inr other ↦ elim (cases_lt u b) [
      | inl behind ↦ let order = banks-order L u b behind in inr (omega (arith, order, above))
      | inr same ↦ let e : b ≡ u = omega (arith, other, same) in absurd (let f : IsFalse (is_invalid (bank state u).state) = subst (λ (k : ℕ). IsFalse (is_invalid (bank state k).state)) e used in cc)
    ]
  ]

  same-used : SameWhereUsed L state s.now t.now
  same-used = record {
    size = keeps.size;
    front = λ place lt. keeps.now place (inl (omega (arith, lt)));
    banks = λ b used place above below. keeps.now place (apart b used place above below);
  }

  -- On any flash that shows a state.
  pub staged-shows : IsShown L s.now state → IsShown L t.now state
  staged-shows shown = let both = seen-where-used.shows L s.now t.now state shown.layout shown.shows same-used in record { layout = both.0; shows = both.1 }

  block-stays : (k : ℕ) → k < 8 → block k t.now ≡ block k s.now
  block-stays k lt = block-same t.now s.now k keeps.size (λ place above below. keeps.now place (inl (omega (arith, below, lt))))

module _ (E : Setting) (s t : Told) (state : State) (u : ℕ) (ready : IsReady E s state) (invalid : IsTrue (is_invalid (bank state u).state)) (keeps : Keeps (4096 * start E.layout u 0) (4096 * start E.layout (u + 1) 0) s t) where
  -- From a ready flash: it is ready again, at any exit.
  pub staged-ready : IsReady E t state
  staged-ready =
      let shown = staged-shows E.layout s t state u invalid keeps (record { layout = ready.calm.sound.layout; shows = ready.calm.shows }) in
      let zero_same = block-stays E.layout s t state u invalid keeps 1 (omega arith) in
      let one_same = block-stays E.layout s t state u invalid keeps 2 (omega arith) in
      record {
        calm = record {
          sound = seen-where-used.sound E s.now t.now state ready.calm.sound ready.calm.shows (same-used E.layout s t state u invalid keeps);
          shows = shown.shows;
          front = λ i from to. keeps.sure i (inl (omega (arith, to))) (ready.calm.front i from to);
          banks = λ b used i from to. keeps.sure i (apart E.layout s t state u invalid keeps b used i from to) (ready.calm.banks b used i from to);
        };
        guarded = guards_kept 1 7 (4096 * start E.layout u 0) (4096 * start E.layout (u + 1) 0) s t keeps ready.guarded;
        one = λ r is. ap (meta_read E.layout) one_same ∙ ready.one r (sym (deciding_of E.layout t.now s.now zero_same one_same) ∙ is);
      }

-- On any flash at rest that shows a state: it is at rest again, at any exit.
module _ (L : Layout) (s t : Told) (state : State) (u : ℕ) (shown : IsShown L s.now state) (rest : IsAtRest s) (invalid : IsTrue (is_invalid (bank state u).state)) (keeps : Keeps (4096 * start L u 0) (4096 * start L (u + 1) 0) s t) where
  front-sure : (image : List ℕ) → May t image → Agrees L no_meta.meta 32768 32768 s.now image
  front-sure image may = record {
    size = may.leaves.size ∙ keeps.size;
    front = λ place lt out. let before : place < 4096 * start L u 0 = omega (arith, lt) in may.leaves.sure place (keeps.sure place (inl before) (rest.front place (omega arith) lt)) ∙ keeps.now place (inl before);
    banks = λ b lt used. absurd cc;
  }

  pub staged-rest : IsAtRest t
  staged-rest = record {
    guard = guards_kept 1 7 (4096 * start L u 0) (4096 * start L (u + 1) 0) s t keeps rest.guard;
    front = λ i from to. keeps.sure i (inl (omega (arith, to))) (rest.front i from to);
    guarded = record {
      layout = λ i from to. keeps.sure i (inl (omega (arith, to))) (rest.guarded.layout i from to);
      banks = λ image K x may is shows b in_use.
          let agree = front-sure image may in
          let here = layout-agrees L no_meta 32768 32768 s.now image agree (omega arith) shown.layout in
          let same : L ≡ K = same-Ok L K (sym here ∙ is) in
          let found = shown-meta L image x (record { layout = here; shows = shows }) in
          let r = found.0 in
          let decided = sym (decides-agrees L no_meta 32768 32768 s.now image agree (omega arith)) ∙ found.1 in
          let lt = used-below L image r x found.2 b in_use in
          let used = used-at L image r x found.2 b in_use in
          subst (λ (l : Layout). Quiet (4096 * start l b 0) (4096 * start l (b + 1) 0) t) same
          (λ i from to. keeps.sure i (apart L s t state u invalid keeps b (at-used L s.now r state (shown-by L s.now state shown r decided) b lt used) i from to) (rest-used L s shown.layout rest r decided b lt used i from to));
    };
  }
