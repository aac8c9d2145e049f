-- What is shown after a boot that started a bank, by what it wrote.
use Rattle.std.proofs.Common.{◌≡◌, ◌≢◌, ◌⊎◌, inl, inr, ℕ, ◌+◌, ◌*◌, ◌<◌, ◌≤◌, not, eqb, eqb-true, cond, Bool, List, [], ◌∷◌, replicate, Ok, sym, ap, ◌∙◌, arith}
use Rattle.std.proofs.lemmas.Bool.{cases_lt, cond_both, eqb-false}
use Rattle.std.proofs.lemmas.Option.{same_Some}
use Rattle.base_core.specs.Block.{granule}
use Rattle.flash_core.specs.{Told.Told, May.Keeps}
use Rattle.fwu_formats.specs.{Layout.Layout, Metadata.MetaRead, Image.is_blank, Image.marks, Counter.counter_in}
use Rattle.fwu_model.specs.State as move
use Rattle.fwu_model.specs.{State.State, State.Move, State.Numbers, Seen.state_of}
use Rattle.fwu_model.proofs.Shown.{seen-by-metadata}
use Rattle.marks_core.proofs.Counting.{same_granule}
use Rattle.replicas.proofs.Reading.{by_zero}
use Rattle.moves.proofs.Agree.{layout-kept}
use Rattle.early_boot.specs.{Showing.trials_in, Started.Started, EndsBy.StartsChosen}
use Rattle.early_boot.specs.Starting.{RepairsAndCounts, WritesMoves}
use Rattle.base_core.proofs.Lists.{prefix-same}

-- ---- the granules of the trials

pub marks-by-granules : (x y : List ℕ) (b limit : ℕ) → ((j : ℕ) → j < limit → granule b j x ≡ granule b j y) → marks x b limit ≡ marks y b limit
unfolding marks
marks-by-granules x y b limit same = prefix-same (λ j. not (is_blank (granule b j x))) (λ j. not (is_blank (granule b j y))) 0 limit (λ j low high. ap (λ (bytes : List ℕ). not (is_blank bytes)) (same j (omega (arith, high))))

-- a granule of the trials once these moves were written
abbrev pub granule_then : List Move → ℕ → List ℕ → ℕ → List ℕ
granule_then (move.Trial ∷ ms) at old j = cond (eqb j at) (replicate 16 0) (granule 3 j old)
granule_then other at old j = granule 3 j old

kept-granule : (low high j : ℕ) (s t : Told) → Keeps low high s t → (4096 * 3 + 16 * j + 16 ≤ low) ⊎ (high ≤ 4096 * 3 + 16 * j) → granule 3 j t.now ≡ granule 3 j s.now
kept-granule low high j s t keeps (inl before) = same_granule 3 j t.now s.now keeps.size (λ i above below. keeps.now i (inl (omega (arith, before, below))))
kept-granule low high j s t keeps (inr behind) = same_granule 3 j t.now s.now keeps.size (λ i above below. keeps.now i (inr (omega (arith, behind, above))))

moves-then : (ms : List Move) (at : ℕ) (s t : Told) → WritesMoves {T = Unit {0}} (Ok tt) ms at s t → (j : ℕ) → j < 3 → granule 3 j t.now ≡ granule_then ms at s.now j
moves-then [] at s t writes j lt = ap (λ (u : Told). granule 3 j u.now) writes
moves-then (move.Trial ∷ ms) at s t writes j lt =
    cond_both (eqb j at) (replicate 16 0) (granule 3 j s.now) (λ (bytes : List ℕ). granule 3 j t.now ≡ bytes)
    (λ e. ap (λ (k : ℕ). granule 3 k t.now) (eqb-true j at e) ∙ writes.one_more.mark)
    (λ e. kept-granule (4096 * 3 + 16 * at) (4096 * 3 + 16 * at + 16) j s t writes.keeps (apart (eqb-false j at e)))
  where
    apart : j ≢ at → (4096 * 3 + 16 * j + 16 ≤ 4096 * 3 + 16 * at) ⊎ (4096 * 3 + 16 * at + 16 ≤ 4096 * 3 + 16 * j)
    apart other = elim (cases_lt j at) [
      | inl below ↦ inl (omega (arith, below))
      | inr above ↦ inr (let more : at < j = omega (arith, above, other) in omega (arith, more))
    ]
moves-then (move.RaiseTo v ∷ ms) at s t writes j lt = kept-granule (4096 * 5) (4096 * 7) j s t writes.keeps (inl (omega (arith, lt)))
moves-then (m ∷ ms) at s t writes j lt = absurd writes

-- the repair leaves them
then-same : (ms : List Move) (at : ℕ) (x y : List ℕ) (j : ℕ) → granule 3 j x ≡ granule 3 j y → granule_then ms at x j ≡ granule_then ms at y j
then-same (move.Trial ∷ ms) at x y j e = ap (cond (eqb j at) (replicate 16 0)) e
then-same other at x y j e = e

pub granules-then : (L : Layout) (r : MetaRead) (ms : List Move) (at : ℕ) (old t : Told) → RepairsAndCounts {T = Unit {0}} (Ok tt) L r ms at old t → (j : ℕ) → j < 3 → granule 3 j t.now ≡ granule_then ms at old.now j
granules-then L r ms at old t writes j lt =
    moves-then ms at writes.repaired t writes.counts j lt
    ∙ then-same ms at writes.repaired.now old.now j (kept-granule 4096 12288 j old writes.repaired writes.repairs.keeps (inr (omega arith)))

-- ---- what the flash shows then

module _ (passes : List ℕ → Bool) (old : Told) (b : Started) (n : Numbers) (t : Told) (starts : StartsChosen passes old b n t) where
  -- the state that it shows is by the metadata that is told
  pub state-then : starts.shows.0 ≡ state_of b.layout t.now b.meta
  state-then =
      same_Some starts.shows.0 (state_of b.layout t.now b.meta)
      (sym starts.shows.1
      ∙ seen-by-metadata.gives b.layout t.now b.meta (layout-kept b.layout 4096 28672 old t (omega arith) starts.others starts.chose.has_layout) (by_zero b.layout b.meta t.now starts.renewed.both.zero))

  pub trials-then : b.trials ≡ trials_in t.now b.meta.meta
  trials-then = ap (λ (x : Numbers). x.trials) starts.shows.2 ∙ ap (λ (s : State). s.trials) state-then

  pub counter-then : b.counter ≡ counter_in t.now
  counter-then = ap (λ (x : Numbers). x.counter) starts.shows.2 ∙ ap (λ (s : State). s.counter) state-then
