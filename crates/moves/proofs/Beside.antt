-- Writes to blocks 3 to 7: the metadata that decides stays, and what is seen changes in the trials and the counter alone.
use Rattle.std.proofs.Common.{◌≡◌, inl, ℕ, ◌+◌, ◌*◌, ◌≤◌, cond, List, Bool, refl, sym, ap, ◌∙◌, arith, IsTrue, IsFalse}
use Rattle.flash_core.specs.{Told.Told, Told.NothingDirty, May.Keeps, May.Leaves, May.Quiet}
use Rattle.flash_core.proofs.Calls.{quiet_fresh, guards_kept}
use Rattle.fwu_formats.specs.{declared.kinds.BankState.BankState, Layout.Layout, Layout.start, Image.marks, Places.trial_limit}
use Rattle.fwu_formats.specs.declared.kinds.BankState.TheVariants.{Valid}
use Rattle.fwu_formats.specs.Metadata.{MetaRead, meta_read, state_at}
use Rattle.fwu_model.specs.{Sound.Setting, Sound.Sound, Seen.IsTidy, Seen.state_of, Replica.BothHold}
use Rattle.fwu_model.specs.State.{State, bank, is_invalid, is_valid}
use Rattle.moves.specs.Moved.{IsReady, IsShown}
use Rattle.moves.proofs.Agree.{no_meta, front-kept, Agrees, agrees-now, agrees-left, block-agrees, decides-agrees, shown-meta, state-is, used-below}
use Rattle.moves.proofs.Calm.{calm-shown, calm-used, sound-flash}

valid-used : (k : BankState) → IsTrue (is_valid k) → IsFalse (is_invalid k)
valid-used Valid h = refl
valid-used other h = absurd cc

-- ---- the trials of a state that is shown

module _ (L : Layout) (now : List ℕ) (r : MetaRead) (s : State) (is : state_of L now r ≡ s) where
  -- the trials are the marks while they count
  pub trials-are : cond (is_valid (state_at r.meta r.meta.active)) (marks now 3 trial_limit) 0 ≡ s.trials
  trials-are = ap (λ (x : State). x.trials) is

  pub active-valid : IsTrue (is_valid (bank s s.active).state) → IsTrue (is_valid (state_at r.meta r.meta.active))
  active-valid valid =
      let active : r.meta.active ≡ s.active = ap (λ (x : State). x.active) is in
      let below = used-below L now r s is s.active (valid-used _ valid) in
      ap (λ (b : ℕ). is_valid (state_at r.meta b)) active ∙ ap is_valid (sym (state-is L now r s is s.active below)) ∙ valid

  pub counted-by : IsTrue (is_valid (bank s s.active).state) → marks now 3 trial_limit ≡ s.trials
  counted-by valid = ap (λ (v : Bool). cond v (marks now 3 trial_limit) 0) (sym (active-valid valid)) ∙ trials-are

-- while a bank is on trial, its trials are the marks
pub marks-are-trials : (L : Layout) (now : List ℕ) (s : State) → IsShown L now s → IsTrue (is_valid (bank s s.active).state) → marks now 3 trial_limit ≡ s.trials
marks-are-trials L now s shown valid = let found = shown-meta L now s shown in counted-by L now found.0 s found.2 valid

-- ---- a calm flash stays ready

module _ (low high : ℕ) (E : Setting) (s t : Told) (state next : State) (above : 12288 ≤ low) (le : high ≤ 32768) (keeps : Keeps low high s t) (ready : IsReady E s state) where
  front : Quiet 0 32768 s
  front = ready.calm.front

  pub beside-agrees : (r : MetaRead) → state_of E.layout s.now r ≡ state → (image : List ℕ) → Leaves t image → Agrees E.layout r.meta low high s.now image
  beside-agrees r is image leaves = agrees-left E.layout r.meta low high s t image le keeps front (calm-used E s state ready.calm r is) leaves

  pub stays-ready : IsShown E.layout t.now next → Sound E next → IsTidy t.now next → Quiet 0 32768 t → ((b : ℕ) → IsFalse (is_invalid (bank next b).state) → Quiet (4096 * start E.layout b 0) (4096 * start E.layout (b + 1) 0) t) → IsReady E t next
  stays-ready shown sound tidy quiet banks =
      let found = shown-meta E.layout s.now state (calm-shown E s state ready.calm) in
      let agree = agrees-now E.layout found.0.meta low high s t le keeps in
      record {
        calm = record { sound = sound-flash E t.now next shown sound tidy; shows = shown.shows; front = quiet; banks = banks };
        guarded = guards_kept 1 7 low high s t keeps ready.guarded;
        one = λ r is.
            ap (meta_read E.layout) (block-agrees E.layout found.0 low high s.now t.now agree 2 (omega arith) (inl (omega (arith, above))))
            ∙ ready.one r (sym (decides-agrees E.layout found.0 low high s.now t.now agree above) ∙ is);
      }

  -- when nothing is dirty
  pub beside-ready : IsShown E.layout t.now next → Sound E next → IsTidy t.now next → NothingDirty t → IsReady E t next
  beside-ready shown sound tidy clean = stays-ready shown sound tidy (quiet_fresh _ _ t clean) (λ b used. quiet_fresh _ _ t clean)

-- ---- what a boot leaves beside

-- what both replicas hold stays, at any exit of a write behind them
pub both-beside : (L : Layout) (r : MetaRead) (low high : ℕ) (s t : Told) → 12288 ≤ low → Keeps low high s t → BothHold L r s.now → BothHold L r t.now
both-beside L r low high s t above keeps both =
    let agree = front-kept L low high s t keeps in
    record {
      zero = ap (meta_read L) (block-agrees L no_meta low high s.now t.now agree 1 (omega arith) (inl (omega (arith, above)))) ∙ both.zero;
      one = ap (meta_read L) (block-agrees L no_meta low high s.now t.now agree 2 (omega arith) (inl (omega (arith, above)))) ∙ both.one;
    }
