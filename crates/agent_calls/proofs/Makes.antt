-- What a call makes of the metadata, by its request.
use Rattle.std.proofs.Common.{◌≡◌, inl, ℕ, ◌*◌, ◌≤◌, Bool, true, false, not, cond, List, [], length, sym, ap, ◌∙◌, subst, arith, IsFalse}
use Rattle.std.specs.Prelude.{Result, Ok, Err, OnOk}
use Rattle.flash_core.specs.{declared.flash.FlashStop.FlashStop, Told.Told}
use Rattle.flash_core.proofs.Calls.{keeps_same, block_quiet}
use Rattle.fwu_formats.specs.{Layout.blocks_needed, Metadata.Meta, Metadata.MetaRead, Metadata.state_at}
use Rattle.fwu_model.specs.{State.Free, State.Switch, State.Back, State.is_invalid, MoveMetas.meta_after}
use Rattle.moves.specs.Law.{CallResult}
use Rattle.moves.proofs.MetaMoves.{fits-back}
use Rattle.replicas.specs.Stores.{WritesBoth, Stores}
use Rattle.replicas.proofs.Both.{quiet_zero, quiet_one, stored}
use Rattle.agent_kept.specs.declared.kinds.Request.TheVariants as request
use Rattle.agent_kept.specs.declared.kinds.Plan.{Plan}
use Rattle.agent_kept.specs.declared.kinds.Plan.TheVariants as plan
use Rattle.agent_state.specs.{Asked.IsPlanFor, Decides.next_bank, Settles.bits_kept, Settles.meta_planned}
use Rattle.agent_machine.specs.{Fields.Fields, Fields.target, Knows.Fitting, Stored.StoresIf, Stored.frees}
use Rattle.agent_machine.proofs.Stored.{next-target}
use Rattle.agent_calls.specs.Metas.{meta_begun, meta_ended}

-- what holds at each exit holds of an answer
pub ok-any : {T E A : Type 0} (r : Result T E) → A → OnOk r A
ok-any (Ok x) a = a
ok-any (Err e) a = tt

-- one of two, by whether it is done already
chosen : {X : Type 0} (done store : Bool) (new old other : X) → store ≡ not done → new ≡ other → cond store new old ≡ cond done old other
chosen true store new old other is same = ap (λ (b : Bool). cond b new old) is
chosen false store new old other is same = ap (λ (b : Bool). cond b new old) is ∙ same

-- a store that was stopped before it wrote anything
unwritten : (stop : FlashStop) (new : List ℕ) (s : Told) → 12288 ≤ length s.now → WritesBoth {T = Unit {0}} (Err stop) new s s
unwritten stop new s room = record {
  keeps = keeps_same 4096 12288 s;
  between = λ guards quiet image may. inl (
    inl (block_quiet 1 s image (omega (arith, room)) (quiet_zero s quiet) may.leaves),
    block_quiet 2 s image (omega (arith, room)) (quiet_one s quiet) may.leaves,
  );
  other = λ guards quiet image may. inl (block_quiet 2 s image (omega (arith, room)) (quiet_one s quiet) may.leaves);
  zero = tt;
  one = tt;
  stable = tt;
}

module _ (f : Fields) (fitting : Fitting f) where
  abbrev m : Meta
  m = f.meta.meta

  -- ---- begin

  -- the update bank is made invalid where it isn't
  pub begin-frees : (flags count : ℕ) (p : Plan) → IsPlanFor f.session m (request.Begin flags count) p
      → frees p ≡ not (is_invalid (state_at m (target f)))
  begin-frees flags count (plan.Begin store) asked = asked ∙ ap (λ (b : ℕ). not (is_invalid (state_at m b))) (next-target f fitting)
  begin-frees flags count p asked = absurd asked

  module _ (store : Bool) (is : store ≡ not (is_invalid (state_at m (target f)))) where
    pub begin-stores : IsFalse (is_invalid (state_at m (target f))) → (result : CallResult) (s t : Told)
        → StoresIf store result f.layout (meta_planned f.session m (plan.Begin store)) s t
        → Stores result f.layout (meta_after m (Free (target f))) s t
    begin-stores used result s t stores =
        subst (λ (b : ℕ). Stores result f.layout (meta_after m (Free b)) s t) (next-target f fitting)
        (subst (λ (b : Bool). StoresIf b result f.layout (meta_planned f.session m (plan.Begin b)) s t) (is ∙ ap not used) stores)

    pub begin-keeps : (new : MetaRead) → new ≡ record f.meta { meta = meta_planned f.session m (plan.Begin store) } → new ≡ meta_begun f
    begin-keeps new planned =
        planned ∙ ap (λ (x : Meta). record f.meta { meta = x })
        (chosen (is_invalid (state_at m (target f))) store (meta_after m (Free (next_bank m))) m (meta_after m (Free (target f))) is
        (ap (λ (b : ℕ). meta_after m (Free b)) (next-target f fitting)))

  -- ---- previous

  -- a read before the store was stopped
  pub back-stopped : (stop : FlashStop) (s t : Told) → blocks_needed f.layout * 4096 ≤ length s.now → t ≡ s
      → Stores {T = Unit {0}} (Err stop) f.layout (meta_after m Back) s t
  back-stopped stop s t room same =
      subst (λ (u : Told). Stores {T = Unit {0}} (Err stop) f.layout (meta_after m Back) s u) (sym same)
      (stored (Err stop) f.layout fitting.layout (meta_after m Back) (fits-back f.layout m fitting.meta) s s
      (unwritten stop _ s (omega (arith, room))))

  -- ---- end

  pub end-keeps : (new : MetaRead) → new ≡ record f.meta { meta = meta_planned f.session m plan.End } → new ≡ meta_ended f
  end-keeps new planned =
      planned ∙ ap (λ (b : ℕ). record f.meta { meta = meta_after m (Switch b [] (bits_kept f.session)) }) (next-target f fitting)
