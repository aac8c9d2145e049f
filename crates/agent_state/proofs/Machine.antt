-- What is kept is what the machine has.
use Rattle.std.proofs.Common.{◌≡◌, ℕ, zero, suc, ◌+◌, ◌-◌, ◌%◌, ◌<◌, Bool, true, false, ◌&&◌, ◌||◌, not, ◌==◌, cond, List, [], length, get_or, Option, Some, None, refl, sym, ap, ap₂, ◌∙◌, arith}
use Rattle.std.proofs.lemmas.List.FromFn.{get_or-map-range_with_len}
use Rattle.std.proofs.Math.ListN as listn
use Rattle.std.proofs.lemmas.List.{length-map}
use Rattle.fwu_model.specs.declared.kinds.AgentState.TheVariants as agent
use Rattle.fwu_formats.specs.{Layout.ImageRow, Layout.slot_bytes, Metadata.Meta, Metadata.MetaRead, Metadata.state_at}
use Rattle.fwu_model.specs.{Sound.Setting, Session.Staged, Session.staged_at, MoveMetas.meta_in}
use Rattle.fwu_model.specs.State.{State, Bank, bank, no_bank, is_valid, is_accepted, update_bank}
use Rattle.fwu_model.specs.Answer.{agent_state, is_trial, cannot_begin, is_elsewhere, staged_bytes, handle_at, may_leave, has_other}
use Rattle.fwu_model.specs.Session as session
use Rattle.agent_kept.specs.{declared.parts.Part.Part, declared.parts.Handle.Handle}
use Rattle.agent_kept.specs.declared.parts.Part.TheVariants.{Nothing, Open, Committed}
use Rattle.agent_kept.specs.declared.parts.Handle.TheVariants.{Free, Reads, Writes}
use Rattle.agent_kept.specs.Kept.{Kept, part_at, part_meant, parts_meant, staging_meant, handle_meant, handles_meant, handle_kept, size_of, slot_room_of, IsKept}
use Rattle.agent_kept.proofs.Meant.{staging-on}
use Rattle.agent_state.specs.Decides.{next_bank, is_trial_kept, cannot_begin_kept, has_other_kept}

-- ---- the metadata

module _ (s : State) (m : MetaRead) (is : m.meta ≡ meta_in s) where
  pub state-is : (b : ℕ) → state_at m.meta b ≡ (bank s b).state
  state-is b = ap (λ (n : Meta). state_at n b) is ∙ listn.get_or-map (λ (k : Bank). k.state) s.banks b no_bank

  pub bits-is : (b : ℕ) → get_or m.meta.bits b [] ≡ (bank s b).bits
  bits-is b = ap (λ (n : Meta). get_or n.bits b []) is ∙ listn.get_or-map (λ (k : Bank). k.bits) s.banks b no_bank

  pub active-is : m.meta.active ≡ s.active
  active-is = ap (λ (n : Meta). n.active) is

  pub previous-is : m.meta.previous ≡ s.previous
  previous-is = ap (λ (n : Meta). n.previous) is

  pub next-is : next_bank m.meta ≡ update_bank s
  next-is = ap next_bank is ∙ ap (λ (n : ℕ). (s.active + 1) % n) (length-map s.banks (λ (k : Bank). k.state))

  pub valid-is : is_valid (state_at m.meta m.meta.active) ≡ is_valid (bank s s.active).state
  valid-is = ap is_valid (ap (state_at m.meta) active-is ∙ state-is s.active)

  pub elsewhere-is : (boot : ℕ) → not (boot == m.meta.active) ≡ is_elsewhere s boot
  elsewhere-is boot = ap (λ (b : ℕ). not (boot == b)) active-is

  trial-by : (v : Bool) (parts : List Staged) (staging : Bool) → (agent_trial : is_valid (bank s s.active).state ≡ v) → (not staging && v) ≡ is_trial (agent_state s (cond staging (Some parts) None))
  trial-by v parts true e = refl
  trial-by true parts false e = ap (λ (b : Bool). is_trial (cond b agent.Trial agent.Regular)) (sym e)
  trial-by false parts false e = ap (λ (b : Bool). is_trial (cond b agent.Trial agent.Regular)) (sym e)

  pub trial-is : (k : Kept) (staged : ℕ → List ℕ) → is_trial_kept m.meta k ≡ is_trial (agent_state s (staging_meant k staged))
  trial-is k staged = trial-by (is_valid (state_at m.meta m.meta.active)) (parts_meant k staged) k.staging (sym valid-is)

  pub cannot-is : (k : Kept) (boot : ℕ) (staged : ℕ → List ℕ) → cannot_begin_kept m.meta k boot ≡ cannot_begin s boot (staging_meant k staged)
  cannot-is k boot staged = ap₂ (λ (a b : Bool). a || b) (trial-is k staged) (elsewhere-is boot)

  pub leave-is : (boot : ℕ) → (is_valid (state_at m.meta m.meta.active) || not (boot == m.meta.active)) ≡ may_leave s boot
  leave-is boot = ap₂ (λ (a b : Bool). a || b) (trial-by (is_valid (state_at m.meta m.meta.active)) [] false (sym valid-is)) (elsewhere-is boot)

  pub other-is : has_other_kept m.meta ≡ has_other s
  other-is = ap₂ (λ (a b : Bool). a && b) (ap₂ (λ (a b : ℕ). not (a == b)) previous-is active-is) (ap is_accepted (ap (state_at m.meta) previous-is ∙ state-is s.previous))

-- ---- the staged images

pub is-idle : (k : Kept) (staged : ℕ → List ℕ) → k.staging ≡ false → staging_meant k staged ≡ None
is-idle k staged e = ap (λ (b : Bool). cond b (Some (parts_meant k staged)) None) e

pub part-is : (k : Kept) (staged : ℕ → List ℕ) (image : ℕ) → image < length k.rows → staged_at (Some (parts_meant k staged)) image ≡ part_meant (part_at k image) (staged image)
part-is k staged image lt = get_or-map-range_with_len (λ (i : ℕ). part_meant (part_at k i) (staged i)) 0 (length k.rows) image image session.Nothing lt (omega arith)

-- ---- the handles

pub handle-is : (k : Kept) (h : ℕ) (handle : Handle) → (h ≡ 0 → handle ≡ Free) → (0 < h → handle ≡ handle_kept k (h - 1)) → handle_at (handles_meant k) h ≡ handle_meant handle
handle-is k zero handle none at = ap handle_meant (sym (none refl))
handle-is k (suc place) handle none at =
    listn.get_or-map handle_meant k.handles place Free
    ∙ ap handle_meant (sym (at (omega arith) ∙ ap (λ (p : ℕ). handle_kept k p) (let e : suc place - 1 ≡ place = omega arith in e)))

-- a handle that isn't free has a place
pub handle-place : (k : Kept) (h : ℕ) (handle : Handle) → (h ≡ 0 → handle ≡ Free) → (0 < h → handle ≡ handle_kept k (h - 1)) → (handle ≡ Free → ⊥) → handle_kept k (h - 1) ≡ handle
handle-place k zero handle none at some = absurd (some (none refl))
handle-place k (suc place) handle none at some = sym (at (omega arith))

pub free-writes : {image : ℕ} → Free ≡ Writes image → ⊥
free-writes e = cc

pub free-reads : {image : Option ℕ} {at total : ℕ} → Free ≡ Reads image at total → ⊥
free-reads e = cc

part-long : (k : Kept) (staged : ℕ → List ℕ) (image : ℕ) (p : Part) → IsKept k staged → image < length k.rows → part_at k image ≡ p → length (staged_bytes (part_meant p (staged image))) ≡ size_of p
part-long k staged image Nothing is lt e = refl
part-long k staged image (Open size hasher) is lt e = sym (is.opened image size hasher lt e).0
part-long k staged image (Committed size digest bit) is lt e = sym (is.committed image size digest bit lt e).0

-- the bytes of a staged image are as many as are counted
pub staged-long : (k : Kept) (staged : ℕ → List ℕ) (image : ℕ) → IsKept k staged → image < length k.rows → k.staging ≡ true → length (staged_bytes (staged_at (staging_meant k staged) image)) ≡ size_of (part_at k image)
staged-long k staged image is lt on =
    ap (λ (stg : Option (List Staged)). length (staged_bytes (staged_at stg image))) (staging-on k staged on)
    ∙ ap (λ (p : Staged). length (staged_bytes p)) (part-is k staged image lt) ∙ part-long k staged image (part_at k image) is lt refl

pub slot-is : (E : Setting) (k : Kept) (image : ℕ) → k.rows ≡ E.layout.rows → slot_bytes E.layout image ≡ slot_room_of k.rows image
slot-is E k image rows = ap (λ (l : List ImageRow). slot_room_of l image) (sym rows)
