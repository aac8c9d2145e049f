-- Decisions of requests that ask no verifier, whatever verifier there is.
use Rattle.std.proofs.Common.{◌≡◌, ℕ, Bool, List, length, Option, Some, None, refl, sym, ap, ◌∙◌}
use Rattle.fwu_model.specs.{declared.kinds.Status.Status, State.State, Sound.Setting, Session.On, Session.Staged, Session.Handle}
use Rattle.fwu_model.specs.Answer.{answer, answer_begin, answer_begin_partial, answer_open_read, answer_open_write, answer_write, answer_read, answer_commit, answer_cancel, answer_accept, content, directory, handle_at}
use Rattle.fwu_model.specs.declared.kinds.Op.TheVariants as op
use Rattle.fwu_formats.specs.Metadata.{MetaRead}
use Rattle.fwu_model.specs.Session as session
use Rattle.agent_kept.specs.{declared.kinds.Request.Request, declared.kinds.Plan.Plan, Kept.Kept}
use Rattle.agent_kept.specs.Plans.{call_of, planned, Speaks, FitsRequest}
use Rattle.agent_kept.specs.declared.kinds.Request.TheVariants as request
use Rattle.agent_kept.specs.declared.kinds.Plan.TheVariants as plan
use Rattle.agent_kept.specs.declared.kinds.Decision.TheVariants as decision
use Rattle.agent_state.specs.Decides.{DecidesRequest}
use Rattle.agent_machine.specs.Asks.{AsksNoVerifier}

-- the setting with another verifier
abbrev pub with_verifier : Setting → (List ℕ → Bool) → Setting
with_verifier E passes = record { layout = E.layout; files = E.files; passes = passes }

content-any : (E : Setting) (passes : List ℕ → Bool) (s : State) (boot : ℕ) (image : Option ℕ)
    → content (with_verifier E passes) s boot image ≡ content E s boot image
unfolding directory
content-any E passes s boot None = refl
content-any E passes s boot (Some image) = refl

answer-any : (E : Setting) (passes : List ℕ → Bool) (s : State) (boot : ℕ) (stg : Option (List Staged)) (hs : List Handle) (r : Request) (bytes : List ℕ)
    → AsksNoVerifier r
    → answer (with_verifier E passes) s (On boot stg hs) (call_of r bytes) ≡ answer E s (On boot stg hs) (call_of r bytes)
unfolding answer answer_begin answer_begin_partial answer_open_read answer_open_write answer_write answer_read answer_commit answer_cancel answer_accept directory
answer-any E passes s boot stg hs (request.Open guid op.Read total) bytes plain = refl
answer-any E passes s boot stg hs (request.Read h room) bytes plain = by-handle (handle_at hs h)
  where
    by-handle : (k : Handle) → answer_read (with_verifier E passes) s boot stg hs h room k ≡ answer_read E s boot stg hs h room k
    by-handle session.Free = refl
    by-handle (session.Reads None place) = refl
    by-handle (session.Reads (Some image) place) = refl
    by-handle (session.Writes image) = refl
answer-any E passes s boot stg hs request.End bytes plain = absurd plain
answer-any E passes s boot stg hs request.Previous bytes plain = absurd plain
answer-any E passes s boot stg hs other bytes plain = refl

planned-any : (E : Setting) (passes : List ℕ → Bool) (s : State) (boot : ℕ) (stg : Option (List Staged)) (hs : List Handle) (bytes : List ℕ) (p : Plan)
    → planned (with_verifier E passes) s boot stg hs bytes p ≡ planned E s boot stg hs bytes p
unfolding planned directory
planned-any E passes s boot stg hs bytes (plan.Read h None at n total) = refl
planned-any E passes s boot stg hs bytes (plan.Read h (Some image) at n total) = refl
planned-any E passes s boot stg hs bytes q = refl

module _ (p q : List ℕ → Bool) (m : MetaRead) (counter : ℕ) (k : Kept) (boot : ℕ) (r : Request) (plain : AsksNoVerifier r) where
  speaks-any : (E : Setting) (s : State) (staged : ℕ → List ℕ) → Speaks E s q m counter k boot staged
      → Speaks (with_verifier E p) s p m counter k boot staged
  speaks-any E s staged sp = assumption

  fits-any : (E : Setting) (s : State) (bytes : List ℕ) (x : Request) → FitsRequest E s boot k x bytes → FitsRequest (with_verifier E p) s boot k x bytes
  fits-any E s bytes (request.Write h n) fits = fits
  fits-any E s bytes (request.Read h room) fits =
      λ image at total is. fits image at total is ∙ sym (ap (λ (l : List ℕ). length l) (content-any E p s boot image))
  fits-any E s bytes q fits = tt

  -- a refusal, and a plan, are the machine's in settings with any verifier
  pub refuses-any : (st : Status) → DecidesRequest p m counter k boot r (decision.Refused st) → DecidesRequest q m counter k boot r (decision.Refused st)
  refuses-any st decides E s staged bytes sp fits =
      sym (answer-any E p s boot _ _ r bytes plain) ∙ decides (with_verifier E p) s staged bytes (speaks-any E s staged sp) (fits-any E s bytes r fits)

  pub plans-any : (d : Plan) → DecidesRequest p m counter k boot r (decision.Do d) → DecidesRequest q m counter k boot r (decision.Do d)
  plans-any d decides E s staged bytes sp fits =
      sym (answer-any E p s boot _ _ r bytes plain) ∙ decides (with_verifier E p) s staged bytes (speaks-any E s staged sp) (fits-any E s bytes r fits)
      ∙ planned-any E p s boot _ _ bytes d
