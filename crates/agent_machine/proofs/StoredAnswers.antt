-- What the machine answers where a decision of a begin, an accept or a previous is no refusal.
use Rattle.std.proofs.Common.{◌≡◌, ℕ, Bool, true, false, ◌&&◌, not, ◌==◌, cond, List, [], ◌∷◌, Option, Some, None, refl, sym, ap, ◌∙◌, IsTrue, eqb-true, inl, inr, get_or}
use Rattle.std.proofs.lemmas.Bool.{cases_Bool, and_parts, cond-true, cond-false, not-false}
use Rattle.fwu_formats.specs.Layout.{find_image}
use Rattle.fwu_model.specs.{declared.kinds.Status.Status, Sound.Setting, Reply.Success}
use Rattle.fwu_model.specs.State.{State, Move, Free, Accept, Back, bank, update_bank}
use Rattle.fwu_model.specs.Session.{Session, Staged, On, Handle, nothing_staged, no_handles}
use Rattle.fwu_model.specs.Answer.{Answer, answer, answered, refused, answer_begin, answer_accept, begin_moves, accept_image, cannot_begin, is_elsewhere, may_leave, has_other, may_go_back}
use Rattle.fwu_model.specs.declared.kinds.Status.TheVariants as status
use Rattle.fwu_model.specs.Call as call
use Rattle.agent_kept.specs.{declared.kinds.Plan.Plan, Plans.planned, Plans.by_verdict}
use Rattle.agent_kept.specs.declared.kinds.Plan.TheVariants as plan
use Rattle.agent_state.proofs.Replies.{begin-denied, accept-elsewhere, accept-staging, previous-stays, previous-alone, previous-asks, previous-staging}
use Rattle.agent_machine.specs.{Meets.may_try, Stored.frees}

-- a plan is no refusal
not-refused : (E : Setting) (s : State) (boot : ℕ) (stg : Option (List Staged)) (hs : List Handle) (p : Plan) (st : Status) (y : Session)
    → planned E s boot stg hs [] p ≡ refused st y → ⊥
unfolding planned
not-refused E s boot stg hs plan.Tell st y e = absurd (let r = ap (λ (a : Answer). a.reply) e in cc)
not-refused E s boot stg hs q st y e = absurd (let r = ap (λ (a : Answer). a.reply) e in cc)

module _ (E : Setting) (s : State) (boot : ℕ) (stg : Option (List Staged)) (hs : List Handle) where
  abbrev here : Session
  here = On boot stg hs

  -- ---- begin

  other-move : (b : Bool) (u : ℕ) (move : Move) (rest : List Move) → (Free u ≡ move → ⊥) → cond b [] (Free u ∷ []) ≡ move ∷ rest → ⊥
  other-move true u move rest not e = absurd cc
  other-move false u move rest not e = not (let same : Free u ≡ move = cc in same)

  begin-moves-are : (p : Plan) → begin_moves s ≡ (planned E s boot stg hs [] p).moves → begin_moves s ≡ cond (frees p) (Free (update_bank s) ∷ []) []
  unfolding planned
  begin-moves-are plan.End e = absurd (other-move _ (update_bank s) _ [] (λ same. absurd cc) e)
  begin-moves-are (plan.Accept image true) e = absurd (other-move _ (update_bank s) (Accept image) [] (λ same. absurd cc) e)
  begin-moves-are plan.Back e = absurd (other-move _ (update_bank s) Back [] (λ same. absurd cc) e)
  begin-moves-are other e = e

  begin-done : (n : ℕ) → cannot_begin s boot stg ≡ false → (n == 0) ≡ true
      → answer E s here (call.Begin n) ≡ answered Success (begin_moves s) (On boot (nothing_staged E) no_handles)
  unfolding answer answer_begin
  begin-done n can zero = cond-false (cannot_begin s boot stg) _ _ can ∙ cond-false (not (n == 0)) _ _ (ap not zero)

  begin-refused : (n : ℕ) → cannot_begin s boot stg ≡ false → (n == 0) ≡ false → answer E s here (call.Begin n) ≡ refused status.NotAvailable here
  unfolding answer answer_begin
  begin-refused n can later = cond-false (cannot_begin s boot stg) _ _ can ∙ cond-true (not (n == 0)) _ _ (ap not later)

  -- What the decision of a begin is where it is no refusal: it may begin, and frees the update bank where that is in use.
  pub record Begins (n : ℕ) (p : Plan) : Type 0 where
    pub can : cannot_begin s boot stg ≡ false
    pub moves : begin_moves s ≡ cond (frees p) (Free (update_bank s) ∷ []) []
    pub is : answer E s here (call.Begin n) ≡ planned E s boot stg hs [] (plan.Begin (frees p))

  begin-is : (p : Plan) → begin_moves s ≡ cond (frees p) (Free (update_bank s) ∷ []) []
      → answered Success (begin_moves s) (On boot (nothing_staged E) no_handles) ≡ planned E s boot stg hs [] (plan.Begin (frees p))
  unfolding planned
  begin-is p e = ap (λ (ms : List Move). answered Success ms (On boot (nothing_staged E) no_handles)) e

  pub begins : (n : ℕ) (p : Plan) → answer E s here (call.Begin n) ≡ planned E s boot stg hs [] p → Begins n p
  begins n p e = elim (cases_Bool (cannot_begin s boot stg)) [
    | inl cannot ↦ absurd (not-refused E s boot stg hs p status.Denied here (sym e ∙ begin-denied E s boot stg hs [] n cannot))
    | inr can ↦ elim (cases_Bool (n == 0)) [
      | inl zero ↦
          let done = begin-done n can zero in
          let moves = begin-moves-are p (sym (ap (λ (a : Answer). a.moves) done) ∙ ap (λ (a : Answer). a.moves) e) in
          record { can = can; moves = moves; is = done ∙ begin-is p moves }
      | inr later ↦ absurd (not-refused E s boot stg hs p status.NotAvailable here (sym e ∙ begin-refused n can later))
    ]
  ]

  -- ---- accept

  -- what an accept does, where it is no refusal
  pub record Accepts (guid : List ℕ) : Type 0 where
    pub idle : stg ≡ None
    pub booted : boot ≡ s.active
    pub image : ℕ
    pub is : answer E s here (call.Accepts guid) ≡ answered Success (cond (get_or (bank s s.active).bits image false) [] (Accept image ∷ [])) here

module _ (E : Setting) (s : State) (boot : ℕ) (hs : List Handle) where
  abbrev idle : Session
  idle = On boot None hs

  accept-here : (guid : List ℕ) → is_elsewhere s boot ≡ false → answer E s idle (call.Accepts guid) ≡ accept_image s boot hs (find_image E.layout.rows guid)
  unfolding answer answer_accept
  accept-here guid at = cond-false (is_elsewhere s boot) _ _ at

  accepts-by : (guid : List ℕ) (p : Plan) (found : Option ℕ) → is_elsewhere s boot ≡ false
      → answer E s idle (call.Accepts guid) ≡ accept_image s boot hs found → answer E s idle (call.Accepts guid) ≡ planned E s boot None hs [] p
      → Accepts E s boot None hs guid
  accepts-by guid p None at found e = absurd (not-refused E s boot None hs p status.Unknown idle (sym e ∙ found))
  accepts-by guid p (Some image) at found e =
      record { idle = refl; booted = eqb-true _ _ (not-false (boot == s.active) at); image = image; is = found }

  accepts-idle : (guid : List ℕ) (p : Plan) → answer E s idle (call.Accepts guid) ≡ planned E s boot None hs [] p → Accepts E s boot None hs guid
  accepts-idle guid p e = elim (cases_Bool (is_elsewhere s boot)) [
    | inl elsewhere ↦ absurd (not-refused E s boot None hs p status.Denied idle (sym e ∙ accept-elsewhere E s boot hs [] guid elsewhere))
    | inr at ↦ accepts-by guid p (find_image E.layout.rows guid) at (accept-here guid at) e
  ]

pub accepts : (E : Setting) (s : State) (boot : ℕ) (stg : Option (List Staged)) (hs : List Handle) (guid : List ℕ) (p : Plan)
    → answer E s (On boot stg hs) (call.Accepts guid) ≡ planned E s boot stg hs [] p → Accepts E s boot stg hs guid
accepts E s boot None hs guid p e = accepts-idle E s boot hs guid p e
accepts E s boot (Some parts) hs guid p e = absurd (not-refused E s boot (Some parts) hs p status.Denied (On boot (Some parts) hs)
    (sym e ∙ accept-staging E s boot parts hs [] guid))

pub back-is : (E : Setting) (s : State) (boot : ℕ) (stg : Option (List Staged)) (hs : List Handle)
    → planned E s boot stg hs [] plan.Back ≡ answered Success (Back ∷ []) (On boot stg hs)
unfolding planned
back-is E s boot stg hs = refl

-- ---- previous

-- what a previous is where it is no refusal
pub record GoesThere (E : Setting) (s : State) (boot : ℕ) (stg : Option (List Staged)) (hs : List Handle) : Type 0 where
  pub may : IsTrue (may_try s (On boot stg hs))
  pub good : IsTrue (may_go_back E s (bank s s.previous).held)
  pub is : answer E s (On boot stg hs) call.Previous ≡ planned E s boot stg hs [] plan.Back

module _ (E : Setting) (s : State) (boot : ℕ) (hs : List Handle) where
  abbrev at_rest : Session
  at_rest = On boot None hs

  pub asks : IsTrue (may_try s at_rest) → answer E s at_rest call.Previous ≡ by_verdict at_rest (may_go_back E s (bank s s.previous).held)
  asks may = let both = and_parts _ _ may in previous-asks E s boot hs [] both.0 both.1

  pub stays : may_try s at_rest ≡ false → answer E s at_rest call.Previous ≡ refused status.Denied at_rest
  stays not = elim (cases_Bool (may_leave s boot)) [
    | inl leave ↦ previous-alone E s boot hs [] leave (sym (ap (λ (b : Bool). b && has_other s) leave) ∙ not)
    | inr alone ↦ previous-stays E s boot hs [] alone
  ]

  goes-idle : (p : Plan) → answer E s at_rest call.Previous ≡ planned E s boot None hs [] p → GoesThere E s boot None hs
  goes-idle p e = elim (cases_Bool (may_try s at_rest)) [
    | inr not ↦ absurd (not-refused E s boot None hs p status.Denied at_rest (sym e ∙ stays not))
    | inl may ↦ elim (cases_Bool (may_go_back E s (bank s s.previous).held)) [
      | inr bad ↦ absurd (not-refused E s boot None hs p status.Denied at_rest (sym e ∙ asks may ∙ ap (by_verdict at_rest) bad))
      | inl good ↦ record { may = may; good = good; is = asks may ∙ ap (by_verdict at_rest) good ∙ sym (back-is E s boot None hs) }
    ]
  ]

pub goes : (E : Setting) (s : State) (boot : ℕ) (stg : Option (List Staged)) (hs : List Handle) (p : Plan)
    → answer E s (On boot stg hs) call.Previous ≡ planned E s boot stg hs [] p → GoesThere E s boot stg hs
goes E s boot None hs p e = goes-idle E s boot hs p e
goes E s boot (Some parts) hs p e = absurd (not-refused E s boot (Some parts) hs p status.Denied (On boot (Some parts) hs)
    (sym e ∙ previous-staging E s boot parts hs []))

-- only DENIED refuses it
pub denied-alone : (E : Setting) (s : State) (boot : ℕ) (stg : Option (List Staged)) (hs : List Handle) (st : Status)
    → answer E s (On boot stg hs) call.Previous ≡ refused st (On boot stg hs) → st ≡ status.Denied
denied-alone E s boot (Some parts) hs st e = let r = ap (λ (a : Answer). a.reply) (sym e ∙ previous-staging E s boot parts hs []) in cc
denied-alone E s boot None hs st e = elim (cases_Bool (may_try s (On boot None hs))) [
  | inr not ↦ let r = ap (λ (a : Answer). a.reply) (sym e ∙ stays E s boot hs not) in cc
  | inl may ↦ elim (cases_Bool (may_go_back E s (bank s s.previous).held)) [
    | inr bad ↦ let r = ap (λ (a : Answer). a.reply) (sym e ∙ asks E s boot hs may ∙ ap (by_verdict (On boot None hs)) bad) in cc
    | inl good ↦ absurd (let r = ap (λ (a : Answer). a.reply) (sym e ∙ asks E s boot hs may ∙ ap (by_verdict (On boot None hs)) good) in cc)
  ]
]
