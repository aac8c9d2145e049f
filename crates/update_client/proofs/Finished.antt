-- The end of a staging that has all images.
use Rattle.std.proofs.Common.{◌≡◌, cond, ℕ, Bool, true, false, List, [], ◌∷◌, inl, inr, None, Result, Ok, Err, refl, sym, ap, subst, ◌∙◌, append-nil}
use Rattle.std.specs.Prelude.{IsErr, IsFalse}
use Rattle.flash_core.specs.declared.flash.FlashStop.TheVariants as flash_stop
use Rattle.fwu_model.specs.{State.State, State.Move, State.Switch, State.update_bank, State.after, Sound.Setting, Session.On}
use Rattle.fwu_model.specs.{Session.Staged, Session.is_committed, Session.no_handles, Reply.Reply, declared.kinds.Status.Status}
use Rattle.fwu_model.specs.Answer.{Answer, may_install, staged_bits, staged_package}
use Rattle.fwu_model.specs.Call as call
use Rattle.fwu_model.specs.Reply as reply
use Rattle.fwu_model.specs.declared.kinds.Status.TheVariants as status
use Rattle.agent_machine.specs.{declared.stop.Stop.Stop, Moment.Moment, Moment.Shows, Goes.GoesByMoves, Filling.between}
use Rattle.agent_machine.specs.Meets.{GoesBy, flash_result}
use Rattle.agent_machine.specs.declared.stop.Stop.TheVariants as stop
use Rattle.agent_machine.proofs.Going.{goes-then}
use Rattle.agent_machine.proofs.CallGoing.{MeetsAs, call-goes, call-replies, call-stopped}
use Rattle.update_client.specs.{Halts.Halts, Halts.stopped_as, Images.FinishesSend, Images.FinishesBy, Images.end_moves}
use Rattle.update_client.specs.declared.stops.SendStop.TheVariants.{End, Lost, Fault}
use Rattle.std.specs.List.{list_all}
use Rattle.agent_calls.proofs.Copies.{no-success}
use Rattle.update_client.proofs.{WrittenPiece.call-halts, Staging.end-answer, Staging.end-answers, Staging.cancel-answers}

abbrev of : Unit {0} → Reply
of u = reply.Success

module _ (passes : List ℕ → Bool) (old mid : Moment) where
  by-passes : (result : Result (Unit {0}) Stop) (E : Setting) → E.passes ≡ passes → MeetsAs of result passes call.End old mid
      → MeetsAs of result E.passes call.End old mid
  by-passes result E is meets = subst (λ (v : List ℕ → Bool). MeetsAs of result v call.End old mid) (sym is) meets

  -- what a test says of the end
  moves-are : (E : Setting) (s : State) (boot : ℕ) (parts : List Staged)
      → (end-answer E s boot parts (may_install E s (staged_package parts))).moves ≡ end_moves E s (staged_package parts) (staged_bits parts)
  moves-are E s boot parts = by-test (may_install E s (staged_package parts))
    where
      by-test : (b : Bool) → (end-answer E s boot parts b).moves ≡ cond b (Switch (update_bank s) (staged_package parts) (staged_bits parts) ∷ []) []
      by-test true = refl
      by-test false = refl

  pub finish-done : MeetsAs of (Ok tt) passes call.End old mid → FinishesBy passes (Ok tt) old mid
  finish-done meets E s boot parts layout verifier all shows =
      let m = by-passes (Ok tt) E verifier meets in
      let x = between boot parts in
      let is = end-answers E s boot parts all in
      let replied : reply.Success ≡ (end-answer E s boot parts (may_install E s (staged_package parts))).reply = call-replies E of
      (Ok tt) call.End old mid s x layout shows m reply.Success refl ∙ ap (λ (a : Answer). a.reply) is in
      let goes = subst (λ (a : Answer). GoesByMoves E (Ok tt) old mid s a.moves a.next) is
      (call-goes E of (Ok tt) call.End old mid s x layout shows m reply.Success refl) in
      by-test (may_install E s (staged_package parts)) replied goes
    where
      by-test : (b : Bool) → reply.Success ≡ (end-answer E s boot parts b).reply
          → GoesByMoves E (Ok tt) old mid s (end-answer E s boot parts b).moves (end-answer E s boot parts b).next
          → (b ≡ true) × GoesByMoves E (Ok tt) old mid s (cond b (Switch (update_bank s) (staged_package parts) (staged_bits parts) ∷ []) []) (On boot None no_handles)
      by-test true replied goes = (refl, goes)
      by-test false replied goes = absurd cc

  -- stopped by the flash
  ended-by : (q : Stop) → IsErr (flash_result {T = Unit {0}} (Err q)) → MeetsAs of (Err q) passes call.End old mid
      → (E : Setting) (s : State) (boot : ℕ) (parts : List Staged) → E.layout ≡ old.fields.layout → E.passes ≡ passes
      → list_all is_committed parts ≡ true → Shows old s (between boot parts)
      → GoesByMoves E (flash_result {T = Unit {0}} (Err q)) old mid s (end_moves E s (staged_package parts) (staged_bits parts)) (On boot None no_handles)
  ended-by q err meets E s boot parts layout verifier all shows =
      subst (λ (ms : List Move). GoesByMoves E (flash_result {T = Unit {0}} (Err q)) old mid s ms (On boot None no_handles))
      (ap (λ (a : Answer). a.moves) (end-answers E s boot parts all) ∙ moves-are E s boot parts)
      (call-stopped E of (Err q) call.End old mid s (between boot parts) layout shows (by-passes (Err q) E verifier meets) err (On boot None no_handles))

  pub finish-lost : MeetsAs of (Err stop.Lost) passes call.End old mid → FinishesBy passes (Err Lost) old mid
  finish-lost = ended-by stop.Lost refl

  pub finish-failed : MeetsAs of (Err stop.Fault) passes call.End old mid → FinishesBy passes (Err Fault) old mid
  finish-failed = ended-by stop.Fault refl

  -- refused: which status, and that nothing moved
  pub end-refused : (st : Status) → MeetsAs of (Err (stop.Status st)) passes call.End old mid
      → (E : Setting) (s : State) (boot : ℕ) (parts : List Staged) → E.layout ≡ old.fields.layout → E.passes ≡ passes
      → list_all is_committed parts ≡ true
      → Shows old s (between boot parts)
      → (st ≡ status.AuthFail) × (may_install E s (staged_package parts) ≡ false)
      × GoesByMoves E (Ok tt) old mid s (end_moves E s (staged_package parts) (staged_bits parts)) (between boot parts)
  end-refused st meets E s boot parts layout verifier all shows =
      let m = by-passes (Err (stop.Status st)) E verifier meets in
      let x = between boot parts in
      let is = end-answers E s boot parts all in
      let replied : reply.Refused st ≡ (end-answer E s boot parts (may_install E s (staged_package parts))).reply = call-replies E of
      (Err (stop.Status st)) call.End old mid s x layout shows m (reply.Refused st) refl ∙ ap (λ (a : Answer). a.reply) is in
      let goes = subst (λ (a : Answer). GoesByMoves E (Ok tt) old mid s a.moves a.next) is
      (call-goes E of (Err (stop.Status st)) call.End old mid s x layout shows m (reply.Refused st) refl) in
      by-test (may_install E s (staged_package parts)) replied goes
    where
      by-test : (b : Bool) → reply.Refused st ≡ (end-answer E s boot parts b).reply
          → GoesByMoves E (Ok tt) old mid s (end-answer E s boot parts b).moves (end-answer E s boot parts b).next
          → (st ≡ status.AuthFail) × (b ≡ false)
          × GoesByMoves E (Ok tt) old mid s (cond b (Switch (update_bank s) (staged_package parts) (staged_bits parts) ∷ []) []) (between boot parts)
      by-test true replied goes = absurd cc
      by-test false replied goes = (cc, refl, goes)

-- a refusal leaves the agent there
pub still-here : {T : Type 0} (st : Status) (was now : Bool) → IsFalse was → GoesBy {T = T} (Err (stop.Status st)) was now
    → IsFalse now
still-here st was false here goes = refl
still-here st was true here goes = elim (goes.later.0 refl) [
  | inl x ↦ absurd cc
  | inr x ↦ absurd x
]

module _ (passes : List ℕ → Bool) (old mid new : Moment) (st : Status) (ends : MeetsAs of (Err (stop.Status st)) passes call.End old mid) where
  -- refused and cancelled
  pub finish-refused : ((v : List ℕ → Bool) → MeetsAs of (Ok tt) v call.Cancel mid new) → FinishesBy passes (Err (End st)) old new
  finish-refused cancels E s boot parts layout verifier all shows =
      let one = end-refused passes old mid st ends E s boot parts layout verifier all shows in
      let ms = end_moves E s (staged_package parts) (staged_bits parts) in
      let two = subst (λ (a : Answer). GoesByMoves E (Ok tt) mid new (after s ms) a.moves a.next)
      (cancel-answers E (after s ms) boot parts no_handles)
      (call-goes E of (Ok tt) call.Cancel mid new (after s ms) (between boot parts) (layout ∙ sym one.2.stays.layout) one.2.shows
      (cancels E.passes) reply.Success refl) in (
        one.0,
        one.1,
        subst (λ (l : List Move). GoesByMoves E (Ok tt) old new s l (On boot None no_handles)) (append-nil ms)
            (goes-then E (Ok tt) old mid new s ms [] (between boot parts) (On boot None no_handles) one.2 two),
      )

  -- refused, and the cancel stopped by the flash
  pub finish-halted : (halt : Stop) (was now : Bool) → IsFalse was → GoesBy {T = Unit {0}} (Err halt) was now
      → ((v : List ℕ → Bool) → MeetsAs of (Err halt) v call.Cancel mid new) → FinishesBy passes (Err (stopped_as halt)) old new
  finish-halted halt was now here goes cancels E s boot parts layout verifier all shows =
      let one = end-refused passes old mid st ends E s boot parts layout verifier all shows in
      let ms = end_moves E s (staged_package parts) (staged_bits parts) in
      let x = between boot parts in
      let w = after s ms in
      let two : Halts {T = Unit {0}} (Err (stopped_as halt)) E mid new w boot (On boot None no_handles) = call-halts
      (Unit {0}) of halt E call.Cancel mid new w x (On boot None no_handles) (On boot None no_handles) reply.Success boot was now
      (layout ∙ sym one.2.stays.layout) one.2.shows
      (cancel-answers E w boot parts no_handles) no-success here goes (cancels E.passes) in
      by-halt halt E s boot parts one.2 two
    where
      by-halt : (halt : Stop) (E : Setting) (s : State) (boot : ℕ) (parts : List Staged)
          → GoesByMoves E (Ok tt) old mid s (end_moves E s (staged_package parts) (staged_bits parts)) (between boot parts)
          → Halts {T = Unit {0}} (Err (stopped_as halt)) E mid new (after s (end_moves E s (staged_package parts) (staged_bits parts))) boot (On boot None no_handles)
          → FinishesSend (Err (stopped_as halt)) E old new s boot (staged_package parts) (staged_bits parts)
      by-halt stop.Lost E s boot parts one two = subst (λ (l : List Move). GoesByMoves E (Err flash_stop.Lost) old new s l (On boot None no_handles))
          (append-nil (end_moves E s (staged_package parts) (staged_bits parts))) (goes-then E (Err flash_stop.Lost) old mid new s (end_moves E s (staged_package parts) (staged_bits parts)) []
          (between boot parts) (On boot None no_handles) one two)
      by-halt stop.Fault E s boot parts one two = subst (λ (l : List Move). GoesByMoves E (Err flash_stop.Failed) old new s l (On boot None no_handles))
          (append-nil (end_moves E s (staged_package parts) (staged_bits parts))) (goes-then E (Err flash_stop.Failed) old mid new s (end_moves E s (staged_package parts) (staged_bits parts)) []
          (between boot parts) (On boot None no_handles) one two)
      by-halt (stop.Status q) E s boot parts one two = absurd two
      by-halt stop.Gone E s boot parts one two = absurd two
