-- What a plan that was carried out, or a refusal, says of a call.
use Rattle.std.proofs.Common.{◌≡◌, inl, ℕ, Bool, List, [], ◌∷◌, None, Result, Ok, Err, refl, sym, ap, ◌∙◌, subst, IsTrue}
use Rattle.flash_core.specs.Told.{Told}
use Rattle.fwu_model.specs.{declared.kinds.Status.Status, State.State, State.Back, State.after, Session.Session, Sound.Setting}
use Rattle.fwu_model.specs.{Call.Call, Call.Previous, Reply.Reply, Reply.Success}
use Rattle.fwu_model.specs.Answer.{Answer, answer, answered, refused}
use Rattle.fwu_model.specs.declared.kinds.Status.TheVariants as status
use Rattle.moves.specs.Moved.{Does}
use Rattle.agent_kept.specs.{declared.kinds.Plan.Plan, Kept.staging_meant, Kept.handles_meant, Plans.planned_in}
use Rattle.agent_kept.specs.declared.kinds.Plan.TheVariants as plan
use Rattle.agent_machine.specs.{declared.stop.Stop.Stop, Fields.Fields, Machine.state_in, Machine.session_in, Moment.Moment}
use Rattle.agent_machine.specs.{Moment.Shows, Stored.CarriesOut, Stored.MayBeDone}
use Rattle.agent_machine.specs.Meets.{Answers, GoesBack, IsRefused, IsSettingOf, LeavesFlash, Meets, MeetsPrevious, Stays, flash_result, may_try}
use Rattle.agent_machine.specs.declared.stop.Stop.TheVariants as stop
use Rattle.agent_machine.proofs.{Answered.still-leaves, StoredAnswers.back-is}

abbrev Succeeds : Unit {0} → Reply → Type 0
Succeeds value reply = reply ≡ Success

-- the machine's answer to the call is the plan's, and the plan may be done
pub record AnswersBy (E : Setting) (s : State) (x : Session) (c : Call) (p : Plan) : Type 0 where
  pub is : answer E s x c ≡ planned_in E s x [] p
  pub reply : (planned_in E s x [] p).reply ≡ Success
  pub may : MayBeDone E s p

module _ (result : Result (Unit {0}) Stop) (passes : List ℕ → Bool) (c : Call) (p : Plan) (old new : Moment)
    (carried : CarriesOut (flash_result result) p old new) (answered_it : IsRefused result → ⊥) where
  by-carried : (r : Result (Unit {0}) Stop) (E : Setting) (s : State) (x : Session) → (IsRefused r → ⊥) → CarriesOut (flash_result r) p old new
      → IsSettingOf old.fields passes E → Shows old s x → AnswersBy E s x c p → Answers Succeeds r E s x c new
  by-carried (Ok value) E s x not carries setting shows by = (
    ap (λ (a : Answer). a.reply) by.is ∙ by.reply,
    subst (λ (a : Answer). Shows new (after s a.moves) a.next) (sym by.is)
        (carries.shows E s x setting.layout shows),
  )
  by-carried (Err (stop.Status st)) E s x not carries setting shows by = absurd (not tt)
  by-carried (Err cause) E s x not carries setting shows by = tt

  leaves-carried : ((E : Setting) (s : State) (x : Session) → IsSettingOf old.fields passes E → Shows old s x → IsTrue old.tells
      → AnswersBy E s x c p)
      → LeavesFlash (flash_result result) passes c old new
  leaves-carried by = record {
    does = λ E s x setting shows tells ready.
        let it = by E s x setting shows tells in
        subst (λ (a : Answer). Does (flash_result result) E s a.moves new.told) (sym it.is)
        (carried.does E s x setting.layout shows it.may tells ready);
    guarded = carried.guarded;
    keeps = carried.keeps;
    touches = carried.touches;
    decides = carried.decides;
    stays = carried.stays;
  }

  pub carried-meets : ((E : Setting) (s : State) (x : Session) → IsSettingOf old.fields passes E → Shows old s x → AnswersBy E s x c p)
      → Meets Succeeds result passes c old new
  carried-meets by = record {
    exact = λ E s x setting shows. by-carried result E s x answered_it carried setting shows (by E s x setting shows);
    leaves = leaves-carried (λ E s x setting shows tells. by E s x setting shows);
  }

-- ---- nothing was done

-- the moment afterwards, where what is told is the same
module _ (tells : Bool) (f : Fields) (s t : Told) {old_writes new_writes : ℕ → ℕ} (same : IsTrue tells → t ≡ s) (still : new_writes ≡ old_writes) where
  abbrev old : Moment
  old = record { tells = tells; told = s; writes = old_writes; fields = f }

  abbrev new : Moment
  new = record { tells = tells; told = t; writes = new_writes; fields = f }

  pub shows-still : (x : State) (y : Session) → Shows old x y → Shows new x y
  shows-still x y shows = record {
    told = λ is. subst (λ (u : Told). (x ≡ state_in f u.now) × (y ≡ session_in f u.now)) (sym (same is)) (shows.told is);
    speaks = shows.speaks;
    staged = shows.staged;
    kept = shows.kept;
    means = shows.means;
  }

  pub same-stays : Stays old new
  same-stays = let guard : IsTrue tells → t.guard ≡ s.guard = λ is. ap (λ (u : Told). u.guard) (same is) in assumption

  -- a refusal, or an answer that changes nothing
  pub same-leaves : (passes : List ℕ → Bool) (c : Call) → ((E : Setting) (x : State) (y : Session) → IsSettingOf f passes E → Shows old x y
      → IsTrue tells → (answer E x y c).moves ≡ []) → LeavesFlash (Ok tt) passes c old new
  same-leaves passes c none = still-leaves (Ok tt) passes c old new same still same-stays
      (λ E x y setting shows is. inl (none E x y setting shows is))

  pub refused-answers : (passes : List ℕ → Bool) (c : Call) (st : Status) (E : Setting) (x : State) (y : Session) → Shows old x y
      → answer E x y c ≡ refused st y → Answers Succeeds (Err (stop.Status st)) E x y c new
  refused-answers passes c st E x y shows is =
      (ap (λ (a : Answer). a.reply) is, subst (λ (a : Answer). Shows new (after x a.moves) a.next) (sym is) (shows-still x y shows))

  pub refused-meets : (passes : List ℕ → Bool) (c : Call) (st : Status)
      → ((E : Setting) (x : State) (y : Session) → IsSettingOf f passes E → Shows old x y → answer E x y c ≡ refused st y)
      → Meets {T = Unit {0}} Succeeds (Err (stop.Status st)) passes c old new
  refused-meets passes c st is = record {
    exact = λ E x y setting shows. refused-answers passes c st E x y shows (is E x y setting shows);
    leaves = same-leaves passes c (λ E x y setting shows tells_it. ap (λ (a : Answer). a.moves) (is E x y setting shows));
  }

  -- a refused previous
  pub refused-previous : (passes : List ℕ → Bool) → ((E : Setting) (x : State) (y : Session) → IsSettingOf f passes E → Shows old x y → IsTrue tells
      → answer E x y Previous ≡ refused status.Denied y)
      → MeetsPrevious (Err (stop.Status status.Denied)) passes old new
  refused-previous passes is = record {
    exact = λ E x y setting shows tells_it. refused-answers passes Previous status.Denied E x y shows (is E x y setting shows tells_it);
    shows = λ x y shows. (refl, shows-still x y shows);
    leaves = same-leaves passes Previous (λ E x y setting shows tells_it. ap (λ (a : Answer). a.moves) (is E x y setting shows tells_it));
  }

-- ---- previous

-- what is shown of an agent is a session that is on
pub back-planned : (E : Setting) (m : Moment) (s : State) (x : Session) → Shows m s x → planned_in E s x [] plan.Back ≡ answered Success (Back ∷ []) x
back-planned E m s x shows =
    subst (λ (y : Session). planned_in E s y [] plan.Back ≡ answered Success (Back ∷ []) y) (sym shows.means)
    (back-is E s m.fields.boot (staging_meant m.fields.session shows.staged) (handles_meant m.fields.session))

module _ (result : Result (Unit {0}) Stop) (passes : List ℕ → Bool) (old new : Moment) (carried : CarriesOut (flash_result result) plan.Back old new)
    (answered_it : IsRefused result → ⊥)
    (may : (s : State) (x : Session) → Shows old s x → IsTrue (may_try s x)) where
  abbrev plain : Setting
  plain = record { layout = old.fields.layout; files = λ _. None; passes = passes }

  back-by : (r : Result (Unit {0}) Stop) → (IsRefused r → ⊥) → CarriesOut (flash_result r) plan.Back old new → (s : State) (x : Session)
      → Shows old s x → GoesBack r s x new
  back-by (Ok value) not carries s x shows = (
    may s x shows,
    subst (λ (a : Answer). Shows new (after s a.moves) a.next)
        (back-planned plain old s x shows) (carries.shows plain s x refl shows),
  )
  back-by (Err (stop.Status st)) not carries s x shows = absurd (not tt)
  back-by (Err cause) not carries s x shows = tt

  pub carried-previous : ((E : Setting) (s : State) (x : Session) → IsSettingOf old.fields passes E → Shows old s x → IsTrue old.tells
      → AnswersBy E s x Previous plan.Back) → MeetsPrevious result passes old new
  carried-previous by = record {
    exact = λ E s x setting shows tells. by-carried result passes Previous plan.Back old new carried answered_it result E s x answered_it carried
        setting shows (by E s x setting shows tells);
    shows = λ s x shows. back-by result answered_it carried s x shows;
    leaves = leaves-carried result passes Previous plan.Back old new carried answered_it by;
  }
