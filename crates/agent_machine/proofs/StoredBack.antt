-- What going back is: by the session, the numbers of the banks and the verdict on the previous one.
use Rattle.std.proofs.Common.{◌≡◌, inl, inr, ℕ, Bool, true, false, ◌&&◌, ◌||◌, not, ◌==◌, cond, List, [], Option, Some, None, Result, Err, refl, sym, ap, ap₂, ◌∙◌, subst, IsTrue}
use Rattle.std.specs.Prelude.{IsErr}
use Rattle.std.proofs.lemmas.Bool.{and_parts, and_from, cases_Bool}
use Rattle.flash_core.specs.{declared.flash.FlashStop.FlashStop, Told.Told}
use Rattle.fwu_formats.specs.{Layout.Layout, Metadata.Meta, Metadata.state_at, Image.package_in}
use Rattle.fwu_formats.proofs.Read.{package-complete}
use Rattle.fwu_model.specs.{declared.kinds.Status.Status, Sound.Setting, Sound.is_permitted, Sound.holds_permitted, Calm.IsAtRest}
use Rattle.fwu_model.specs.State.{State, Bank, bank, is_valid, is_accepted}
use Rattle.fwu_model.specs.Session.{Session, Staged, Handle, On}
use Rattle.fwu_model.specs.Answer.{Answer, answer, refused, may_go_back}
use Rattle.fwu_model.specs.declared.kinds.Status.TheVariants as status
use Rattle.fwu_model.specs.Call as call
use Rattle.fwu_model.proofs.Banks.{accepted-used}
use Rattle.meta_layout.proofs.Fits.{meta-fits}
use Rattle.moves.specs.Moved.{IsReady}
use Rattle.moves.proofs.MetaMoves.{bank-at}
use Rattle.agent_kept.specs.declared.kinds.Request.TheVariants as request
use Rattle.agent_kept.specs.declared.kinds.Plan.TheVariants as plan
use Rattle.agent_kept.specs.{declared.kinds.Decision.Decision, Plans.by_verdict}
use Rattle.agent_kept.specs.Kept.{session_meant, staging_meant, handles_meant, parts_meant}
use Rattle.agent_kept.specs.declared.kinds.Decision.TheVariants as decision
use Rattle.agent_state.specs.{Decides.DecidesRequest, Decides.has_other_kept, Ruled.ruled_as}
use Rattle.agent_state.proofs.{Machine.leave-is, Machine.other-is, Machine.is-idle, Replies.accepting, Replies.previous-staging}
use Rattle.agent_machine.specs.{Deciding.KeepsOldOrNew, Beside.IsSpared, Beside.KeepsSpared, declared.stop.Stop.Stop}
use Rattle.agent_machine.specs.{Fields.Fields, Machine.state_in, Moment.Moment, Moment.Shows, Moment.SpeaksOf}
use Rattle.agent_machine.specs.Knows.{Fitting, SessionSound, Knows}
use Rattle.agent_machine.specs.Meets.{IsRefused, IsSettingOf, IsStopped, LeavesFlash, MeetsPrevious, flash_result, may_try}
use Rattle.agent_machine.specs.Stored.{CarriesOut, MayBeDone, may_try_kept, is_to_do}
use Rattle.agent_machine.proofs.{Beside.blocks-still, Beside.blocks-then, Answered.still-leaves}
use Rattle.agent_machine.proofs.StoredAnswers.{asks, stays, goes, denied-alone}
use Rattle.agent_machine.proofs.StoredCalls.{refused-of, planned-meant, plain-of}
use Rattle.agent_machine.proofs.StoredMeets.{shows-still, same-stays, same-leaves, refused-answers, refused-previous, carried-previous, back-planned}
use Rattle.agent_machine.specs.declared.stop.Stop.TheVariants as stop

-- ---- what the bank holds

-- a package that a bank holds may be gone back to where it is permitted
pub may-back-is : (E : Setting) (s : State) (counter : ℕ) (image : List ℕ) (b : ℕ) (held : Option (List (List ℕ))) → s.counter ≡ counter
    → package_in E.layout image b ≡ held → may_go_back E s held ≡ holds_permitted E counter held
may-back-is E s counter image b None same is = refl
may-back-is E s counter image b (Some p) same is =
    ap (λ (c : Bool). c && is_permitted E s.counter p) (package-complete E.layout image b p is) ∙ ap (λ (n : ℕ). is_permitted E n p) same

-- ---- whether it may be tried

module _ (f : Fields) (s : State) (of : SpeaksOf f s) (staged : ℕ → List ℕ) where
  abbrev stg : Option (List Staged)
  stg = staging_meant f.session staged

  abbrev hs : List Handle
  hs = handles_meant f.session

  tried-idle : may_try_kept f.meta.meta f.session f.boot ≡ true → IsTrue (may_try s (On f.boot None hs))
  tried-idle may =
      let both = and_parts _ _ may in
      and_from _ _ (sym (leave-is s f.meta of.meta f.boot) ∙ (accepting f.session.staging _ both.0).1) (sym (other-is s f.meta of.meta) ∙ both.1)

  pub idle-is : may_try_kept f.meta.meta f.session f.boot ≡ true → f.session.staging ≡ false
  idle-is may = (accepting f.session.staging _ (and_parts _ _ may).0).0

  pub tried : may_try_kept f.meta.meta f.session f.boot ≡ true → IsTrue (may_try s (On f.boot stg hs))
  tried may = subst (λ (o : Option (List Staged)). IsTrue (may_try s (On f.boot o hs))) (sym (is-idle f.session staged (idle-is may))) (tried-idle may)

  pub asked : (E : Setting) → may_try_kept f.meta.meta f.session f.boot ≡ true
      → answer E s (On f.boot stg hs) call.Previous ≡ by_verdict (On f.boot stg hs) (may_go_back E s (bank s s.previous).held)
  asked E may =
      subst (λ (o : Option (List Staged)). answer E s (On f.boot o hs) call.Previous ≡ by_verdict (On f.boot o hs)
      (may_go_back E s (bank s s.previous).held)) (sym (is-idle f.session staged (idle-is may)))
      (asks E s f.boot hs (tried-idle may))

  stays-by : (b : Bool) → f.session.staging ≡ b → (E : Setting) → may_try_kept f.meta.meta f.session f.boot ≡ false
      → answer E s (On f.boot (cond b (Some (parts_meant f.session staged)) None) hs) call.Previous ≡ refused status.Denied (On f.boot
      (cond b (Some (parts_meant f.session staged)) None) hs)
  stays-by true is E untried = previous-staging E s f.boot (parts_meant f.session staged) hs []
  stays-by false is E untried =
      stays E s f.boot hs
      (ap₂ (λ (a b : Bool). a && b) (sym (leave-is s f.meta of.meta f.boot)) (sym (other-is s f.meta of.meta))
      ∙ ap (λ (b : Bool). (not b && (is_valid (state_at f.meta.meta f.meta.meta.active) || not
      (f.boot == f.meta.meta.active))) && has_other_kept f.meta.meta) (sym is) ∙ untried)

  pub not-tried : (E : Setting) → may_try_kept f.meta.meta f.session f.boot ≡ false
      → answer E s (On f.boot stg hs) call.Previous ≡ refused status.Denied (On f.boot stg hs)
  not-tried E untried = stays-by f.session.staging refl E untried

-- ---- by the verdict

-- On a device that tells its content the verdict decides.
module _ (f : Fields) (fitting : Fitting f) (t : Told) (passes : List ℕ → Bool) (may : may_try_kept f.meta.meta f.session f.boot ≡ true) (good : Bool)
    (good-is : (E : Setting) → IsSettingOf f passes E → good ≡ holds_permitted E f.counter (package_in f.layout t.now f.meta.meta.previous)) where
  abbrev m : Meta
  m = f.meta.meta

  abbrev now : State
  now = state_in f t.now

  accepted : IsTrue (is_accepted (state_at m m.previous))
  accepted = (and_parts _ _ (and_parts _ _ may).1).1

  held-is : (bank now now.previous).held ≡ package_in f.layout t.now m.previous
  held-is =
      let whole = meta-fits f.layout m fitting.meta in
      ap (λ (b : Bank). b.held) (bank-at f.layout t.now m whole m.previous whole.previous)
      ∙ ap (λ (b : Bool). cond b None (package_in f.layout t.now m.previous)) (accepted-used _ accepted)

  pub verdict-is : (E : Setting) → IsSettingOf f passes E → now.counter ≡ f.counter → may_go_back E now (bank now now.previous).held ≡ good
  verdict-is E setting counter =
      ap (may_go_back E now) held-is
      ∙ may-back-is E now f.counter t.now m.previous (package_in f.layout t.now m.previous) counter
      (ap (λ (l : Layout). package_in l t.now m.previous) setting.layout)
      ∙ sym (good-is E setting)

  pub permitted-is : (E : Setting) → IsSettingOf f passes E → now.counter ≡ f.counter → good ≡ true → MayBeDone E now plan.Back
  permitted-is E setting counter yes_ = ap₂ (λ (n : ℕ) (o : Option (List (List ℕ))). holds_permitted E n o) counter held-is ∙ sym (good-is E setting) ∙ yes_

-- ---- what going back says at each exit

by-verdict : (b : ℕ) (good : Bool) → is_to_do (ruled_as (decision.ByVerdict b) good) ≡ good
by-verdict b true = refl
by-verdict b false = refl

module _ (tells : Bool) (f : Fields) (fitting : Fitting f) (sound : SessionSound f) (s t : Told)
    {old_writes new_writes : ℕ → ℕ} (same : IsTrue tells → t ≡ s) (still : new_writes ≡ old_writes) (passes : List ℕ → Bool) where
  abbrev old : Moment
  old = record { tells = tells; told = s; writes = old_writes; fields = f }

  abbrev mid : Moment
  mid = record { tells = tells; told = t; writes = new_writes; fields = f }

  -- the numbers don't allow it
  pub untried-meets : may_try_kept f.meta.meta f.session f.boot ≡ false → MeetsPrevious (Err (stop.Status status.Denied)) passes old mid
  untried-meets untried =
      refused-previous tells f s t same still passes (λ E x y setting shows is.
      subst (λ (z : Session). answer E x z call.Previous ≡ refused status.Denied z) (sym shows.means) (not-tried f x shows.speaks shows.staged E untried))

  -- it is refused as it is decided
  pub refused-meets-previous : (st : Status) → DecidesRequest passes f.meta f.counter f.session f.boot request.Previous (decision.Refused st)
      → MeetsPrevious (Err (stop.Status st)) passes old mid
  refused-meets-previous st decides = record {
    exact = λ E x y setting shows is. refused-answers tells f s t same still passes call.Previous st E x y shows (here E x y setting shows);
    shows = λ x y shows. (
      denied-alone (plain-of f passes) x f.boot (staging_meant f.session shows.staged) (handles_meant f.session) st
          (subst (λ (z : Session). answer (plain-of f passes) x z call.Previous ≡ refused st z) shows.means
          (here (plain-of f passes) x y (record { layout = refl; verifier = refl }) shows)),
      shows-still tells f s t same still x y shows,
    );
    leaves = same-leaves tells f s t same still passes call.Previous (λ E x y setting shows is. ap (λ (a : Answer). a.moves) (here E x y setting shows));
  }
    where
      here : (E : Setting) (x : State) (y : Session) → IsSettingOf f passes E → Shows old x y → answer E x y call.Previous ≡ refused st y
      here E x y setting shows = refused-of old fitting sound passes request.Previous (λ e z. tt) st decides E x y setting shows

  -- the flash stopped the reading
  stopped-leaves : (result : Result (Unit {0}) FlashStop) → IsErr result → LeavesFlash result passes call.Previous old mid
  stopped-leaves result err =
      still-leaves result passes call.Previous old mid same still (same-stays tells f s t same still)
      (λ E x y setting shows is. inr err)

  pub stopped-meets : (r : Stop) → IsStopped {T = Unit {0}} (Err r) → MeetsPrevious (Err r) passes old mid
  stopped-meets (stop.Status st) is = absurd is
  stopped-meets stop.Gone is = absurd is
  stopped-meets cause is = record {
    exact = λ E x y setting shows tells_it. tt;
    shows = λ x y shows. tt;
    leaves = stopped-leaves (flash_result {T = Unit {0}} (Err cause)) refl;
  }

  module _ (knows : IsTrue tells → Knows f s) (may : may_try_kept f.meta.meta f.session f.boot ≡ true) (d : Decision)
      (decides : DecidesRequest passes f.meta f.counter f.session f.boot request.Previous d) (good : Bool)
      (good-is : IsTrue tells → (E : Setting) → IsSettingOf f passes E → good ≡ holds_permitted E f.counter
      (package_in f.layout s.now f.meta.meta.previous)) where
    module _ (E : Setting) (x : State) (y : Session) (setting : IsSettingOf f passes E) (shows : Shows old x y) (is : IsTrue tells) where
      here-is : x ≡ state_in f s.now
      here-is = (shows.told is).0

      verdict-here : may_go_back E x (bank x x.previous).held ≡ good
      verdict-here =
          ap (λ (z : State). may_go_back E z (bank z z.previous).held) here-is
          ∙ verdict-is f fitting s passes may good (good-is is) E setting (sym (knows is).counter_is)

      -- the machine's answer is the verdict's
      ruled-is : answer E x y call.Previous ≡ by_verdict y good
      ruled-is =
          subst (λ (z : Session). answer E x z call.Previous ≡ by_verdict z good) (sym shows.means)
          (asked f x shows.speaks shows.staged E may ∙ ap (by_verdict (session_meant f.session f.boot shows.staged)) verdict-here)

      -- and it is gone back where the verdict is good
      ruled-good : (e : Decision) → DecidesRequest passes f.meta f.counter f.session f.boot request.Previous e
          → is_to_do (ruled_as e good) ≡ good
      ruled-good (decision.Refused st) decided = elim (cases_Bool good) [
        | inl fine ↦
            let refused-it = refused-of old fitting sound passes request.Previous (λ e z. tt) st decided E x y setting shows in
            absurd (let r = ap (λ (a : Answer). a.reply) (sym refused-it ∙ ruled-is ∙ ap (by_verdict y) fine) in cc)
        | inr bad ↦ sym bad
      ]
      ruled-good (decision.Do p) decided =
          let there = goes E x f.boot (staging_meant f.session shows.staged) (handles_meant f.session) p
          (planned-meant old fitting sound passes request.Previous (λ e z. tt) p decided E x y setting shows) in
          sym there.good ∙ verdict-here
      ruled-good (decision.ByVerdict b) decided = by-verdict b good

    -- the verdict is bad
    pub bad-meets : is_to_do (ruled_as d good) ≡ false → MeetsPrevious (Err (stop.Status status.Denied)) passes old mid
    bad-meets does = refused-previous tells f s t same still passes
        (λ E x y setting shows is. ruled-is E x y setting shows is
        ∙ ap (by_verdict y) (sym (ruled-good E x y setting shows is d decides) ∙ does))

    -- from the moment before the reading
    carried-from : (result : Result (Unit {0}) FlashStop) (new : Moment) → CarriesOut result plan.Back mid new → CarriesOut result plan.Back old new
    carried-from result new carries = record {
      shows = λ E x y layout shows. carries.shows E x y layout (shows-still tells f s t same still x y shows);
      does = λ E x y layout shows may_be is ready. carries.does E x y layout (shows-still tells f s t same still x y shows) may_be is
          (subst (λ (u : Told). IsReady E u x) (sym (same is)) ready);
      guarded = λ is rest. carries.guarded is (subst IsAtRest (sym (same is)) rest);
      keeps = λ is. subst (λ (u : Told). KeepsSpared f u new.told) (same is) (carries.keeps is);
      touches = blocks-then (IsSpared f) (blocks-still (IsSpared f) still) carries.touches;
      decides = λ is. subst (λ (u : Told). KeepsOldOrNew f.layout f.meta new.fields.meta u new.told) (same is) (carries.decides is);
      stays =
          let guard : IsTrue tells → new.told.guard ≡ s.guard = λ is. carries.stays.guard is
          ∙ ap (λ (u : Told). u.guard) (same is) in
          assumption;
    }

    -- the verdict is good, and it was gone back
    pub back-meets : (result : Result (Unit {0}) Stop) (new : Moment) → is_to_do (ruled_as d good) ≡ true
        → CarriesOut (flash_result result) plan.Back mid new → (IsRefused result → ⊥) → MeetsPrevious result passes old new
    back-meets result new does carries answered_it =
        carried-previous result passes old new (carried-from (flash_result result) new carries) answered_it
        (λ x y shows. subst (λ (z : Session). IsTrue (may_try x z)) (sym shows.means) (tried f x shows.speaks shows.staged may))
        (λ E x y setting shows is.
        let fine = sym (ruled-good E x y setting shows is d decides) ∙ does in
        record {
          is = ruled-is E x y setting shows is ∙ ap (by_verdict y) fine ∙ sym (back-planned E old x y shows);
          reply = ap (λ (a : Answer). a.reply) (back-planned E old x y shows);
          may = subst (λ (z : State). MayBeDone E z plan.Back) (sym (here-is E x y setting shows is))
              (permitted-is f fitting s passes may good (good-is is) E setting (sym (knows is).counter_is) fine);
        })
