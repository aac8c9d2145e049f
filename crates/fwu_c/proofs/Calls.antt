-- A call behind a boot of a bank, by what the device tells before it and after it, and by its steps.
use Rattle.std.proofs.Common.{[], ◌≡◌, ◌∙◌, ◌⊎◌, inl, inr, cond, refl, ap, sym, subst, ℕ, ◌++◌, ◌≤◌, Bool, true, false, List, None, Result, Ok, Err, arith, IsFalse, IsTrue}
use Rattle.std.specs.Prelude.{IsErrOf, OnOk, Option, Some, is_ok, option_map, unwrap_or, ⊤}
use Rattle.base_core.specs.Block.{block_bytes}
use Rattle.base_core.proofs.Results.{same-Ok}
use Rattle.flash_core.specs.{Told.Told, May.Guards, Touches.TouchesOnly, Counts.Spends}
use Rattle.flash_core.proofs.Touches.{touches_none, touches_then}
use Rattle.flash_core.specs.declared.flash.FlashStop.TheVariants as flash_stop
use Rattle.fwu_formats.specs.{Digests.passes_any, Image.layout_seen, Layout.Layout, Layout.find_image, declared.kinds.LayoutFault.LayoutFault}
use Rattle.fwu_formats.specs.Metadata.{Meta, MetaRead, bit_at}
use Rattle.fwu_model.specs.{State.State, State.after, Sound.Setting, Call.Call, Reply.Reply}
use Rattle.fwu_model.specs.{Reply.Success, Answer.answer, Answer.migrate_moves, Calm.IsCalm, MoveMetas.meta_after, Replica.Decides}
use Rattle.fwu_model.specs.Call as call
use Rattle.fwu_model.specs.State as move
use Rattle.fwu_model.specs.Session.{Session, On, no_handles}
use Rattle.fwu_model.specs.declared.kinds.Status.TheVariants as status
use Rattle.moves.specs.Moved.{Does, IsShown}
use Rattle.moves.proofs.Composed.{does-then}
use Rattle.early_boot.specs.Started.{Started, started_session}
use Rattle.early_boot.specs.TakenUp.{TakenUp, TakesByBytes, taken, bad_layout, no_metadata, not_started, stopped, TakeUpEnds}
use Rattle.agent_machine.specs.{declared.stop.Stop.Stop, Moment.Moment, Moment.Shows, Fields.Fields}
use Rattle.agent_machine.specs.Meets.{Answers, GoesBy, IsDone, IsRefused, IsSettingOf, IsStopped, LeavesFlash, ShowsNext, flash_result}
use Rattle.agent_machine.specs.Beside.{IsSparedByAll, KeepsSparedByAll, KeepsWhere}
use Rattle.agent_machine.specs.Deciding.{KeepsOldOrNew}
use Rattle.agent_machine.specs.declared.stop.Stop.TheVariants as stop
use Rattle.agent_machine.proofs.{Beside.spared-once, Deciding.decides-same}
use Rattle.agent_calls.specs.{Started.StartsFrom, Metas.meta_back}
use Rattle.agent_calls.specs.Metas as agent
use Rattle.step_flash.specs.{declared.step.Step.Step, declared.flash.StepFlash.StepFlash, Guard.start_with}
use Rattle.step_flash.specs.Flash.{counts_of, image_of, told_of, writes_of}
use Rattle.step_flash.proofs.Causes.{never_lost}
use Rattle.fwu_c.specs.{Agents.MovesByAnswer, Reports.SameBut, declared.report.Report.Report}
use Rattle.fwu_c.specs.Calls.{CallEnds, CallsBy, CallsFrom, IsAccepted, RepliesAs, ReportsTakeUp, TakesUp, call_code, meta_made, take_up_code}
use Rattle.fwu_c.specs.Handed.{HandsOver, IsJustMade, IsDeviceEnd, call_reach, is_idle_number}
use Rattle.fwu_c.proofs.Telling.{starts_none}
use Rattle.fwu_c.proofs.Booting.{counted_from_none, over, same_then, start_same, unwritten}

-- ---- numbers

-- No power is lost on a device of steps, and no agent that was just started is gone.
abbrev pub IsStepResult : Result (Unit {0}) Stop → Type 0
IsStepResult (Err stop.Lost) = ⊥
IsStepResult (Err stop.Gone) = ⊥
IsStepResult other = ⊤

pub call_end_is : (result : Result (Unit {0}) Stop) → IsStepResult result → IsDeviceEnd (call_code result)
call_end_is (Err (stop.Status status.Denied)) is = grind arith
call_end_is (Err stop.Lost) is = absurd is
call_end_is (Err stop.Gone) is = absurd is
call_end_is result is = grind arith

-- a bank that is not taken up has neither 6 nor 7
take_up_not : (e : TakenUp) → (take_up_code e ≡ 6 → ⊥) × (take_up_code e ≡ 7 → ⊥)
take_up_not (stopped flash_stop.Lost) = grind arith
take_up_not e = grind arith

pub take_up_end_is : (bank : ℕ) (e : TakenUp) (number : ℕ) (first left : StepFlash) (old told : Report)
    → TakesUp bank e number first left old told → IsDeviceEnd number
take_up_end_is bank e number first left old told takes =
    let few = take_up_not e in
    let is = sym takes.number_is in (takes.unlost, (λ six. few.0 (is ∙ six), λ seven. few.1 (is ∙ seven)))

-- ---- the guard stays

pub take_up_guard : (bank : ℕ) (old t : Told) (e : TakenUp) → TakesByBytes (λ m. passes_any m) bank old e t → t.guard ≡ old.guard
take_up_guard bank old t (stopped why) ends = elim ends [ inl same ↦ cc | inr repair ↦ repair.others.guard ]
take_up_guard bank old t e ends = cc

take_up_same : (e : TakenUp) (before old new : Report) → SameBut old new → ReportsTakeUp e before old → ReportsTakeUp e before new
take_up_same (taken b) before old new same reports = start_same b old new same reports
take_up_same (bad_layout f) before old new same reports = cc
take_up_same (stopped why) before old new same reports = same_then before old new same reports
take_up_same e before old new same reports = tt

-- ---- the call

is_called : (result : Result (Unit {0}) Stop) → (result ≡ Err stop.Lost → ⊥) → (result ≡ Err stop.Gone → ⊥) → IsStepResult result
is_called (Err stop.Lost) lost gone = lost refl
is_called (Err stop.Gone) lost gone = gone refl
is_called result lost gone = tt

pub ends_so : (result : Result (Unit {0}) Stop) (old new : StepFlash) (was now : Bool)
    → Spends (flash_result result) (counts_of old) (counts_of new) → GoesBy result was now → IsFalse was → IsStepResult result
ends_so result old new was now costs goes here =
    is_called result
    (λ lost. never_lost (flash_result result) old new costs
    (subst (λ (r : Result (Unit {0}) Stop). IsErrOf (flash_result r) flash_stop.Lost) (sym lost) refl))
    (λ gone. let before = goes.gone.0 gone in absurd (cc (before, here)))

not_stopped : (result : Result (Unit {0}) Stop) → is_ok (flash_result result) ≡ true → IsStopped result → ⊥
not_stopped (Err stop.Lost) ok halted = absurd (cc)
not_stopped (Err stop.Fault) ok halted = absurd (cc)
not_stopped result ok halted = halted

-- an agent that was there is so after an answer or a refusal
pub stays_here : {Halted : Type 0} (was now : Bool) → IsFalse was → (IsTrue now → IsTrue was ⊎ Halted) → (Halted → ⊥) → IsFalse now
stays_here was true here later other = elim (later refl) [
  | inl before ↦ absurd (cc (here, before))
  | inr halted ↦ absurd (other halted)
]
stays_here was false here later other = refl

pub here_after : (result : Result (Unit {0}) Stop) (was now : Bool) → IsFalse was → GoesBy result was now
    → is_ok (flash_result result) ≡ true → IsFalse now
here_after result was now here gone ok = stays_here was now here gone.later.0 (not_stopped result ok)

-- a setting of any layout, that has no file
abbrev pub setting_of : Layout → Setting
setting_of L = record { layout = L; files = λ name. None; passes = λ m. passes_any m }

-- what an agent spares, in the words of the boot that it started from
pub spared-of : (L : Layout) (bank : ℕ) (f : Fields) (s t : Told) → f.layout ≡ L → f.boot ≡ bank → KeepsSparedByAll f s t
    → KeepsWhere (IsSparedByAll L bank) s t
spared-of L bank f s t layout boot kept =
    rw (layout, boot) at kept

-- ---- which metadata decides

-- one of two decides; and where the second is the first, or a third one, the first or the third does
decides_made : (L : Layout) (r made new : MetaRead) (s t : Told) → (new ≡ r) ⊎ (new ≡ made) → KeepsOldOrNew L r new s t → KeepsOldOrNew L r made s t
decides_made L r made new s t (inl same) kept = λ rest both image may. elim (kept rest both image may) [
  | inl first ↦ inl first
  | inr second ↦ inl (second ∙ ap (λ (m : MetaRead). Some m) same)
]
decides_made L r made new s t (inr is) kept = λ rest both image may. subst (λ (m : MetaRead). Decides L r m image) is (kept rest both image may)

-- in the words of the boot that an agent started from
decides_of : (L : Layout) (r made : MetaRead) (f : Fields) (new : MetaRead) (s t : Told) → f.layout ≡ L → f.meta ≡ r → (new ≡ r) ⊎ (new ≡ made)
    → KeepsOldOrNew f.layout f.meta new s t → KeepsOldOrNew L r made s t
decides_of L r made f new s t layout meta is kept = decides_made L r made new s t is (rw (layout, meta) at kept)

-- where nothing was done the old one does
decides_by : (c : Call) (b : Started) (result : Result (Unit {0}) Stop) (f : Fields) (new : MetaRead) (s t : Told) → IsStepResult result → StartsFrom b f
    → (IsRefused result → t ≡ s) → (IsDone result → (new ≡ b.meta) ⊎ (new ≡ meta_made c b)) → KeepsOldOrNew f.layout f.meta new s t
    → KeepsOldOrNew b.layout b.meta (meta_made c b) s t
decides_by c b (Err (stop.Status st)) f new s t is from refused done kept = decides-same b.layout b.meta (meta_made c b) s t (refused tt)
decides_by c b (Err stop.Gone) f new s t is from refused done kept = absurd is
decides_by c b result f new s t is from refused done kept =
    decides_of b.layout b.meta (meta_made c b) f new s t from.layout from.meta (done tt) kept

-- ---- the metadata that an agent keeps

set_or_same : (set : Bool) (r : MetaRead) (later : Meta)
    → (record r { meta = cond set r.meta later } ≡ r) ⊎ (record r { meta = cond set r.meta later } ≡ record r { meta = later })
set_or_same true r later = inl refl
set_or_same false r later = inr refl

pub accepts_meta : (guid : List ℕ) (b : Started) (f : Fields) (image : ℕ) (m : MetaRead) → StartsFrom b f → find_image f.layout.rows guid ≡ Some image
    → m ≡ agent.meta_accepted f image → (m ≡ b.meta) ⊎ (m ≡ meta_made (call.Accepts guid) b)
accepts_meta guid b f image m from found is =
    let here : find_image b.layout.rows guid ≡ Some image = rw from.layout at found in
    let now = rw from.meta at is in
    elim (set_or_same (bit_at b.meta.meta b.meta.meta.active image) b.meta (meta_after b.meta.meta (move.Accept image))) [
      | inl same ↦ inl (now ∙ same)
      | inr later ↦ inr (now ∙ later ∙ sym (ap (λ (i : Option ℕ).
          unwrap_or (option_map (λ x. record b.meta { meta = meta_after b.meta.meta (move.Accept x) }) i) b.meta) here))
    ]

pub back_meta : (b : Started) (f : Fields) (m : MetaRead) → StartsFrom b f → (m ≡ f.meta) ⊎ (m ≡ meta_back f)
    → (m ≡ b.meta) ⊎ (m ≡ meta_made call.Previous b)
back_meta b f m from either = rw from.meta at either

module _ (E : Setting) (s : State) (x : Session) (c : Call) (new : Moment) where
  reply_by : (result : Result (Unit {0}) Stop) → IsStepResult result → Answers (λ (value : Unit {0}) (reply : Reply). reply ≡ Success) result E s x c new → RepliesAs result (answer E s x c).reply
  reply_by (Err stop.Lost) is by = absurd is
  reply_by (Err stop.Fault) is by = tt
  reply_by (Err stop.Gone) is by = absurd is
  reply_by result is by = by.0

  shown_by : (result : Result (Unit {0}) Stop) → IsStepResult result → Answers (λ (value : Unit {0}) (reply : Reply). reply ≡ Success) result E s x c new
      → (P : Type 0) → (is_ok (flash_result result) ≡ true → ShowsNext E s x c new → P) → OnOk (flash_result result) P
  shown_by (Err stop.Lost) is by P then = tt
  shown_by (Err stop.Fault) is by P then = tt
  shown_by (Err stop.Gone) is by P then = absurd is
  shown_by result is by P then = then refl by.1

module _ (c : Call) (b : Started) (result : Result (Unit {0}) Stop) (old new : Moment) (is : IsStepResult result) (tells : IsTrue old.tells) (from : StartsFrom b old.fields)
    (exact : (E : Setting) (s : State) (x : Session) → IsSettingOf old.fields (λ m. passes_any m) E → Shows old s x
    → Answers (λ (value : Unit {0}) (reply : Reply). reply ≡ Success) result E s x c new)
    (leaves : LeavesFlash (flash_result result) (λ m. passes_any m) c old new)
    (starts : (s : State) → IsShown old.fields.layout old.told.now s → Shows old s (started_session b))
    (sees : is_ok (flash_result result) ≡ true → (s : State) (x : Session) → Shows new s x → IsShown new.fields.layout new.told.now s)
    (refused : IsRefused result → new.told ≡ old.told) (again : IsAccepted c b → new.told ≡ old.told)
    (metadata : IsDone result → (new.fields.meta ≡ b.meta) ⊎ (new.fields.meta ≡ meta_made c b)) where
  pub calls_from : CallsFrom c b result old.told new.told
  calls_from = record {
    answers = λ E s same passes shown.
        let setting : IsSettingOf old.fields (λ m. passes_any m) E = record { layout = same ∙ sym from.layout; verifier = passes } in
        let shows = starts s (rw from.layout shown) in
        let by = exact E s (started_session b) setting shows in
        let a = answer E s (started_session b) c in
        let layout : new.fields.layout ≡ E.layout = leaves.stays.layout ∙ from.layout ∙ sym same in
        record {
          reply_is = reply_by E s (started_session b) c new result is by;
          shows = shown_by E s (started_session b) c new result is by (IsShown E.layout new.told.now (after s a.moves))
              (λ ok next. subst (λ (L : Layout). IsShown L new.told.now (after s a.moves)) layout (sees ok (after s a.moves) a.next next));
          does = λ ready. leaves.does E s (started_session b) setting shows tells ready;
          guarded = λ rest. leaves.guarded tells rest;
          guard_is = leaves.stays.guard tells;
        };
    refused = refused;
    again = again;
    keeps = spared-of b.layout b.bank old.fields old.told new.told from.layout from.boot (spared-once old.fields old.told new.told (leaves.keeps tells));
    decides = decides_by c b result old.fields new.fields.meta old.told new.told is from refused metadata (leaves.decides tells);
  }

-- which blocks a call touches, by how it ended
pub touches_by : (result : Result (Unit {0}) Stop) (low high : ℕ) {old new : ℕ → ℕ} → (IsDone result → TouchesOnly low high old new)
    → (IsRefused result → new ≡ old) → (IsErrOf result stop.Gone → new ≡ old) → TouchesOnly low high old new
touches_by (Err (stop.Status st)) low high done refused gone = touches_none low high (refused tt)
touches_by (Err stop.Gone) low high done refused gone = touches_none low high (gone refl)
touches_by result low high done refused gone = done tt

-- ---- the bank and the call in one

module _ (image : List ℕ) (bank : ℕ) (c : Call) (b : Started) (result : Result (Unit {0}) Stop) (mid t : Told)
    (takes : TakeUpEnds (λ m. passes_any m) bank (start_with image []) (taken b) mid) (calls : CallsFrom c b result mid t) where
  guard_is : t.guard ≡ mid.guard
  guard_is = (calls.answers (setting_of b.layout) _ refl refl takes.by_bytes.shown).guard_is

  does_both : (E : Setting) (s : State) → E.passes ≡ (λ m. passes_any m) → IsCalm E (start_with image []) s → Guards 1 7 (start_with image [])
      → Does (flash_result result) E s (migrate_moves s ++ (answer E (after s (migrate_moves s)) (On bank None no_handles) c).moves) t
  does_both E s test calm guards =
      let ready = takes.by_machine E s test calm guards in
      let next = after s (migrate_moves s) in
      let layout : E.layout ≡ b.layout = same-Ok {F = LayoutFault} E.layout b.layout (sym calm.sound.layout ∙ takes.by_bytes.has_layout) in
      let now = ready.does.all.calm in
      let shown : IsShown b.layout mid.now next = record { layout = subst (λ (L : Layout). layout_seen mid.now ≡ Ok L) layout now.sound.layout; shows = now.shows } in
      let by = subst (λ (x : Session). MovesByAnswer (RepliesAs result) E next (answer E next x c) (flash_result result) mid t) ready.session (calls.answers E next layout test shown) in
      does-then tt (flash_result result) E s (migrate_moves s) (answer E next (On bank None no_handles) c).moves mid t ready.does (λ at. by.does at)

-- where the bank was not taken up
refused_ends : (image : List ℕ) (bank : ℕ) (c : Call) (e : TakenUp) (number : ℕ) (t : Told) → number ≡ take_up_code e → 1 ≤ number
    → CallEnds image bank c e number t t
refused_ends image bank c (taken b) number t is some = absurd (omega (arith, is, some))
refused_ends image bank c e number t is some = (is, refl)

module _ (bank : ℕ) (c : Call) (first d : StepFlash) (made : IsJustMade [] first) (number : ℕ) (old told r : Report)
    (steps : List Step) (room : List ℕ) (hands : HandsOver d told r steps room) where
  -- from the image
  begins : (e : TakenUp) (t : Told) → TakeUpEnds (λ m. passes_any m) bank (told_of first) e t
      → TakeUpEnds (λ m. passes_any m) bank (start_with (image_of first) []) e t
  begins e t ends = subst (λ (x : Told). TakeUpEnds (λ m. passes_any m) bank x e t) made.fresh ends

  calls_by : (e : TakenUp) (given : ℕ) (mid : StepFlash) → TakesUp bank e given first mid old told
      → (told_of d).guard ≡ (told_of mid).guard → CallEnds (image_of first) bank c e number (told_of mid) (told_of d)
      → TouchesOnly block_bytes call_reach (writes_of mid) (writes_of d) → CallsBy (image_of first) bank c number old r steps room
  calls_by e given mid takes guard ends touches = record {
    end = e;
    mid = told_of mid;
    takes = begins e (told_of mid) takes.ends;
    runs = takes.runs;
    t = told_of d;
    ends = ends;
    made = over [] first d told r steps room made
        (guard ∙ take_up_guard bank (told_of first) (told_of mid) e takes.ends.by_bytes) hands;
    places = hands.lie.places 1 3 (counted_from_none block_bytes call_reach (unwritten made)
        (touches_then block_bytes call_reach takes.touches touches));
    reports = take_up_same e old told r hands.same takes.reports;
  }

  -- the bank was not taken up
  pub refused_by : (given : ℕ) (e : TakenUp) → TakesUp bank e given first d old told → 1 ≤ given → number ≡ given
      → CallsBy (image_of first) bank c number old r steps room
  refused_by given e takes some is =
      calls_by e given d takes refl
      (refused_ends (image_of first) bank c e number (told_of d) (is ∙ takes.number_is) (omega (arith, some, is)))
      (touches_none block_bytes call_reach refl)

  -- it was, and the call was made
  pub called_by : (mid : StepFlash) (b : Started) (result : Result (Unit {0}) Stop) → TakesUp bank (taken b) 0 first mid old told
      → CallsFrom c b result (told_of mid) (told_of d) → TouchesOnly block_bytes call_reach (writes_of mid) (writes_of d)
      → number ≡ call_code result → CallsBy (image_of first) bank c number old r steps room
  called_by mid b result takes calls touches is =
      let image = image_of first in
      let from_image = begins (taken b) (told_of mid) takes.ends in
      calls_by (taken b) 0 mid takes (guard_is image bank c b result (told_of mid) (told_of d) from_image calls)
      (record {
        result = result;
        number_is = is;
        calls = calls;
        does = does_both image bank c b result (told_of mid) (told_of d) from_image calls;
      }) touches

-- ---- where nothing was written

pub take_up_idle : (bank : ℕ) (e : TakenUp) (old t : Told) → TakesByBytes (λ m. passes_any m) bank old e t
    → IsTrue (is_idle_number (take_up_code e)) → t ≡ old
take_up_idle bank (bad_layout f) old t ends idle = ends.1
take_up_idle bank no_metadata old t ends idle = ends.3
take_up_idle bank not_started old t ends idle = ends.1
take_up_idle bank (stopped flash_stop.Lost) old t ends idle = absurd (cc)
take_up_idle bank e old t ends idle = absurd (cc)

-- a call that was made has none of these numbers
pub call_starts : (result : Result (Unit {0}) Stop) → IsTrue (starts_none (call_code result)) → ⊥
call_starts (Err (stop.Status status.Denied)) none = absurd (cc)
call_starts result none = absurd (cc)
