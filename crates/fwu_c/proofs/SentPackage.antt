-- A sending of a package in memory, by what the flash told before and tells after it.
use Rattle.std.proofs.Common.{◌≡◌, ◌∙◌, inl, inr, refl, sym, ap, subst, ℕ, ◌==◌, Bool, true, List, length, replicate, Option, Some, Result, Ok, Err, arith, IsFalse, IsTrue}
use Rattle.std.specs.Prelude.{OnOk, is_ok, ⊤}
use Rattle.base_core.specs.Counts.{Rose}
use Rattle.fwu_formats.specs.{Digests.passes_any, Layout.Layout, Package.Toc, Package.toc_of}
use Rattle.fwu_model.specs.{State.State, State.after, Sound.Setting, Session.Session, Reply.Reply}
use Rattle.fwu_model.specs.Answer.{Answer, first_image_fault, images_of}
use Rattle.moves.specs.Moved.{IsShown}
use Rattle.early_boot.specs.Started.{Started, started_session}
use Rattle.agent_machine.specs.{Moment.Moment, Moment.Shows, Goes.GoesByMoves}
use Rattle.agent_calls.specs.Started.{StartsFrom}
use Rattle.update_client.specs.{declared.stops.Sent.Sent, declared.stops.SendStop.SendStop, Halts.flash_of}
use Rattle.update_client.specs.declared.stops.SendStop.TheVariants.{ReadFailed, Lost, Fault, Gone}
use Rattle.update_client.specs.Sends.{FaultsBy, GoneBy, Installs, IsEarlySend, IsInstalled, IsStoppedSend, Sends, SendEndsBy, ended_session, send_answer}
use Rattle.package_files.specs.OneFile.{one_file}
use Rattle.package_files.proofs.Alone.{finds_it}
use Rattle.host_io.specs.Contents.{Directory}
use Rattle.fwu_c.proofs.Calls.{setting_of, spared-of, stays_here}
use Rattle.fwu_c.specs.{Agents.MovesByAnswer, Handed.IsDeviceEnd, Sendings.RepliesAs, Sendings.SendsPackage, Sendings.sent_code}

-- ---- what can't be answered

-- No read of a package in memory fails, no power is lost on a device of steps, and no agent that was just started is gone.
abbrev pub IsSent : Result Sent SendStop → Type 0
IsSent (Err ReadFailed) = ⊥
IsSent (Err Lost) = ⊥
IsSent (Err Gone) = ⊥
IsSent other = ⊤

-- such a result has none of the numbers 4, 6 and 7
pub sent_end_is : (result : Result Sent SendStop) → IsSent result → IsDeviceEnd (sent_code result)
sent_end_is (Err ReadFailed) is = absurd is
sent_end_is (Err Lost) is = absurd is
sent_end_is (Err Gone) is = absurd is
sent_end_is result is = grind arith

pub is_sent : (result : Result Sent SendStop) → (result ≡ Err ReadFailed → ⊥) → (result ≡ Err Lost → ⊥) → (result ≡ Err Gone → ⊥) → IsSent result
is_sent (Err ReadFailed) read lost gone = read refl
is_sent (Err Lost) read lost gone = lost refl
is_sent (Err Gone) read lost gone = gone refl
is_sent result read lost gone = tt

-- a count of faults that stays at 0 didn't rise
pub never_rose : Rose 0 0 → ⊥
never_rose (inl more) = omega (arith, more)
never_rose (inr full) = omega (arith, full)

not_stopped : (result : Result Sent SendStop) → is_ok (flash_of result) ≡ true → IsStoppedSend result → ⊥
not_stopped (Err Lost) ok stopped = absurd (cc)
not_stopped (Err Fault) ok stopped = absurd (cc)
not_stopped result ok stopped = stopped

-- an agent that was there is so after an answer or a refusal
pub here_after : (fault : Option Reply) (result : Result Sent SendStop) (was now : Bool) → IsFalse was → GoneBy fault result was now
    → is_ok (flash_of result) ≡ true → IsFalse now
here_after fault result was now here gone ok = stays_here was now here gone.later.0 (not_stopped result ok)

-- ---- what is said of a result that is done

on_done : {T E Q : Type 0} (r : Result T E) → (is_ok r ≡ true → Q) → OnOk r Q
on_done (Ok x) f = f refl
on_done (Err e) f = tt

from_done : {T E Q : Type 0} (r : Result T E) → is_ok r ≡ true → OnOk r Q → Q
from_done (Ok x) ok q = q
from_done (Err e) ok q = absurd (cc)

flash_done : (result : Result Sent SendStop) → is_ok result ≡ true → is_ok (flash_of result) ≡ true
flash_done (Ok sent) ok = refl
flash_done (Err stop) ok = absurd (cc)

-- ---- by the machine

record Went (E : Setting) (a : Answer) (result : Result Sent SendStop) (old new : Moment) (s : State) : Type 0 where
  pub reply_is : RepliesAs result a.reply
  pub session : Session
  pub goes : GoesByMoves E (flash_of result) old new s a.moves session

went : (E : Setting) (toc : Toc) (p : List (List ℕ)) (request : ℕ) (old new : Moment) (s : State) (x : Session) (result : Result Sent SendStop)
    → IsSent result → SendEndsBy result E toc p request old new s x → Went E (send_answer E toc p request s x) result old new s
went E toc p request old new s x (Err ReadFailed) is by = absurd is
went E toc p request old new s x (Err Lost) is by = absurd is
went E toc p request old new s x (Err Fault) is by = record { reply_is = tt; session = ended_session x; goes = by.1 }
went E toc p request old new s x (Err Gone) is by = absurd is
went E toc p request old new s x result is by =
    record { reply_is = sym by.0; session = (send_answer E toc p request s x).next; goes = by.1 }

pub held_there : (held : Directory) (name file : List ℕ) → held ≡ one_file name file → held name ≡ Some file
held_there held name file is = ap (λ (d : Directory). d name) is ∙ finds_it name file

module _ (held : Directory) (file name : List ℕ) (request : ℕ) (b : Started) (toc : Toc) (result : Result Sent SendStop) (old new : Moment)
    (there : held name ≡ Some file) (table : toc_of file ≡ Ok toc) (is : IsSent result) (tells : IsTrue old.tells) (from : StartsFrom b old.fields)
    (sends : Sends (Some held) name toc request (λ m. passes_any m) result old new)
    (starts : (s : State) → IsShown old.fields.layout old.told.now s → Shows old s (started_session b))
    (sees : is_ok (flash_of result) ≡ true → (s : State) (x : Session) → Shows new s x → IsShown new.fields.layout new.told.now s) where
  images-are : sends.images ≡ images_of b.layout.rows file toc
  images-are = sends.read file there ∙ ap (λ (L : Layout). images_of L.rows file toc) from.layout

  before : (s : State) → IsShown b.layout old.told.now s → Shows old s (started_session b)
  before s shown = starts s (rw from.layout shown)

  by : (E : Setting) (s : State) → E.layout ≡ b.layout → E.passes ≡ (λ m. passes_any m) → IsShown b.layout old.told.now s
      → Went E (send_answer E toc sends.images request s (started_session b)) result old new s
  by E s same passes shown =
      went E toc sends.images request old new s (started_session b) result is
      (sends.goes E s (started_session b) (same ∙ sym from.layout) passes (before s shown))

  layout-after : (s : State) → IsShown b.layout old.told.now s → new.fields.layout ≡ b.layout
  layout-after s shown = (by (setting_of b.layout) s refl refl shown).goes.stays.layout ∙ from.layout

  answers : (E : Setting) (s : State) → E.layout ≡ b.layout → E.passes ≡ (λ m. passes_any m) → IsShown b.layout old.told.now s
      → MovesByAnswer (RepliesAs result) E s (send_answer E toc (images_of b.layout.rows file toc) request s (started_session b)) (flash_of result) old.told new.told
  answers E s same passes shown =
      let w = by E s same passes shown in
      let layout : new.fields.layout ≡ E.layout = layout-after s shown ∙ sym same in
      subst (λ (p : List (List ℕ)). MovesByAnswer (RepliesAs result) E s (send_answer E toc p request s (started_session b)) (flash_of result) old.told new.told) images-are (record {
        reply_is = w.reply_is;
        shows = on_done (flash_of result) (λ ok.
            subst (λ (L : Layout). IsShown L new.told.now (after s (send_answer E toc sends.images request s (started_session b)).moves)) layout
            (sees ok (after s (send_answer E toc sends.images request s (started_session b)).moves) w.session (from_done (flash_of result) ok w.goes.shows)));
        does = λ ready. w.goes.does tells ready;
        guarded = λ rest. w.goes.guarded tells rest;
        guard_is = w.goes.stays.guard tells;
      })

  module _ (installs : (s : State) (x : Session) → Shows old s x → OnOk result (Installs (Some held) name toc request new s)) where
    installed : is_ok result ≡ true → (s : State) → IsShown b.layout old.told.now s
        → (now : State) × IsShown b.layout new.told.now now
        × IsInstalled (images_of b.layout.rows file toc) (replicate (length b.layout.rows) (request == 0)) s now
    installed ok s shown =
        let i = from_done result ok (installs s (started_session b) (before s shown)) in
        let layout = layout-after s shown in
        let images : i.images ≡ images_of b.layout.rows file toc =
        i.read file there ∙ ap (λ (L : Layout). images_of L.rows file toc) layout in (
          i.now,
          subst (λ (L : Layout). IsShown L new.told.now i.now) layout (sees (flash_done result ok) i.now i.session i.shows),
          subst (λ (p : List (List ℕ)). IsInstalled p (replicate (length b.layout.rows) (request == 0)) s i.now) images
              (subst (λ (L : Layout). IsInstalled i.images (replicate (length L.rows) (request == 0)) s i.now) layout i.installed),
        )

    pub package_sent : FaultsBy (first_image_fault old.fields.layout.rows toc) result → (IsEarlySend result → new.told ≡ old.told)
        → SendsPackage file request b result old.told new.told
    package_sent faults early = record {
      toc = toc;
      table = table;
      faults = subst (λ (L : Layout). FaultsBy (first_image_fault L.rows toc) result) from.layout faults;
      answers = answers;
      early = early;
      installs = on_done result installed;
      keeps = λ s shown. spared-of b.layout b.bank old.fields old.told new.told from.layout from.boot
          ((by (setting_of b.layout) s refl refl shown).goes.keeps tells);
    }
