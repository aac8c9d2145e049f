-- A staging that was begun for some images: they are sent into it, and it ends.
use Rattle.std.proofs.Common.{◌≡◌, ℕ, ◌+◌, Bool, false, List, length, take, Option, None, Result, Ok, Err, refl, sym, ap, subst, ◌∙◌, arith}
use Rattle.std.specs.Prelude.{◌==◌, IsTrue}
use Rattle.std.proofs.lemmas.List.{take_all}
use Rattle.host_io.specs.Contents.{Directory}
use Rattle.flash_core.specs.declared.flash.Arming.{Arming}
use Rattle.fwu_formats.proofs.SealLaws.{limits}
use Rattle.fwu_formats.specs.{Layout.Layout, Layout.fits_layout, Package.Entry}
use Rattle.fwu_model.specs.{State.State, State.after, Sound.Setting, Reply.Reply}
use Rattle.fwu_model.specs.Session.{Session, On, Staged, Handle}
use Rattle.fwu_model.specs.Answer.{Answer, begin_moves, cannot_begin, install_package, install_unless, staged_bits}
use Rattle.fwu_model.specs.Reply as reply
use Rattle.fwu_model.specs.declared.kinds.Status.TheVariants as status
use Rattle.agent_machine.specs.{Ends.TakesSwitch, Filling.between, Goes.GoesByMoves, Moment.Moment, Moment.Shows, Moment.Showing}
use Rattle.agent_calls.specs.Takes.{Takes}
use Rattle.agent_calls.proofs.Taking.{takes-some, takes-then}
use Rattle.update_client.specs.{declared.stops.SendStop.SendStop, Images.FinishesSend, Images.InstallsImages}
use Rattle.update_client.specs.{Images.AreUnstaged, Images.sent_parts, Partial.GoesAs, Sends.AnswersBy, Sends.IsInstalled}
use Rattle.update_client.specs.Takes.{AllUnstagedTake, ImagesTake, InstallTakes, OnRefusedEnd, OnUnread, SendTakesBy, TakesFirst, writes_in}
use Rattle.update_client.proofs.{Unsent.end-then, Unsent.unread-then, Staging.IsPacked}
use Rattle.update_client.proofs.Packaged.{each-on, installs, sent-done, sent-halted}

-- the begin was done, and nothing is staged of the images that are sent
pub record Started (passes : List ℕ → Bool) (entries : List Entry) (old m1 : Moment) : Type 0 where
  pub parts : List Staged
  pub places : List ℕ
  pub unstaged : (E : Setting) → E.layout ≡ old.fields.layout → AreUnstaged E entries places parts
  pub goes : (E : Setting) (s : State) (boot : ℕ) (staging : Option (List Staged)) (handles : List Handle) → E.layout ≡ old.fields.layout
      → E.passes ≡ passes → Shows old s (On boot staging handles)
      → (cannot_begin s boot staging ≡ false) × GoesByMoves E (Ok tt) old m1 s (begin_moves s) (between boot parts)

-- the machine that the agent shows then has installed these images
pub record InstallsAs (p : List (List ℕ)) (bits : List Bool) (old new : Moment) (before : State) : Type 0 where
  pub now : State
  pub session : Session
  pub shows : Shows new now session
  pub layout : new.fields.layout ≡ old.fields.layout
  pub installed : IsInstalled p bits before now

-- ---- the answer, by the layout that the agent keeps

module _ (fault : Layout → Option Reply) (bits : Layout → List Bool) (said : Layout → Reply) (old : Moment) (none : fault old.fields.layout ≡ None)
    (E : Setting) (layout : E.layout ≡ old.fields.layout) (s : State) (boot : ℕ) (staging : Option (List Staged)) (handles : List Handle) where
  pub unless-fault : (p : List (List ℕ)) (P : Answer → Type 0)
      → P (install_package E s boot staging handles p (bits old.fields.layout) (said old.fields.layout))
      → P (install_unless (fault E.layout) E s boot staging handles p (bits E.layout) (said E.layout))
  unless-fault p P holds =
      subst (λ (L : Layout). P (install_unless (fault L) E s boot staging handles p (bits L) (said L))) (sym layout)
      (subst (λ (o : Option Reply). P (install_unless o E s boot staging handles p (bits old.fields.layout) (said old.fields.layout))) (sym none) holds)

  by-fault : (p : List (List ℕ)) (P : Answer → Type 0)
      → P (install_unless (fault E.layout) E s boot staging handles p (bits E.layout) (said E.layout))
      → P (install_package E s boot staging handles p (bits old.fields.layout) (said old.fields.layout))
  by-fault p P holds = subst (λ (o : Option Reply). P (install_unless o E s boot staging handles p (bits old.fields.layout) (said old.fields.layout))) none
      (subst (λ (L : Layout). P (install_unless (fault L) E s boot staging handles p (bits L) (said L))) layout holds)

  -- what answers otherwise than by a refusal was done, and has installed the images
  pub installs-as : (r : Reply) (p : List (List ℕ)) (new : Moment) → (r ≡ reply.BeginRefused status.Denied → ⊥) → (r ≡ reply.EndRefused status.AuthFail → ⊥)
      → IsTrue (fits_layout old.fields.layout) → Shows old s (On boot staging handles)
      → AnswersBy r (install_unless (fault E.layout) E s boot staging handles p (bits E.layout) (said E.layout)) E old new s
      → InstallsAs p (bits old.fields.layout) old new s
  installs-as r p new begins ends fit shows goes =
      let done = by-fault p (λ (a : Answer). AnswersBy r a E old new s) goes in
      let a = install_package E s boot staging handles p (bits old.fields.layout) (said old.fields.layout) in
      record {
        now = after s a.moves;
        session = a.next;
        shows = done.1.shows;
        layout = done.1.stays.layout;
        installed = installs E s boot staging handles p (bits old.fields.layout) (said old.fields.layout) r begins ends done.0
            (omega (arith, shows.speaks.banks, (limits old.fields.layout fit).fewest_banks));
      }

  module _ (passes : List ℕ → Bool) (verifier : E.passes ≡ passes) (shows : Shows old s (On boot staging handles)) (entries : List Entry) (m1 new : Moment)
      (started : Started passes entries old m1) (told : Option Directory) (name : List ℕ) (request : ℕ) (p : List (List ℕ)) where
    ends : (result : Result (Unit {0}) SendStop) (inst : InstallsImages told name entries request passes result m1 new)
        → IsPacked (sent_parts started.parts inst.images started.places (request == 0)) p (bits old.fields.layout)
        → FinishesSend result E m1 new (after s (begin_moves s)) boot p (bits old.fields.layout)
    ends result inst packed =
        let begun = (started.goes E s boot staging handles layout verifier shows).1 in
        let sent = sent_parts started.parts inst.images started.places (request == 0) in
        subst (λ (l : List Bool). FinishesSend result E m1 new (after s (begin_moves s)) boot p l) packed.bits_are
        (subst (λ (q : List (List ℕ)). FinishesSend result E m1 new (after s (begin_moves s)) boot q (staged_bits sent)) packed.package_is
        (inst.goes E (after s (begin_moves s)) boot started.parts started.places (layout ∙ sym begun.stays.layout) verifier (started.unstaged E layout)
        packed.committed begun.shows))

    pub done-goes : (inst : InstallsImages told name entries request passes (Ok tt) m1 new) (r : Reply)
        → IsPacked (sent_parts started.parts inst.images started.places (request == 0)) p (bits old.fields.layout) → r ≡ said old.fields.layout
        → AnswersBy r (install_unless (fault E.layout) E s boot staging handles p (bits E.layout) (said E.layout)) E old new s
    done-goes inst r packed is =
        let begun = started.goes E s boot staging handles layout verifier shows in
        let all = sent-done E s boot staging handles p (bits old.fields.layout) (said old.fields.layout) begun.0 old m1 new _ begun.1 (ends (Ok tt) inst packed) in
        unless-fault p (λ (a : Answer). AnswersBy r a E old new s) (is ∙ all.0, all.1)

    pub halted-goes : (halt : SendStop) (inst : InstallsImages told name entries request passes (Err halt) m1 new)
        → IsPacked (sent_parts started.parts inst.images started.places (request == 0)) p (bits old.fields.layout)
        → GoesAs (Err halt) (install_unless (fault E.layout) E s boot staging handles p (bits E.layout) (said E.layout)) E old new s (On boot staging handles)
    halted-goes halt inst packed =
        let begun = started.goes E s boot staging handles layout verifier shows in
        unless-fault p (λ (a : Answer). GoesAs (Err halt) a E old new s (On boot staging handles))
        (sent-halted E s boot staging handles p (bits old.fields.layout) (said old.fields.layout) begun.0 old m1 new _ begun.1 halt (ends (Err halt) inst packed))

-- ---- what it takes of an armed loss

module _ (passes : List ℕ → Bool) (entries : List Entry) (old m1 : Moment) (started : Started passes entries old m1) (shown : ∥ Showing old ∥₁)
    (size begin all : ℕ) (sum : begin + writes_in size entries ≡ all) (armed begun arming : Option Arming) (one : Takes begin armed begun) where
  -- some writes of the installing, wherever a machine is shown
  images-then : (writes : ℕ) (sent : Option Arming)
      → ((E : Setting) (s : State) (boot : ℕ) (parts : List Staged) (places : List ℕ) → E.layout ≡ m1.fields.layout
      → AreUnstaged E entries places parts → Shows m1 s (between boot parts) → Takes writes begun sent) → Takes (begin + writes) armed sent
  images-then writes sent images =
      let E : Setting = record { layout = old.fields.layout; files = λ _. None; passes = passes } in
      takes-then begin writes (begin + writes) armed begun sent refl one (takes-some writes begun sent shown
      (λ (shows : Showing old). each-on old (λ s x. Takes writes begun sent) (λ s boot staging handles shows.
      let goes = (started.goes E s boot staging handles refl refl shows).1 in
      images E (after s (begin_moves s)) boot started.parts started.places (sym goes.stays.layout) (started.unstaged E refl) goes.shows)
      shows.state shows.session shows.shows))

  all-take : (sent : Option Arming) → ImagesTake size entries (length entries) m1 begun sent → Takes all armed sent
  all-take sent images =
      subst (λ (n : ℕ). Takes n armed sent) (ap (λ (l : List Entry). begin + writes_in size l) (take_all (length entries) entries (omega arith)) ∙ sum)
      (images-then (writes_in size (take (length entries) entries)) sent images)

  pub done-takes : {U : Type 0} (x : U) (IsSent : List Entry → Type 0) → InstallTakes size entries m1 begun arming
      → SendTakesBy {T = U} (Ok x) all begin size IsSent armed arming
  done-takes x IsSent installs = record {
    done = subst (λ (a : Option Arming). TakesSwitch a arming) (all-take installs.sent installs.images) installs.switch;
    unswitched = tt;
    unread = tt;
  }

  pub halted-takes : {U : Type 0} (halt : SendStop) (IsSent : List Entry → Type 0) → IsSent entries
      → OnRefusedEnd {T = Unit {0}} (Err halt) (ImagesTake size entries (length entries) m1 begun arming)
      → OnUnread {T = Unit {0}} (Err halt) (TakesFirst size entries (AllUnstagedTake entries m1 begun arming))
      → SendTakesBy {T = U} (Err halt) all begin size IsSent armed arming
  halted-takes {U} halt IsSent is unswitched unread = record {
    done = tt;
    unswitched = end-then (Unit {0}) U halt (ImagesTake size entries (length entries) m1 begun arming) (Takes all armed arming) (all-take arming) unswitched;
    unread = unread-then (Unit {0}) U halt (TakesFirst size entries (AllUnstagedTake entries m1 begun arming))
        ((l : List Entry) × IsSent l × TakesFirst size l (λ writes. Takes (begin + writes) armed arming)) (λ start. (
          entries,
          is,
          record {
            images = start.images;
            pieces = start.pieces;
            below = start.below;
            more = start.more;
            takes = images-then _ arming start.takes;
          },
        )) unread;
  }
