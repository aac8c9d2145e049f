-- A sending as one answer of the machine, or a part of one.
use Rattle.std.proofs.Common.{◌≡◌, ℕ, suc, ◌+◌, ◌<◌, Bool, false, List, [], ◌∷◌, length, map, get_or, replicate, Option, Some, None, Result, Ok, Err, refl, sym, ap, subst, ◌∙◌, arith}
use Rattle.std.proofs.Math.Nat.{ℕ_set}
use Rattle.std.proofs.Math.Logic.{∥∥₁_elim}
use Rattle.std.specs.Prelude.{◌%◌, ◌==◌, IsTrue}
use Rattle.host_io.specs.Contents.{Directory}
use Rattle.fwu_formats.specs.{Layout.Layout, Layout.ImageRow, Layout.fits_layout, Metadata.Meta, Layout.no_row}
use Rattle.fwu_formats.specs.Package.{Toc, Entry, entry_of, payload}
use Rattle.fwu_model.specs.{State.State, State.update_bank, Sound.Setting, Reply.Reply}
use Rattle.fwu_model.specs.Session.{Session, On, Staged, Handle, Nothing}
use Rattle.fwu_model.specs.Answer.{Answer, answer, cannot_begin, begin_moves, first_image_fault, images_of, skipped, payload_or}
use Rattle.fwu_model.specs.Call as call
use Rattle.fwu_model.specs.Reply as reply
use Rattle.agent_machine.specs.{declared.stop.Stop.Stop, Fields.target, Moment.Moment, Moment.Shows, Moment.Showing}
use Rattle.agent_machine.specs.{Meets.IsStopped, Meets.flash_result, Goes.GoesByMoves, Filling.between}
use Rattle.agent_machine.specs.declared.stop.Stop.TheVariants as stop
use Rattle.update_client.specs.{declared.stops.Sent.Sent, declared.stops.SendStop.SendStop, Halts.unbegun_as, Images.AreUnstaged}
use Rattle.update_client.specs.{Images.sent_parts, Images.InstallsImages, Partial.GoesAs}
use Rattle.update_client.specs.declared.stops.SendStop.TheVariants.{Begin}
use Rattle.fip_tables.specs.Images.{AreImages, no_entry}
use Rattle.update_client.specs.Sends.{Chooses, Installs, AllowsBegin, IsInstalled, IsSwitched, Sends, SendEndsBy, refused_image, send_answer}
use Rattle.std.specs.List.{range_with_len}
use Rattle.agent_machine.proofs.CallGoing.{MeetsAs, call-goes, call-replies, call-stopped}
use Rattle.update_client.proofs.{Installed.told_value, Installed.told-is, OwnImages.are-images}
use Rattle.update_client.proofs.Staging.{begin-answers, IsPacked, whole-packed}
use Rattle.update_client.proofs.Packaged.{begin-done, each-on, early, unbegun}
use Rattle.update_client.proofs.Started.{Started, done-goes, halted-goes, installs-as, unless-fault}
use Rattle.agent_calls.specs.Copies.{AnswersAs}
use Rattle.fwu_model.proofs.Selects.{layout-distinct}

abbrev of : Unit {0} → Reply
of u = reply.Success

-- the payloads of the chosen entries are the images
images-are : (file : List ℕ) (toc : Toc) (rows : List ImageRow) (entries : List Entry) → length entries ≡ length rows
    → ((k : ℕ) → k < length rows → entry_of toc (get_or rows k no_row).guid ≡ Some (get_or entries k no_entry))
    → map (payload file) entries ≡ images_of rows file toc
unfolding images_of
images-are file toc [] [] count each = refl
images-are file toc [] (e ∷ entries) count each = absurd (omega (arith, count))
images-are file toc (r ∷ rows) [] count each = absurd (omega (arith, count))
images-are file toc (r ∷ rows) (e ∷ entries) count each =
    ap (λ (o : Option Entry). payload_or file [] o ∷ map (payload file) entries) (sym (each 0 (omega arith)))
    ∙ ap (λ (l : List (List ℕ)). payload_or file [] (entry_of toc r.guid) ∷ l)
    (images-are file toc rows entries (omega (arith, count)) (λ k lt. each (suc k) (omega (arith, lt))))

-- ---- the begin

module _ (toc : Toc) (passes : List ℕ → Bool) (old : Moment) (entries : List Entry) (m1 : Moment) (fit : IsTrue (fits_layout old.fields.layout))
    (chosen : AreImages old.fields.layout.rows toc entries) (begins : (v : List ℕ → Bool) → MeetsAs of (Ok tt) v (call.Begin 0) old m1) where
  pub unstaged : (E : Setting) → E.layout ≡ old.fields.layout
      → AreUnstaged E entries (range_with_len 0 (length old.fields.layout.rows)) (replicate (length old.fields.layout.rows) Nothing)
  unstaged E layout =
      subst (λ (L : Layout). AreUnstaged E entries (range_with_len 0 (length L.rows)) (replicate (length L.rows) Nothing)) layout
      (are-images E toc entries (layout-distinct E.layout (subst (λ (L : Layout). IsTrue (fits_layout L)) (sym layout) fit)) (λ k. refl)
      (subst (λ (L : Layout). AreImages L.rows toc entries) (sym layout) chosen))

  pub begun : (E : Setting) (s : State) (boot : ℕ) (staging : Option (List Staged)) (handles : List Handle) → E.layout ≡ old.fields.layout
      → Shows old s (On boot staging handles)
      → (cannot_begin s boot staging ≡ false)
      × GoesByMoves E (Ok tt) old m1 s (begin_moves s) (between boot (replicate (length old.fields.layout.rows) Nothing))
  begun E s boot staging handles layout shows =
      let x = On boot staging handles in
      let n = length old.fields.layout.rows in
      begin-done E s boot staging handles (replicate n Nothing) (answer E s x (call.Begin 0))
      (begin-answers E s boot staging handles n (ap (λ (L : Layout). length L.rows) layout)) old m1
      (sym (call-replies E of (Ok tt) (call.Begin 0) old m1 s x layout shows (begins E.passes) reply.Success refl))
      (call-goes E of (Ok tt) (call.Begin 0) old m1 s x layout shows (begins E.passes) reply.Success refl)

  -- the staging stands with nothing staged
  abbrev pub whole-started : Started passes entries old m1
  whole-started = record {
    parts = replicate (length old.fields.layout.rows) Nothing;
    places = range_with_len 0 (length old.fields.layout.rows);
    unstaged = unstaged;
    goes = λ E s boot staging handles layout verifier shows. begun E s boot staging handles layout shows;
  }

-- ---- the exits

module _ (told : Option Directory) (name : List ℕ) (toc : Toc) (request : ℕ) (passes : List ℕ → Bool) (old : Moment) where
  abbrev told_images : List (List ℕ)
  told_images = told_value told name (λ file. images_of old.fields.layout.rows file toc)

  abbrev fault : Layout → Option Reply
  fault L = first_image_fault L.rows toc

  abbrev bits : Layout → List Bool
  bits L = replicate (length L.rows) (request == 0)

  abbrev said : Layout → Reply
  said L = reply.Sent (length L.rows) (skipped L.rows toc)

  -- where it was not done it ends as a partial one
  ends-as : (halt : SendStop) (E : Setting) (p : List (List ℕ)) (new : Moment) (s : State) (x : Session)
      → GoesAs (Err halt) (send_answer E toc p request s x) E old new s x → SendEndsBy (Err halt) E toc p request old new s x
  ends-as (Begin st) E p new s x goes = goes
  ends-as q E p new s x goes = goes

  -- an image is missing, or too large
  pub sends-early : (halt : SendStop) → refused_image (fault old.fields.layout) ≡ Some halt → Sends told name toc request passes (Err halt) old old
  sends-early halt is = record {
    images = told_images;
    read = told-is told name (λ file. images_of old.fields.layout.rows file toc);
    goes = λ E s x layout verifier shows. each-on old (SendEndsBy (Err halt) E toc told_images request old old) (λ s boot staging handles shows.
        ends-as halt E told_images old s (On boot staging handles) (early E s boot staging handles told_images (bits E.layout) (said E.layout)
        (fault E.layout) halt old (ap (λ (L : Layout). refused_image (fault L)) layout ∙ is) shows)) s x shows;
  }

  -- begin was refused, or stopped by the flash
  pub sends-unbegun : (halt : Stop) (new : Moment) → fault old.fields.layout ≡ None → (halt ≡ stop.Gone → ⊥)
      → ((v : List ℕ → Bool) → MeetsAs of (Err halt) v (call.Begin 0) old new)
      → (IsStopped {T = Unit {0}} (Err halt) → (E : Setting) (s : State) (x : Session) → E.layout ≡ old.fields.layout → Shows old s x → AllowsBegin E s x)
      → Sends told name toc request passes (Err (unbegun_as halt)) old new
  sends-unbegun halt new none there meets begun = record {
    images = told_images;
    read = told-is told name (λ file. images_of old.fields.layout.rows file toc);
    goes = λ E s x layout verifier shows. each-on old (SendEndsBy (Err (unbegun_as halt)) E toc told_images request old new) (λ s boot staging handles shows.
        let x = On boot staging handles in
        let is = answers halt E s x layout shows there (meets E.passes) (λ stopped. begun stopped E s x layout shows) in
        ends-as (unbegun_as halt) E told_images new s x (unless-fault fault bits said old none E layout s boot staging handles told_images
        (λ (a : Answer). GoesAs (Err (unbegun_as halt)) a E old new s x)
        (unbegun E s boot staging handles told_images (bits old.fields.layout) (said old.fields.layout) (replicate (length E.layout.rows) Nothing) _
        (begin-answers E s boot staging handles _ refl) halt old new there is.0 is.1))) s x shows;
  }
    where
      answers : (halt : Stop) (E : Setting) (s : State) (x : Session) → E.layout ≡ old.fields.layout → Shows old s x → (halt ≡ stop.Gone → ⊥)
          → MeetsAs of (Err halt) E.passes (call.Begin 0) old new → (IsStopped {T = Unit {0}} (Err halt) → AllowsBegin E s x)
          → AnswersAs (Err halt) (answer E s x (call.Begin 0)) s new
          × GoesByMoves E (flash_result {T = Unit {0}} (Err halt)) old new s (answer E s x (call.Begin 0)).moves (answer E s x (call.Begin 0)).next
      answers (stop.Status st) E s x layout shows there meets begun =
          let goes = call-goes E of (Err (stop.Status st)) (call.Begin 0) old new s x layout shows meets (reply.Refused st) refl in
          ((sym (call-replies E of (Err (stop.Status st)) (call.Begin 0) old new s x layout shows meets (reply.Refused st) refl), goes.shows), goes)
      answers stop.Lost E s x layout shows there meets begun =
          (begun tt, call-stopped E of (Err stop.Lost) (call.Begin 0) old new s x layout shows meets refl _)
      answers stop.Fault E s x layout shows there meets begun =
          (begun tt, call-stopped E of (Err stop.Fault) (call.Begin 0) old new s x layout shows meets refl _)
      answers stop.Gone E s x layout shows there meets begun = absurd (there refl)

  -- begun, and the images were sent into the staging
  module _ (entries : List Entry) (m1 new : Moment) (fit : IsTrue (fits_layout old.fields.layout))
      (chosen : Chooses old.fields.layout.rows toc (Ok entries)) (begins : (v : List ℕ → Bool) → MeetsAs of (Ok tt) v (call.Begin 0) old m1) where
    abbrev started : Started passes entries old m1
    started = whole-started toc passes old entries m1 fit chosen.1 begins

    sends-by : (result : Result Sent SendStop) (ended : Result (Unit {0}) SendStop) (inst : InstallsImages told name entries request passes ended m1 new)
        → ((E : Setting) (s : State) (boot : ℕ) (staging : Option (List Staged)) (handles : List Handle) → E.layout ≡ old.fields.layout → E.passes ≡ passes
        → Shows old s (On boot staging handles) → SendEndsBy result E toc inst.images request old new s (On boot staging handles))
        → Sends told name toc request passes result old new
    sends-by result ended inst goes = record {
      images = inst.images;
      read = λ file tells. inst.read file tells ∙ images-are file toc old.fields.layout.rows entries chosen.1.count chosen.1.each;
      goes = λ E s x layout verifier shows. each-on old (SendEndsBy result E toc inst.images request old new)
          (λ s boot staging handles shows. goes E s boot staging handles layout verifier shows) s x shows;
    }

    packed : (images : List (List ℕ)) → length images ≡ length entries
        → IsPacked (sent_parts started.parts images started.places (request == 0)) images (bits old.fields.layout)
    packed images count = whole-packed (length old.fields.layout.rows) (request == 0) images (count ∙ chosen.1.count)

    pub sends-done : (sent : Sent) → sent.images ≡ length old.fields.layout.rows
        → sent.skipped ≡ skipped old.fields.layout.rows toc → InstallsImages told name entries request passes (Ok tt) m1 new
        → Sends told name toc request passes (Ok sent) old new
    sends-done sent images others inst = sends-by (Ok sent) (Ok tt) inst (λ E s boot staging handles layout verifier shows.
        done-goes fault bits said old chosen.0 E layout s boot staging handles passes verifier shows entries m1 new started told name request inst.images
        inst (reply.Sent sent.images sent.skipped) (packed inst.images inst.count) (cc (images, others)))

    pub sends-halted : (halt : SendStop) → InstallsImages told name entries request passes (Err halt) m1 new
        → Sends told name toc request passes (Err halt) old new
    sends-halted halt inst = sends-by (Err halt) (Err halt) inst (λ E s boot staging handles layout verifier shows.
        ends-as halt E inst.images new s (On boot staging handles)
        (halted-goes fault bits said old chosen.0 E layout s boot staging handles passes verifier shows entries m1 new started told name request inst.images
        halt inst (packed inst.images inst.count)))

  -- ---- what is installed

  pub installs-done : (new : Moment) (sent : Sent) → Sends told name toc request passes (Ok sent) old new → IsTrue (fits_layout old.fields.layout)
      → fault old.fields.layout ≡ None → (s : State) (x : Session) → Shows old s x → Installs told name toc request new s
  installs-done new sent sends fit none = each-on old (λ s x. Installs told name toc request new s) (λ s boot staging handles shows.
      let E : Setting = record { layout = old.fields.layout; files = λ name. None; passes = passes } in
      let i = installs-as fault bits said old none E refl s boot staging handles (reply.Sent sent.images sent.skipped) sends.images new (λ e. absurd cc) (λ e. absurd cc)
      fit shows (sends.goes E s (On boot staging handles) refl refl shows) in
      record {
        now = i.now;
        session = i.session;
        shows = i.shows;
        images = sends.images;
        read = λ file tells. sends.read file tells ∙ ap (λ (L : Layout). images_of L.rows file toc) (sym i.layout);
        installed = subst (λ (L : Layout). IsInstalled sends.images (bits L) s i.now) (sym i.layout) i.installed;
      })

-- a machine that the agent then shows, whose active bank took the update, and whose previous one was active
pub record Switched (new : Moment) (before : State) : Type 0 where
  pub now : State
  pub session : Session
  pub shows : Shows new now session
  pub active : now.active ≡ update_bank before
  pub previous : now.previous ≡ before.active

-- what the agent keeps then
module _ (old new : Moment) (switched : (s : State) (x : Session) → Shows old s x → Switched new s) where
  active-is : Showing old → new.fields.meta.meta.active ≡ target old.fields
  active-is one =
      let done = switched one.state one.session one.shows in
      ap (λ (m : Meta). m.active) done.shows.speaks.meta ∙ done.active
      ∙ ap (λ (a : ℕ). (a + 1) % length one.state.banks) (sym (ap (λ (m : Meta). m.active) one.shows.speaks.meta)) ∙ ap
      (λ (n : ℕ). (old.fields.meta.meta.active + 1) % n) one.shows.speaks.banks

  previous-is : Showing old → new.fields.meta.meta.previous ≡ old.fields.meta.meta.active
  previous-is one =
      let done = switched one.state one.session one.shows in
      ap (λ (m : Meta). m.previous) done.shows.speaks.meta ∙ done.previous ∙ sym (ap (λ (m : Meta). m.active) one.shows.speaks.meta)

  pub switches : ∥ Showing old ∥₁ → IsSwitched old.fields new.fields
  switches some = record {
    active = ∥∥₁_elim some (ℕ_set new.fields.meta.meta.active (target old.fields)) active-is;
    previous = ∥∥₁_elim some (ℕ_set new.fields.meta.meta.previous old.fields.meta.meta.active) previous-is;
  }
