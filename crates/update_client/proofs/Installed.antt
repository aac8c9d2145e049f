-- The images sent into a staging, and its end.
use Rattle.std.proofs.Common.{◌≡◌, ℕ, Bool, true, false, List, [], length, map, Option, Some, None, Result, Ok, Err, refl, sym, ap, subst, ◌∙◌}
use Rattle.std.specs.Prelude.{IsFalse, IsTrue, ◌==◌}
use Rattle.flash_core.specs.declared.flash.FlashStop.TheVariants as flash_stop
use Rattle.host_io.specs.Contents.{Directory}
use Rattle.fwu_formats.specs.Package.{Entry, payload}
use Rattle.fwu_model.specs.{State.State, Sound.Setting, Reply.Reply, Answer.Answer, Answer.staged_bits, Answer.staged_package}
use Rattle.fwu_model.specs.Session.{Session, On, Staged, Handle, no_handles}
use Rattle.fwu_model.specs.Call as call
use Rattle.fwu_model.specs.Reply as reply
use Rattle.std.proofs.lemmas.List.{length-map}
use Rattle.fip_tables.specs.Files.{Tells}
use Rattle.agent_machine.specs.{declared.stop.Stop.Stop, Moment.Moment, Moment.Shows, Goes.GoesByMoves, Filling.between}
use Rattle.agent_machine.specs.Meets.{GoesBy, IsStopped}
use Rattle.agent_machine.specs.declared.stop.Stop.TheVariants as stop
use Rattle.update_client.specs.{declared.stops.SendStop.SendStop, Halts.Halts, Halts.is_unread}
use Rattle.update_client.specs.declared.stops.SendStop.TheVariants.{End, ReadFailed, Lost, Fault}
use Rattle.update_client.specs.Images.{AreUnstaged, SendsImages, sent_parts}
use Rattle.update_client.specs.Images.{FinishesSend, FinishesBy, InstallsImages, end_moves}
use Rattle.agent_machine.proofs.Going.{goes-then, goes-stopped}
use Rattle.agent_machine.proofs.CallGoing.{MeetsAs, call-goes, call-replies}
use Rattle.update_client.proofs.Staging.{cancel-answers}
use Rattle.agent_calls.proofs.Copies.{no-success}

-- ---- what told files have

abbrev entries_of : Option (List ℕ) → List Entry → List (List ℕ)
entries_of None entries = map (λ (e : Entry). []) entries
entries_of (Some file) entries = map (payload file) entries

-- as many images as entries, which are the file's where that is told
abbrev pub entry_images : Option Directory → List ℕ → List Entry → List (List ℕ)
entry_images None name entries = map (λ (e : Entry). []) entries
entry_images (Some files) name entries = entries_of (files name) entries

pub entry-images-are : (told : Option Directory) (name : List ℕ) (entries : List Entry) (file : List ℕ) → Tells told name file
    → entry_images told name entries ≡ map (payload file) entries
entry-images-are None name entries file tells = absurd tells
entry-images-are (Some files) name entries file tells = ap (λ (o : Option (List ℕ)). entries_of o entries) tells

pub entry-images-long : (told : Option Directory) (name : List ℕ) (entries : List Entry) → length (entry_images told name entries) ≡ length entries
entry-images-long None name entries = length-map entries (λ (e : Entry). [])
entry-images-long (Some files) name entries = by-file (files name)
  where
    by-file : (o : Option (List ℕ)) → length (entries_of o entries) ≡ length entries
    by-file None = length-map entries (λ (e : Entry). [])
    by-file (Some file) = length-map entries (payload file)

abbrev of_file : Option (List ℕ) → (List ℕ → List (List ℕ)) → List (List ℕ)
of_file None of = []
of_file (Some file) of = of file

-- a value of the file's bytes, where they are told
abbrev pub told_value : Option Directory → List ℕ → (List ℕ → List (List ℕ)) → List (List ℕ)
told_value None name of = []
told_value (Some files) name of = of_file (files name) of

pub told-is : (told : Option Directory) (name : List ℕ) (of : List ℕ → List (List ℕ)) (file : List ℕ) → Tells told name file
    → told_value told name of ≡ of file
told-is None name of file tells = absurd tells
told-is (Some files) name of file tells = ap (λ (o : Option (List ℕ)). of_file o of) tells

abbrev success : Unit {0} → Reply
success u = reply.Success

-- ---- after what was done before

finishes-after : (result : Result (Unit {0}) SendStop) (E : Setting) (old mid new : Moment) (s : State) (boot : ℕ) (x : Session) (p : List (List ℕ))
    (bits : List Bool)
    → GoesByMoves E (Ok tt) old mid s [] x → FinishesSend result E mid new s boot p bits → FinishesSend result E old new s boot p bits
finishes-after (Ok v) E old mid new s boot x p bits first next = (
  next.0,
  goes-then E (Ok tt) old mid new s [] (end_moves E s p bits) x
      (On boot None no_handles) first next.1,
)
finishes-after (Err (End st)) E old mid new s boot x p bits first next =
    (next.0, next.1, goes-then E (Ok tt) old mid new s [] (end_moves E s p bits) x (On boot None no_handles) first next.2)
finishes-after (Err ReadFailed) E old mid new s boot x p bits first next = goes-then E (Ok tt) old mid new s [] [] x (On boot None no_handles) first next
finishes-after (Err Lost) E old mid new s boot x p bits first next = goes-then E (Err flash_stop.Lost) old mid new s [] (end_moves E s p bits) x
    (On boot None no_handles) first next
finishes-after (Err Fault) E old mid new s boot x p bits first next = goes-then E (Err flash_stop.Failed) old mid new s [] (end_moves E s p bits) x
    (On boot None no_handles) first next
finishes-after (Err q) E old mid new s boot x p bits first next = absurd next

-- a cancel within a staging is neither refused nor stopped
pub no-cancel : (halt : Stop) (E : Setting) (old new : Moment) (s : State) (boot : ℕ) (parts : List Staged) (handles : List Handle) (was now : Bool)
    → E.layout ≡ old.fields.layout → Shows old s (On boot (Some parts) handles)
    → IsFalse was → GoesBy {T = Unit {0}} (Err halt) was now → (IsStopped {T = Unit {0}} (Err halt) → ⊥)
    → ((v : List ℕ → Bool) → MeetsAs success (Err halt) v call.Cancel old new) → ⊥
no-cancel (stop.Status st) E old new s boot parts handles was now layout shows here goes still meets =
    no-success st (call-replies E success (Err (stop.Status st)) call.Cancel old new s (On boot (Some parts) handles) layout shows (meets E.passes)
    (reply.Refused st) refl ∙ ap (λ (a : Answer). a.reply) (cancel-answers E s boot parts handles))
no-cancel stop.Lost E old new s boot parts handles was now layout shows here goes still meets = still tt
no-cancel stop.Fault E old new s boot parts handles was now layout shows here goes still meets = still tt
no-cancel stop.Gone E old new s boot parts handles was now layout shows here goes still meets = absurd (gone-here (goes.gone.0 refl))
  where
    gone-here : IsTrue was → ⊥
    gone-here is = cc

-- ---- the ends

module _ (told : Option Directory) (name : List ℕ) (entries : List Entry) (request : ℕ) (passes : List ℕ → Bool) (old mid new : Moment) where
  -- all were sent, and the end was answered, refused or stopped
  pub installed : (result : Result (Unit {0}) SendStop) → SendsImages told name entries request (Ok tt) old mid
      → FinishesBy passes result mid new → InstallsImages told name entries request passes result old new
  installed result sent finishes = record {
    images = sent.images;
    count = sent.count;
    read = sent.read;
    goes = λ E s boot parts places layout verifier are whole shows.
        let now = sent_parts parts sent.images places (request == 0) in
        let two = sent.goes E s boot parts places layout are shows in
        finishes-after result E old mid new s boot (between boot now) (staged_package now) (staged_bits now) two
        (finishes E s boot now (layout ∙ sym two.stays.layout) verifier whole two.shows);
  }

  -- the images of one that was not done
  undone : (result : Result (Unit {0}) SendStop) → ((E : Setting) (s : State) (boot : ℕ) (parts : List Staged) (places : List ℕ) → E.layout ≡ old.fields.layout
      → AreUnstaged E entries places parts → Shows old s (between boot parts) → (p : List (List ℕ)) (bits : List Bool) → FinishesSend result E old new s boot p bits)
      → InstallsImages told name entries request passes result old new
  undone result goes = record {
    images = entry_images told name entries;
    count = entry-images-long told name entries;
    read = entry-images-are told name entries;
    goes = λ E s boot parts places layout verifier are whole shows. goes E s boot parts places layout are shows _ _;
  }

  -- a read failed, and the staging was cancelled: within a staging that is neither refused nor stopped
  pub uncancelled : (result : Result (Unit {0}) Stop) (was now : Bool) → IsFalse was → GoesBy result was now
      → (IsStopped result → ⊥) → SendsImages told name entries request (Err ReadFailed) old mid
      → ((v : List ℕ → Bool) → MeetsAs success result v call.Cancel mid new)
      → InstallsImages told name entries request passes (Err ReadFailed) old new
  uncancelled (Ok x) was now here goes still sent cancels = undone (Err ReadFailed) (λ E s boot parts places layout are shows p bits.
      let one = sent.goes E s boot parts places layout are shows in
      let there = On boot (Some one.parts) one.handles in
      let last = subst (λ (a : Answer). GoesByMoves E (Ok tt) mid new s a.moves a.next) (cancel-answers E s boot one.parts one.handles)
      (call-goes E success (Ok tt) call.Cancel mid new s there (layout ∙ sym one.goes.stays.layout) one.goes.shows
      (cancels E.passes) reply.Success refl) in
      goes-then E (Ok tt) old mid new s [] [] there (On boot None no_handles) one.goes last)
  uncancelled (Err halt) was now here goes still sent cancels = undone (Err ReadFailed) (λ E s boot parts places layout are shows p bits.
      let there = sent.goes E s boot parts places layout are shows in
      absurd (no-cancel halt E mid new s boot there.parts there.handles was now
      (layout ∙ sym there.goes.stays.layout) there.goes.shows here goes still cancels))

  -- the flash stopped it on the way
  pub interrupted : (halt : SendStop) → is_unread halt ≡ false → SendsImages told name entries request (Err halt) old new
      → InstallsImages told name entries request passes (Err halt) old new
  interrupted halt other sent = undone (Err halt) (λ E s boot parts places layout are shows p bits.
      by-stop halt E s boot other p bits (between boot (sent_parts parts sent.images places (request == 0))) (sent.goes E s boot parts places layout are shows))
    where
      by-stop : (halt : SendStop) (E : Setting) (s : State) (boot : ℕ) → is_unread halt ≡ false → (p : List (List ℕ)) (bits : List Bool) (y : Session)
          → Halts {T = Unit {0}} (Err halt) E old new s boot y
          → FinishesSend (Err halt) E old new s boot p bits
      by-stop Lost E s boot other p bits y h =
          goes-stopped E (Err flash_stop.Lost) old new s [] (end_moves E s p bits) y (On boot None no_handles) refl h
      by-stop Fault E s boot other p bits y h =
          goes-stopped E (Err flash_stop.Failed) old new s [] (end_moves E s p bits) y (On boot None no_handles) refl h
      by-stop ReadFailed E s boot other p bits y h = absurd cc
      by-stop q E s boot other p bits y h = absurd h

pub unread-is : (halt : SendStop) → is_unread halt ≡ true → halt ≡ ReadFailed
unread-is ReadFailed is = refl
unread-is s is = absurd cc
