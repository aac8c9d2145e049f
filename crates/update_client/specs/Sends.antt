-- What a sending is to the machine.
use Rattle.std.specs.Prelude.{◌≡◌, ◌↔◌, ◌⊎◌, ◌==◌, ℕ, Bool, List, [], length, replicate, Option, Some, None, Result, Ok, Err, IsErrAnd, IsTrue, ⊤}
use Rattle.host_io.specs.Contents.{Directory}
use Rattle.fwu_formats.specs.{Layout.ImageRow, Package.Entry, Package.Toc}
use Rattle.fwu_model.specs.{State.State, State.bank, State.update_bank, Sound.Setting, Reply.Reply}
use Rattle.fwu_model.specs.Session.{Session, Off, On, no_handles}
use Rattle.fwu_model.specs.Answer.{Answer, answer, answered, first_image_fault, images_of, send_package, skipped}
use Rattle.fwu_model.specs.Call as call
use Rattle.fwu_model.specs.Reply as reply
use Rattle.fip_tables.specs.{Files.Tells, Images.AreImages, declared.images.ImageFault.ImageFault}
use Rattle.fip_tables.specs.declared.images.ImageFault.TheVariants as image
use Rattle.agent_machine.specs.{Fields.Fields, Fields.target, Moment.Moment, Moment.Shows, Goes.GoesByMoves}
use Rattle.update_client.specs.{Halts.flash_of, declared.stops.Sent.Sent, declared.stops.SendStop.SendStop}
use Rattle.update_client.specs.declared.stops.SendStop.TheVariants.{MissingImage, ImageTooLarge, Begin, End, ReadFailed, Gone}

-- ---- which entries are sent

-- the fault of an image, as a refusal
abbrev pub refused_as : ImageFault → SendStop
refused_as (image.Missing guid) = MissingImage guid
refused_as (image.TooLarge guid) = ImageTooLarge guid

-- and as the machine tells it
abbrev pub refused_image : Option Reply → Option SendStop
refused_image (Some (reply.Missing guid)) = Some (MissingImage guid)
refused_image (Some (reply.TooLarge guid)) = Some (ImageTooLarge guid)
refused_image other = None

-- those of all images, by which the machine has no fault
abbrev pub Chooses : List ImageRow → Toc → Result (List Entry) SendStop → Type 0
Chooses rows toc (Ok entries) = (first_image_fault rows toc ≡ None) × AreImages rows toc entries
Chooses rows toc (Err fault) = refused_image (first_image_fault rows toc) ≡ Some fault

-- ---- the sending

-- the machine's answer to a sending by the table that is given, of the images that were read
abbrev pub send_answer : Setting → Toc → List (List ℕ) → ℕ → State → Session → Answer
send_answer E toc p request s Off = answered reply.IsOff [] Off
send_answer E toc p request s (On boot staging handles) =
    send_package E s boot staging handles p request toc

-- the session without a staging and a handle
abbrev pub ended_session : Session → Session
ended_session Off = Off
ended_session (On boot staging handles) = On boot None no_handles

-- the reply is the machine's, and so are the moves and the session after them
abbrev pub AnswersBy : Reply → Answer → Setting → Moment → Moment → State → Type 0
AnswersBy r a E old new s = (r ≡ a.reply) × GoesByMoves E (Ok tt) old new s a.moves a.next

-- the machine doesn't refuse a begin
abbrev pub AllowsBegin : Setting → State → Session → Type 0
AllowsBegin E s x = (answer E s x (call.Begin 0)).reply ≡ reply.Success

-- An answer or a refusal is the machine's, with all its moves. A failed read leaves those of a begin, and no staging. At a stop of
-- the flash each loss leaves a prefix of the moves. Neither comes where a begin is refused. An agent that is there is never
-- answered to be gone.
abbrev pub SendEndsAs : (Sent → Reply) → Result Sent SendStop → Answer → Setting → Moment → Moment → State → Session → Type 0
SendEndsAs done (Ok sent) a E old new s x = AnswersBy (done sent) a E old new s
SendEndsAs done (Err (MissingImage guid)) a E old new s x = AnswersBy (reply.Missing guid) a E old new s
SendEndsAs done (Err (ImageTooLarge guid)) a E old new s x = AnswersBy (reply.TooLarge guid) a E old new s
SendEndsAs done (Err (Begin st)) a E old new s x = AnswersBy (reply.BeginRefused st) a E old new s
SendEndsAs done (Err (End st)) a E old new s x = AnswersBy (reply.EndRefused st) a E old new s
SendEndsAs done (Err ReadFailed) a E old new s x =
    AllowsBegin E s x × GoesByMoves E (Ok tt) old new s (answer E s x (call.Begin 0)).moves (ended_session x)
SendEndsAs done (Err Gone) a E old new s x = ⊥
SendEndsAs done stopped a E old new s x = AllowsBegin E s x × GoesByMoves E (flash_of stopped) old new s a.moves (ended_session x)

abbrev pub SendEndsBy : Result Sent SendStop → Setting → Toc → List (List ℕ) → ℕ → Moment → Moment → State → Session → Type 0
SendEndsBy result E toc p request old new s x =
    SendEndsAs (λ sent. reply.Sent sent.images sent.skipped) result (send_answer E toc p request s x) E old new s x

-- What a sending says of an agent that isn't gone, on any device. There are images, those of the file where it is told. Each
-- machine that the agent shows goes by the sending of them.
pub record Sends (told : Option Directory) (name : List ℕ) (toc : Toc) (request : ℕ) (passes : List ℕ → Bool)
    (result : Result Sent SendStop) (old new : Moment) : Type 0 where
  pub images : List (List ℕ)
  pub read : (file : List ℕ) → Tells told name file → images ≡ images_of old.fields.layout.rows file toc
  pub goes : (E : Setting) (s : State) (x : Session) → E.layout ≡ old.fields.layout → E.passes ≡ passes → Shows old s x
      → SendEndsBy result E toc images request old new s x

-- ---- when done

-- how many images the layout has, how many entries are none of them, and that no image was copied
pub record IsCounted (rows : List ImageRow) (toc : Toc) (sent : Sent) : Type 0 where
  pub images : sent.images ≡ length rows
  pub skipped : sent.skipped ≡ skipped rows toc
  pub copied : sent.copied ≡ 0

-- What was the update bank is active and holds the images, each accepted by its bit, and the bank that was active is the previous
-- one.
pub record IsInstalled (images : List (List ℕ)) (bits : List Bool) (before now : State) : Type 0 where
  pub active : now.active ≡ update_bank before
  pub previous : now.previous ≡ before.active
  pub held : (bank now now.active).held ≡ Some images
  pub accepted : (bank now now.active).bits ≡ bits
  pub trials : now.trials ≡ 0
  pub counter : now.counter ≡ before.counter

-- The machine that the agent shows then has installed the file's images, all of them accepted or none.
pub record Installs (told : Option Directory) (name : List ℕ) (toc : Toc) (request : ℕ) (new : Moment)
    (before : State) : Type 0 where
  pub now : State
  pub session : Session
  pub shows : Shows new now session
  pub images : List (List ℕ)
  pub read : (file : List ℕ) → Tells told name file → images ≡ images_of new.fields.layout.rows file toc
  pub installed : IsInstalled images (replicate (length new.fields.layout.rows) (request == 0)) before now

-- On any device: what the agent keeps then has the bank active that was the update bank, and the one that was active is the
-- previous one.
pub record IsSwitched (old new : Fields) : Type 0 where
  pub active : new.meta.meta.active ≡ target old
  pub previous : new.meta.meta.previous ≡ old.meta.meta.active

-- ---- on any agent and device

-- a missing or too large image is answered exactly where that is the fault of the lowest image that has one
abbrev pub FaultsBy : Option Reply → Result Sent SendStop → Type 0
FaultsBy fault (Err (MissingImage guid)) = fault ≡ Some (reply.Missing guid)
FaultsBy fault (Err (ImageTooLarge guid)) = fault ≡ Some (reply.TooLarge guid)
FaultsBy fault other = fault ≡ None

abbrev pub IsStoppedSend : Result Sent SendStop → Type 0
IsStoppedSend result = IsErrAnd (flash_of result) (λ cause. ⊤)

abbrev pub IsEarlySend : Result Sent SendStop → Type 0
IsEarlySend (Err (MissingImage guid)) = ⊤
IsEarlySend (Err (ImageTooLarge guid)) = ⊤
IsEarlySend (Err (Begin st)) = ⊤
IsEarlySend (Err Gone) = ⊤
IsEarlySend other = ⊥

-- Gone comes exactly where the agent is gone and no image has a fault; and a stop makes it gone
pub record GoneBy (fault : Option Reply) (result : Result Sent SendStop) (was now : Bool) : Type 0 where
  pub gone : (result ≡ Err Gone) ↔ (IsTrue was × (fault ≡ None))
  pub later : IsTrue now ↔ (IsTrue was ⊎ IsStoppedSend result)
