-- What a partial sending stages over the images of the active bank.
use Rattle.std.specs.Prelude.{◌≡◌, ◌+◌, ◌<◌, ℕ, Bool, false, List, [], IsTrue, length, map, Option, Some, None, Result, Ok, Err, slice_index_or, ⊤}
use Rattle.fwu_formats.specs.{Layout.ImageRow, Package.Entry, Package.Toc, Package.has_image, Layout.no_row}
use Rattle.fwu_model.specs.Reply as reply
use Rattle.fwu_model.specs.{Session.Session, Session.Off, Session.On, State.State, Sound.Setting}
use Rattle.fwu_model.specs.Answer.{Answer, answered, are_named, bits_over, image_held, images_over, install_unless, partial_fault, sent_over}
use Rattle.agent_calls.specs.Takes.{writes_to_copy}
use Rattle.update_client.specs.{Takes.writes_in, declared.stops.SendStop.SendStop, Sends.refused_image}
use Rattle.update_client.specs.{Sends.SendEndsAs, Sends.IsInstalled, declared.stops.Sent.Sent}
use Rattle.update_client.specs.declared.stops.SendStop.TheVariants.{End, ReadFailed}
pub use Rattle.fip_tables.specs.Images.{present}
use Rattle.host_io.specs.Contents.{Directory}
use Rattle.fip_tables.specs.Files.{Tells}
use Rattle.agent_machine.specs.{Fields.Fields, Fields.total_of, Moment.Moment, Moment.Shows}

-- ---- which entries are sent

abbrev pub entry_types : List Entry → List (List ℕ)
entry_types entries = map (λ (e : Entry). e.guid) entries

-- those that the table has, where it has one at all and none is too large
abbrev pub SendsPresent : List ImageRow → Toc → Result (List Entry) SendStop → Type 0
SendsPresent rows toc (Ok entries) = (partial_fault rows toc ≡ None) × (entries ≡ present rows toc)
SendsPresent rows toc (Err fault) = refused_image (partial_fault rows toc) ≡ Some fault

-- ---- the sending

-- the machine's answer to a partial sending by the table that is given, where these are the images in the end
abbrev pub over_answer : Setting → Toc → List (List ℕ) → ℕ → State → Session → Answer
over_answer E toc p request s Off = answered reply.IsOff [] Off
over_answer E toc p request s (On boot staging handles) =
    install_unless (partial_fault E.layout.rows toc) E s boot staging handles p (bits_over E.layout.rows toc request)
    (sent_over E.layout.rows toc)

-- as of a sending, by the machine's answer to it
abbrev pub GoesAs : Result Sent SendStop → Answer → Setting → Moment → Moment → State → Session → Type 0
GoesAs result a E old new s x = SendEndsAs (λ sent. reply.SentPartial sent.images sent.skipped sent.copied) result a E old new s x

-- the begin was done, and the flash stopped nothing behind it
abbrev pub WasBegun : Result Sent SendStop → Type 0
WasBegun (Ok sent) = ⊤
WasBegun (Err (End st)) = ⊤
WasBegun (Err ReadFailed) = ⊤
WasBegun other = ⊥

-- as many bytes of each image that the table lacks, as the agent keeps of the bank that was started
abbrev pub AreWhole : List ImageRow → Toc → Fields → (ℕ → List ℕ) → Type 0
AreWhole rows toc f bytes = (i : ℕ) → i < length rows → has_image toc (slice_index_or rows i no_row) ≡ false
    → length (bytes i) ≡ total_of f (Some i)

-- What a partial sending says of an agent that isn't gone, on any device. There are bytes of the images that the table lacks, those
-- of the active bank where the device tells. Behind a begin that was done they are as many on any device. And there are images,
-- those of the file over these bytes where it is told. Each machine that the agent shows goes by the sending of them.
pub record SendsOver (told : Option Directory) (name : List ℕ) (toc : Toc) (request : ℕ) (passes : List ℕ → Bool)
    (result : Result Sent SendStop) (old new : Moment) : Type 0 where
  pub bytes : ℕ → List ℕ
  pub copied : IsTrue old.tells → (s : State) (x : Session) → Shows old s x → (i : ℕ) → i < length old.fields.layout.rows
      → has_image toc (slice_index_or old.fields.layout.rows i no_row) ≡ false → bytes i ≡ image_held s s.active i
  pub whole : WasBegun result → AreWhole old.fields.layout.rows toc old.fields bytes
  pub images : List (List ℕ)
  pub read : (file : List ℕ) → Tells told name file → images ≡ images_over old.fields.layout.rows file toc bytes
  pub goes : (E : Setting) (s : State) (x : Session) → E.layout ≡ old.fields.layout → E.passes ≡ passes → Shows old s x
      → GoesAs result (over_answer E toc images request s x) E old new s x

-- ---- when done

-- The machine that the agent shows then has installed the file's images over those of the bank that was active. These are those of
-- its package where the device tells its content, and have as many bytes on any device.
pub record InstallsOver (told : Option Directory) (name : List ℕ) (toc : Toc) (request : ℕ) (old new : Moment)
    (before : State) : Type 0 where
  pub now : State
  pub session : Session
  pub shows : Shows new now session
  pub bytes : ℕ → List ℕ
  pub copied : IsTrue old.tells → (i : ℕ) → i < length new.fields.layout.rows
      → has_image toc (slice_index_or new.fields.layout.rows i no_row) ≡ false → bytes i ≡ image_held before before.active i
  pub whole : AreWhole new.fields.layout.rows toc old.fields bytes
  pub images : List (List ℕ)
  pub read : (file : List ℕ) → Tells told name file → images ≡ images_over new.fields.layout.rows file toc bytes
  pub installed : IsInstalled images (bits_over new.fields.layout.rows toc request) before now

-- how many images the table has, how many of its entries are none, and how many images it lacks
abbrev pub IsCountedOver : List ImageRow → Toc → Sent → Type 0
IsCountedOver rows toc sent = reply.SentPartial sent.images sent.skipped sent.copied ≡ sent_over rows toc

-- the writes and commits of the images that are copied
abbrev pub writes_copied : List ImageRow → List ℕ → Toc → ℕ
writes_copied rows lengths toc = writes_to_copy (are_named rows (entry_types (present rows toc))) lengths (length rows)

-- and of those that are sent, `size` bytes at a time
abbrev pub writes_over : ℕ → List ImageRow → List ℕ → Toc → ℕ
writes_over size rows lengths toc = writes_copied rows lengths toc + writes_in size (present rows toc)
