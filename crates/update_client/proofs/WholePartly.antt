-- A partial sending as one answer of the machine, or a part of one.
use Rattle.std.proofs.Common.{inl, inr, ◌≡◌, cond, ℕ, ◌<◌, Bool, true, false, List, [], map, length, get_or, Option, Some, None, Result, Ok, Err, refl, sym, ap, subst, ◌∙◌, arith}
use Rattle.std.specs.Prelude.{IsTrue, ◌==◌, OnOk}
use Rattle.std.specs.List.{list_all, list_any}
use Rattle.std.proofs.lemmas.List.{get_or-map, length-map}
use Rattle.base_core.specs.Bytes.{same_bytes}
use Rattle.host_io.specs.Contents.{Directory}
use Rattle.fwu_formats.specs.{Layout.Layout, Layout.ImageRow, Layout.fits_layout, Package.Entry, Package.Toc, Package.payload, Package.has_image, Layout.no_row}
use Rattle.fwu_model.specs.{State.State, State.after, Sound.Setting, Reply.Reply}
use Rattle.fwu_model.specs.Session.{Session, On, Staged, Handle, is_committed}
use Rattle.fwu_model.specs.Answer.{Answer, answered, refused, begin_moves, bits_over, cannot_begin, images_over, partial_fault, sent_over, staged_bits, staged_package, are_named, copied_parts, image_held, names_unknown}
use Rattle.fwu_model.specs.Reply as reply
use Rattle.fwu_model.specs.declared.kinds.Status.TheVariants as status
use Rattle.agent_machine.specs.{declared.stop.Stop.Stop, Moment.Moment, Moment.Shows, Goes.GoesByMoves, Filling.between}
use Rattle.agent_machine.specs.Meets.{IsSettingOf, flash_result}
use Rattle.agent_machine.specs.declared.stop.Stop.TheVariants as stop
use Rattle.agent_calls.specs.{Partly.begins_over, Copies.AnswersAs, Copies.BeginsPartly}
use Rattle.agent_calls.proofs.BegunPartly.{held, held-is}
use Rattle.update_client.specs.{declared.stops.Sent.Sent, declared.stops.SendStop.SendStop, Images.InstallsImages}
use Rattle.update_client.specs.{Halts.unbegun_as, Images.AreUnstaged, Images.sent_parts, Sends.IsInstalled}
use Rattle.update_client.specs.Sends.{refused_image}
use Rattle.update_client.specs.Partial.{AreWhole, GoesAs, WasBegun, IsCountedOver, SendsOver, over_answer, present, entry_types, SendsPresent, InstallsOver}
use Rattle.update_client.proofs.{Installed.told_value, Installed.told-is, Named.copied-is, Named.named-is, Named.payloads-are}
use Rattle.update_client.proofs.{Staging.IsPacked, Present.placed-in, Present.kept_parts, Present.places}
use Rattle.update_client.proofs.Over.{done-bits, done-committed, done-package, over-payloads, sent-over, over_images}
use Rattle.update_client.proofs.Packaged.{begin-done, each-on, early, early-cases, unbegun}
use Rattle.update_client.proofs.Started.{Started, done-goes, halted-goes, installs-as, unless-fault}

-- a partial begin goes by the machine's answer
begun-goes : (old m1 : Moment) (types : List (List ℕ)) (named : List Bool) (passes : List ℕ → Bool) (q : Result (Unit {0}) Stop) → (q ≡ Err stop.Gone → ⊥)
    → (begins : BeginsPartly types named passes q old m1) (E : Setting) (s : State) (x : Session) → IsSettingOf old.fields passes E → Shows old s x
    → GoesByMoves E (flash_result q) old m1 s (begins_over E s x types begins.bytes).moves (begins_over E s x types begins.bytes).next
begun-goes old m1 types named passes q there begins E s x setting shows = record {
  shows = shown q (begins_over E s x types begins.bytes) there (begins.exact E s x setting shows);
  does = λ tells ready. begins.does E s x setting shows tells ready;
  guarded = begins.guarded;
  keeps = begins.keeps;
  touches = begins.touches;
  stays = begins.stays;
}
  where
    shown : (q : Result (Unit {0}) Stop) (a : Answer) → (q ≡ Err stop.Gone → ⊥) → AnswersAs q a s m1
        → OnOk (flash_result q) (Shows m1 (after s a.moves) a.next)
    shown (Ok u) a there answers = answers.1
    shown (Err (stop.Status st)) a there answers = answers.1
    shown (Err stop.Lost) a there answers = tt
    shown (Err stop.Fault) a there answers = tt
    shown (Err stop.Gone) a there answers = absurd (there refl)

-- its answer, where no type of its list is unknown
begin-is : (E : Setting) (s : State) (boot : ℕ) (staging : Option (List Staged)) (handles : List Handle) (types : List (List ℕ)) (bytes : ℕ → List ℕ)
    → names_unknown E.layout.rows types ≡ false
    → begins_over E s (On boot staging handles) types bytes ≡ cond (cannot_begin s boot staging) (refused status.Denied (On boot staging handles))
    (answered reply.Success (begin_moves s) (between boot (copied_parts (are_named E.layout.rows types) bytes)))
begin-is E s boot staging handles types bytes known = ap (λ (u : Bool). cond (cannot_begin s boot staging) (refused status.Denied (On boot staging handles))
    (cond u (refused status.Unknown (On boot staging handles))
    (answered reply.Success (begin_moves s) (between boot (copied_parts (are_named E.layout.rows types) bytes))))) known

-- ---- the begin

module _ (toc : Toc) (passes : List ℕ → Bool) (old : Moment) where
  abbrev rows : List ImageRow
  rows = old.fields.layout.rows

  abbrev types : List (List ℕ)
  types = entry_types (present rows toc)

  -- the bytes of a begin that names the images of the table are those of the others
  copied-of : (new : Moment) (q : Result (Unit {0}) Stop) (begins : BeginsPartly types (are_named rows types) passes q old new)
      → IsTrue old.tells → (s : State) (x : Session) → Shows old s x → (i : ℕ) → i < length rows
      → has_image toc (get_or rows i no_row) ≡ false → begins.bytes i ≡ image_held s s.active i
  copied-of new q begins tells s x shows i lt lacks =
      let test = λ (r : ImageRow). list_any (same_bytes r.guid) types in
      begins.read tells s x shows i (omega (arith, lt, length-map rows test))
      (get_or-map test rows i no_row true lt ∙ named-is rows toc i lt ∙ lacks)

  -- and as many as the agent keeps
  whole-of : (new : Moment) (begins : BeginsPartly types (are_named rows types) passes (Ok tt) old new)
      → AreWhole rows toc old.fields begins.bytes
  whole-of new begins i lt lacks =
      let test = λ (r : ImageRow). list_any (same_bytes r.guid) types in
      begins.count tt i (omega (arith, lt, length-map rows test)) (get_or-map test rows i no_row true lt ∙ named-is rows toc i lt ∙ lacks)

  known-in : (E : Setting) → E.layout ≡ old.fields.layout → names_unknown rows types ≡ false → names_unknown E.layout.rows types ≡ false
  known-in E layout known = ap (λ (L : Layout). names_unknown L.rows types) layout ∙ known

  module _ (known : names_unknown rows types ≡ false) (fit : IsTrue (fits_layout old.fields.layout)) (entries : List Entry) (are : SendsPresent rows toc (Ok entries))
      (m1 : Moment) (begins : BeginsPartly types (are_named rows types) passes (Ok tt) old m1) where
    pub begun : (E : Setting) (s : State) (boot : ℕ) (staging : Option (List Staged)) (handles : List Handle) → E.layout ≡ old.fields.layout
        → E.passes ≡ passes → Shows old s (On boot staging handles)
        → (cannot_begin s boot staging ≡ false) × GoesByMoves E (Ok tt) old m1 s (begin_moves s) (between boot (kept_parts toc begins.bytes 0 rows))
    begun E s boot staging handles layout verifier shows =
        let setting : IsSettingOf old.fields passes E = record { layout = layout; verifier = verifier } in
        let x = On boot staging handles in
        let parts : copied_parts (are_named E.layout.rows types) begins.bytes ≡ kept_parts toc begins.bytes 0 rows =
        ap (λ (L : Layout). copied_parts (are_named L.rows types) begins.bytes) layout ∙ copied-is rows toc begins.bytes in
        subst (λ (ps : List Staged). (cannot_begin s boot staging ≡ false) × GoesByMoves E (Ok tt) old m1 s (begin_moves s) (between boot ps)) parts
        (begin-done E s boot staging handles (copied_parts (are_named E.layout.rows types) begins.bytes) (begins_over E s x types begins.bytes)
        (begin-is E s boot staging handles types begins.bytes (known-in E layout known)) old m1 (begins.exact E s x setting shows).0
        (begun-goes old m1 types (are_named rows types) passes (Ok tt) (λ e. absurd cc) begins E s x setting shows))

    pub unstaged : (E : Setting) → E.layout ≡ old.fields.layout → AreUnstaged E entries (places toc 0 rows) (kept_parts toc begins.bytes 0 rows)
    unstaged E layout = placed-in E old.fields.layout toc begins.bytes entries layout fit are

    -- the staging stands with what was copied
    abbrev pub over-started : Started passes entries old m1
    over-started = record {
      parts = kept_parts toc begins.bytes 0 rows;
      places = places toc 0 rows;
      unstaged = unstaged;
      goes = begun;
    }

  -- ---- the exits

  module _ (told : Option Directory) (name : List ℕ) (request : ℕ) where
    abbrev of_file : (ℕ → List ℕ) → List ℕ → List (List ℕ)
    of_file bytes file = images_over rows file toc bytes

    abbrev fault : Layout → Option Reply
    fault L = partial_fault L.rows toc

    abbrev bits : Layout → List Bool
    bits L = bits_over L.rows toc request

    abbrev said : Layout → Reply
    said L = sent_over L.rows toc

    -- refused before any call
    pub over-early : (halt : SendStop) → refused_image (partial_fault rows toc) ≡ Some halt → SendsOver told name toc request passes (Err halt) old old
    over-early halt is = record {
      bytes = held old;
      copied = λ tells s x shows i lt lacks. held-is old s x shows tells i;
      whole = λ was. absurd (by-early (partial_fault rows toc) halt is was);
      images = told_value told name (of_file (held old));
      read = told-is told name (of_file (held old));
      goes = λ E s x layout verifier shows. each-on old (λ s x. GoesAs (Err halt) (over_answer E toc (told_value told name (of_file (held old))) request s x) E old old s x)
          (λ s boot staging handles shows. early E s boot staging handles _ (bits E.layout) (said E.layout) (fault E.layout) halt old
          (ap (λ (L : Layout). refused_image (fault L)) layout ∙ is) shows) s x shows;
    }
      where
        by-early : (o : Option Reply) (h : SendStop) → refused_image o ≡ Some h → WasBegun (Err h) → ⊥
        by-early o h it was = elim (early-cases o h it) [
          | inl m ↦ subst (λ (k : SendStop). WasBegun (Err k)) m.1 was
          | inr l ↦ subst (λ (k : SendStop). WasBegun (Err k)) l.1 was
        ]

    -- not begun
    pub over-unbegun : partial_fault rows toc ≡ None → names_unknown rows types ≡ false → (new : Moment) (q : Stop) → (q ≡ stop.Gone → ⊥)
        → BeginsPartly types (are_named rows types) passes (Err q) old new → SendsOver told name toc request passes (Err (unbegun_as q)) old new
    over-unbegun none known new q there begins = record {
      bytes = begins.bytes;
      copied = copied-of new (Err q) begins;
      whole = λ was. absurd (by-unbegun q was);
      images = told_value told name (of_file begins.bytes);
      read = told-is told name (of_file begins.bytes);
      goes = λ E s x layout verifier shows. each-on old
          (λ s x. GoesAs (Err (unbegun_as q)) (over_answer E toc (told_value told name (of_file begins.bytes)) request s x) E old new s x)
          (λ s boot staging handles shows.
          let x = On boot staging handles in
          let setting : IsSettingOf old.fields passes E = record { layout = layout; verifier = verifier } in
          unless-fault fault bits said old none E layout s boot staging handles (told_value told name (of_file begins.bytes))
          (λ (a : Answer). GoesAs (Err (unbegun_as q)) a E old new s x)
          (unbegun E s boot staging handles (told_value told name (of_file begins.bytes)) (bits old.fields.layout) (said old.fields.layout) _ _
          (begin-is E s boot staging handles types begins.bytes (known-in E layout known)) q old new there (begins.exact E s x setting shows)
          (begun-goes old new types (are_named rows types) passes (Err q) (λ e. there (err-is q stop.Gone e)) begins E s x setting shows))) s x shows;
    }
      where
        err-is : (a b : Stop) → ◌≡◌ {A = Result (Unit {0}) Stop} (Err a) (Err b) → a ≡ b
        err-is a b e = cc

        by-unbegun : (k : Stop) → WasBegun (Err (unbegun_as k)) → ⊥
        by-unbegun (stop.Status st) was = was
        by-unbegun k was = was

    -- begun, and the images were sent into the staging
    module _ (known : names_unknown rows types ≡ false) (fit : IsTrue (fits_layout old.fields.layout)) (entries : List Entry) (are : SendsPresent rows toc (Ok entries))
        (m1 : Moment) (begins : BeginsPartly types (are_named rows types) passes (Ok tt) old m1) (new : Moment) where
      abbrev started : Started passes entries old m1
      started = over-started known fit entries are m1 begins

      abbrev over : List (List ℕ) → List (List ℕ)
      over images = over_images toc begins.bytes 0 rows images

      packed : (images : List (List ℕ)) → length images ≡ length entries
          → IsPacked (sent_parts started.parts images started.places (request == 0)) (over images) (bits old.fields.layout)
      packed images count =
          let bit = request == 0 in
          let long = count ∙ ap (λ (l : List Entry). length l) are.1 in
          let is = sent-over toc begins.bytes bit [] 0 rows images refl long in
          record {
            package_is = ap (λ (ps : List Staged). staged_package ps) is ∙ done-package toc begins.bytes bit 0 rows images;
            bits_are = ap (λ (ps : List Staged). staged_bits ps) is ∙ done-bits toc begins.bytes bit 0 rows images long;
            committed = ap (λ (ps : List Staged). list_all is_committed ps) is ∙ done-committed toc begins.bytes bit 0 rows images;
          }

      over-by : (result : Result Sent SendStop) (ended : Result (Unit {0}) SendStop) (inst : InstallsImages told name entries request passes ended m1 new)
          → ((E : Setting) (s : State) (boot : ℕ) (staging : Option (List Staged)) (handles : List Handle) → E.layout ≡ old.fields.layout → E.passes ≡ passes
          → Shows old s (On boot staging handles)
          → GoesAs result (over_answer E toc (over inst.images) request s (On boot staging handles)) E old new s (On boot staging handles))
          → SendsOver told name toc request passes result old new
      over-by result ended inst goes = record {
        bytes = begins.bytes;
        copied = copied-of m1 (Ok tt) begins;
        whole = λ was. whole-of m1 begins;
        images = over inst.images;
        read = λ file tells. ap over (inst.read file tells ∙ ap (map (payload file)) are.1)
            ∙ over-payloads file toc begins.bytes 0 rows ∙ payloads-are file toc begins.bytes rows;
        goes = λ E s x layout verifier shows. each-on old (λ s x. GoesAs result (over_answer E toc (over inst.images) request s x) E old new s x)
            (λ s boot staging handles shows. goes E s boot staging handles layout verifier shows) s x shows;
      }

      pub over-done : (sent : Sent) → IsCountedOver rows toc sent
          → InstallsImages told name entries request passes (Ok tt) m1 new → SendsOver told name toc request passes (Ok sent) old new
      over-done sent counted inst = over-by (Ok sent) (Ok tt) inst (λ E s boot staging handles layout verifier shows.
          done-goes fault bits said old are.0 E layout s boot staging handles passes verifier shows entries m1 new started told name request
          (over inst.images) inst (reply.SentPartial sent.images sent.skipped sent.copied) (packed inst.images inst.count) counted)

      pub over-halted : (halt : SendStop) → InstallsImages told name entries request passes (Err halt) m1 new
          → SendsOver told name toc request passes (Err halt) old new
      over-halted halt inst = over-by (Err halt) (Err halt) inst (λ E s boot staging handles layout verifier shows.
          halted-goes fault bits said old are.0 E layout s boot staging handles passes verifier shows entries m1 new started told name request
          (over inst.images) halt inst (packed inst.images inst.count))

    -- ---- what is installed

    pub installs-over : (new : Moment) (sent : Sent) → SendsOver told name toc request passes (Ok sent) old new → IsTrue (fits_layout old.fields.layout)
        → partial_fault rows toc ≡ None → (s : State) (x : Session) → Shows old s x → InstallsOver told name toc request old new s
    installs-over new sent sends fit none = each-on old (λ s x. InstallsOver told name toc request old new s) (λ s boot staging handles shows.
        let x = On boot staging handles in
        let E : Setting = record { layout = old.fields.layout; files = λ name. None; passes = passes } in
        let i = installs-as fault bits said old none E refl s boot staging handles (reply.SentPartial sent.images sent.skipped sent.copied) sends.images new
        (λ e. absurd cc) (λ e. absurd cc) fit shows (sends.goes E s x refl refl shows) in
        let there : new.fields.layout.rows ≡ rows = ap (λ (L : Layout). L.rows) i.layout in
        let long = ap (λ (l : List ImageRow). length l) there in
        let lack = λ (i : ℕ) (lacks : has_image toc (get_or new.fields.layout.rows i no_row) ≡ false).
        sym (ap (λ (l : List ImageRow). has_image toc (get_or l i no_row)) there) ∙ lacks in
        record {
          now = i.now;
          session = i.session;
          shows = i.shows;
          bytes = sends.bytes;
          copied = λ tells i lt lacks. sends.copied tells s x shows i (omega (arith, lt, long)) (lack i lacks);
          whole = λ i lt lacks. sends.whole tt i (omega (arith, lt, long)) (lack i lacks);
          images = sends.images;
          read = λ file tells. sends.read file tells ∙ ap (λ (l : List ImageRow). images_over l file toc sends.bytes) (sym there);
          installed = subst (λ (l : List ImageRow). IsInstalled sends.images (bits_over l toc request) s i.now) (sym there) i.installed;
        })
