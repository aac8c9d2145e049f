-- The turn of a sending, by what the sending gave.
use Rattle.std.proofs.Common.{◌≡◌, ◌⊎◌, inl, inr, ℕ, ◌+◌, ◌≤◌, Bool, true, false, ◌||◌, List, length, get_or, ◌∷◌, Option, Some, None, Result, Ok, Err, refl, sym, ap, subst, ◌∙◌, arith, IsTrue, IsFalse}
use Rattle.std.proofs.{Math.Logic.∥∥₁_elim, lemmas.Bool.false≢true, lemmas.Option.same_Some}
use Rattle.std.specs.Prelude.{◌<◌, OnOk, is_ok, is_some, not, []}
use Rattle.base_core.specs.{Counts.Rose, Block.block_bytes}
use Rattle.host_io.specs.Contents.{Directory}
use Rattle.flash_core.specs.{declared.flash.Arming.Arming, declared.flash.Counts.Counts, declared.flash.Flash.Ghosts}
use Rattle.flash_core.specs.{declared.flash.FlashStop.FlashStop, Told.Told, Calls.Goes}
use Rattle.flash_core.specs.declared.flash.FlashStop.TheVariants as flash_stop
use Rattle.flash_core.specs.Counts.{Spends, StaysUnarmed, lowered_by, stops_in}
use Rattle.fwu_formats.specs.{Layout.ImageRow, Layout.Layout, Package.Entry, Package.Toc, Package.entry_of, Package.has_image, Layout.no_row}
use Rattle.fwu_formats.proofs.Same.{listed-same}
use Rattle.fwu_model.specs.{State.State, State.Move, State.after, Sound.Setting, Call.Call, Reply.Reply, Reply.Turn}
use Rattle.fwu_model.specs.{Causes.FileNotRead, Causes.LacksFile, Headline.LeavesOneOf}
use Rattle.fwu_model.specs.Session.{Session, Off, On, Staged, Handle}
use Rattle.fwu_model.specs.Call as call
use Rattle.fwu_model.specs.Reply as reply
use Rattle.fwu_model.specs.Answer.{Answer, answer, answered, answer_send, answer_send_partial, bits_over, type_of_image, image_held, images_of, images_over, install_unless, partial_fault, payload_or, send_file, send_file_over, send_package, sent_over, table_in}
use Rattle.fwu_model.specs.Run.{Condition, Answered, Stopped, asks_state, is_boot, is_off, is_send, is_stop, moved_on, prefixes, stopped_moves}
use Rattle.moves.specs.Moved.{IsReady}
use Rattle.moves.proofs.Composed.{does-idle}
use Rattle.fip_tables.specs.Files.{Lacks, Tells}
use Rattle.agent_machine.specs.{Beside.KeepsSparedByAll, Beside.SparesBlocksByAll, Ends.TakesSwitch, Fields.Fields, Goes.GoesByMoves, Meets.Stays}
use Rattle.agent_machine.specs.{Machine.state_in, Machine.session_in, Knows.Fitting, Knows.Knows}
use Rattle.agent_machine.proofs.{Beside.spared-same, Showing.known-shows}
use Rattle.agent_machine.specs.Moment as agent
use Rattle.update_client.specs.{declared.stops.Sent.Sent, declared.stops.SendStop.SendStop, Halts.flash_of}
use Rattle.update_client.specs.declared.stops.SendStop.TheVariants.{End, ReadFailed, Lost, Fault, Gone}
use Rattle.update_client.specs.Images.{ReadsPieceBy, unread_in}
use Rattle.update_client.specs.Sends.{AnswersBy, GoneBy, IsEarlySend, Sends, SendEndsBy, ended_session, send_answer}
use Rattle.update_client.specs.Partial.{GoesAs, SendsOver, WasBegun, over_answer, writes_over}
use Rattle.agent_calls.specs.{Takes.Takes as TakesWrites, Takes.writes_to_begin, declared.agent.Agent.Agent}
use Rattle.update_client.specs.Takes.{OnRefusedEnd, OnUnread, SendTakesBy, TakesFirst, writes_sent}
use Rattle.agent_calls.specs.Shown.{device, fields, gone, moment}
use Rattle.fwu_journal.specs.Shown.{turn}
use Rattle.flash_core.proofs.Unarmed.{unarmed_none}
use Rattle.script_turns.specs.{declared.turned.AgentTurn.AgentTurn, Replies.is_composed, Replies.moment_where, Replies.needs_bank, Stage.on_where}
use Rattle.script_turns.specs.{Replies.Replies, Replies.power_after, Turning.Turns, Turning.quiet_turn}
use Rattle.script_turns.specs.Powered.{TurnMoment, at, kept_at, IsAt, IsSafe, ShowsAt}
use Rattle.script_turns.specs.Sending.{AnswersSend, IsTableOf, LacksSent, SendSays, SendsAs, SpendsSent, TellsBegun, done_reply, is_answered, send_call, sent_reply}
use Rattle.script_turns.specs.Takes.{AreSent, SendTakes, TakesOn, stop_told, unread_told, writes_before}
use Rattle.script_turns.proofs.Staying.{Leads, shows-here, as-told, counts_none, makes-none, never-boots, never-cuts, no-numbers, shows-as, told-shows, among, falls-same, no-stop, safe-by, same-guards}
use Rattle.script_turns.proofs.{CallTakes.with, Touching.touches-sent}
use denote.Struct.Props.{props}

-- what an agent keeps, where it is there after a sending
abbrev on_sent : Result Sent SendStop → Fields → Option Fields
on_sent result f = on_where (is_answered result) f

-- ---- the call

asks-send : (partly : Bool) (name : List ℕ) (request : ℕ) → IsTrue (needs_bank (send_call partly name request))
asks-send false name request = refl
asks-send true name request = refl

no-boot : (partly : Bool) (name : List ℕ) (request : ℕ) → IsFalse (is_boot (send_call partly name request))
no-boot partly name request = never-boots (send_call partly name request) (asks-send partly name request)

does-send : (partly : Bool) (name : List ℕ) (request : ℕ) → IsTrue (is_send (send_call partly name request))
does-send false name request = refl
does-send true name request = refl

always-reads : (partly : Bool) (name : List ℕ) (request : ℕ) → IsFalse (is_send (send_call partly name request)) → ⊥
always-reads partly name request never = let sends = does-send partly name request in absurd (false≢true (sym never ∙ sends))

not-read : (partly : Bool) (files : Option Directory) (name : List ℕ) (request was are : ℕ) → Rose was are ⊎ LacksFile files name → FileNotRead files was are (send_call partly name request)
not-read false files name request was are cause = cause
not-read true files name request was are cause = cause

lacks-sent : (partly : Bool) (files : Option Directory) (name : List ℕ) (request : ℕ) → LacksSent files (send_call partly name request) → Lacks files name
lacks-sent false files name request lacks = lacks
lacks-sent true files name request lacks = lacks

replies-as : (partly : Bool) (passes : List ℕ → Bool) (tells : Bool) (files : Option Directory) (name : List ℕ) (request : ℕ) (old new : TurnMoment) (r : Reply)
    → SendSays partly passes tells files name request old.on old r new.on new
    → Replies passes tells files (send_call partly name request) old (quiet_turn (send_call partly name request) r) new
replies-as false passes tells files name request old new r says = says
replies-as true passes tells files name request old new r says = says

takes-as : (partly : Bool) (files : Option Directory) (name : List ℕ) (request : ℕ) (f : Fields) (old : TurnMoment) (r : Reply) (new : TurnMoment)
    → SendTakes partly files name f r old new → TakesOn files (send_call partly name request) f old r new
takes-as false files name request f old r new takes = takes
takes-as true files name request f old r new takes = takes

-- ---- what the machine answers

no-lacking : (files : Option Directory) (all : Directory) (name : List ℕ) → files ≡ Some all → all name ≡ None → Lacks files name
no-lacking None all name is none = absurd cc
no-lacking (Some d) all name is none = let same : d ≡ all = cc in ap (λ (f : Directory). f name) same ∙ none

tells-file : (files : Option Directory) (all : Directory) (name file : List ℕ) → files ≡ Some all → all name ≡ Some file → Tells files name file
tells-file None all name file is some = absurd cc
tells-file (Some d) all name file is some = let same : d ≡ all = cc in ap (λ (f : Directory). f name) same ∙ some

-- to a sending of these bytes, where the file is there
abbrev answer_of : Bool → Setting → State → ℕ → Option (List Staged) → List Handle → ℕ → Option (List ℕ) → Answer
answer_of false E s boot staging handles request file = answer_send E s boot staging handles request file
answer_of true E s boot staging handles request file = answer_send_partial E s boot staging handles request file

abbrev answer_by : Bool → Setting → State → ℕ → Option (List Staged) → List Handle → ℕ → List ℕ → Result Toc Reply → Answer
answer_by false E s boot staging handles request file found = send_file E s boot staging handles request file found
answer_by true E s boot staging handles request file found = send_file_over E s boot staging handles request file found

-- the images over the same bytes are the same
over-same : (rows : List ImageRow) (file : List ℕ) (toc : Toc) (bytes others : ℕ → List ℕ)
    → ((i : ℕ) → i < length rows → has_image toc (get_or rows i no_row) ≡ false → bytes i ≡ others i) → images_over rows file toc bytes ≡ images_over rows file toc others
unfolding images_over
over-same rows file toc bytes others same =
    listed-same (λ i. payload_or file (bytes i) (entry_of toc (type_of_image rows i))) (λ i. payload_or file (others i) (entry_of toc (type_of_image rows i))) (length rows) []
    (λ i below. part i below (entry_of toc (type_of_image rows i)) refl)
  where
    part : (i : ℕ) → i < length rows → (o : Option Entry) → entry_of toc (type_of_image rows i) ≡ o → payload_or file (bytes i) o ≡ payload_or file (others i) o
    part i below (Some e) is = refl
    part i below None is = same i below (ap (λ (o : Option Entry). is_some o) is)

-- the answer to a sending of a file with this table
module _ (partly : Bool) (E : Setting) (files : Option Directory) (name : List ℕ) (request : ℕ) (s : State) (boot : ℕ) (staging : Option (List Staged)) (handles : List Handle) (told : files ≡ Some E.files) (there : Lacks files name → ⊥) where
  abbrev machine : Answer
  machine = answer E s (On boot staging handles) (send_call partly name request)

  on-answer : (kind : Bool) → answer E s (On boot staging handles) (send_call kind name request) ≡ answer_of kind E s boot staging handles request (E.files name)
  unfolding answer
  on-answer false = refl
  on-answer true = refl

  of-file : (kind : Bool) (file : List ℕ) (found : Result Toc Reply) → table_in file ≡ found → answer_of kind E s boot staging handles request (Some file) ≡ answer_by kind E s boot staging handles request file found
  unfolding answer_send answer_send_partial
  of-file false file found is = ap (send_file E s boot staging handles request file) is
  of-file true file found is = ap (send_file_over E s boot staging handles request file) is

  by-file : (P : Answer → Type 0) → ((file : List ℕ) → Tells files name file → P (answer_of partly E s boot staging handles request (Some file))) → P machine
  by-file P holds = subst P (sym (on-answer partly)) (go (E.files name) refl)
    where
      go : (o : Option (List ℕ)) → E.files name ≡ o → P (answer_of partly E s boot staging handles request o)
      go None is = absurd (there (no-lacking files E.files name told is))
      go (Some file) is = holds file (tells-file files E.files name file told is)

  pub refuses-as : (r : Reply) → IsTableOf files name (Err r) → machine ≡ answered r [] (On boot staging handles)
  refuses-as r table = by-file (λ (a : Answer). a ≡ answered r [] (On boot staging handles)) (λ file tells. of-file partly file (Err r) (table.0 file tells) ∙ refused partly file)
    where
      refused : (kind : Bool) (file : List ℕ) → answer_by kind E s boot staging handles request file (Err r) ≡ answered r [] (On boot staging handles)
      refused false file = refl
      refused true file = refl

module _ (E : Setting) (files : Option Directory) (name : List ℕ) (request : ℕ) (s : State) (boot : ℕ) (staging : Option (List Staged)) (handles : List Handle) (told : files ≡ Some E.files) (there : Lacks files name → ⊥) where
  sends-as : (toc : Toc) (images : List (List ℕ)) → IsTableOf files name (Ok toc) → ((file : List ℕ) → Tells files name file → images ≡ images_of E.layout.rows file toc)
      → answer E s (On boot staging handles) (send_call false name request) ≡ send_answer E toc images request s (On boot staging handles)
  sends-as toc images table read = by-file false E files name request s boot staging handles told there (λ (a : Answer). a ≡ send_answer E toc images request s (On boot staging handles))
      (λ file tells. of-file false E files name request s boot staging handles told there false file (Ok toc) (table.0 file tells)
      ∙ ap (λ (p : List (List ℕ)). send_package E s boot staging handles p request toc) (sym (read file tells)))

  sends-over : (toc : Toc) (bytes : ℕ → List ℕ) (images : List (List ℕ)) → IsTableOf files name (Ok toc) → ((file : List ℕ) → Tells files name file → images ≡ images_over E.layout.rows file toc bytes)
      → ((i : ℕ) → i < length E.layout.rows → has_image toc (get_or E.layout.rows i no_row) ≡ false → bytes i ≡ image_held s s.active i)
      → answer E s (On boot staging handles) (send_call true name request) ≡ over_answer E toc images request s (On boot staging handles)
  sends-over toc bytes images table read same = by-file true E files name request s boot staging handles told there (λ (a : Answer). a ≡ over_answer E toc images request s (On boot staging handles))
      (λ file tells. of-file true E files name request s boot staging handles told there true file (Ok toc) (table.0 file tells)
      ∙ ap (λ (p : List (List ℕ)). install_unless (partial_fault E.layout.rows toc) E s boot staging handles p (bits_over E.layout.rows toc request) (sent_over E.layout.rows toc))
      (sym (read file tells ∙ over-same E.layout.rows file toc bytes (image_held s s.active) same)))

-- ---- what a sending says

-- by the machine's answer to it, whole or partial
abbrev GoesBy : Bool → Result Sent SendStop → Answer → Setting → agent.Moment → agent.Moment → State → Session → Type 0
GoesBy partly (Err ReadFailed) a E old new s x = GoesByMoves E (Ok tt) old new s (answer E s x (call.Begin 0)).moves (ended_session x)
GoesBy partly (Err Lost) a E old new s x = GoesByMoves E (Err flash_stop.Lost) old new s a.moves (ended_session x)
GoesBy partly (Err Fault) a E old new s x = GoesByMoves E (Err flash_stop.Failed) old new s a.moves (ended_session x)
GoesBy partly (Err Gone) a E old new s x = ⊥
GoesBy partly answered a E old new s x = AnswersBy (sent_reply partly answered) a E old new s

goes-whole : (result : Result Sent SendStop) (E : Setting) (toc : Toc) (p : List (List ℕ)) (request : ℕ) (old new : agent.Moment) (s : State) (x : Session) → SendEndsBy result E toc p request old new s x
    → GoesBy false result (send_answer E toc p request s x) E old new s x
goes-whole (Ok sent) E toc p request old new s x h = h
goes-whole (Err ReadFailed) E toc p request old new s x h = h.1
goes-whole (Err Lost) E toc p request old new s x h = h.1
goes-whole (Err Fault) E toc p request old new s x h = h.1
goes-whole (Err q) E toc p request old new s x h = h

goes-over : (result : Result Sent SendStop) (a : Answer) (E : Setting) (old new : agent.Moment) (s : State) (x : Session) → GoesAs result a E old new s x → GoesBy true result a E old new s x
goes-over (Ok sent) a E old new s x h = h
goes-over (Err ReadFailed) a E old new s x h = h.1
goes-over (Err Lost) a E old new s x h = h.1
goes-over (Err Fault) a E old new s x h = h.1
goes-over (Err q) a E old new s x h = h

-- the writes up to the end, by whether it is partial
abbrev writes_to_send : Bool → Fields → Toc → ℕ
writes_to_send false f toc = writes_to_begin f + writes_sent block_bytes f.layout.rows toc
writes_to_send true f toc = writes_to_begin f + writes_over block_bytes f.layout.rows f.lengths toc

-- What either kind says of an agent that isn't gone: each machine that the agent shows goes by an answer, which is the machine's own
-- where the device and the files are told.
pub record Sending (partly : Bool) (files : Option Directory) (name : List ℕ) (toc : Toc) (request : ℕ) (passes : List ℕ → Bool) (result : Result Sent SendStop) (old new : agent.Moment) : Type 0 where
  pub answers : Setting → State → Session → Answer
  pub goes : (E : Setting) (s : State) (x : Session) → E.layout ≡ old.fields.layout → E.passes ≡ passes → agent.Shows old s x → GoesBy partly result (answers E s x) E old new s x
  pub own : IsTrue old.tells → (E : Setting) (s : State) (x : Session) → E.layout ≡ old.fields.layout → files ≡ Some E.files → agent.Shows old s x
      → answer E s x (send_call partly name request) ≡ answers E s x
  pub says : (r : Reply) → (TellsBegun r → WasBegun result) → ((E : Setting) (s : State) (x : Session) → E.layout ≡ old.fields.layout → E.passes ≡ passes → agent.Shows old s x
      → (r ≡ (answers E s x).reply) × agent.Shows new (after s (answers E s x).moves) (answers E s x).next)
      → Stays old new → (armed arming : Option Arming) → SpendsSent r (writes_to_send partly old.fields toc) armed arming
      → SendsAs partly passes files name request r old new armed arming

module _ (files : Option Directory) (name : List ℕ) (request : ℕ) (passes : List ℕ → Bool) (result : Result Sent SendStop) (old new : agent.Moment) (toc : Toc)
    (table : IsTableOf files name (Ok toc)) (there : Lacks files name → ⊥) where
  pub sending-whole : Sends files name toc request passes result old new → Sending false files name toc request passes result old new
  sending-whole sends = record {
    answers = λ E s x. send_answer E toc sends.images request s x;
    goes = λ E s x layout passes_are shows. goes-whole result E toc sends.images request old new s x (sends.goes E s x layout passes_are shows);
    own = λ test E s x layout told shows.
        subst (λ (y : Session). answer E s y (send_call false name request) ≡ send_answer E toc sends.images request s y) (sym shows.means)
        (sends-as E files name request s old.fields.boot _ _ told there toc sends.images table
        (λ file tells. sends.read file tells ∙ ap (λ (l : Layout). images_of l.rows file toc) (sym layout)));
    says = λ r begun exact stays armed arming spent.
        record { toc = toc; images = sends.images; table = table; read = sends.read; exact = exact; stays = stays; spent = spent };
  }

  pub sending-over : SendsOver files name toc request passes result old new → Sending true files name toc request passes result old new
  sending-over sends = record {
    answers = λ E s x. over_answer E toc sends.images request s x;
    goes = λ E s x layout passes_are shows. goes-over result (over_answer E toc sends.images request s x) E old new s x (sends.goes E s x layout passes_are shows);
    own = λ test E s x layout told shows.
        subst (λ (y : Session). answer E s y (send_call true name request) ≡ over_answer E toc sends.images request s y) (sym shows.means)
        (sends-over E files name request s old.fields.boot _ _ told there toc sends.bytes sends.images table
        (λ file tells. sends.read file tells ∙ ap (λ (l : Layout). images_over l.rows file toc sends.bytes) (sym layout))
        (subst (λ (l : Layout). (i : ℕ) → i < length l.rows → has_image toc (get_or l.rows i no_row) ≡ false → sends.bytes i ≡ image_held s s.active i) (sym layout) (sends.copied test s x shows)));
    says = λ r begun exact stays armed arming spent. record {
      toc = toc;
      bytes = sends.bytes;
      copied = sends.copied;
      whole = λ tells. sends.whole (begun tells);
      images = sends.images;
      table = table;
      read = sends.read;
      exact = exact;
      stays = stays;
      spent = spent;
    };
  }

-- whatever the result, it goes by some moves
moves-by : (partly : Bool) (result : Result Sent SendStop) (a : Answer) (E : Setting) (old new : agent.Moment) (s : State) (x : Session)
    → GoesBy partly result a E old new s x → (ms : List Move) × (y : Session) × GoesByMoves E (flash_of result) old new s ms y
moves-by partly (Ok sent) a E old new s x h = (a.moves, a.next, h.1)
moves-by partly (Err ReadFailed) a E old new s x h = ((answer E s x (call.Begin 0)).moves, ended_session x, h)
moves-by partly (Err Lost) a E old new s x h = (a.moves, ended_session x, h)
moves-by partly (Err Fault) a E old new s x h = (a.moves, ended_session x, h)
moves-by partly (Err Gone) a E old new s x h = absurd h
moves-by partly (Err q) a E old new s x h = (a.moves, a.next, h.1)

-- a sending is a composed call
always-composed : (partly : Bool) (name : List ℕ) (request : ℕ) → IsFalse (is_composed (send_call partly name request)) → ⊥
always-composed false name request whole = absurd cc
always-composed true name request whole = absurd cc

-- so that of an agent that shows some machine
moves-of : (partly : Bool) (files : Option Directory) (name : List ℕ) (toc : Toc) (request : ℕ) (passes : List ℕ → Bool)
    (result : Result Sent SendStop) (old new : agent.Moment) → Sending partly files name toc request passes result old new
    → (one : agent.Showing old)
    → (E : Setting) × (ms : List Move) × (y : Session) × GoesByMoves E (flash_of result) old new one.state ms y
moves-of partly files name toc request passes result old new sends one =
    let E : Setting = record { layout = old.fields.layout; files = λ _. None; passes = passes } in
    let moves = moves-by partly result (sends.answers E one.state one.session) E old new one.state one.session
    (sends.goes E one.state one.session refl refl one.shows) in
    (E, moves.0, moves.1, moves.2)

-- ---- a step

module _ (E : Setting) (from : Condition) (partly : Bool) (name : List ℕ) (request : ℕ) (r : Reply) (f : Fields) (t u : Told) (is : IsAt E from (Some f) t) (guard : u.guard ≡ t.guard) where
  abbrev asked : Call
  asked = send_call partly name request

  abbrev s : State
  s = is.shows.state

  asks : IsTrue (asks_state from.session asked)
  asks = subst (λ (b : Bool). IsTrue (b || not (is_off from.session))) (sym (no-boot partly name request))
      (subst (λ (x : Session). IsTrue (not (is_off x))) (sym (is.shows.shows counts_none).means) refl)

  -- it was answered
  step-answered : (a : Answer) (g : Fields) → answer E s from.session asked ≡ a → IsFalse (is_stop r) → r ≡ a.reply → g.layout ≡ f.layout
      → ShowsAt true g u (after s a.moves) a.next → IsReady E u (after s a.moves) → Leads E from (quiet_turn asked r) (Some g) u
  step-answered a g same no_stop replied layout shows ready = (
    moved_on from asked (after s a.moves ∷ []) a.next,
    Answered no_stop asks (record {
      state = s;
      found = record { candidate = among from.candidates s is.shows.one; numbers = tt };
      numbers = no-numbers asked (no-boot partly name request);
      reply_is = replied ∙ sym (ap (λ (b : Answer). b.reply) same);
      next_is = sym (ap (λ (b : Answer). moved_on from asked (after s b.moves ∷ []) b.next) same);
    }),
    record {
      guard = same-guards t u guard is.guard;
      shows = record { state = after s a.moves; one = refl; layout = is.shows.layout ∙ sym layout; shows = shows; ready = ready };
    },
  )

  -- it was stopped
  step-stopped : (ms : List Move) → stopped_moves E s from.session asked r ≡ ms → IsTrue (is_stop r) → LeavesOneOf E (prefixes s ms) u
      → Leads E from (quiet_turn asked r) None u
  step-stopped ms same stop leaves = (
    moved_on from asked (prefixes s ms) Off,
    Stopped stop asks (record {
      state = s;
      found = record { candidate = among from.candidates s is.shows.one; numbers = tt };
      numbers = no-numbers asked (no-boot partly name request);
      reads = λ e. does-send partly name request;
      next_is = sym (ap (λ (ns : List Move). moved_on from asked (prefixes s ns) Off) same);
    }),
    record { guard = same-guards t u guard is.guard; shows = (refl, leaves) },
  )

-- ---- a file without a table

module _ (partly : Bool) (passes : List ℕ → Bool) (tells : Bool) (files : Option Directory) (name : List ℕ) (request : ℕ) (f : Fields) (t : Told) (w : ℕ → ℕ) (cs : Counts) (armed : Option Arming) (power : Bool) (was are : ℕ) (later : was ≤ are) where
  abbrev here : TurnMoment
  here = at (Some f) t w cs armed power

  -- the device is as it was, and this is on
  abbrev left : Option Fields → TurnMoment
  left on = at on t w cs armed power

  unsent : (r : Reply) (on : Option Fields) → stop_told r ≡ Ok tt → power_after power r ≡ power
      → (r ≡ reply.ReadFault → Rose was are ⊎ LacksFile files name) → (Lacks files name → r ≡ reply.ReadFault) → are ≤ was + unread_told r
      → SendSays partly passes tells files name request (Some f) here r on (left on) → SendTakes partly files name f r here (left on)
      → (IsTrue tells → (E : Setting) (from : Condition) → files ≡ Some E.files → IsAt E from (Some f) t
      → Leads E from (quiet_turn (send_call partly name request) r) on t)
      → Turns passes tells files (send_call partly name request) (quiet_turn (send_call partly name request) r) here (left on) was are
  unsent r on calm keeps unread lacking once says takes step = record {
    call_is = refl;
    unnumbered = λ no. refl;
    counts = falls-same cs;
    made = makes-none (send_call partly name request) _ _ (asks-send partly name request) refl;
    armed = never-cuts (send_call partly name request) r armed (asks-send partly name request);
    free = λ no. subst (λ (q : Result (Unit {0}) FlashStop). StaysUnarmed q armed armed cs cs) (sym calm) (unarmed_none tt armed cs);
    lost = λ e. absurd (let lost = ap stop_told e in cc);
    failed = λ e. absurd (let failed = ap stop_told e in cc);
    once = omega arith;
    unread = λ e. not-read partly files name request was are (unread e);
    lacking = λ lacks some. lacking (lacks-sent partly files name request lacks);
    later = later;
    unread_once = once;
    reads_none = λ e. absurd (always-reads partly name request e);
    replies = replies-as partly passes tells files name request here (left on) r says;
    takes = record {
      by_call = takes-as partly files name request f here r (left on) takes;
      unread = λ e none. record { told = refl; writes = refl; counts = refl; armed = refl; power = refl };
    };
    touches = touches-sent partly name request f w w (λ b out. refl);
    power = sym keeps;
    guard = λ e. refl;
    step = λ e E from passes_are told is no_chance. step e E from told is;
    keeps = λ e h on no. spared-same _ t;
    spares = λ e h on no whole. absurd (always-composed partly name request whole);
    decides = λ e h on agents whole. absurd (always-composed partly name request whole);
    safe = λ e safe. safe;
    boots = λ e off. absurd cc;
  }

  -- it is answered by its first fault
  pub bad-table : (r : Reply) → are ≤ was → IsFalse (is_stop r) → stop_told r ≡ Ok tt → power_after power r ≡ power → IsTableOf files name (Err r)
      → SendSays partly passes tells files name request (Some f) here r (Some f) here → (Lacks files name → ⊥)
      → SendTakes partly files name f r here here
      → Turns passes tells files (send_call partly name request) (quiet_turn (send_call partly name request) r) here here was are
  bad-table r none no_stop calm keeps table says there early =
      unsent r (Some f) calm keeps (λ e. absurd (no-stop r reply.ReadFault no_stop refl e)) (λ lacks. absurd (there lacks))
      (omega (arith, none)) says early
      (λ e E from told is.
      let x = is.shows.shows counts_none in
      let same : answer E is.shows.state from.session (send_call partly name request) ≡ answered r [] from.session =
      subst (λ (y : Session). answer E is.shows.state y (send_call partly name request) ≡ answered r [] y) (sym x.means)
      (refuses-as partly E files name request is.shows.state f.boot _ _ told there r table) in
      step-answered E from partly name request r f t t is refl (answered r [] from.session) f same no_stop refl refl is.shows.shows is.shows.ready)

  -- it cannot be read
  pub unread-table : are ≤ was + 1 → Rose was are ⊎ LacksFile files name
      → Turns passes tells files (send_call partly name request) (quiet_turn (send_call partly name request) reply.ReadFault) here (left None) was are
  unread-table once cause =
      unsent reply.ReadFault None refl refl (λ e. cause) (λ lacks. refl) once (inr refl)
      (inl (record { told = refl; writes = refl; counts = refl; armed = refl; power = refl }))
      (λ e E from told is. step-stopped E from partly name request reply.ReadFault f t t is refl
      (answer E is.shows.state from.session (call.Begin 0)).moves refl refl
      (does-idle {T = Unit {0}} (Err flash_stop.Lost) E is.shows.state _ t refl is.shows.ready.calm).each)

-- ---- a sending

-- one that was done goes on
done-calm : (partly : Bool) (sent : Sent) → IsFalse (is_stop (done_reply partly sent))
done-calm false sent = refl
done-calm true sent = refl

-- what a reply tells of its result: whether the flash stopped it, whether a file could not be read, and whether the device has power
record TellsEnd (result : Result Sent SendStop) (r : Reply) : Type 0 where
  stop_is : flash_of result ≡ stop_told r
  unread_is : r ≡ reply.ReadFault → result ≡ Err ReadFailed
  unread : unread_in result ≤ unread_told r
  power_is : is_ok (flash_of result) ≡ power_after true r

tells-end : (partly : Bool) (result : Result Sent SendStop) → TellsEnd result (sent_reply partly result)
tells-end false (Ok sent) = record { stop_is = refl; unread_is = λ e. absurd cc; unread = omega arith; power_is = refl }
tells-end true (Ok sent) = record { stop_is = refl; unread_is = λ e. absurd cc; unread = omega arith; power_is = refl }
tells-end partly (Err ReadFailed) = record { stop_is = refl; unread_is = λ e. refl; unread = omega arith; power_is = refl }
tells-end partly (Err s) = record { stop_is = refl; unread_is = λ e. absurd cc; unread = omega arith; power_is = refl }

module _ (partly : Bool) (passes : List ℕ → Bool) (tells : Bool) (files : Option Directory) (name : List ℕ) (request : ℕ) (f g : Fields) (t u : Told) (w v : ℕ → ℕ) (cs ds : Counts) (armed arming : Option Arming) (was are : ℕ) where
  abbrev old : agent.Moment
  old = kept_at tells f t w

  abbrev new : agent.Moment
  new = kept_at tells g u v

  module _ (toc : Toc) (result : Result Sent SendStop) (sends : Sending partly files name toc request passes result old new) (stays : Stays old new) where
    -- what was answered
    says-answered : (r : Reply) → (TellsBegun r → WasBegun result)
        → ((E : Setting) (s : State) (x : Session) → E.layout ≡ f.layout → E.passes ≡ passes → agent.Shows old s x → AnswersBy r (sends.answers E s x) E old new s)
        → SpendsSent r (writes_to_send partly f toc) armed arming → SendsAs partly passes files name request r old new armed arming
    says-answered r begun goes spent =
        sends.says r begun (λ E s x layout passes_are shows. let h = goes E s x layout passes_are shows in (h.0, h.1.shows)) stays armed arming spent

  done-says : (kind : Bool) (sent : Sent) → SendsAs kind passes files name request (done_reply kind sent) old new armed arming
      → AnswersSend kind passes files name request (done_reply kind sent) old new armed arming
  done-says false sent says = says
  done-says true sent says = says

  says : (power : Bool) (toc : Toc) (result : Result Sent SendStop) → (result ≡ Err Gone → ⊥) → (sends : Sending partly files name toc request passes result old new) → Stays old new
      → SpendsSent (sent_reply partly result) (writes_to_send partly f toc) armed arming
      → SendSays partly passes tells files name request (Some f) (at (Some f) t w cs armed true) (sent_reply partly result) (on_sent result g) (at (on_sent result g) u v ds arming power)
  says power toc (Ok sent) there sends stays spent = done-says partly sent (says-answered toc (Ok sent) sends stays (done_reply partly sent) (λ tells. tt) sends.goes spent)
  says power toc (Err ReadFailed) there sends stays spent = inr refl
  says power toc (Err Lost) there sends stays spent = inl tt
  says power toc (Err Fault) there sends stays spent = inl tt
  says power toc (Err Gone) there sends stays spent = absurd (there refl)
  says power toc (Err s) there sends stays spent =
      says-answered toc (Err s) sends stays (sent_reply partly (Err s)) (λ tells. tells) sends.goes spent

  module _ (yes : IsTrue tells) (E : Setting) (from : Condition) (is : IsAt E from (Some f) t) where
    abbrev state : State
    state = is.shows.state

    abbrev what : Call
    what = send_call partly name request

    leads-answered : (r : Reply) (a : Answer) → answer E state from.session what ≡ a → IsFalse (is_stop r) → AnswersBy r a E old new state → Stays old new
        → Leads E from (quiet_turn what r) (Some g) u
    leads-answered r a same no_stop goes stays =
        step-answered E from partly name request r f t u is (stays.guard yes) a g same no_stop goes.0 stays.layout
        (as-told tells g u (after state a.moves) a.next yes (shows-as tells g u (after state a.moves) a.next v goes.1.shows)) (goes.1.does yes is.shows.ready).all

    leads : (result : Result Sent SendStop) (a : Answer) → answer E state from.session what ≡ a → Stays old new
        → GoesBy partly result a E old new state from.session → Leads E from (quiet_turn what (sent_reply partly result)) (on_sent result g) u
    leads (Ok sent) a own stays goes = leads-answered (done_reply partly sent) a own (done-calm partly sent) goes stays
    leads (Err ReadFailed) a own stays goes =
        step-stopped E from partly name request reply.ReadFault f t u is (stays.guard yes)
        (answer E state from.session (call.Begin 0)).moves refl refl (goes.does yes is.shows.ready).each
    leads (Err Lost) a own stays goes =
        step-stopped E from partly name request reply.Lost f t u is (stays.guard yes) a.moves (ap (λ (x : Answer). x.moves) own) refl
        (goes.does yes is.shows.ready).each
    leads (Err Fault) a own stays goes =
        step-stopped E from partly name request reply.Fault f t u is (stays.guard yes) a.moves (ap (λ (x : Answer). x.moves) own) refl
        (goes.does yes is.shows.ready).each
    leads (Err Gone) a own stays goes = absurd goes
    leads (Err s) a own stays goes = leads-answered (sent_reply partly (Err s)) a own refl goes stays

  -- what an armed loss counts of one that is done, or whose end is refused
  done-spent : (kind : Bool) (sent : Sent) (toc : Toc) → TakesSwitch (lowered_by (writes_to_send kind f toc) armed) arming → SpendsSent (done_reply kind sent) (writes_to_send kind f toc) armed arming
  done-spent false sent toc takes = takes
  done-spent true sent toc takes = takes

  sent-spent : (result : Result Sent SendStop) (toc : Toc) → OnOk result (TakesSwitch (lowered_by (writes_to_send partly f toc) armed) arming)
      → OnRefusedEnd result (TakesWrites (writes_to_send partly f toc) armed arming) → SpendsSent (sent_reply partly result) (writes_to_send partly f toc) armed arming
  sent-spent (Ok sent) toc takes refused = done-spent partly sent toc takes
  sent-spent (Err (End st)) toc takes refused = refused
  sent-spent (Err s) toc takes refused = tt

  -- what was done to the device
  done-takes : (kind : Bool) (sent : Sent) (from to : TurnMoment) → SendTakes kind files name f (done_reply kind sent) from to
  done-takes false sent from to = tt
  done-takes true sent from to = tt

  -- up to a read of the file that failed
  abbrev unread_takes : Toc → Type 0
  unread_takes toc = (entries : List Entry) × AreSent partly f.layout.rows toc entries × TakesFirst block_bytes entries (λ writes. TakesWrites (writes_before partly f toc + writes) armed arming)

  sent-takes : (result : Result Sent SendStop) (power : Bool) (toc : Toc) → power ≡ is_ok (flash_of result)
      → (IsEarlySend result → (u ≡ t) × (v ≡ w) × (ds ≡ cs) × (arming ≡ armed)) → IsTableOf files name (Ok toc) → OnUnread result (unread_takes toc)
      → SendTakes partly files name f (sent_reply partly result) (at (Some f) t w cs armed true) (at (on_sent result g) u v ds arming power)
  sent-takes (Ok sent) power toc powered same table unread = done-takes partly sent _ _
  sent-takes (Err (End st)) power toc powered same table unread = tt
  sent-takes (Err ReadFailed) power toc powered same table unread =
      inr (record { toc = toc; table = table; entries = unread.0; sent = unread.1; spent = unread.2 })
  sent-takes (Err Lost) power toc powered same table unread = tt
  sent-takes (Err Fault) power toc powered same table unread = tt
  sent-takes (Err Gone) power toc powered same table unread = tt
  sent-takes (Err s) power toc powered same table unread =
      let d = same tt in record { told = d.0; writes = d.1; counts = d.2; armed = d.3; power = powered }

  sent-free : (result : Result Sent SendStop) → StaysUnarmed (flash_of result) armed arming cs ds
      → StaysUnarmed (stop_told (sent_reply partly result)) armed arming cs ds
  sent-free result free =
      subst (λ (told : Result (Unit {0}) FlashStop). StaysUnarmed told armed arming cs ds) (tells-end partly result).stop_is free

  -- the turn of a sending that ended, on a device that has power
  sent-turn : (toc : Toc) (result : Result Sent SendStop) (power : Bool) → power ≡ is_ok (flash_of result) → (result ≡ Err Gone → ⊥) → (Lacks files name → ⊥)
      → Sending partly files name toc request passes result old new → ∥ agent.Showing old ∥₁ → (IsTrue tells → agent.Showing old)
      → Spends (flash_of result) cs ds → ReadsPieceBy was are result → SparesBlocksByAll f w v
      → SendTakesBy result (writes_to_send partly f toc) (writes_before partly f toc) block_bytes (AreSent partly f.layout.rows toc) armed arming
      → IsTableOf files name (Ok toc) → (IsEarlySend result → (u ≡ t) × (v ≡ w) × (ds ≡ cs) × (arming ≡ armed))
      → StaysUnarmed (flash_of result) armed arming cs ds
      → Turns passes tells files (send_call partly name request) (quiet_turn (send_call partly name request) (sent_reply partly result)) (at (Some f) t w cs armed true) (at (on_sent result g) u v ds arming power) was are
  sent-turn toc result power powered there lacks_none sends some showing spent reads touches taken table early free = record {
    call_is = refl;
    unnumbered = λ no. refl;
    counts = record { faults = spent.faults; cuts = spent.cuts; reached = spent.reached; chances = spent.chances };
    made = makes-none (send_call partly name request) cs.made ds.made (asks-send partly name request) spent.made;
    armed = never-cuts (send_call partly name request) (sent_reply partly result) arming (asks-send partly name request);
    free = λ no. sent-free result free;
    lost = λ e. spent.lost (ends.stop_is ∙ ap stop_told e);
    failed = λ e. spent.failed (ends.stop_is ∙ ap stop_told e);
    once = omega (arith, spent.once, ap stops_in ends.stop_is);
    unread = λ e. not-read partly files name request was are (inl (reads.failed (ends.unread_is e)));
    lacking = λ lacks some. absurd (lacks_none (lacks-sent partly files name request lacks));
    later = reads.later;
    unread_once = omega (arith, reads.once, ends.unread);
    reads_none = λ e. absurd (always-reads partly name request e);
    replies = replies-as partly passes tells files name request _ _ (sent_reply partly result)
        (says power toc result there sends stays (sent-spent result toc taken.done taken.unswitched));
    takes = record {
      by_call = takes-as partly files name request f _ (sent_reply partly result) _
          (sent-takes result power toc powered early table taken.unread);
      unread = λ e none. absurd (none (reads.failed (ends.unread_is e)));
    };
    touches = touches-sent partly name request f w v touches;
    power = powered ∙ ends.power_is;
    guard = stays.guard;
    step = λ yes E from passes_are told is no_chance.
        let s = is.shows.state in
        let x = from.session in
        let layout = is.shows.layout in
        let shown = told-shows tells f t s x w yes is.shows.shows in
        leads yes E from is result (sends.answers E s x) (sends.own yes E s x layout told shown) stays (sends.goes E s x layout passes_are shown);
    keeps = λ yes h on no.
        subst (λ (fields : Fields). KeepsSparedByAll fields t u) (same_Some f h on) ((moves (showing yes)).3.keeps yes);
    spares = λ e h on no whole. absurd (always-composed partly name request whole);
    decides = λ e h on agents whole. absurd (always-composed partly name request whole);
    safe = λ yes rest. subst (λ (b : Bool). IsSafe b u) (sym powered)
        (safe-by (flash_of result) t u (stays.guard yes) rest ((moves (showing yes)).3.guarded yes rest));
    boots = λ e off. absurd cc;
  }
    where
      ends : TellsEnd result (sent_reply partly result)
      ends = tells-end partly result

      moves : (one : agent.Showing old)
          → (E : Setting) × (ms : List Move) × (y : Session) × GoesByMoves E (flash_of result) old new one.state ms y
      moves = moves-of partly files name toc request passes result old new sends

      stays : Stays old new
      stays = ∥∥₁_elim some (hlevel props) (λ one. (moves one).3.stays)

-- ---- what the code has

-- what is known of the flash of an agent that is there, or is not
pub moment-as : {D : Type 0} {F : Ghosts D} (a : Agent D F) (was there : Bool) → was ≡ there → moment_where was a ≡ moment_where there a
moment-as a was there is = ap (λ (h : Bool). moment_where h a) is

-- after a sending
moment-sent : {D : Type 0} {F : Ghosts D} (a : Agent D F) (there : Bool) (result : Result Sent SendStop) → there ≡ is_answered result → moment_where there a ≡ with (on_sent result (fields a)) a
moment-sent a there result is = ap (λ (h : Bool). moment_where h a) is

with-power : (m : TurnMoment) → IsTrue m.power → m ≡ at m.on m.told m.writes m.counts m.armed true
with-power m power = ap (λ (on : Bool). at m.on m.told m.writes m.counts m.armed on) power

-- the same turn from and to the same
pub turns-as : {passes : List ℕ → Bool} {tells : Bool} {files : Option Directory} {c : Call} {was are : ℕ} (t given : Turn) (old from new to : TurnMoment)
    → t ≡ given → old ≡ from → new ≡ to → Turns passes tells files c given from to was are → Turns passes tells files c t old new was are
turns-as {passes = passes} {tells = tells} {files = files} {c = c} {was = was} {are = are} t given old from new to turn_is old_is new_is turns =
    subst (λ (x : Turn). Turns passes tells files c x old new was are) (sym turn_is)
    (subst (λ (m : TurnMoment). Turns passes tells files c given m new was are) (sym old_is)
    (subst (λ (m : TurnMoment). Turns passes tells files c given from m was are) (sym new_is) turns))

pub lacks-file : (files : Option Directory) (name : List ℕ) → Lacks files name → LacksFile files name
lacks-file None name lacks = lacks
lacks-file (Some all) name lacks = lacks

-- an agent that knows its flash shows the machine there
shows-known : (f : Fields) → Fitting f → (t : Told) (w : ℕ → ℕ) (tells : Bool) → Knows f t → agent.Showing (kept_at tells f t w)
shows-known f fitting t w tells knows = record { state = state_in f t.now; session = session_in f t.now; shows = known-shows f fitting tells t {writes = w} knows }

-- ---- the turn on an agent that is there

module _ {D : Type 0} {F : Ghosts D} (partly : Bool) (a b : Agent D F) (passes : List ℕ → Bool) (files : Option Directory) (name : List ℕ)
    (request : ℕ) (toc : Toc) (result : Result Sent SendStop) (was are : ℕ) (live : IsFalse (gone a)) where
  pub sent-by : (fault : Option Reply) → GoneBy fault result (gone a) (gone b) → (IsEarlySend result → b ≡ a)
      → Goes F (flash_of result) (device a) (device b) → ReadsPieceBy was are result
      → SparesBlocksByAll (fields a) (F.writes (device a)) (F.writes (device b))
      → SendTakesBy result (writes_to_send partly (fields a) toc) (writes_before partly (fields a) toc) block_bytes
      (AreSent partly (fields a).layout.rows toc) (F.arming (device a)) (F.arming (device b))
      → IsTableOf files name (Ok toc) → (Lacks files name → ⊥) → Sending partly files name toc request passes result (moment a) (moment b)
      → (done : AgentTurn) → turn done.turn ≡ quiet_turn (send_call partly name request) (sent_reply partly result)
      → done.here ≡ is_answered result
      → Turns passes F.tells files (send_call partly name request) (turn done.turn) (moment_where true a) (moment_where done.here b) was are
  sent-by fault gone_by untouched goes reads touches taken table there sends done turn_is here_is =
      turns-as _ _ _ _ _ _ turn_is (with-power (moment_where true a) (a.power live)) (moment-sent b done.here result here_is)
      (sent-turn partly passes F.tells files name request (fields a) (fields b) _ _ _ _ _ _ _ _ was are toc result _ goes.power
      (λ e. let was_gone = (gone_by.gone.0 e).0 in absurd (cc (was_gone, live))) there sends (shows-here a live)
      (λ test. shows-known (fields a) (a.fitting live) (F.told (device a)) (F.writes (device a)) F.tells (a.knows live test))
      goes.costs reads touches taken table
      (λ early. let same = untouched early in (
        ap (λ (x : Agent D F). F.told (device x)) same,
        ap (λ (x : Agent D F). F.writes (device x)) same,
        ap (λ (x : Agent D F). F.counts (device x)) same,
        ap (λ (x : Agent D F). F.arming (device x)) same,
      )) goes.unarmed)
