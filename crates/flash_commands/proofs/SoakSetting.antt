-- What a turn of a soak does with one file at hand, it does with all packages at hand.
use Rattle.std.proofs.Common.{◌≡◌, ◌⊎◌, ℕ, Bool, false, ◌||◌, ◌&&◌, not, ◌==◌, List, ◌∷◌, Option, Some, None, Result, Ok, Err, refl, sym, ap, subst, ◌∙◌, inl, inr}
use Rattle.std.specs.Prelude.{if◌then◌else◌, nat_lt, [], length, replicate, IsSome, ⊤}
use Rattle.std.proofs.lemmas.Option.{same_Some}
use Rattle.flash_core.specs.{declared.flash.Arming.Arming, Told.Told}
use Rattle.host_io.specs.Contents.{Directory}
use Rattle.fwu_formats.specs.{Package.Toc, Places.trial_limit}
use Rattle.fwu_model.specs.Answer.{Answer, answer, answer_boot, answer_previous, answer_send, answer_begin, boots_chosen, may_go_back, send_file, install_unless, table_in, first_image_fault, images_of, skipped}
use Rattle.fwu_model.specs.{Call.Call, Calm.IsCalm, Causes.FileNotRead, Headline.LeavesOneOf, Reply.Reply, Reply.Turn}
use Rattle.fwu_model.specs.{Seen.SoundFlash, Session.Session, Session.Off, Session.On, Session.Staged, Session.Handle}
use Rattle.fwu_model.specs.Call as call
use Rattle.fwu_model.specs.Reply as reply
use Rattle.fwu_model.specs.Run.{Condition, Step, Answered, Idle, Stopped, StoppedEarly, moved_on, prefixes, stopped_moves}
use Rattle.fwu_model.specs.Sound.{Setting, IsSoundBank, HasFallback, Sound, can_fall_back, can_start, choice, holds_complete, holds_permitted}
use Rattle.fwu_model.specs.State.{State, Bank, Move, bank, is_accepted, is_valid, after}
use Rattle.moves.specs.Moved.{IsReady}
use Rattle.agent_machine.specs.Fields.{Fields}
use Rattle.agent_machine.specs.Moment as agent
use Rattle.script_turns.specs.Powered.{IsAt, TurnMoment, SameDevice, ShowsCondition, kept_at}
use Rattle.script_turns.specs.{Replies.Replies, Takes.SendTakes, Takes.StopTakes, Takes.TakesBy, Turning.Turns}
use Rattle.script_turns.specs.Sending.{AnswersSend, IsTableOf, LacksSent, SendSays, SendsBy}
use Rattle.gen_core.specs.{Calls.file_name, Calls.shown as soak_shown, declared.calls.SoakCall.SoakCall}
use Rattle.gen_core.specs.declared.calls.SoakCall.TheVariants as does

-- it is a call of a soak, and the package that it sends is in the one file and among all
abbrev pub AgreeFor : Directory → Directory → Call → Type 0
AgreeFor one all (call.Send name request) = (one name ≡ all name) × IsSome (one name)
AgreeFor one all call.Boot = ⊤
AgreeFor one all (call.Cut n k) = ⊤
AgreeFor one all (call.Accepts guid) = ⊤
AgreeFor one all call.Previous = ⊤
AgreeFor one all other = ⊥

-- so does each call of a soak, where the packages that are sent do
pub agrees-shown : (one all : Directory) (x : SoakCall) → ((name : List ℕ) (request : ℕ) → soak_shown x ≡ call.Send name request → (one name ≡ all name) × IsSome (one name)) → AgreeFor one all (soak_shown x)
agrees-shown one all (does.Send number acceptance) sends = sends (file_name number) acceptance refl
agrees-shown one all other sends = tt

-- ---- sound flashes don't depend on the files

module _ (E : Setting) (other : Directory) where
  abbrev pub F : Setting
  F = record { layout = E.layout; files = other; passes = E.passes }

  complete-with : (held : Option (List (List ℕ))) → holds_complete F held ≡ holds_complete E held
  complete-with None = refl
  complete-with (Some p) = refl

  permitted-with : (counter : ℕ) (held : Option (List (List ℕ))) → holds_permitted F counter held ≡ holds_permitted E counter held
  permitted-with counter None = refl
  permitted-with counter (Some p) = refl

  bank-with : (k : Bank) → IsSoundBank E k → IsSoundBank F k
  bank-with k is = record {
    whole = is.whole;
    complete = λ used. complete-with k.held ∙ is.complete used;
    accepted = is.accepted;
    valid = is.valid;
  }

  fallback-with : (s : State) → HasFallback E s → HasFallback F s
  fallback-with s has = record { other = has.other; accepted = has.accepted; permitted = permitted-with s.counter (bank s s.previous).held ∙ has.permitted }

  sound-with : (s : State) → Sound E s → Sound F s
  sound-with s is = record {
    form = is.form;
    two_banks = is.two_banks;
    in_use = is.in_use;
    each = λ b. bank-with (bank s b) (is.each b);
    permitted = permitted-with s.counter (bank s s.active).held ∙ is.permitted;
    fallback = λ valid. fallback-with s (is.fallback valid);
  }

  flash-with : (image : List ℕ) → SoundFlash E image → SoundFlash F image
  flash-with image is = record { layout = is.layout; state = is.state; shows = is.shows; sound = sound-with is.state is.sound; tidy = is.tidy }

  leaves-with : (states : List State) (t : Told) → LeavesOneOf E states t → LeavesOneOf F states t
  leaves-with states t leaves image may =
      let one = leaves image may in
      record { state = one.state; one = one.one; shows = one.shows; sound = flash-with image one.sound }

  calm-with : (t : Told) (s : State) → IsCalm E t s → IsCalm F t s
  calm-with t s is = record { sound = flash-with t.now is.sound; shows = is.shows; front = is.front; banks = is.banks }

  ready-with : (t : Told) (s : State) → IsReady E t s → IsReady F t s
  ready-with t s is = record { calm = calm-with t s is.calm; guarded = is.guarded; one = is.one }

  shows-with : (c : Condition) (on : Option Fields) (t : Told) → ShowsCondition E c on t → ShowsCondition F c on t
  shows-with c None t (off, leaves) = (off, leaves-with c.candidates t leaves)
  shows-with c (Some f) t is = record { state = is.state; one = is.one; layout = is.layout; shows = is.shows; ready = ready-with t is.state is.ready }

  pub at-with : (c : Condition) (on : Option Fields) (t : Told) → IsAt E c on t → IsAt F c on t
  at-with c on t is = record { guard = is.guard; shows = shows-with c on t is.shows }

  -- ---- an answer depends on the files at the name that is sent alone

  choice-with : (s : State) → choice F s ≡ choice E s
  unfolding choice
  choice-with s =
      let starts : can_start F s ≡ can_start E s = ap (λ (b : Bool). (is_accepted (bank s s.active).state || (is_valid (bank s s.active).state && nat_lt s.trials trial_limit)) && b) (permitted-with s.counter (bank s s.active).held) in
      let falls : can_fall_back F s ≡ can_fall_back E s = ap (λ (b : Bool). not (s.previous == s.active) && is_accepted (bank s s.previous).state && b) (permitted-with s.counter (bank s s.previous).held) in
      ap (λ (b : Bool). if b then Some s.active else if can_fall_back F s then Some s.previous else None) starts
      ∙ ap (λ (b : Bool). if can_start E s then Some s.active else if b then Some s.previous else None) falls

  boot-with : (s : State) → answer_boot F s ≡ answer_boot E s
  unfolding answer_boot
  boot-with s = ap (boots_chosen s) (choice-with s)

  back-with : (s : State) (held : Option (List (List ℕ))) → may_go_back F s held ≡ may_go_back E s held
  back-with s None = refl
  back-with s (Some p) = refl

  previous-with : (s : State) (boot : ℕ) (staging : Option (List Staged)) (handles : List Handle) → answer_previous F s boot staging handles ≡ answer_previous E s boot staging handles
  unfolding answer_previous
  previous-with s boot (Some parts) handles = refl
  previous-with s boot None handles = rw (back-with s (bank s s.previous).held) refl

  unless-with : (fault : Option Reply) (s : State) (boot : ℕ) (staging : Option (List Staged)) (handles : List Handle)
      (p : List (List ℕ)) (bits : List Bool) (done : Reply)
      → install_unless fault F s boot staging handles p bits done ≡ install_unless fault E s boot staging handles p bits done
  unless-with (Some r) s boot staging handles p bits done = refl
  unless-with None s boot staging handles p bits done = refl

  file-with : (s : State) (boot : ℕ) (staging : Option (List Staged)) (handles : List Handle) (request : ℕ) (file : List ℕ) (table : Result Toc Reply)
      → send_file F s boot staging handles request file table ≡ send_file E s boot staging handles request file table
  file-with s boot staging handles request file (Err r) = refl
  file-with s boot staging handles request file (Ok toc) =
      unless-with (first_image_fault E.layout.rows toc) s boot staging handles (images_of E.layout.rows file toc)
      (replicate (length E.layout.rows) (request == 0)) (reply.Sent (length E.layout.rows) (skipped E.layout.rows toc))

  send-with : (s : State) (boot : ℕ) (staging : Option (List Staged)) (handles : List Handle) (request : ℕ) (file : Option (List ℕ))
      → answer_send F s boot staging handles request file ≡ answer_send E s boot staging handles request file
  unfolding answer_send
  send-with s boot staging handles request None = refl
  send-with s boot staging handles request (Some file) = file-with s boot staging handles request file (table_in file)

  answer-with : (s : State) (x : Session) (c : Call) → AgreeFor other E.files c → answer F s x c ≡ answer E s x c
  unfolding answer
  answer-with s Off call.Boot agree = boot-with s
  answer-with s Off c agree = refl
  answer-with s (On boot staging handles) call.Boot agree = boot-with s
  answer-with s (On boot staging handles) (call.Cut n k) agree = refl
  answer-with s (On boot staging handles) (call.Send name request) agree =
      send-with s boot staging handles request (other name) ∙ ap (answer_send E s boot staging handles request) agree.0
  answer-with s (On boot staging handles) (call.Accepts guid) agree = refl
  answer-with s (On boot staging handles) call.Previous agree = previous-with s boot staging handles
  answer-with s x c agree = absurd agree

  begin-with : (s : State) (x : Session) → answer F s x (call.Begin 0) ≡ answer E s x (call.Begin 0)
  unfolding answer answer_begin
  begin-with s Off = refl
  begin-with s (On boot staging handles) = refl

  moves-with : (s : State) (x : Session) (c : Call) (r : Reply) → AgreeFor other E.files c → stopped_moves F s x c r ≡ stopped_moves E s x c r
  moves-with s x c reply.ReadFault agree = ap (λ (a : Answer). a.moves) (begin-with s x)
  moves-with s x c r agree = ap (λ (a : Answer). a.moves) (answer-with s x c agree)

  -- a step with other files is one with these
  pub step-with : (c next : Condition) (t : Turn) → AgreeFor other E.files t.call → Step F c t next → Step E c t next
  step-with c next t agree (Answered runs asks is) =
      let same = answer-with is.state c.session t.call agree in
      Answered runs asks (record {
        state = is.state;
        found = is.found;
        numbers = is.numbers;
        reply_is = is.reply_is ∙ ap (λ (a : Answer). a.reply) same;
        next_is = is.next_is ∙ ap (λ (a : Answer). moved_on c t.call (after is.state a.moves ∷ []) a.next) same;
      })
  step-with c next t agree (Idle asks is) =
      Idle asks (record {
        numbers = is.numbers;
        reply_is = λ s. is.reply_is s ∙ ap (λ (a : Answer). a.reply) (answer-with s Off t.call agree);
        next_is = is.next_is;
      })
  step-with c next t agree (Stopped stops asks is) =
      Stopped stops asks (record {
        state = is.state;
        found = is.found;
        numbers = is.numbers;
        reads = is.reads;
        next_is = is.next_is ∙ ap (λ (ms : List Move). moved_on c t.call (prefixes is.state ms) Off) (moves-with is.state c.session t.call t.reply agree);
      })
  step-with c next t agree (StoppedEarly stops is) = StoppedEarly stops is

-- ---- a turn

module _ (passes : List ℕ → Bool) (tells : Bool) (one all : Directory) where
  unread-with : (c : Call) (was are : ℕ) → AgreeFor one all c → FileNotRead (Some one) was are c → FileNotRead (Some all) was are c
  unread-with (call.Send name request) was are agree (inl rose) = inl rose
  unread-with (call.Send name request) was are agree (inr lacks) = inr (sym agree.0 ∙ lacks)
  unread-with (call.SendPartial name request) was are agree none = absurd agree
  unread-with c was are agree none = absurd none

  table-with : (name : List ℕ) (found : Result Toc Reply) → one name ≡ all name → IsTableOf (Some one) name found → IsTableOf (Some all) name found
  table-with name found same is = (λ file tells. is.0 file (same ∙ tells), is.1)

  sends-with : (name : List ℕ) (request : ℕ) (r : Reply) (old new : agent.Moment) (armed arming : Option Arming) → one name ≡ all name → SendsBy passes (Some one) name request r old new armed arming → SendsBy passes (Some all) name request r old new armed arming
  sends-with name request r old new armed arming same by = record {
    toc = by.toc;
    images = by.images;
    table = table-with name (Ok by.toc) same by.table;
    read = λ file tells. by.read file (same ∙ tells);
    exact = by.exact;
    stays = by.stays;
    spent = by.spent;
  }

  answers-with : (name : List ℕ) (request : ℕ) (r : Reply) (old new : agent.Moment) (armed arming : Option Arming) → one name ≡ all name → AnswersSend false passes (Some one) name request r old new armed arming → AnswersSend false passes (Some all) name request r old new armed arming
  answers-with name request (reply.BadPackage f) old new armed arming same (table, stays) = (table-with name (Err (reply.BadPackage f)) same table, stays)
  answers-with name request (reply.BadCapsule f) old new armed arming same (table, stays) = (table-with name (Err (reply.BadCapsule f)) same table, stays)
  answers-with name request r old new armed arming same by = sends-with name request r old new armed arming same by

  says-with : (name : List ℕ) (request : ℕ) (was : Option Fields) (before : TurnMoment) (r : Reply) (on : Option Fields) (now : TurnMoment) → one name ≡ all name → SendSays false passes tells (Some one) name request was before r on now
      → SendSays false passes tells (Some all) name request was before r on now
  says-with name request None before r on now same says = says
  says-with name request (Some f) before r None now same says = says
  says-with name request (Some f) before r (Some g) now same says = answers-with name request r (kept_at tells f before.told before.writes) (kept_at tells g now.told now.writes) before.armed now.armed same says

  read-with : (name : List ℕ) (f : Fields) (old new : TurnMoment) → one name ≡ all name → SameDevice old new ⊎ StopTakes false (Some one) name f old new
      → SameDevice old new ⊎ StopTakes false (Some all) name f old new
  read-with name f old new same (inl still) = inl still
  read-with name f old new same (inr by) =
      inr (record { toc = by.toc; table = table-with name (Ok by.toc) same by.table; entries = by.entries; sent = by.sent; spent = by.spent })

  spent-with : (name : List ℕ) (f : Fields) (r : Reply) (old new : TurnMoment) → one name ≡ all name → SendTakes false (Some one) name f r old new → SendTakes false (Some all) name f r old new
  spent-with name f reply.ReadFault old new same by = read-with name f old new same by
  spent-with name f r old new same by = by

  takes-with : (c : Call) (on : Option Fields) (old : TurnMoment) (r : Reply) (new : TurnMoment) → AgreeFor one all c → TakesBy (Some one) c on old r new → TakesBy (Some all) c on old r new
  takes-with c None old r new agree takes = takes
  takes-with (call.Send name request) (Some f) old r new agree takes = spent-with name f r old new agree.0 takes
  takes-with (call.SendPartial name request) (Some f) old r new agree takes = absurd agree
  takes-with c (Some f) old r new agree takes = takes

  lacks-with : (c : Call) → AgreeFor one all c → LacksSent (Some all) c → LacksSent (Some one) c
  lacks-with (call.Send name request) agree lacks = agree.0 ∙ lacks
  lacks-with (call.SendPartial name request) agree lacks = absurd agree
  lacks-with other agree lacks = absurd lacks

  replies-with : (c : Call) (old : TurnMoment) (t : Turn) (new : TurnMoment) → AgreeFor one all c → Replies passes tells (Some one) c old t new → Replies passes tells (Some all) c old t new
  replies-with (call.Send name request) old t new agree says = says-with name request old.on old t.reply new.on new agree.0 says
  replies-with (call.SendPartial name request) old t new agree says = absurd agree
  replies-with c old t new agree says = says

  agree-back : (c : Call) → AgreeFor one all c → (files : Directory) → files ≡ all → AgreeFor one files c
  agree-back c agree files same = subst (λ (d : Directory). AgreeFor one d c) (sym same) agree

  pub turns-with : (c : Call) (t : Turn) (old new : TurnMoment) (was are : ℕ) → AgreeFor one all c → Turns passes tells (Some one) c t old new was are → Turns passes tells (Some all) c t old new was are
  turns-with c t old new was are agree turned = record {
    call_is = turned.call_is;
    unnumbered = turned.unnumbered;
    counts = turned.counts;
    made = turned.made;
    armed = turned.armed;
    free = turned.free;
    lost = turned.lost;
    failed = turned.failed;
    once = turned.once;
    unread = λ is. unread-with c was are agree (turned.unread is);
    lacking = λ lacks some. turned.lacking (lacks-with c agree lacks) some;
    later = turned.later;
    unread_once = turned.unread_once;
    reads_none = turned.reads_none;
    replies = replies-with c old t new agree turned.replies;
    takes = record { by_call = takes-with c old.on old t.reply new agree turned.takes.by_call; unread = turned.takes.unread };
    touches = turned.touches;
    power = turned.power;
    guard = turned.guard;
    step = λ told E from passes_are files_are is_at no_chance.
        let G : Setting = record { layout = E.layout; files = one; passes = E.passes } in
        let there = turned.step told G from passes_are refl (at-with E one from old.on old.told is_at) no_chance in (
          there.0,
          step-with E one from there.0 t (subst (λ (x : Call). AgreeFor one E.files x) (sym turned.call_is) (agree-back c agree E.files (sym (same_Some all E.files files_are)))) there.1,
          at-with G E.files there.0 new.on new.told there.2,
        );
    keeps = turned.keeps;
    spares = turned.spares;
    decides = turned.decides;
    safe = turned.safe;
    boots = turned.boots;
  }
