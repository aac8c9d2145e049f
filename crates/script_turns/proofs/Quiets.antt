-- Turns that ask for no file, that leave the flash as it is, and those of a flash on which no bank was started.
use Rattle.std.proofs.Common.{◌≡◌, List, Bool, ℕ, refl, sym, subst, ◌≤◌, true, not, ◌||◌, ◌∷◌, Option, Some, None, ap, ◌∙◌, arith, IsTrue, IsFalse}
use Rattle.flash_core.specs.{declared.flash.Flash.Ghosts, Counts.StaysUnarmed, Counts.all_stops, Told.Told, declared.flash.Arming.Arming}
use Rattle.flash_core.specs.declared.flash.Counts.{Counts}
use Rattle.host_io.specs.{Access.Access, Contents.Directory}
use Rattle.host_io.specs.declared.files.Files as files
use Rattle.host_io.proofs.Reading.{reads-none}
use Rattle.fwu_model.specs.{Call.Call, Reply.Turn, Reply.Reply, Sound.Setting, Session.Session, Session.Off, Session.On}
use Rattle.fwu_model.specs.{Answer.Answer, Answer.answer, Answer.answered, Headline.IsCut, Causes.is_cut}
use Rattle.fwu_model.specs.State.{State, Numbers, numbers_of, after}
use Rattle.fwu_model.specs.Run.{is_boot, Condition, Answered, Idle, is_off, is_send, is_stop, moved_on}
use Rattle.std.specs.Prelude.{IsSome, []}
use Rattle.flash_core.proofs.Unarmed.{unarmed_none}
use Rattle.fwu_model.specs.Call as call
use Rattle.fwu_model.specs.Reply as reply
use Rattle.agent_machine.specs.Fields.{Fields}
use Rattle.agent_machine.specs.Moment as agent
use Rattle.agent_machine.proofs.Beside.{spared-told}
use Rattle.script_turns.specs.Powered.{moment_in, TurnMoment, at, SameDevice, IsAt, IsSafe, ShowsAt, numbers_kept}
use Rattle.script_turns.specs.{Stage.device, Stage.has_power, declared.stage.Stage.Stage, Sending.LacksSent, Replies.is_agents}
use Rattle.script_turns.specs.{Replies.needs_bank, Takes.TakesBy, Takes.stop_told}
use Rattle.script_turns.specs.{Takes.TouchesBy, Turning.IsStageTurn, Turning.TurnLeaves, Turning.TurnsAlone}
use Rattle.script_turns.specs.Turning.{Turns, Arms, Makes, NoneFalls, quiet_turn}
use Rattle.script_turns.specs.Replies.{Replies, no_call_reply, power_after, show_reply}
use Rattle.script_turns.proofs.Staying.{Leads, counts_none, among, falls-same, makes-none, never-boots, never-cuts, no-numbers, no-stop}

-- ---- the turn of a call that asks for no file

-- it leaves the files as they are
pub turns-alone : {D H : Type 0} {F : Ghosts D} (g : files.Ghosts H) → ((f : H) (access : Access) → g.spares f f access) → (passes : List ℕ → Bool)
    (c what : Call) (t : Turn) (old new : Stage D F) (here : H) → c ≡ what → TurnsAlone passes F.tells what t (moment_in old) (moment_in new)
    → TurnLeaves F t (has_power new) (device old) (device new) → IsStageTurn g passes c t old new here here
turns-alone {F = F} g at_rest passes c what t old new here is turns leaves = record {
  turns = subst (λ (x : Call). Turns passes F.tells (g.contents here) x t (moment_in old) (moment_in new) (g.faults here) (g.faults here)) (sym is) (turns (g.contents here) (g.faults here));
  leaves = leaves;
  reads = reads-none g _ at_rest here;
  files = λ other. refl;
  idle = λ none. refl;
}

-- ---- a turn that leaves the flash as it is

-- What the machine answers to the call, by what the agent keeps: with this reply it does nothing.
abbrev pub AnswersBy : Call → Reply → Option Fields → Told → Type 0
AnswersBy what r None t = (E : Setting) (s : State) → r ≡ (answer E s Off what).reply
AnswersBy what r (Some f) t = (E : Setting) (s : State) (x : Session) → ShowsAt true f t s x → answer E s x what ≡ answered r [] x

-- The call is no boot, the reply no stop, and what is kept and told stays.
pub record IsQuiet (tells : Bool) (files : Option Directory) (what : Call) (r : Reply) (old new : TurnMoment) : Type 0 where
  pub no_boot : IsFalse (is_boot what)
  pub lacks : LacksSent files what → IsSome old.on → ⊥
  pub decides : (f : Fields) → old.on ≡ Some f → IsTrue (is_agents what) → ⊥
  pub no_stop : IsFalse (is_stop r)
  pub on_is : new.on ≡ old.on
  pub same : IsTrue tells → new.told ≡ old.told
  pub counts : NoneFalls old.counts new.counts
  pub once : all_stops new.counts ≤ all_stops old.counts
  pub made : Makes what old.counts.made new.counts.made
  pub armed : IsCut (Some (quiet_turn what r)) new.armed
  pub free : IsFalse (is_cut what) → StaysUnarmed (stop_told r) old.armed new.armed old.counts new.counts
  pub power : new.power ≡ old.power
  pub keeps_power : power_after old.power r ≡ old.power
  pub takes : TakesBy files what old.on old r new
  pub touches : TouchesBy what old.on old.writes new.writes
  pub answers : AnswersBy what r old.on old.told

-- only what is sent can be lacking
pub lacks-none : (files : Option Directory) (c : Call) → IsFalse (is_send c) → LacksSent files c → ⊥
lacks-none files (call.Send name request) never lacks = absurd cc
lacks-none files (call.SendPartial name request) never lacks = absurd cc
lacks-none files other never lacks = lacks

module _ (what : Call) (r : Reply) (no_boot : IsFalse (is_boot what)) (no_stop : IsFalse (is_stop r)) where
  step : (E : Setting) (c : Condition) (on : Option Fields) (t : Told) → AnswersBy what r on t → IsAt E c on t → Leads E c (quiet_turn what r) on t
  step E c None t answers is = (
    moved_on c what c.candidates Off,
    Idle asks-nothing (record { numbers = no-numbers what no_boot; reply_is = answers E; next_is = refl }),
    record { guard = is.guard; shows = (refl, is.shows.1) },
  )
    where
      asks-nothing : IsFalse (is_boot what || not (is_off c.session))
      asks-nothing =
          subst (λ (b : Bool). IsFalse (b || not (is_off c.session))) (sym no_boot)
          (subst (λ (session : Session). IsFalse (not (is_off session))) (sym is.shows.0) refl)
  step E c (Some f) t answers is =
      let s = is.shows.state in
      let a : answer E s c.session what ≡ answered r [] c.session = answers E s c.session is.shows.shows in (
        moved_on c what (after s (answer E s c.session what).moves ∷ []) (answer E s c.session what).next,
        Answered no_stop asks (record {
          state = s;
          found = record { candidate = among c.candidates s is.shows.one; numbers = tt };
          numbers = no-numbers what no_boot;
          reply_is = sym (ap (λ (x : Answer). x.reply) a);
          next_is = refl;
        }),
        record {
          guard = is.guard;
          shows = record {
            state = s;
            one = ap (λ (x : Answer). after s x.moves ∷ []) a;
            layout = is.shows.layout;
            shows = subst (λ (x : Session). ShowsAt true f t s x) (sym (ap (λ (x : Answer). x.next) a)) is.shows.shows;
            ready = is.shows.ready;
          };
        },
      )
    where
      asks : IsTrue (is_boot what || not (is_off c.session))
      asks =
          subst (λ (k : Bool). IsTrue (k || not (is_off c.session))) (sym no_boot)
          (subst (λ (session : Session). IsTrue (not (is_off session))) (sym (is.shows.shows counts_none).means) refl)

pub quiet-turns : (passes : List ℕ → Bool) (tells : Bool) (files : Option Directory) (what : Call) (r : Reply) (old new : TurnMoment) (faults : ℕ)
    → IsQuiet tells files what r old new → Replies passes tells files what old (quiet_turn what r) new → Turns passes tells files what (quiet_turn what r) old new faults faults
quiet-turns passes tells files what r old new faults quiet replied = record {
  call_is = refl;
  unnumbered = λ no. refl;
  counts = quiet.counts;
  made = quiet.made;
  armed = quiet.armed;
  free = quiet.free;
  lost = λ e. absurd (no-stop r reply.Lost quiet.no_stop refl e);
  failed = λ e. absurd (no-stop r reply.Fault quiet.no_stop refl e);
  once = omega (arith, quiet.once);
  unread = λ e. absurd (no-stop r reply.ReadFault quiet.no_stop refl e);
  lacking = λ lacks some. absurd (quiet.lacks lacks some);
  later = omega arith;
  unread_once = omega arith;
  reads_none = λ none. refl;
  replies = replied;
  takes = record { by_call = quiet.takes; unread = λ e. absurd (no-stop r reply.ReadFault quiet.no_stop refl e) };
  touches = quiet.touches;
  power = quiet.power ∙ sym quiet.keeps_power;
  guard = λ test. ap (λ (t : Told). t.guard) (quiet.same test);
  step = λ test E c passes_are files_are is none.
      subst (λ (on : Option Fields). Leads E c (quiet_turn what r) on new.told) (sym quiet.on_is)
      (subst (λ (t : Told). Leads E c (quiet_turn what r) old.on t) (sym (quiet.same test)) (step what r quiet.no_boot quiet.no_stop E c old.on old.told quiet.answers is));
  keeps = λ test f on no. spared-told _ old.told new.told (quiet.same test);
  spares = λ test f on no whole. spared-told _ old.told new.told (quiet.same test);
  decides = λ test f on agents whole. absurd (quiet.decides f on agents);
  safe = λ test safe. subst (λ (b : Bool). IsSafe b new.told) (sym quiet.power) (subst (IsSafe old.power) (sym (quiet.same test)) safe);
  boots = λ test off clean is. let e = ap is_boot is in let f = quiet.no_boot in absurd cc;
}

-- ---- `show`, and a request for no call

-- the numbers that are kept are those of each state that the agent shows
numbers-spoken : (f : Fields) (s : State) → agent.SpeaksOf f s → numbers_kept f ≡ numbers_of s
numbers-spoken f s speaks = rw (speaks.meta, ← speaks.form, speaks.trials_are, speaks.counter_is)

show-answers : (on : Option Fields) (t : Told) → AnswersBy call.Show (show_reply on) on t
unfolding answer
show-answers None t = λ E s. refl
show-answers (Some f) t = λ E s x shows.
    let now = shows counts_none in
    subst (λ (n : Numbers). answer E s x call.Show ≡ answered (reply.Shown n) [] x) (sym (numbers-spoken f s now.speaks))
    (subst (λ (y : Session). answer E s y call.Show ≡ answered (reply.Shown (numbers_of s)) [] y) (sym now.means) refl)

no_call-answers : (on : Option Fields) (t : Told) → AnswersBy call.NoCall (no_call_reply on) on t
unfolding answer
no_call-answers None t = λ E s. refl
no_call-answers (Some f) t = λ E s x shows.
    subst (λ (y : Session). answer E s y call.NoCall ≡ answered reply.NotUnderstood [] y) (sym (shows counts_none).means) refl

pub same-device : (m : TurnMoment) → SameDevice m m
same-device m = record { told = refl; writes = refl; counts = refl; armed = refl; power = refl }

module _ (passes : List ℕ → Bool) (tells : Bool) (files : Option Directory) (m : TurnMoment) (faults : ℕ) where
  -- what goes by what is on, of a call that changes nothing
  pub record Looks (what : Call) (r : Reply) (on : Option Fields) : Type 0 where
    pub no_stop : IsFalse (is_stop r)
    pub free : StaysUnarmed (stop_told r) m.armed m.armed m.counts m.counts
    pub power : power_after m.power r ≡ m.power
    pub takes : TakesBy files what on m r m
    pub touches : TouchesBy what on m.writes m.writes

  show-looks : (on : Option Fields) → Looks call.Show (show_reply on) on
  show-looks None = record { no_stop = refl; free = unarmed_none tt _ _; power = refl; takes = λ no. same-device m; touches = refl }
  show-looks (Some f) = record { no_stop = refl; free = unarmed_none tt _ _; power = refl; takes = same-device m; touches = refl }

  no_call-looks : (on : Option Fields) → Looks call.NoCall (no_call_reply on) on
  no_call-looks None = record { no_stop = refl; free = unarmed_none tt _ _; power = refl; takes = λ no. same-device m; touches = refl }
  no_call-looks (Some f) = record { no_stop = refl; free = unarmed_none tt _ _; power = refl; takes = same-device m; touches = refl }

  pub looks-turns : (what : Call) (r : Reply) → IsFalse (is_boot what) → (LacksSent files what → IsSome m.on → ⊥)
      → ((f : Fields) → m.on ≡ Some f → IsTrue (is_agents what) → ⊥)
      → Makes what m.counts.made m.counts.made → IsCut (Some (quiet_turn what r)) m.armed → Looks what r m.on
      → AnswersBy what r m.on m.told → Replies passes tells files what m (quiet_turn what r) m
      → Turns passes tells files what (quiet_turn what r) m m faults faults
  looks-turns what r no_boot lacks decides made armed looks answers replied = quiet-turns passes tells files what r m m faults (record {
    no_boot = no_boot;
    lacks = lacks;
    decides = decides;
    no_stop = looks.no_stop;
    on_is = refl;
    same = λ test. refl;
    counts = falls-same m.counts;
    once = omega arith;
    made = made;
    armed = armed;
    free = λ no. looks.free;
    power = refl;
    keeps_power = looks.power;
    takes = looks.takes;
    touches = looks.touches;
    answers = answers;
  }) replied

  pub show-turns : Turns passes tells files call.Show (quiet_turn call.Show (show_reply m.on)) m m faults faults
  show-turns = looks-turns call.Show (show_reply m.on) refl (λ lacks some. lacks) (λ f on agents. absurd cc) refl tt
      (show-looks m.on) (show-answers m.on m.told) (refl, refl)

  pub no_call-turns : Turns passes tells files call.NoCall (quiet_turn call.NoCall (no_call_reply m.on)) m m faults faults
  no_call-turns =
      looks-turns call.NoCall (no_call_reply m.on) refl (λ lacks some. lacks) (λ f on agents. absurd cc) refl tt
      (no_call-looks m.on) (no_call-answers m.on m.told) (refl, refl)

-- ---- `cut`

cut-on : (n k : ℕ) (E : Setting) (s : State) (x : Session) → answer E s x (call.Cut n k) ≡ answered reply.CutOk [] x
unfolding answer
cut-on n k E s Off = refl
cut-on n k E s (On boot staging handles) = refl

cut-answers : (n k : ℕ) (on : Option Fields) (t : Told) → AnswersBy (call.Cut n k) reply.CutOk on t
cut-answers n k None t = λ E s. sym (ap (λ (a : Answer). a.reply) (cut-on n k E s Off))
cut-answers n k (Some f) t = λ E s x shows. cut-on n k E s x

cut-takes : (files : Option Directory) (n k : ℕ) (on : Option Fields) (old new : TurnMoment) → TakesBy files (call.Cut n k) on old reply.CutOk new
cut-takes files n k None old new = λ no. absurd cc
cut-takes files n k (Some f) old new = tt

cut-touches : (n k : ℕ) (on : Option Fields) (w v : ℕ → ℕ) → v ≡ w → TouchesBy (call.Cut n k) on w v
cut-touches n k None w v same = same
cut-touches n k (Some f) w v same = same

pub cut-turns : (passes : List ℕ → Bool) (tells : Bool) (files : Option Directory) (n k : ℕ) (old new : TurnMoment) (faults : ℕ) → Arms tells n k old new
    → Turns passes tells files (call.Cut n k) (quiet_turn (call.Cut n k) reply.CutOk) old new faults faults
cut-turns passes tells files n k old new faults arms = quiet-turns passes tells files (call.Cut n k) reply.CutOk old new faults (record {
  no_boot = refl;
  lacks = λ lacks some. lacks;
  decides = λ f on agents. absurd cc;
  no_stop = refl;
  on_is = arms.on_is;
  same = arms.same;
  counts = record { faults = omega (arith, arms.idles.faults); cuts = omega (arith, arms.idles.cuts); reached = omega (arith, arms.idles.reached); chances = arms.idles.chances };
  once = omega (arith, arms.idles.faults, arms.idles.cuts, arms.idles.reached);
  made = arms.made;
  armed = arms.armed_is;
  free = λ no. absurd cc;
  power = arms.power_is;
  keeps_power = refl;
  takes = cut-takes files n k old.on old new;
  touches = cut-touches n k old.on old.writes new.writes arms.writes;
  answers = cut-answers n k old.on old.told;
}) (refl, arms)

-- ---- the turns of a flash on which no bank was started, which is left as it is

module _ (passes : List ℕ → Bool) (tells : Bool) (files : Option Directory) (t : Told) (w : ℕ → ℕ) (cs : Counts) (armed : Option Arming) (power : Bool) (was : ℕ) where
  abbrev here : TurnMoment
  here = at None t w cs armed power

  -- what goes by the call
  record LeavesOff (c : Call) : Type 0 where
    replies : Replies passes tells files c here (quiet_turn c reply.IsOff) here
    looks : Looks passes tells files here was c reply.IsOff None
    answers : (E : Setting) (s : State) → reply.IsOff ≡ (answer E s Off c).reply

  leaves-off : (c : Call) → IsTrue (needs_bank c) → LeavesOff c
  unfolding answer
  leaves-off call.Boot asks = absurd cc
  leaves-off (call.Cut n k) asks = absurd cc
  leaves-off call.Show asks = absurd cc
  leaves-off call.NoCall asks = absurd cc
  leaves-off q asks = record {
    replies = (refl, refl);
    looks = record { no_stop = refl; free = unarmed_none tt armed cs; power = refl; takes = λ no. same-device here; touches = refl };
    answers = λ E s. refl;
  }

  pub off-turn : (c : Call) → IsTrue (needs_bank c) → Turns passes tells files c (quiet_turn c reply.IsOff) here here was was
  off-turn c asks =
      let leaves = leaves-off c asks in
      looks-turns passes tells files here was c reply.IsOff (never-boots c asks) (λ lacks some. absurd cc) (λ f on agents. absurd cc)
      (makes-none c cs.made cs.made asks refl) (never-cuts c reply.IsOff armed asks) leaves.looks leaves.answers leaves.replies
