-- The turn of a call of the agent, from what the agent's call says: the reply, what is kept, a step of a run, and what no loss harms.
use Rattle.std.proofs.Common.{◌≡◌, ◌≢◌, ℕ, Bool, true, false, cond, not, ◌||◌, List, ◌∷◌, length, get_or, Option, Some, None, Result, Ok, Err, refl, sym, ap, subst, ◌∙◌, arith, IsTrue, IsFalse}
use Rattle.std.specs.Prelude.{◌<◌, is_ok, ⊤, []}
use Rattle.std.proofs.{lemmas.List.length-map, lemmas.Option.same_Some}
use Rattle.std.specs.List.{list_any}
use Rattle.flash_core.specs.{declared.flash.Arming.Arming, declared.flash.Counts.Counts, declared.flash.FlashStop.FlashStop}
use Rattle.flash_core.specs.{Counts.Spends, Counts.StaysUnarmed, Counts.stops_in, Told.Told}
use Rattle.flash_core.specs.declared.flash.FlashStop.TheVariants as flash_stop
use Rattle.host_io.specs.Contents.{Directory}
use Rattle.fwu_model.specs.{State.State, State.after, Sound.Setting, Call.Call, Reply.Reply, declared.kinds.Status.Status}
use Rattle.fwu_model.specs.{Calm.IsAtRest, Headline.LeavesOneOf}
use Rattle.fwu_model.specs.Session.{Session, Off, On, Staged, Nothing, Committed, no_handles}
use Rattle.fwu_model.specs.Call as call
use Rattle.fwu_model.specs.Reply as reply
use Rattle.fwu_formats.specs.Layout.{Layout, ImageRow}
use Rattle.fwu_formats.proofs.Same.{listed-same}
use Rattle.base_core.specs.Bytes.{same_bytes}
use Rattle.fwu_model.specs.Answer.{Answer, answer, answer_begin_partial, answered, are_named, begin_moves, cannot_begin, copied_part, copied_parts, image_held, names_unknown, refused}
use Rattle.fwu_model.specs.declared.kinds.Status.TheVariants as status
use Rattle.moves.specs.Moved.{Does, GuardedBy, IsReady}
use Rattle.agent_calls.specs.{Copies.BeginsPartly, Partly.begins_over}
use Rattle.fwu_model.specs.Run.{Condition, Step, Answered, Stopped, asks_state, is_boot, is_off, is_send, is_stop, moved_on, prefixes, stopped_moves}
use Rattle.agent_machine.specs.{declared.stop.Stop.Stop, Fields.Fields, Fields.total_of}
use Rattle.agent_machine.specs.declared.stop.Stop.TheVariants as stop
use Rattle.agent_machine.specs.Beside.{KeepsSpared, KeepsSparedByAll, SparesBlocks, SparesBlocksByAll}
use Rattle.agent_machine.proofs.Beside.{blocks-once, spared-once}
use Rattle.agent_machine.specs.Moment as agent
use Rattle.agent_machine.specs.Meets.{Answers, IsDone, IsSettingOf, LeavesFlash, ShowsNext, Stays, flash_result}
use Rattle.agent_calls.specs.AnswersCall.{AnswersCall, GoesBackBy, IsDecided, IsPreviousCall, IsReplyOf, PermitsBack}
use Rattle.script_turns.specs.Powered.{TurnMoment, IsAt, IsSafe, at, kept_at}
use Rattle.script_turns.specs.Replies.{AnswersBegin, AnswersTo, CallSays, IsFlashStop, Replies, power_after}
use Rattle.script_turns.specs.{Takes.TakesOn, Takes.stop_told, Replies.is_agents, Replies.is_composed, Replies.reply_by}
use Rattle.script_turns.specs.{Takes.DecidesAfter, Takes.IsMetaAfter, Turning.Turns, Turning.quiet_turn}
use Rattle.script_turns.proofs.{CallTakes.on_by, Quiets.lacks-none, Touching.touches-called}
use Rattle.script_turns.proofs.Staying.{among, makes-none, needs-agent, never-boots, never-cuts, no-numbers, no-stop, safe-by, same-guards, as-told, shows-as, told-shows}

-- ---- the calls of the agent

-- those but a partial begin
abbrev pub is_single : Call → Bool
is_single (call.BeginPartial types) = false
is_single other = is_agents other

single-agents : (c : Call) → IsTrue (is_single c) → IsTrue (is_agents c)
single-agents (call.BeginPartial types) single = absurd cc
single-agents other single = single

never-sends : (c : Call) → IsTrue (is_agents c) → IsFalse (is_send c)
never-sends (call.Send name request) agents = absurd cc
never-sends (call.SendPartial name request) agents = absurd cc
never-sends other agents = refl

replies-of : (passes : List ℕ → Bool) (tells : Bool) (files : Option Directory) (c : Call) (f : Fields) (old new : TurnMoment) (r : Reply) → IsTrue (is_agents c) → old.on ≡ Some f
    → CallSays passes tells c old.on old r new.on new → Replies passes tells files c old (quiet_turn c r) new
replies-of passes tells files (call.Send name request) f old new r agents on says = absurd cc
replies-of passes tells files (call.SendPartial name request) f old new r agents on says = absurd cc
replies-of passes tells files call.Boot f old new r agents on says = absurd cc
replies-of passes tells files (call.Cut n k) f old new r agents on says = absurd cc
replies-of passes tells files call.Show f old new r agents on says = absurd cc
replies-of passes tells files call.NoCall f old new r agents on says = absurd cc
replies-of passes tells files other f old new r agents on says = says

-- what a single call says
answers-to : (passes : List ℕ → Bool) (c : Call) (r : Reply) (old new : agent.Moment) → IsTrue (is_single c) → AnswersCall passes c r old new → AnswersTo passes c r old new
answers-to passes (call.BeginPartial types) r old new single answers = absurd cc
answers-to passes other r old new single answers = answers

-- where the content is told, each is decided, and has the machine's own reply
decided : (tells : Bool) (c : Call) → IsTrue tells → IsDecided tells c
decided tells call.Previous test = test
decided tells other test = tt

own-reply : (tells : Bool) (c : Call) (q r : Reply) → IsTrue tells → IsReplyOf tells c q r → q ≡ r
own-reply tells (call.Read handle room) q r test h = h.0 test
own-reply tells other q r test h = h

-- ---- what is the same for each result

-- an agent that is on has a session
asks : (c : Call) (tells : Bool) (f : Fields) (t : Told) (w : ℕ → ℕ) (s : State) (x : Session) → IsFalse (is_boot c) → agent.Shows (kept_at tells f t w) s x → IsTrue (asks_state x c)
asks c tells f t w s x never shows =
    subst (λ (b : Bool). IsTrue (b || not (is_off x))) (sym never)
    (subst (λ (y : Session). IsTrue (not (is_off y))) (sym shows.means) refl)

-- power stays on but at a stop
stays-on : (power : Bool) (r : Reply) → power ≡ true → IsFalse (is_stop r) → power_after power r ≡ true
stays-on power (reply.Booted bank version trials counter fallback) on none = refl
stays-on power (reply.NotBooted why) on none = refl
stays-on power reply.Lost on none = absurd cc
stays-on power reply.Fault on none = absurd cc
stays-on power other on none = on

-- a reply that is no stop tells none
stops-none : (r : Reply) → IsFalse (is_stop r) → stop_told r ≡ Ok tt
stops-none reply.Lost none = absurd cc
stops-none reply.Fault none = absurd cc
stops-none other none = refl

-- what a reply tells of the flash: whether it stopped the call, and whether it has power
record TellsFlash (r : Reply) (result : Result (Unit {0}) FlashStop) : Type 0 where
  stop_is : result ≡ stop_told r
  no_read : r ≢ reply.ReadFault
  power_is : (power : Bool) → power ≡ true → is_ok result ≡ power_after power r

tells-answered : (r : Reply) → IsFalse (is_stop r) → TellsFlash r (Ok tt)
tells-answered r none =
    record { stop_is = sym (stops-none r none); no_read = no-stop r reply.ReadFault none refl; power_is = λ power on. sym (stays-on power r on none) }

-- what a call left of its flash
record Left (result : Result (Unit {0}) FlashStop) (passes : List ℕ → Bool) (c : Call) (old new : agent.Moment) : Type 0 where
  does : (E : Setting) (s : State) (x : Session) → IsSettingOf old.fields passes E → agent.Shows old s x → IsTrue old.tells → IsReady E old.told s
      → Does result E s (answer E s x c).moves new.told
  guarded : IsTrue old.tells → IsAtRest old.told → GuardedBy result new.told
  keeps : IsTrue old.tells → KeepsSparedByAll old.fields old.told new.told
  touches : SparesBlocksByAll old.fields old.writes new.writes
  touches_one : IsFalse (is_composed c) → SparesBlocks old.fields old.writes new.writes
  spares : IsFalse (is_composed c) → IsTrue old.tells → KeepsSpared old.fields old.told new.told
  decides : IsFalse (is_composed c) → IsTrue old.tells → DecidesAfter c old.fields old.told new.told
  stays : Stays old new

left-by : {result : Result (Unit {0}) FlashStop} {passes : List ℕ → Bool} {c : Call} {old new : agent.Moment} → IsMetaAfter c old.fields new.fields.meta
    → LeavesFlash result passes c old new → Left result passes c old new
left-by {old = old} {new = new} after leaves = record {
  does = leaves.does;
  guarded = leaves.guarded;
  keeps = λ test. spared-once old.fields old.told new.told (leaves.keeps test);
  touches = blocks-once old.fields leaves.touches;
  touches_one = λ whole. leaves.touches;
  spares = λ whole. leaves.keeps;
  decides = λ whole test. record { meta = new.fields.meta; is_after = after; decides = leaves.decides test };
  stays = leaves.stays;
}

-- ---- its turn, by its step

module _ (passes : List ℕ → Bool) (tells : Bool) (files : Option Directory) (faults : ℕ) (c : Call) (r : Reply) (result : Result (Unit {0}) FlashStop)
    (f g : Fields) (on : Option Fields) (told now : Told) (w v : ℕ → ℕ) (was are : Counts) (armed after_armed : Option Arming) (power after_power : Bool)
    (agents : IsTrue (is_agents c)) (power_was : power ≡ true) (power_is : after_power ≡ is_ok result) (ends : TellsFlash r result)
    (leaves : Left result passes c (kept_at tells f told w) (kept_at tells g now v)) where
  called-turns : Spends result was are → StaysUnarmed result armed after_armed was are
      → TakesOn files c f (at (Some f) told w was armed power) r (at on now v are after_armed after_power)
      → CallSays passes tells c (Some f) (at (Some f) told w was armed power) r on (at on now v are after_armed after_power)
      → (IsTrue tells → (E : Setting) (from : Condition) → E.passes ≡ passes → IsAt E from (Some f) told
      → (next : Condition) × Step E from (quiet_turn c r) next × IsAt E next on now)
      → Turns passes tells files c (quiet_turn c r) (at (Some f) told w was armed power) (at on now v are after_armed after_power) faults faults
  called-turns costs free takes says step = record {
    call_is = refl;
    unnumbered = λ no. refl;
    counts = record { faults = costs.faults; cuts = costs.cuts; reached = costs.reached; chances = costs.chances };
    made = makes-none c was.made are.made (needs-agent c agents) costs.made;
    armed = never-cuts c r after_armed (needs-agent c agents);
    free = λ no. subst (λ (q : Result (Unit {0}) FlashStop). StaysUnarmed q armed after_armed was are) ends.stop_is free;
    lost = λ e. costs.lost (ends.stop_is ∙ ap stop_told e);
    failed = λ e. costs.failed (ends.stop_is ∙ ap stop_told e);
    once = omega (arith, costs.once, ap stops_in ends.stop_is);
    unread = λ e. absurd (ends.no_read e);
    lacking = λ lacks some. absurd (lacks-none files c (never-sends c agents) lacks);
    later = omega arith;
    unread_once = omega arith;
    reads_none = λ sends. refl;
    replies = replies-of passes tells files c f _ _ r agents refl says;
    takes = record { by_call = takes; unread = λ e. absurd (ends.no_read e) };
    touches = touches-called c f w v agents leaves.touches leaves.touches_one;
    power = power_is ∙ ends.power_is power power_was;
    guard = λ test. leaves.stays.guard test;
    step = λ test E from passes_are files_are is chance. step test E from passes_are is;
    keeps = λ test h on no. subst (λ (x : Fields). KeepsSparedByAll x told now) (same_Some f h on) (leaves.keeps test);
    spares = λ test h on no whole. subst (λ (x : Fields). KeepsSpared x told now) (same_Some f h on) (leaves.spares whole test);
    decides = λ test h on is whole. subst (λ (x : Fields). DecidesAfter c x told now) (same_Some f h on) (leaves.decides whole test);
    safe = λ test safe.
        let rest = subst (λ (b : Bool). IsSafe b told) power_was safe in
        subst (λ (b : Bool). IsSafe b now) (sym power_is) (safe-by result told now (leaves.stays.guard test) rest (leaves.guarded test rest));
    boots = λ test off clean is. absurd cc;
  }

-- ---- a call that was answered or refused

module _ (passes : List ℕ → Bool) (tells : Bool) (files : Option Directory) (faults : ℕ) (c : Call) (r : Reply) (f g : Fields) (told now : Told) (w v : ℕ → ℕ) (was are : Counts) (armed after_armed : Option Arming) (power after_power : Bool)
    (agents : IsTrue (is_agents c)) (none : IsFalse (is_stop r)) (power_was : power ≡ true) (power_is : after_power ≡ true)
    (answers : IsTrue tells → (E : Setting) (s : State) (x : Session) → IsSettingOf f passes E → agent.Shows (kept_at tells f told w) s x
    → (r ≡ (answer E s x c).reply) × ShowsNext E s x c (kept_at tells g now v))
    (says : AnswersTo passes c r (kept_at tells f told w) (kept_at tells g now v))
    (leaves : Left (Ok tt) passes c (kept_at tells f told w) (kept_at tells g now v)) where
  answered-step : IsTrue tells → (E : Setting) (from : Condition) → E.passes ≡ passes → IsAt E from (Some f) told
      → (next : Condition) × Step E from (quiet_turn c r) next × IsAt E next (Some g) now
  answered-step test E from passes_are is =
      let on = is.shows in
      let s = on.state in
      let x = from.session in
      let setting : IsSettingOf f passes E = record { layout = on.layout; verifier = passes_are } in
      let shows = told-shows tells f told s x w test on.shows in
      let exact = answers test E s x setting shows in
      let does = leaves.does E s x setting shows test on.ready in (
        moved_on from c (after s (answer E s x c).moves ∷ []) (answer E s x c).next,
        Answered none (asks c tells f told w s x (never-boots c (needs-agent c agents)) shows) (record {
          state = s;
          found = record { candidate = among from.candidates s on.one; numbers = tt };
          numbers = no-numbers c (never-boots c (needs-agent c agents));
          reply_is = exact.0;
          next_is = refl;
        }),
        record {
          guard = same-guards told now (leaves.stays.guard test) is.guard;
          shows = record {
            state = after s (answer E s x c).moves;
            one = refl;
            layout = on.layout ∙ sym leaves.stays.layout;
            shows = as-told tells g now _ _ test (shows-as tells g now _ _ v exact.1);
            ready = does.all;
          };
        },
      )

  turns-answered : Spends {T = Unit {0}} (Ok tt) was are → StaysUnarmed {T = Unit {0}} (Ok tt) armed after_armed was are → TakesOn files c f (at (Some f) told w was armed power) r (at (Some g) now v are after_armed after_power)
      → Turns passes tells files c (quiet_turn c r) (at (Some f) told w was armed power) (at (Some g) now v are after_armed after_power) faults faults
  turns-answered costs free takes =
      called-turns passes tells files faults c r (Ok tt) f g (Some g) told now w v was are armed after_armed power after_power agents
      power_was power_is (tells-answered r none) leaves costs free takes says answered-step

-- ---- a call that the flash stopped

abbrev stopped_reply : FlashStop → Reply
stopped_reply flash_stop.Lost = reply.Lost
stopped_reply flash_stop.Failed = reply.Fault

is-stop : (why : FlashStop) → IsTrue (is_stop (stopped_reply why))
is-stop flash_stop.Lost = refl
is-stop flash_stop.Failed = refl

own-moves : (why : FlashStop) (E : Setting) (s : State) (x : Session) (c : Call) → stopped_moves E s x c (stopped_reply why) ≡ (answer E s x c).moves
own-moves flash_stop.Lost E s x c = refl
own-moves flash_stop.Failed E s x c = refl

flash-stops : (why : FlashStop) → IsFlashStop (stopped_reply why)
flash-stops flash_stop.Lost = tt
flash-stops flash_stop.Failed = tt

tells-stopped : (why : FlashStop) → TellsFlash (stopped_reply why) (Err why)
tells-stopped flash_stop.Lost = record { stop_is = refl; no_read = λ e. cc; power_is = λ power on. refl }
tells-stopped flash_stop.Failed = record { stop_is = refl; no_read = λ e. cc; power_is = λ power on. refl }

module _ (passes : List ℕ → Bool) (tells : Bool) (files : Option Directory) (faults : ℕ) (c : Call) (why : FlashStop) (f g : Fields) (told now : Told) (w v : ℕ → ℕ) (was are : Counts) (armed after_armed : Option Arming) (power after_power : Bool)
    (agents : IsTrue (is_agents c)) (power_was : power ≡ true) (power_is : after_power ≡ false)
    (leaves : Left (Err why) passes c (kept_at tells f told w) (kept_at tells g now v)) where
  stopped-step : IsTrue tells → (E : Setting) (from : Condition) → E.passes ≡ passes → IsAt E from (Some f) told
      → (next : Condition) × Step E from (quiet_turn c (stopped_reply why)) next × IsAt E next None now
  stopped-step test E from passes_are is =
      let on = is.shows in
      let s = on.state in
      let x = from.session in
      let setting : IsSettingOf f passes E = record { layout = on.layout; verifier = passes_are } in
      let shows = told-shows tells f told s x w test on.shows in
      let does = leaves.does E s x setting shows test on.ready in (
        moved_on from c (prefixes s (stopped_moves E s x c (stopped_reply why))) Off,
        Stopped (is-stop why) (asks c tells f told w s x (never-boots c (needs-agent c agents)) shows) (record {
          state = s;
          found = record { candidate = among from.candidates s on.one; numbers = tt };
          numbers = no-numbers c (never-boots c (needs-agent c agents));
          reads = λ e. absurd ((tells-stopped why).no_read e);
          next_is = refl;
        }),
        record {
          guard = same-guards told now (leaves.stays.guard test) is.guard;
          shows = (refl, subst (λ ms. LeavesOneOf E (prefixes s ms) now) (sym (own-moves why E s x c)) does.each);
        },
      )

  turns-stopped : Spends {T = Unit {0}} (Err why) was are → StaysUnarmed {T = Unit {0}} (Err why) armed after_armed was are
      → TakesOn files c f (at (Some f) told w was armed power) (stopped_reply why) (at None now v are after_armed after_power)
      → Turns passes tells files c (quiet_turn c (stopped_reply why)) (at (Some f) told w was armed power) (at None now v are after_armed after_power) faults faults
  turns-stopped costs free takes =
      called-turns passes tells files faults c (stopped_reply why) (Err why) f g None told now w v was are armed after_armed power after_power
      agents power_was power_is (tells-stopped why) leaves costs free takes (flash-stops why) stopped-step

-- ---- any call, by its result

-- what going back says, on any device
abbrev pub GoesBackAs : {T : Type 0} → (T → Reply) → Result T Stop → State → Session → agent.Moment → Type 0
GoesBackAs says (Ok value) s x new = GoesBackBy (says value) s x new
GoesBackAs says (Err (stop.Status st)) s x new = GoesBackBy (reply.Refused st) s x new
GoesBackAs says (Err other) s x new = ⊤

-- what a call of an agent that isn't gone says of its turn
pub record Called {T : Type 0} (says : T → Reply) (result : Result T Stop) (passes : List ℕ → Bool) (c : Call) (old new : agent.Moment) : Type 0 where
  pub single : IsTrue (is_single c)
  pub never : (value : T) → IsFalse (is_stop (says value))
  pub here : result ≡ Err stop.Gone → ⊥
  pub exact : (E : Setting) (s : State) (x : Session) → IsSettingOf old.fields passes E → agent.Shows old s x → IsDecided old.tells c
      → Answers (λ value q. IsReplyOf old.tells c q (says value)) result E s x c new
  pub back : IsPreviousCall c → (s : State) (x : Session) → agent.Shows old s x → GoesBackAs says result s x new
  pub permitted : IsPreviousCall c → (value : T) → result ≡ Ok value → PermitsBack passes (says value) old.fields
  pub leaves : LeavesFlash (flash_result result) passes c old new

-- a refusal is the machine's, of each call
refused-reply : (tells : Bool) (c : Call) (q : Reply) (st : Status) → q ≡ reply.Refused st → IsReplyOf tells c q (reply.Refused st)
refused-reply tells (call.Read handle room) q st is = (λ test. is, is)
refused-reply tells other q st is = is

module _ {T : Type 0} (says : T → Reply) (passes : List ℕ → Bool) (tells : Bool) (files : Option Directory) (faults : ℕ) (c : Call) (f g : Fields) (told now : Told) (w v : ℕ → ℕ) (was are : Counts) (armed after_armed : Option Arming) (power after_power : Bool)
    (power_was : power ≡ true) where
  exact-told : (what : Call) (r : Reply) → AnswersCall passes what r (kept_at tells f told w) (kept_at tells g now v)
      → IsTrue tells → (E : Setting) (s : State) (x : Session) → IsSettingOf f passes E → agent.Shows (kept_at tells f told w) s x
      → (r ≡ (answer E s x what).reply) × ShowsNext E s x what (kept_at tells g now v)
  exact-told what r answers test E s x setting shows =
      let exact = answers.exact E s x setting shows (decided tells what test) in
      (sym (own-reply tells what (answer E s x what).reply r test exact.0), exact.1)

  pub call-turns : (result : Result T Stop) → Called says result passes c (kept_at tells f told w) (kept_at tells g now v)
      → IsMetaAfter c f g.meta → after_power ≡ is_ok (flash_result result) → Spends (flash_result result) was are
      → StaysUnarmed (flash_result result) armed after_armed was are
      → TakesOn files c f (at (Some f) told w was armed power) (reply_by says result) (at (on_by result g) now v are after_armed after_power)
      → Turns passes tells files c (quiet_turn c (reply_by says result)) (at (Some f) told w was armed power) (at (on_by result g) now v are after_armed after_power) faults faults
  call-turns (Ok value) called after power_is costs free takes =
      let answers : AnswersCall passes c (says value) (kept_at tells f told w) (kept_at tells g now v) =
      record { exact = called.exact; back = called.back; permitted = λ previous. called.permitted previous value refl; stays = called.leaves.stays } in
      turns-answered passes tells files faults c (says value) f g told now w v was are armed after_armed power after_power (single-agents c called.single) (called.never value) power_was power_is
      (exact-told c (says value) answers) (answers-to passes c _ _ _ called.single answers) (left-by after called.leaves) costs free takes
  call-turns (Err (stop.Status st)) called after power_is costs free takes =
      let answers : AnswersCall passes c (reply.Refused st) (kept_at tells f told w) (kept_at tells g now v) = record {
        exact = λ E s x setting shows d. let h = called.exact E s x setting shows d in (refused-reply tells c _ st h.0, h.1);
        back = called.back;
        permitted = λ previous. tt;
        stays = called.leaves.stays;
      } in
      turns-answered passes tells files faults c (reply.Refused st) f g told now w v was are armed after_armed power after_power (single-agents c called.single) refl power_was power_is
      (exact-told c (reply.Refused st) answers) (answers-to passes c _ _ _ called.single answers) (left-by after called.leaves) costs free takes
  call-turns (Err stop.Lost) called after power_is costs free takes =
      turns-stopped passes tells files faults c flash_stop.Lost f g told now w v was are armed after_armed power after_power (single-agents c called.single) power_was power_is (left-by after called.leaves) costs free takes
  call-turns (Err stop.Fault) called after power_is costs free takes =
      turns-stopped passes tells files faults c flash_stop.Failed f g told now w v was are armed after_armed power after_power (single-agents c called.single) power_was power_is (left-by after called.leaves) costs free takes
  call-turns (Err stop.Gone) called after power_is costs free takes = absurd (called.here refl)

-- ---- a partial begin

-- the same parts where the bytes that are copied are the same
copied-same : (named : List Bool) (bytes others : ℕ → List ℕ) → ((i : ℕ) → i < length named → get_or named i true ≡ false → bytes i ≡ others i)
    → copied_parts named bytes ≡ copied_parts named others
unfolding copied_parts
copied-same named bytes others same =
    listed-same (λ i. copied_part (get_or named i true) (bytes i)) (λ i. copied_part (get_or named i true) (others i)) (length named) Nothing
    (λ i below. part i below (get_or named i true) refl)
  where
    part : (i : ℕ) → i < length named → (is : Bool) → get_or named i true ≡ is → copied_part is (bytes i) ≡ copied_part is (others i)
    part i below true e = refl
    part i below false e = ap (λ (b : List ℕ). Committed b true) (same i below e)

-- the machine's answer is that at these bytes, where they are the active bank's
begin-is : (E : Setting) (s : State) (x : Session) (types : List (List ℕ)) (bytes : ℕ → List ℕ) → IsFalse (is_off x)
    → ((i : ℕ) → i < length (are_named E.layout.rows types) → get_or (are_named E.layout.rows types) i true ≡ false → bytes i ≡ image_held s s.active i)
    → answer E s x (call.BeginPartial types) ≡ begins_over E s x types bytes
unfolding answer answer_begin_partial
begin-is E s Off types bytes on same = absurd cc
begin-is E s (On boot staging handles) types bytes on same =
    ap (λ (parts : List Staged). cond (cannot_begin s boot staging) (refused status.Denied (On boot staging handles))
    (cond (names_unknown E.layout.rows types) (refused status.Unknown (On boot staging handles))
    (answered reply.Success (begin_moves s) (On boot (Some parts) no_handles))))
    (sym (copied-same (are_named E.layout.rows types) bytes (image_held s s.active) same))

module _ (passes : List ℕ → Bool) (tells : Bool) (files : Option Directory) (faults : ℕ) (types : List (List ℕ)) (f g : Fields) (told now : Told) (w v : ℕ → ℕ) (was are : Counts) (armed after_armed : Option Arming) (power after_power : Bool)
    (power_was : power ≡ true) where
  abbrev named : List Bool
  named = are_named f.layout.rows types

  abbrev before : agent.Moment
  before = kept_at tells f told w

  abbrev behind : agent.Moment
  behind = kept_at tells g now v

  abbrev begin : Call
  begin = call.BeginPartial types

  count-is : length named ≡ length f.layout.rows
  count-is = length-map f.layout.rows (λ (r : ImageRow). list_any (same_bytes r.guid) types)

  module _ (result : Result (Unit {0}) Stop) (begins : BeginsPartly types named passes result before behind) where
    -- where the device tells its content, the machine's own answer is the one at the bytes that were copied
    own : (E : Setting) (s : State) (x : Session) → IsSettingOf f passes E → agent.Shows before s x → IsTrue tells
        → answer E s x begin ≡ begins_over E s x types begins.bytes
    own E s x setting shows test = begin-is E s x types begins.bytes (subst (λ (y : Session). IsFalse (is_off y)) (sym shows.means) refl)
        (subst (λ (L : Layout). (i : ℕ) → i < length (are_named L.rows types) → get_or (are_named L.rows types) i true ≡ false → begins.bytes i ≡ image_held s s.active i)
        (sym setting.layout) (begins.read test s x shows))

    left : Left (flash_result result) passes begin before behind
    left = record {
      does = λ E s x setting shows test ready.
          subst (λ (a : Answer). Does (flash_result result) E s a.moves now) (sym (own E s x setting shows test)) (begins.does E s x setting shows test ready);
      guarded = begins.guarded;
      keeps = begins.keeps;
      touches = begins.touches;
      touches_one = λ whole. absurd cc;
      spares = λ whole. absurd cc;
      decides = λ whole. absurd cc;
      stays = begins.stays;
    }

    module _ (r : Reply)
        (exact : (E : Setting) (s : State) (x : Session) → IsSettingOf f passes E → agent.Shows before s x
        → (r ≡ (begins_over E s x types begins.bytes).reply)
        × agent.Shows behind (after s (begins_over E s x types begins.bytes).moves) (begins_over E s x types begins.bytes).next) where
      exact-own : IsTrue tells → (E : Setting) (s : State) (x : Session) → IsSettingOf f passes E → agent.Shows before s x
          → (r ≡ (answer E s x begin).reply) × ShowsNext E s x begin behind
      exact-own test E s x setting shows =
          subst (λ (a : Answer). (r ≡ a.reply) × agent.Shows behind (after s a.moves) a.next) (sym (own E s x setting shows test)) (exact E s x setting shows)

      says-begun : (r ≡ reply.Success → (IsDone result → (i : ℕ) → i < length named → get_or named i true ≡ false → length (begins.bytes i) ≡ total_of f (Some i))
          → (i : ℕ) → i < length named → get_or named i true ≡ false → length (begins.bytes i) ≡ total_of f (Some i))
          → AnswersBegin passes types r before behind
      says-begun count = record {
        bytes = begins.bytes;
        count = λ is i below. count is begins.count i (omega (arith, below, count-is));
        read = λ test s x shows i below. begins.read test s x shows i (omega (arith, below, count-is));
        exact = exact;
        stays = begins.stays;
      }

  exact-as : (bytes : ℕ → List ℕ) (r : Reply) → ((E : Setting) (s : State) (x : Session) → IsSettingOf f passes E → agent.Shows before s x
      → ((begins_over E s x types bytes).reply ≡ r) × agent.Shows behind (after s (begins_over E s x types bytes).moves) (begins_over E s x types bytes).next)
      → (E : Setting) (s : State) (x : Session) → IsSettingOf f passes E → agent.Shows before s x
      → (r ≡ (begins_over E s x types bytes).reply) × agent.Shows behind (after s (begins_over E s x types bytes).moves) (begins_over E s x types bytes).next
  exact-as bytes r exact E s x setting shows = let h = exact E s x setting shows in (sym h.0, h.1)

  -- what its turn does
  pub begin-turns : (result : Result (Unit {0}) Stop) → (result ≡ Err stop.Gone → ⊥) → BeginsPartly types named passes result before behind
      → after_power ≡ is_ok (flash_result result) → Spends (flash_result result) was are
      → StaysUnarmed (flash_result result) armed after_armed was are
      → TakesOn files begin f (at (Some f) told w was armed power) (reply_by (λ (_ : Unit {0}). reply.Success) result) (at (on_by result g) now v are after_armed after_power)
      → Turns passes tells files begin (quiet_turn begin (reply_by (λ (_ : Unit {0}). reply.Success) result)) (at (Some f) told w was armed power) (at (on_by result g) now v are after_armed after_power) faults faults
  begin-turns (Ok value) here begins power_is costs free takes =
      turns-answered passes tells files faults begin reply.Success f g told now w v was are armed after_armed power after_power refl refl power_was power_is
      (exact-own (Ok value) begins reply.Success (exact-as begins.bytes reply.Success begins.exact)) (says-begun (Ok value) begins reply.Success (exact-as begins.bytes reply.Success begins.exact) (λ is count. count tt)) (left (Ok value) begins) costs free takes
  begin-turns (Err (stop.Status st)) here begins power_is costs free takes =
      turns-answered passes tells files faults begin (reply.Refused st) f g told now w v was are armed after_armed power after_power refl refl power_was power_is
      (exact-own (Err (stop.Status st)) begins (reply.Refused st) (exact-as begins.bytes (reply.Refused st) begins.exact)) (says-begun (Err (stop.Status st)) begins (reply.Refused st) (exact-as begins.bytes (reply.Refused st) begins.exact) (λ is count. absurd cc)) (left (Err (stop.Status st)) begins) costs free takes
  begin-turns (Err stop.Lost) here begins power_is costs free takes =
      turns-stopped passes tells files faults begin flash_stop.Lost f g told now w v was are armed after_armed power after_power refl power_was power_is (left (Err stop.Lost) begins) costs free takes
  begin-turns (Err stop.Fault) here begins power_is costs free takes =
      turns-stopped passes tells files faults begin flash_stop.Failed f g told now w v was are armed after_armed power after_power refl power_was power_is (left (Err stop.Fault) begins) costs free takes
  begin-turns (Err stop.Gone) here begins power_is costs free takes = absurd (here refl)
