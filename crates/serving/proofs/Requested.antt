-- No answer to a request is a refused boot, on any device.
use Rattle.std.proofs.Common.{◌≡◌, ◌==◌, refl, sym, subst, ℕ, Bool, List, ◌∷◌, length, take, drop, get_or, Option, Some, None, IsTrue, IsFalse, IfSome, true, false, not, ◌||◌, ◌&&◌}
use Rattle.std.specs.Prelude.{nat_le, option_map, []}
use Rattle.std.specs.{List.list_any, Option.unwrap_or}
use Rattle.std.proofs.{Math.Bool.Bool-set, Math.Logic.∥∥₁_elim, lemmas.Bool.cond_both}
use Rattle.base_core.specs.Bytes.{num_at, same_bytes}
use Rattle.fwu_formats.specs.Layout.{dir_guid}
use Rattle.fwu_model.specs.Answer.{Answer, accept_image, answer, answer_accept, answer_begin, answer_cancel, answer_commit, answer_end, answer_off, answer_on, answer_open_read, answer_open_write, answer_previous, answer_read, answer_write, cannot_begin, exceeds_slot, handle_at, has_other, is_elsewhere, is_full, is_writer, may_end, may_go_back, may_leave, open_read}
use Rattle.fwu_model.specs.{Call.Call, Reply.Reply, Reply.Turn, Run.is_refused_boot, Sound.Setting, State.State, State.bank, Call.open_call}
use Rattle.fwu_model.specs.declared.kinds.Op.{Op}
use Rattle.fwu_model.specs.Call as call
use Rattle.fwu_model.specs.Reply as reply
use Rattle.fwu_model.specs.Session.{Handle, Nothing, Off, On, Session, Staged, Writes, is_committed, is_open}
use Rattle.fwu_model.specs.Session as handle
use Rattle.fwu_model.specs.declared.kinds.Op.TheVariants as op
use Rattle.host_io.specs.Contents.{Directory}
use Rattle.agent_calls.specs.AnswersCall.{AnswersCall, GoesBackBy, IsGotLike}
use Rattle.agent_machine.specs.Fields.{Fields}
use Rattle.agent_machine.specs.Moment as agent
use Rattle.script_turns.specs.{Powered.FitsMachine, Powered.TurnMoment, Powered.kept_at, Runs.Follows, Turning.Turns}
use Rattle.script_turns.specs.Replies.{AnswersTo, CallSays, IsFlashStop, Replies, no_call_reply}
use Rattle.fwu_wire.specs.Calls.{asks, asks_by, of_length, op_of, function_of}
use Rattle.fwu_wire.specs.declared.functions.Function.{Function}
use Rattle.fwu_wire.specs.declared.functions.Function.TheVariants as function
use Rattle.serving.specs.Written.{called}

-- ---- the calls of requests

abbrev pub is_asked : Call → Bool
is_asked (call.BeginPartial types) = false
is_asked (call.Send name request) = false
is_asked (call.SendPartial name request) = false
is_asked call.Boot = false
is_asked (call.Cut n k) = false
is_asked call.Show = false
is_asked other = true

abbrev MayAsk : Option Call → Type 0
MayAsk o = IfSome o (λ c. IsTrue (is_asked c))

asks-length : (n : ℕ) (args : List ℕ) (c : Call) → IsTrue (is_asked c) → MayAsk (of_length n args c)
asks-length n args c is = cond_both (length args == n) (Some c) None MayAsk (λ e. is) (λ e. tt)

asks-open : (guid : List ℕ) (o : Option Op) → MayAsk (option_map (open_call guid) o)
asks-open guid None = tt
asks-open guid (Some op.Read) = refl
asks-open guid (Some op.Write) = refl

asks-some : (f : Option Function) (args : List ℕ) → MayAsk (asks_by f args)
asks-some None args = tt
asks-some (Some function.Discover) args = asks-length 0 args call.Discover refl
asks-some (Some function.Begin) args = asks-length 8 args (call.Begin (num_at 4 args 4)) refl
asks-some (Some function.End) args = asks-length 0 args call.End refl
asks-some (Some function.Cancel) args = asks-length 0 args call.Cancel refl
asks-some (Some function.Open) args = cond_both (length args == 20) _ _ MayAsk (λ e. asks-open (take 16 args) (op_of (num_at 4 args 16))) (λ e. tt)
asks-some (Some function.WriteStream) args = cond_both (nat_le 4 (length args)) _ _ MayAsk (λ e. refl) (λ e. tt)
asks-some (Some function.ReadStream) args = cond_both ((length args == 8) && nat_le (num_at 4 args 4) 4096) _ _ MayAsk (λ e. refl) (λ e. tt)
asks-some (Some function.Commit) args = asks-length 12 args (call.Commit (num_at 4 args 0) (num_at 4 args 4)) refl
asks-some (Some function.Accept) args = asks-length 16 args (call.Accepts args) refl
asks-some (Some function.SelectPrevious) args = asks-length 0 args call.Previous refl

asked-or : (o : Option Call) → MayAsk o → IsTrue (is_asked (unwrap_or o call.NoCall))
asked-or None may = refl
asked-or (Some c) may = may

pub called-asked : (message : List ℕ) → IsTrue (is_asked (called message))
unfolding asks
called-asked message = asked-or (asks message) (asks-some (function_of (num_at 4 message 0)) (drop 4 message))

-- ---- the machine's answers

abbrev IsOther : Reply → Type 0
IsOther r = IsFalse (is_refused_boot r)

abbrev Other : Answer → Type 0
Other a = IsOther a.reply

module _ (E : Setting) (s : State) (boot : ℕ) where
  other-begin : (staging : Option (List Staged)) (handles : List Handle) (n : ℕ) → Other (answer_begin E s boot staging handles n)
  unfolding answer_begin
  other-begin staging handles n = cond_both (cannot_begin s boot staging) _ _ Other (λ e. refl) (λ e. cond_both (not (n == 0)) _ _ Other (λ f. refl) (λ f. refl))

  other-opened : (staging : Option (List Staged)) (handles : List Handle) (target : Option ℕ) → Other (open_read boot staging handles target)
  other-opened staging handles target = cond_both (is_full handles) _ _ Other (λ e. refl) (λ e. refl)

  other-open_read : (staging : Option (List Staged)) (handles : List Handle) (guid : List ℕ) (found : Option ℕ) → Other (answer_open_read E boot staging handles guid found)
  unfolding answer_open_read
  other-open_read staging handles guid (Some image) = other-opened staging handles (Some image)
  other-open_read staging handles guid None = cond_both (same_bytes guid dir_guid) _ _ Other (λ e. other-opened staging handles None) (λ e. refl)

  other-open_write : (staging : Option (List Staged)) (handles : List Handle) (guid : List ℕ) (found : Option ℕ) → Other (answer_open_write E boot staging handles guid found)
  unfolding answer_open_write
  other-open_write staging handles guid None = cond_both (same_bytes guid dir_guid) _ _ Other (λ e. refl) (λ e. refl)
  other-open_write None handles guid (Some image) = refl
  other-open_write (Some parts) handles guid (Some image) =
      cond_both (is_committed (get_or parts image Nothing)) _ _ Other (λ e. refl) (λ e. cond_both (is_open (get_or parts image Nothing) || is_full handles) _ _ Other (λ f. refl) (λ f. refl))

  other-write : (staging : Option (List Staged)) (handles : List Handle) (bytes : List ℕ) (which : Handle) → Other (answer_write E boot staging handles bytes which)
  unfolding answer_write
  other-write staging handles bytes (Writes image) = cond_both (exceeds_slot E staging image bytes) _ _ Other (λ e. refl) (λ e. refl)
  other-write staging handles bytes other = refl

  other-read : (staging : Option (List Staged)) (handles : List Handle) (h room : ℕ) (which : Handle) → Other (answer_read E s boot staging handles h room which)
  unfolding answer_read
  other-read staging handles h room handle.Free = refl
  other-read staging handles h room other = refl

  other-commit : (staging : Option (List Staged)) (handles : List Handle) (h request : ℕ) (which : Handle) → Other (answer_commit boot staging handles h request which)
  unfolding answer_commit
  other-commit staging handles h request handle.Free = refl
  other-commit staging handles h request other = refl

  other-end : (staging : Option (List Staged)) (handles : List Handle) → Other (answer_end E s boot staging handles)
  unfolding answer_end
  other-end None handles = refl
  other-end (Some parts) handles = cond_both (list_any is_writer handles) _ _ Other (λ e. refl) (λ e. cond_both (not (may_end E s parts)) _ _ Other (λ f. refl) (λ f. refl))

  other-cancel : (staging : Option (List Staged)) (handles : List Handle) → Other (answer_cancel boot staging handles)
  unfolding answer_cancel
  other-cancel None handles = refl
  other-cancel (Some parts) handles = refl

  other-accepted : (handles : List Handle) (target : Option ℕ) → Other (accept_image s boot handles target)
  other-accepted handles None = refl
  other-accepted handles (Some image) = refl

  other-accept : (staging : Option (List Staged)) (handles : List Handle) (target : Option ℕ) → Other (answer_accept s boot staging handles target)
  unfolding answer_accept
  other-accept (Some parts) handles target = refl
  other-accept None handles target = cond_both (is_elsewhere s boot) _ _ Other (λ e. refl) (λ e. other-accepted handles target)

  other-previous : (staging : Option (List Staged)) (handles : List Handle) → Other (answer_previous E s boot staging handles)
  unfolding answer_previous
  other-previous (Some parts) handles = refl
  other-previous None handles =
      cond_both (not (may_leave s boot)) _ _ Other (λ e. refl)
      (λ e. cond_both (not (has_other s)) _ _ Other (λ f. refl)
      (λ f. cond_both (not (may_go_back E s (bank s s.previous).held)) _ _ Other (λ g. refl) (λ g. refl)))

  other-on : (staging : Option (List Staged)) (handles : List Handle) (c : Call) → IsTrue (is_asked c) → Other (answer_on E s boot staging handles c)
  other-on staging handles call.Discover asked = refl
  other-on staging handles (call.Begin n) asked = other-begin staging handles n
  other-on staging handles (call.OpenRead guid) asked = other-open_read staging handles guid _
  other-on staging handles (call.OpenWrite guid) asked = other-open_write staging handles guid _
  other-on staging handles (call.Write h bytes) asked = other-write staging handles bytes (handle_at handles h)
  other-on staging handles (call.Read h room) asked = other-read staging handles h room (handle_at handles h)
  other-on staging handles (call.Commit h request) asked = other-commit staging handles h request (handle_at handles h)
  other-on staging handles call.End asked = other-end staging handles
  other-on staging handles call.Cancel asked = other-cancel staging handles
  other-on staging handles (call.Accepts guid) asked = other-accept staging handles _
  other-on staging handles call.Previous asked = other-previous staging handles
  other-on staging handles call.NoCall asked = refl
  other-on staging handles other asked = absurd cc

other-off : (E : Setting) (s : State) (c : Call) → IsTrue (is_asked c) → Other (answer_off E s c)
other-off E s call.Boot asked = absurd cc
other-off E s other asked = refl

other-answer : (E : Setting) (s : State) (x : Session) (c : Call) → IsTrue (is_asked c) → Other (answer E s x c)
unfolding answer
other-answer E s Off c asked = other-off E s c asked
other-answer E s (On boot staging handles) c asked = other-on E s boot staging handles c asked

-- ---- what a call says on any device

other-got : (q r : Reply) → IsOther q → IsGotLike q r → IsOther r
other-got q (reply.Got total bytes) other like = refl
other-got q (reply.NotBooted why) other like = subst IsOther like other
other-got q any other like = refl

other-back : (r : Reply) (s : State) (x : Session) (new : agent.Moment) → GoesBackBy r s x new → IsOther r
other-back (reply.NotBooted why) s x new goes = absurd goes
other-back any s x new goes = refl

other-stop : (r : Reply) → IsFlashStop r → IsOther r
other-stop (reply.NotBooted why) stop = absurd stop
other-stop any stop = refl

module _ (passes : List ℕ → Bool) where
  abbrev setting_of : Fields → Setting
  setting_of f = record { layout = f.layout; files = λ name. None; passes = passes }

  module _ (r : Reply) (old new : agent.Moment) (shows : agent.Showing old) where
    machine : (c : Call) → IsTrue (is_asked c) → Other (answer (setting_of old.fields) shows.state shows.session c)
    machine c asked = other-answer (setting_of old.fields) shows.state shows.session c asked

    other-call : (c : Call) → IsTrue (is_asked c) → AnswersCall passes c r old new → IsOther r
    other-call (call.Read h room) asked a =
        let is = a.exact (setting_of old.fields) shows.state shows.session (record { layout = refl; verifier = refl }) shows.shows tt in
        other-got _ r (machine (call.Read h room) asked) is.0.1
    other-call call.Previous asked a = other-back r shows.state shows.session new (a.back tt shows.state shows.session shows.shows)
    other-call c asked a =
        let is = a.exact (setting_of old.fields) shows.state shows.session (record { layout = refl; verifier = refl }) shows.shows tt in
        subst IsOther is.0 (machine c asked)

  -- where the agent is there before, it shows some machine
  other-says : (tells : Bool) (c : Call) (was is : Option Fields) (before now : TurnMoment) (r : Reply) → ((m n : agent.Moment) → AnswersTo passes c r m n → AnswersCall passes c r m n) → IsTrue (is_asked c)
      → ((f : Fields) → was ≡ Some f → ∥ agent.Showing (kept_at tells f before.told before.writes) ∥₁) → CallSays passes tells c was before r is now → IsOther r
  other-says tells c None is before now r to asked fits says = subst IsOther (sym says.0) refl
  other-says tells c (Some f) None before now r to asked fits says = other-stop r says
  other-says tells c (Some f) (Some g) before now r to asked fits says =
      ∥∥₁_elim (fits f refl) (Bool-set _ _) (λ shows. other-call r (kept_at tells f before.told before.writes) (kept_at tells g now.told now.writes) shows c asked (to _ _ says))

-- ---- a turn

no-call-other : (on : Option Fields) → IsOther (no_call_reply on)
no-call-other None = refl
no-call-other (Some f) = refl

module _ (passes : List ℕ → Bool) (tells : Bool) (files : Option Directory) (old new : TurnMoment) (t : Turn) (fits : (f : Fields) → old.on ≡ Some f → ∥ agent.Showing (kept_at tells f old.told old.writes) ∥₁) where
  other-replies : (c : Call) → IsTrue (is_asked c) → Replies passes tells files c old t new → IsOther t.reply
  other-replies call.Boot asked says = absurd cc
  other-replies call.Show asked says = absurd cc
  other-replies call.NoCall asked says = subst IsOther (sym says.0) (no-call-other old.on)
  other-replies (call.Cut n k) asked says = absurd cc
  other-replies (call.Send name request) asked says = absurd cc
  other-replies (call.SendPartial name request) asked says = absurd cc
  other-replies (call.BeginPartial types) asked says = absurd cc
  other-replies c asked says = other-says passes tells c old.on new.on old new t.reply (λ m n a. a) asked fits says

pub requested-other : (passes : List ℕ → Bool) (tells : Bool) (files : Option Directory) (c : Call) (t : Turn) (old new : TurnMoment) (was are : ℕ) → IsTrue (is_asked c) → FitsMachine tells old → Turns passes tells files c t old new was are
    → IsFalse (is_refused_boot t.reply)
requested-other passes tells files c t old new was are asked fits turns = other-replies passes tells files old new t (λ f on. (fits f on).0) c asked turns.replies

-- ---- behind a run

pub fits-last : (passes : List ℕ → Bool) (tells : Bool) (files : Option Directory) (journal : List Turn) (old new : TurnMoment) (from to : ℕ) → FitsMachine tells old → Follows passes tells files journal old new from to → FitsMachine tells new
fits-last passes tells files [] old new from to fits is = subst (FitsMachine tells) (sym is.0) fits
fits-last passes tells files (t ∷ turns) old new from to fits (mid, n, turned, next, rest) = fits-last passes tells files turns mid new n to next rest
