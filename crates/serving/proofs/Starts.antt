-- A serving that begins, with one turn more, and one request that acts.
use Rattle.std.proofs.Common.{◌≡◌, ℕ, Bool, false, cond, List, ◌∷◌, ◌++◌, Option, Ok, Err, Result, None, refl, sym, ap, subst, ◌∙◌, arith, IsFalse, append_assoc, [], ◌+◌, take}
use Rattle.std.specs.Prelude.{◌||◌, IfErr, IfOk, All}
use Rattle.std.specs.{List.list_any, Io.KnownBytes.Appends}
use Rattle.std.proofs.lemmas.List.Elements.{All-cons, All-nil}
use Rattle.std.proofs.{lemmas.List.Folds.list_any-append, lemmas.List.Sums.sum_by-append, KnownBytes.Appends-nil}
use Rattle.host_io.specs.{Contents.Directory, Calls.raised, Printed.all, Printed.front, Printed.nothing}
use Rattle.fwu_model.specs.{Call.Call, Reply.Reply, Reply.Turn, Run.ends_run, Run.is_send}
use Rattle.fwu_model.specs.Call as call
use Rattle.fwu_model.specs.Causes.{FileNotRead, cuts_in, is_cut}
use Rattle.fwu_model.specs.Reply as reply
use Rattle.script_turns.specs.Powered.{TurnMoment}
use Rattle.script_turns.proofs.RunTurns.{ran-on, ran-none}
use Rattle.wire_frames.specs.Frames.{frame, numbered}
use Rattle.fwu_wire.specs.Replies.{message}
use Rattle.serving.specs.Serving.{OneTurn, Puts, ActsOn, OneReply, ended, ServesNew, answered}
use Rattle.serving.specs.{Ends.IsEarlyEnd, Ends.end_by, Ends.status_after, Ends.status_of, declared.ends.ServeEnd.ServeEnd}
use Rattle.serving.specs.Scene.{Port, RanIn, RunAt, Scene, At, begin_at, unasked}
use Rattle.serving.specs.Going.{ServeBoots, ServesRequests, GoesOn, ServesFrom, started}
use Rattle.serving.specs.declared.ends.ServeEnd.TheVariants as end

-- ---- a turn that reads no file

reads-none : (files : Option Directory) (was are : ℕ) (c : Call) → IsFalse (is_send c) → FileNotRead files was are c → ⊥
reads-none files was are (call.Send name request) none = absurd cc
reads-none files was are (call.SendPartial name request) none = absurd cc
reads-none files was are other none = λ e. e

-- a turn after which a serving goes on doesn't end a run
pub goes-none : (files : Option Directory) (was are : ℕ) (c : Call) (r : Reply) → IsFalse (is_send c) → (r ≡ reply.ReadFault → FileNotRead files was are c) → end_by r ≡ Ok tt → IsFalse (ends_run r)
goes-none files was are c reply.ReadFault none unread is = absurd (reads-none files was are c none (unread refl))
goes-none files was are c reply.Fault none unread is = absurd (omega (arith, ap status_after is))
goes-none files was are c (reply.NotBooted why) none unread is = absurd (omega (arith, ap status_after is))
goes-none files was are c any none unread is = refl

-- ---- the journal

-- it went on behind this turn
abbrev pub Goes : Turn → Type 0
Goes t = end_by t.reply ≡ Ok tt

pub any-more : {X : Type 0} (p : X → Bool) (xs : List X) (x : X) → IsFalse (list_any p xs) → IsFalse (p x) → IsFalse (list_any p (xs ++ x ∷ []))
any-more p xs x none is = list_any-append p xs (x ∷ []) ∙ ap (λ (b : Bool). b || (p x || false)) none ∙ ap (λ (b : Bool). b || false) is

pub uncut-more : (journal : List Turn) (t : Turn) → cuts_in journal ≡ 0 → IsFalse (is_cut t.call) → cuts_in (journal ++ t ∷ []) ≡ 0
uncut-more journal t none uncut =
    let sums = sum_by-append (λ (x : Turn). cond (is_cut x.call) 1 0) journal (t ∷ []) in
    let zero_is : ◌≡◌ {A = ℕ} (cond (is_cut t.call) 1 0) 0 = ap (λ (b : Bool). cond b 1 0) uncut in
    omega (arith, sums, none, zero_is)

-- What is known of a journal behind its first turns, however the last of its turns ended.
pub record Stands (E : Scene) (first : List Turn) (start : TurnMoment) (now : RunAt) : Type 0 where
  pub turns : List Turn
  pub journal_is : now.journal ≡ first ++ turns
  pub ran : RanIn E now.journal start now.moment
  pub uncut : cuts_in now.journal ≡ 0

module _ (E : Scene) (first : List Turn) (start : TurnMoment) where
  pub stands-on : (c : Call) (t : Turn) (mid new : RunAt) → start.on ≡ None → Stands E first start mid → IsFalse (list_any (λ (x : Turn). ends_run x.reply) mid.journal) → OneTurn E c t mid new → Stands E first start new
  stands-on c t mid new off was none one = record {
    turns = was.turns ++ t ∷ [];
    journal_is = one.kept ∙ ap (λ (j : List Turn). j ++ t ∷ []) was.journal_is ∙ append_assoc first was.turns (t ∷ []);
    ran = subst (λ (j : List Turn). RanIn E j start new.moment) (sym one.kept)
        (ran-on E.passes E.tells E.files c t mid.journal start mid.moment new.moment E.faults E.faults E.faults off was.ran none one.turns one.fits);
    uncut = ap cuts_in one.kept ∙ uncut-more mid.journal t was.uncut (ap is_cut one.turns.call_is ∙ one.uncut);
  }

  -- nothing was done
  pub stands-still : (mid new : RunAt) → Stands E first start mid → new ≡ mid → Stands E first start new
  stands-still mid new was same = subst (λ (run : RunAt). Stands E first start run) (sym same) was

-- ---- a frame that was put

-- all of it was, where the serving goes on
pub put-all : (piece : List ℕ) (result : Result (Unit {0}) ServeEnd) (old new : Port) → Puts piece result old new → result ≡ Ok tt → Appends old.bytes new.bytes piece × (new.faults ≡ old.faults)
put-all piece result old new (all is took same) goes = (took, same)
put-all piece result old new (front three n took later one) goes = let zero_is : status_after result ≡ 0 = ap status_after goes in absurd (omega (arith, three, zero_is))
put-all piece result old new (nothing nine none same) goes = let zero_is : status_after result ≡ 0 = ap status_after goes in absurd (omega (arith, nine, zero_is))

early-some : (e : ServeEnd) → IsEarlyEnd e → status_of e ≡ 0 → ⊥
early-some end.End early is = early
early-some other early is = omega (arith, is)

at-three : (e : ServeEnd) → status_of e ≡ 3 → e ≡ end.SinkFailed
at-three end.SinkFailed is = refl
at-three other is = absurd (omega (arith, is))

at-nine : (e : ServeEnd) → status_of e ≡ 9 → e ≡ end.NoMemory
at-nine end.NoMemory is = refl
at-nine other is = absurd (omega (arith, is))

-- why it was not, where the serving ends by it
pub data StopsPut (e : ServeEnd) (before after : ℕ) : Type 0 where
  at_sink : e ≡ end.SinkFailed → after ≡ raised before → StopsPut e before after
  at_memory : e ≡ end.NoMemory → after ≡ before → StopsPut e before after

pub put-stops : (piece : List ℕ) (e : ServeEnd) (old new : Port) → Puts piece (Err e) old new → IsEarlyEnd e → StopsPut e old.faults new.faults
put-stops piece e old new (all is took same) early = absurd (early-some e early is)
put-stops piece e old new (front three n took later one) early = at_sink (at-three e three) one
put-stops piece e old new (nothing nine none same) early = at_memory (at-nine e nine) same

-- ---- the first request of a serving finds its boot done

pub stands-none : (E : Scene) (start : TurnMoment) → start.on ≡ None → Stands E [] start (begin_at start)
stands-none E start off = record { turns = []; journal_is = refl; ran = ran-none E.passes E.tells E.files start E.faults off; uncut = refl }

module _ (E : Scene) (start : TurnMoment) (sink : Port) (off : start.on ≡ None) (t : Turn) (mid : RunAt) (one : OneTurn E call.Boot t (begin_at start) mid) (goes : end_by t.reply ≡ Ok tt) where
  booted : ServesRequests E (t ∷ []) start [] (unasked mid sink) (unasked mid sink)
  booted =
      let stands = stands-on E [] start call.Boot t (begin_at start) mid off (stands-none E start off) refl one in
      record {
        turns = [];
        journal_is = one.kept;
        goes = subst (All Goes) (sym one.kept) (All-cons Goes t [] goes (All-nil Goes));
        ran = stands.ran;
        none = subst (λ (j : List Turn). list_any (λ (u : Turn). ends_run u.reply) j ≡ false) (sym one.kept)
            (ap (λ (b : Bool). b || false) (goes-none E.files E.faults E.faults call.Boot t.reply refl one.turns.unread goes));
        uncut = stands.uncut;
        answers = record { calls_are = refl; count = refl; kept = λ some. absurd (omega (arith, some)) };
        took = Appends-nil sink.bytes;
        quiet = refl;
      }

  pub serves-on : (new : At) (e : ServeEnd) (from to : Port) → GoesOn E (unasked mid sink) new e from to → ServesFrom E start sink new e from to
  serves-on new e from to ends = started t mid one goes (ends (t ∷ []) start off booted)

-- ---- a request that acts, from what was done for it

pub acts-by : (E : Scene) (c : Call) (t : Turn) (old new : RunAt) (out : List ℕ) (result : Result ℕ ServeEnd) → OneTurn E c t old new → IfOk result (λ n. end_by t.reply ≡ Ok tt)
    → IfOk result (λ n. take n out ≡ message t.reply) → IfErr result (λ e. end_by t.reply ≡ Err e) → ActsOn E c old new out result
acts-by E c t old new out (Ok n) one goes bytes ends = record { turn = t; one = one; goes = goes; bytes_are = bytes }
acts-by E c t old new out (Err e) one goes bytes ends = ended t one ends

-- the reply of a request that acts is kept, and put
pub new-answered : (E : Scene) (number size : ℕ) (c : Call) (old new : At) (result : Result (Unit {0}) ServeEnd) (sub out : List ℕ) → OneReply E c (take size sub) old.run new.run
    → take (8 + size) out ≡ frame (numbered number (take size sub)) → new.exchange ≡ record { last = number; reply = take (8 + size) out } → Puts (take (8 + size) out) result old.sink new.sink → ServesNew E number c old new result
new-answered E number size c old new result sub out one whole kept puts =
    answered (take size sub) one (kept ∙ ap (λ (l : List ℕ). record { last = number; reply = l }) whole) (subst (λ (l : List ℕ). Puts l result old.sink new.sink) whole puts)

-- a boot, by its reply
pub boots-by : (E : Scene) (t : Turn) (old new : RunAt) (result : Result (Unit {0}) ServeEnd) → OneTurn E call.Boot t old new → result ≡ end_by t.reply → ServeBoots E old new result
boots-by E t old new (Ok value) one is = (t, one, sym is)
boots-by E t old new (Err e) one is = ended t one (sym is)
