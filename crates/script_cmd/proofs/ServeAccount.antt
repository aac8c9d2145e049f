-- What a serving took, did and wrote, by how it ended.
use Rattle.std.proofs.Common.{◌≡◌, ◌≢◌, ◌==◌, ◌&&◌, not, cond, if◌then◌else◌, ◌≤◌, ℕ, ◌+◌, Bool, List, ◌∷◌, ◌++◌, length, length-append, take, drop, Option, Some, None, Result, Ok, Err, refl, sym, ap, subst, ◌∙◌, arith, append-nil, append_assoc, inl, inr}
use Rattle.std.specs.Prelude.{IfSome, IsTrue, IsFalse, false, true, map, slice_get, [], All, Contains, ◌<◌}
use Rattle.std.proofs.{lemmas.Bool.cases_eq, lemmas.Bool.false≢true, lemmas.List.length-map, lemmas.List.map-append}
use Rattle.std.proofs.lemmas.List.{get_or_append_left, get_or_push, length_push}
use Rattle.std.proofs.lemmas.List.Elements.{All-contains, All-nil, All-push, All-tail}
use Rattle.std.proofs.lemmas.Option.{get_or_from_slice_get, same_Some, slice_get_within}
use Rattle.std.specs.Io.KnownBytes.{Appends, Consumes, IsAtEnd}
use Rattle.std.proofs.KnownBytes.{Appends-nil, Appends-trans, Consumes-nil, Consumes-trans, Consumes-whole}
use Rattle.host_io.specs.Printed.{all, front, nothing}
use Rattle.fwu_model.specs.{Call.Call, Headline.IsPrefixOf, Reply.Reply, Reply.Turn, Run.ends_run}
use Rattle.fwu_model.specs.Call as call
use Rattle.fwu_model.specs.Reply as reply
use Rattle.fwu_wire.specs.Replies.{message}
use Rattle.script_turns.specs.{Powered.TurnMoment, Runs.calls_of}
use Rattle.wire_frames.specs.{Exchange.LastAnswer, Exchange.admission, Stream.StopsReading, declared.exchange.Admission.Admission}
use Rattle.wire_frames.specs.declared.stream.FrameStop.{FrameStop}
use Rattle.wire_frames.specs.Frames.{AreBodies, frame, frames, message_of, request_number_of, numbered}
use Rattle.wire_frames.specs.declared.exchange.Admission.TheVariants.{Acts, Repeats, Ignored}
use Rattle.wire_frames.specs.declared.stream.FrameStop.TheVariants as stop
use Rattle.wire_frames.proofs.Once.{Admits, admits}
use Rattle.serving.specs.Serving.{OneStop, Puts, ServesBy, ServesNew, answered, stopped}
use Rattle.serving.specs.Serving as acts
use Rattle.serving.specs.{Ends.IsEarlyEnd, Ends.end_by, Ends.end_of_stop, Ends.status_of, declared.ends.ServeEnd.ServeEnd}
use Rattle.serving.specs.Going.{ServesRequests, ServeEnds, TakesFrames, at_the_end, at_a_request, ServesFrom, not_started, started}
use Rattle.serving.specs.Scene.{At, Port, RunAt, Scene, begin_at, unasked}
use Rattle.serving.specs.Written.{AnswersRequests, acting, answered_numbers, called, calls_for, frame_of, messages_of, all_frames}
use Rattle.serving.specs.declared.ends.ServeEnd.TheVariants as end
use Rattle.serving.proofs.{Starts.Goes, Starts.goes-none, Steps.acting-more, Steps.frame-last, Steps.length-messages, Steps.messages-more}
use Rattle.script_runs.specs.Ending.{last_turn}
use Rattle.script_runs.proofs.TopSources.{later}
use Rattle.script_cmd.specs.ServedBy.{last_frame, reads_no_more}
use Rattle.script_cmd.proofs.PromiseTurns.{last-push, none-last, some-from}

-- ---- the ends

pub same-end : (x y : ServeEnd) → ◌≡◌ {A = Result (Unit {0}) ServeEnd} (Err x) (Err y) → y ≡ x
same-end x y is = cc

-- what the source has left has nothing to do with these
not-by-source : (e x : ServeEnd) → e ≡ x → reads_no_more (status_of x) ≡ false → IsTrue (reads_no_more (status_of e)) → ⊥
not-by-source e x is goes more = false≢true (sym goes ∙ ap (λ (y : ServeEnd). reads_no_more (status_of y)) (sym is) ∙ more)

no-memory-reads : (e : ServeEnd) → e ≡ end.NoMemory → IsTrue (reads_no_more (status_of e)) → ⊥
no-memory-reads e is = not-by-source e end.NoMemory is refl

no-turn-reads : (r : Reply) (e : ServeEnd) → end_by r ≡ Err e → IsTrue (reads_no_more (status_of e)) → ⊥
no-turn-reads reply.Fault e is = not-by-source e end.FlashFault (same-end end.FlashFault e is) refl
no-turn-reads (reply.NotBooted why) e is = not-by-source e (end.NotBooted why) (same-end (end.NotBooted why) e is) refl
no-turn-reads reply.Lost e is = not-by-source e end.PowerLost (same-end end.PowerLost e is) refl
no-turn-reads other e is = absurd cc

-- no turn ends a serving by this
not-sink : (r : Reply) → end_by r ≡ Err end.SinkFailed → ⊥
not-sink reply.Fault is = cc
not-sink other is = cc

early-some : (e : ServeEnd) → IsEarlyEnd e → status_of e ≡ 0 → ⊥
early-some end.End early is = early
early-some other early is = omega arith

-- a status but 6 is that of one end
end_at : ℕ → ServeEnd
end_at k =
    if k == 0 then end.End else if k == 2 then end.ReadFailed else if k == 3 then end.SinkFailed else if k == 5 then end.FlashFault
    else if k == 8 then end.TooLong else if k == 9 then end.NoMemory else if k == 11 then end.BadFrame else end.PowerLost

end-is : (e : ServeEnd) → status_of e ≢ 6 → end_at (status_of e) ≡ e
unfolding end_at
end-is (end.NotBooted why) other = absurd (other refl)
end-is e other = refl

pub end-at : (e x : ServeEnd) → status_of x ≢ 6 → status_of e ≡ status_of x → e ≡ x
end-at e x other is = sym (end-is e (λ six. other (sym is ∙ six))) ∙ ap end_at is ∙ end-is x other

-- ---- the turns

no-answer : (e : ServeEnd) → ◌≡◌ {A = Result (Unit {0}) ServeEnd} (Err e) (Ok tt) → ⊥
no-answer e is = cc

-- behind each of them it went on
abbrev pub AllGo : List Turn → Type 0
AllGo turns = All Goes turns

-- one by which it ends is the last
abbrev pub EndsLast : ServeEnd → List Turn → Type 0
EndsLast e journal =
    (n : ℕ) (t : Turn) (x : ServeEnd) → slice_get journal n ≡ Some t → end_by t.reply ≡ Err x → (n + 1 ≡ length journal) × (e ≡ x)

in-at : (journal : List Turn) (n : ℕ) (t : Turn) → slice_get journal n ≡ Some t → Contains journal t
in-at journal n t at = (n, slice_get_within journal n t at, get_or_from_slice_get journal n t t at)

none-ends : (e : ServeEnd) (journal : List Turn) → AllGo journal → EndsLast e journal
none-ends e journal goes n t x at ends = absurd (no-answer x (sym ends ∙ All-contains Goes journal t goes (in-at journal n t at)))

one-ends : (e : ServeEnd) (before : List Turn) (t : Turn) → AllGo before → end_by t.reply ≡ Err e → EndsLast e (before ++ t ∷ [])
one-ends e before t goes by n u x at ends =
    let journal : List Turn = before ++ t ∷ [] in
    let long = length_push before t in
    let within = slice_get_within journal n u at in
    let is = get_or_from_slice_get journal n u u at in
    elim (cases_eq n (length before)) [
      | inl last ↦
          let same : t ≡ u = sym (get_or_push before t u n (sym last)) ∙ is in
          (omega (arith, long, last), same-end x e (sym ends ∙ ap (λ (y : Turn). end_by y.reply) (sym same) ∙ by))
      | inr differs ↦
          let inside : n < length before = omega (arith, long, within, differs) in
          absurd (no-answer x (sym ends ∙ All-contains Goes before u goes (n, inside, sym (get_or_append_left before (t ∷ []) u n inside) ∙ is)))
    ]

one-long : (journal : List Turn) → drop 1 journal ≡ [] → length journal ≤ 1
one-long [] one = omega arith
one-long (t ∷ []) one = omega arith
one-long (t ∷ u ∷ turns) one = absurd (cc)

-- of one turn at most
first-ends : (e : ServeEnd) (journal : List Turn) → drop 1 journal ≡ []
    → ((t : Turn) → slice_get journal 0 ≡ Some t → end_by t.reply ≡ Err e) → EndsLast e journal
first-ends e journal one by n t x at ends =
    let long = one-long journal one in
    let within = slice_get_within journal n t at in
    let first : n ≡ 0 = omega (arith, long, within) in
    (omega (arith, long, within), same-end x e (sym ends ∙ by t (subst (λ (k : ℕ). slice_get journal k ≡ Some t) first at)))

-- ---- the account

-- what was taken where no further frame could be read
abbrev pub Stopped : List (List ℕ) → Option (List ℕ) → Option (List ℕ) → FrameStop → Type 0
Stopped bodies stream rest why =
    (mid : Option (List ℕ)) × (now : ℕ) × Consumes stream mid (frames bodies) × StopsReading why (length (frames bodies)) now mid rest

stop_of : ServeEnd → FrameStop
stop_of end.End = stop.End
stop_of end.ReadFailed = stop.Failed
stop_of end.TooLong = stop.TooLong
stop_of other = stop.BadFrame

stop-is : (why : FrameStop) → stop_of (end_of_stop why) ≡ why
unfolding stop_of
stop-is stop.End = refl
stop-is stop.Failed = refl
stop-is stop.TooLong = refl
stop-is stop.BadFrame = refl

pub stop-reads : (why : FrameStop) → reads_no_more (status_of (end_of_stop why)) ≡ true
stop-reads stop.End = refl
stop-reads other = refl

-- the call of one more request, by what becomes of it
abbrev calls_by : Admission → List ℕ → List Call
calls_by Acts body = called (message_of body) ∷ []
calls_by other body = []

abbrev call_in : List ℕ → Call
call_in body = called (message_of body)

calls-one : (last : ℕ) (body : List ℕ) → map call_in (acting last (body ∷ [])) ≡ calls_by (admission last (request_number_of body)) body
calls-one last body = by (request_number_of body == last + 1) ((request_number_of body == last) && not (request_number_of body == 0))
  where
    by : (x y : Bool) → map call_in (cond x (body ∷ []) []) ≡ calls_by (cond x Acts (cond y Repeats Ignored)) body
    by true y = refl
    by false true = refl
    by false false = refl

calls-more : (bodies : List (List ℕ)) (turns : List Turn) (a : LastAnswer) (body : List ℕ) → AnswersRequests bodies turns a
    → calls_for (bodies ++ body ∷ []) ≡ calls_for bodies ++ calls_by (admission a.last (request_number_of body)) body
calls-more bodies turns a body answers =
    let count = sym answers.count ∙ sym (length-map turns (λ (t : Turn). t.call)) ∙ ap length answers.calls_are ∙ length-map (acting 0 bodies) call_in in
    let last : a.last ≡ 0 + length (acting 0 bodies) = omega (arith, count) in
    ap (map call_in) (acting-more 0 bodies body) ∙ map-append call_in (acting 0 bodies) (acting (0 + length (acting 0 bodies)) (body ∷ []))
    ∙ ap (λ (k : ℕ). calls_for bodies ++ map call_in (acting k (body ∷ []))) (sym last)
    ∙ ap (λ (cs : List Call). calls_for bodies ++ cs) (calls-one a.last body)

-- These requests were answered by these turns, behind the boot's, and so much was written; of the reply of the last turn a part where
-- the sink failed.
pub record Account (from to : Port) (e : ServeEnd) (journal : List Turn) (before after : Option (List ℕ)) : Type 0 where
  pub bodies : List (List ℕ)
  pub turns : List Turn
  pub part : List ℕ
  pub more : List (List ℕ)
  pub one : length more ≤ 1
  pub each : AreBodies (bodies ++ more)
  pub come : IfSome from.bytes (λ s. IsPrefixOf (frames (bodies ++ more)) s)
  pub all : e ≡ end.End → IfSome from.bytes (λ s. s ≡ frames bodies)
  pub left : e ≡ end.End → IfSome to.bytes (λ l. l ≡ [])
  pub taken : IsFalse (reads_no_more (status_of e)) → Consumes from.bytes to.bytes (frames (bodies ++ more))
  pub stops : (why : FrameStop) → e ≡ end_of_stop why → Stopped bodies from.bytes to.bytes why
  pub begin : IsPrefixOf turns (drop 1 journal)
  pub all_turns : IsTrue (reads_no_more (status_of e)) → turns ≡ drop 1 journal
  pub calls : calls_of turns ≡ calls_for bodies
  pub goes : AllGo turns
  pub all_calls : IsPrefixOf (calls_of (drop 1 journal)) (calls_for (bodies ++ more))
  pub took : Appends before after (all_frames (messages_of turns) (answered_numbers 0 bodies) ++ part)
  pub none : e ≢ end.SinkFailed → part ≡ []
  pub front : e ≡ end.SinkFailed → (n : ℕ) × (part ≡ take n (last_frame (drop 1 journal)))
  pub some : e ≢ end.NoMemory → journal ≢ []
  -- nothing is read without a turn, nor where the first one ends it; and a last turn that ends a run gives the end
  pub unread : journal ≡ [] → to ≡ from
  pub first : (t : Turn) (x : ServeEnd) → slice_get journal 0 ≡ Some t → end_by t.reply ≡ Err x → to ≡ from
  pub ends : EndsLast e journal
  pub decides : (t : Turn) → last_turn journal ≡ Some t → IsTrue (ends_run t.reply) → end_by t.reply ≡ Err e

-- ---- nothing was served

-- of one turn at most the last is the first
first-of : (journal : List Turn) (t : Turn) → drop 1 journal ≡ [] → last_turn journal ≡ Some t → slice_get journal 0 ≡ Some t
first-of [] t one last = absurd (cc)
first-of (u ∷ []) t one last = last
first-of (u ∷ v ∷ turns) t one last = absurd (cc)

idle : (from to : Port) (e : ServeEnd) (journal : List Turn) (before after : Option (List ℕ)) → to ≡ from → after ≡ before
    → (IsTrue (reads_no_more (status_of e)) → ⊥) → (e ≡ end.SinkFailed → ⊥) → (e ≢ end.NoMemory → journal ≢ []) → drop 1 journal ≡ []
    → ((t : Turn) → slice_get journal 0 ≡ Some t → end_by t.reply ≡ Err e) → Account from to e journal before after
idle from to e journal before after still same goes fails some one by = record {
  bodies = [];
  turns = [];
  part = [];
  more = [];
  one = omega arith;
  each = λ k d below. absurd (omega (arith, below));
  come = some-from from.bytes (λ s. IsPrefixOf [] s) (λ s told. (s, refl));
  all = λ is. absurd (goes (ap (λ (x : ServeEnd). reads_no_more (status_of x)) is));
  left = λ is. absurd (goes (ap (λ (x : ServeEnd). reads_no_more (status_of x)) is));
  taken = λ early. subst (λ (p : Port). Consumes from.bytes p.bytes []) (sym still) (Consumes-nil from.bytes);
  stops = λ why is. absurd (goes (ap (λ (x : ServeEnd). reads_no_more (status_of x)) is ∙ stop-reads why));
  begin = (drop 1 journal, refl);
  all_turns = λ is. absurd (goes is);
  calls = refl;
  goes = All-nil Goes;
  all_calls = ([], ap (λ (ts : List Turn). calls_of ts ++ []) one);
  took = subst (λ (o : Option (List ℕ)). Appends before o []) (sym same) (Appends-nil before);
  none = λ differs. refl;
  front = λ is. absurd (fails is);
  some = some;
  unread = λ none. still;
  first = λ t x at ends. still;
  ends = first-ends e journal one by;
  decides = λ t last ends. by t (first-of journal t one last);
}

by-stop : (E : Scene) (start : TurnMoment) (sink : Port) (new : At) (e : ServeEnd) (from to : Port) → OneStop E call.Boot e (begin_at start) new.run → new.sink ≡ sink → to ≡ from → Account from to e new.run.journal sink.bytes new.sink.bytes
by-stop E start sink new e from to (acts.starved is still) same unread =
    idle from to e new.run.journal sink.bytes new.sink.bytes unread (ap (λ (p : Port). p.bytes) same) (no-memory-reads e is) (λ x. cc) (λ differs. absurd (differs is))
    (ap (λ (r : RunAt). drop 1 r.journal) still) (λ t at. absurd (no-turn t (sym (ap (λ (r : RunAt). slice_get r.journal 0) still) ∙ at)))
  where
    no-turn : (t : Turn) → slice_get [] 0 ≡ Some t → ⊥
    no-turn t is = cc
by-stop E start sink new e from to (acts.ended t one by) same unread =
    idle from to e new.run.journal sink.bytes new.sink.bytes unread (ap (λ (p : Port). p.bytes) same)
    (no-turn-reads t.reply e by) (λ x. not-sink t.reply (subst (λ (y : ServeEnd). end_by t.reply ≡ Err y) x by))
    (λ differs none. let kept : new.run.journal ≡ t ∷ [] = one.kept in cc) (ap (drop 1) one.kept)
    (λ u at.
    let same : t ≡ u = same_Some t u (sym (ap (λ (ts : List Turn). slice_get ts 0) one.kept) ∙ at) in
    ap (λ (x : Turn). end_by x.reply) (sym same) ∙ by)

-- ---- the request that ended it

record Last (e : ServeEnd) (turns : List Turn) (may : List Call) (old new : At) : Type 0 where
  more : List Turn
  part : List ℕ
  journal_is : new.run.journal ≡ old.run.journal ++ more
  took : Appends old.sink.bytes new.sink.bytes part
  none : e ≢ end.SinkFailed → part ≡ []
  front : e ≡ end.SinkFailed → (n : ℕ) × (part ≡ take n (last_frame (turns ++ more)))
  goes : IsTrue (reads_no_more (status_of e)) → ⊥
  calls : IsPrefixOf (calls_of more) may
  ends : AllGo old.run.journal → EndsLast e new.run.journal
  decides : (t : Turn) → last_turn new.run.journal ≡ Some t → IsTrue (ends_run t.reply) → end_by t.reply ≡ Err e

-- the turn that was put behind the others is the last
pushed : (old new : At) (t u : Turn) → new.run.journal ≡ old.run.journal ++ t ∷ [] → last_turn new.run.journal ≡ Some u → t ≡ u
pushed old new t u kept last = same_Some t u (sym (ap last_turn kept ∙ last-push old.run.journal t) ∙ last)

-- the last turn ends no run
abbrev Quiet : At → Type 0
Quiet new = (t : Turn) → last_turn new.run.journal ≡ Some t → IsTrue (ends_run t.reply) → ⊥

put-last : (e : ServeEnd) (turns more : List Turn) (may : List Call) (old new : At) (piece : List ℕ) → IsEarlyEnd e → new.run.journal ≡ old.run.journal ++ more → piece ≡ last_frame (turns ++ more) → IsPrefixOf (calls_of more) may → Quiet new
    → (AllGo old.run.journal → AllGo new.run.journal) → Puts piece (Err e) old.sink new.sink → Last e turns may old new
put-last e turns more may old new piece early kept is_frame calls quiet_turn on (all is bytes same) = absurd (early-some e early is)
put-last e turns more may old new piece early kept is_frame calls quiet_turn on (front is n bytes later once) = record {
  more = more;
  part = take n piece;
  journal_is = kept;
  took = bytes;
  none = λ differs. absurd (differs (end-at e end.SinkFailed (λ six. omega arith) is));
  front = λ failed. (n, ap (take n) is_frame);
  goes = λ more_is. false≢true (sym (ap reads_no_more is) ∙ more_is);
  calls = calls;
  ends = λ before. none-ends e new.run.journal (on before);
  decides = λ t last ends. absurd (quiet_turn t last ends);
}
put-last e turns more may old new piece early kept is_frame calls quiet_turn on (nothing is same quiet) = record {
  more = more;
  part = [];
  journal_is = kept;
  took = subst (λ (o : Option (List ℕ)). Appends old.sink.bytes o []) (sym same) (Appends-nil old.sink.bytes);
  none = λ differs. refl;
  front = λ failed. absurd (omega (arith, is, ap status_of failed));
  goes = λ more_is. false≢true (sym (ap reads_no_more is) ∙ more_is);
  calls = calls;
  ends = λ before. none-ends e new.run.journal (on before);
  decides = λ t last ends. absurd (quiet_turn t last ends);
}

-- where its turn ended the serving, or there was no memory for it, nothing was written
stop-last : (E : Scene) (c : Call) (e : ServeEnd) (turns : List Turn) (old new : At) → Quiet old → OneStop E c e old.run new.run → new.sink ≡ old.sink → Last e turns (c ∷ []) old new
stop-last E c e turns old new before (acts.starved is still) same = record {
  more = [];
  part = [];
  journal_is = ap (λ (r : RunAt). r.journal) still ∙ sym (append-nil old.run.journal);
  took = subst (λ (p : Port). Appends old.sink.bytes p.bytes []) (sym same) (Appends-nil old.sink.bytes);
  none = λ differs. refl;
  front = λ failed. absurd (cc);
  goes = no-memory-reads e is;
  calls = (c ∷ [], refl);
  ends = λ goes. none-ends e new.run.journal (subst (λ (r : RunAt). AllGo r.journal) (sym still) goes);
  decides = λ t last ends. absurd (before t (sym (ap (λ (r : RunAt). last_turn r.journal) still) ∙ last) ends);
}
stop-last E c e turns old new before (acts.ended t one by) same = record {
  more = t ∷ [];
  part = [];
  journal_is = one.kept;
  took = subst (λ (p : Port). Appends old.sink.bytes p.bytes []) (sym same) (Appends-nil old.sink.bytes);
  none = λ differs. refl;
  front = λ failed. absurd (not-sink t.reply (subst (λ (y : ServeEnd). end_by t.reply ≡ Err y) failed by));
  goes = no-turn-reads t.reply e by;
  calls = ([], ap (λ (x : Call). x ∷ []) one.turns.call_is);
  ends = λ goes. subst (EndsLast e) (sym one.kept) (one-ends e old.run.journal t goes by);
  decides = λ u last ends. ap (λ (x : Turn). end_by x.reply) (sym (pushed old new t u one.kept last)) ∙ by;
}

-- the frame of the turn that came last
frame-of-last : (turns : List Turn) (t : Turn) (number : ℕ) (bytes : List ℕ) → number ≡ length turns + 1 → bytes ≡ message t.reply → frame (numbered number bytes) ≡ last_frame (turns ++ t ∷ [])
frame-of-last turns t number bytes is bytes_are =
    let count : number ≡ length (turns ++ t ∷ []) = omega (arith, is, length-append turns (t ∷ [])) in
    ap (λ (b : List ℕ). frame (numbered number b)) bytes_are
    ∙ frame-last (messages_of turns) (message t.reply) number (omega (arith, is, length-messages turns))
    ∙ ap (λ (l : List (List ℕ)). frame_of l number) (sym (messages-more turns t))
    ∙ ap (λ (n : ℕ). frame_of (messages_of (turns ++ t ∷ [])) n) count

new-last : (E : Scene) (number : ℕ) (c : Call) (e : ServeEnd) (turns : List Turn) (old new : At) → IsEarlyEnd e → number ≡ length turns + 1 → Quiet old → ServesNew E number c old new (Err e) → Last e turns (c ∷ []) old new
new-last E number c e turns old new early is before (answered bytes one exchange puts) =
    let t = one.turn in
    put-last e turns (t ∷ []) (c ∷ []) old new (frame (numbered number bytes)) early one.one.kept (frame-of-last turns t number bytes is one.bytes_are)
    ([], ap (λ (x : Call). x ∷ []) one.one.turns.call_is)
    (λ u last ends. false≢true (sym (goes-none E.files E.faults E.faults c t.reply one.one.unsent one.one.turns.unread one.goes)
    ∙ ap (λ (x : Turn). ends_run x.reply) (pushed old new t u one.one.kept last) ∙ ends))
    (λ goes. subst AllGo (sym one.one.kept) (All-push Goes old.run.journal t goes one.goes)) puts
new-last E number c e turns old new early is before (stopped why stops_by same_end exchange same) =
    stop-last E c e turns old new before (subst (λ (y : ServeEnd). OneStop E c y old.run new.run) (same-end e why same_end) stops_by) same

one-last : (E : Scene) (body : List ℕ) (e : ServeEnd) (bodies : List (List ℕ)) (turns : List Turn) (old new : At) → IsEarlyEnd e
    → AnswersRequests bodies turns old.exchange → Quiet old → (a : Admission) → Admits old.exchange.last (request_number_of body) a
    → ServesBy a E body old new (Err e) → Last e turns (calls_by a body) old new
one-last E body e bodies turns old new early answers before Acts number serves =
    new-last E (request_number_of body) _ e turns old new early (omega (arith, number, answers.count)) before serves
one-last E body e bodies turns old new early answers before Repeats same serves =
    put-last e turns [] [] old new old.exchange.reply early (ap (λ (r : RunAt). r.journal) serves.run ∙ sym (append-nil old.run.journal))
    (answers.kept same.1 ∙ ap (λ (n : ℕ). frame_of (messages_of turns) n) (sym answers.count)
    ∙ ap last_frame (sym (append-nil turns))) ([], refl)
    (λ t last ends. before t (sym (ap (λ (r : RunAt). last_turn r.journal) serves.run) ∙ last) ends)
    (λ goes. subst (λ (r : RunAt). AllGo r.journal) (sym serves.run) goes) serves.puts
one-last E body e bodies turns old new early answers before Ignored none serves = absurd (no-answer e serves.1)

-- ---- what was taken of the source

consumed-front : (a b : Option (List ℕ)) (bs : List ℕ) → Consumes a b bs → IfSome a (λ s. IsPrefixOf bs s)
consumed-front None b bs c = tt
consumed-front (Some xs) None bs c = absurd c
consumed-front (Some xs) (Some ys) bs c = (ys, sym c)

nothing-left : (o : Option (List ℕ)) → IsAtEnd o → IfSome o (λ l. l ≡ [])
nothing-left None is = tt
nothing-left (Some xs) is = is

-- ---- requests were served

module _ (E : Scene) (t : Turn) (start : TurnMoment) (old new : At) (e : ServeEnd) (from to : Port) (bodies : List (List ℕ)) where
  -- the first turn didn't end it
  goes-first : (journal turns : List Turn) (u : Turn) (x : ServeEnd) → journal ≡ t ∷ turns → end_by t.reply ≡ Ok tt → slice_get journal 0 ≡ Some u → end_by u.reply ≡ Err x → ⊥
  goes-first journal turns u x is on at ends =
      let same : t ≡ u = same_Some t u (sym (ap (λ (j : List Turn). slice_get j 0) is) ∙ at) in
      no-answer x (sym ends ∙ ap (λ (y : Turn). end_by y.reply) (sym same) ∙ on)

  -- and no further frame was read
  at-end : (mid : Option (List ℕ)) (why : FrameStop) → e ≡ end_of_stop why → end_by t.reply ≡ Ok tt → ServesRequests E (t ∷ []) start bodies old new
      → TakesFrames bodies from.bytes mid → Stopped bodies from.bytes to.bytes why
      → (e ≡ end.End → IfSome from.bytes (λ s. s ≡ frames bodies) × IfSome to.bytes (λ l. l ≡ [])) → (e ≡ end.SinkFailed → ⊥)
      → Account from to e new.run.journal old.sink.bytes new.sink.bytes
  at-end mid why is on goes takes stops ends fails =
      let behind : drop 1 new.run.journal ≡ goes.turns = ap (drop 1) goes.journal_is in
      let whole : bodies ++ [] ≡ bodies = append-nil bodies in
      record {
        bodies = bodies;
        turns = goes.turns;
        part = [];
        more = [];
        one = omega arith;
        each = subst AreBodies (sym whole) takes.each;
        come = subst (λ (bs : List (List ℕ)). IfSome from.bytes (λ s. IsPrefixOf (frames bs) s)) (sym whole)
            (consumed-front from.bytes mid (frames bodies) takes.consumed);
        all = λ is. (ends is).0;
        left = λ is. (ends is).1;
        taken = λ early. absurd (false≢true (sym early ∙ ap (λ (x : ServeEnd). reads_no_more (status_of x)) is ∙ stop-reads why));
        stops = λ other again. subst (Stopped bodies from.bytes to.bytes) (sym (stop-is why) ∙ ap stop_of (sym is ∙ again) ∙ stop-is other) stops;
        begin = ([], append-nil goes.turns ∙ sym behind);
        all_turns = λ is. sym behind;
        calls = goes.answers.calls_are;
        goes = All-tail Goes t goes.turns (subst AllGo goes.journal_is goes.goes);
        all_calls = ([], append-nil (calls_of (drop 1 new.run.journal)) ∙ ap calls_of behind ∙ goes.answers.calls_are ∙ ap calls_for (sym whole));
        took = subst (Appends old.sink.bytes new.sink.bytes) (sym (append-nil (all_frames (messages_of goes.turns) (answered_numbers 0 bodies)))) goes.took;
        none = λ differs. refl;
        front = λ is. absurd (fails is);
        some = λ differs none. let all_of : new.run.journal ≡ t ∷ goes.turns = goes.journal_is in cc;
        unread = λ none. absurd (let all_of : new.run.journal ≡ t ∷ goes.turns = goes.journal_is in cc);
        first = λ u x at ends. absurd (goes-first new.run.journal goes.turns u x goes.journal_is on at ends);
        ends = none-ends e new.run.journal goes.goes;
        decides = λ u last ends. absurd (none-last new.run.journal goes.none u last ends);
      }

  by-stream : (mid : Option (List ℕ)) (taken : ℕ) (why : FrameStop) → end_by t.reply ≡ Ok tt → ServesRequests E (t ∷ []) start bodies old new → TakesFrames bodies from.bytes mid → StopsReading why (length (frames bodies)) taken mid to.bytes → e ≡ end_of_stop why
      → Account from to e new.run.journal old.sink.bytes new.sink.bytes
  by-stream mid taken stop.End on goes takes stops is =
      at-end mid stop.End is on goes takes (mid, taken, takes.consumed, stops)
      (λ x. (Consumes-whole from.bytes to.bytes (frames bodies ++ []) (λ s. s ≡ frames bodies) (Consumes-trans from.bytes mid to.bytes (frames bodies) [] takes.consumed stops.0) stops.1 (append-nil (frames bodies)), nothing-left to.bytes stops.1))
      (λ x. cc)
  by-stream mid taken why on goes takes stops is = at-end mid why is on goes takes (mid, taken, takes.consumed, stops) (λ x. absurd (cc)) (λ x. cc)

  -- or the next request ended it
  by-request : (body : List ℕ) (mid : At) (goes : ServesRequests E (t ∷ []) start bodies old mid) → end_by t.reply ≡ Ok tt → TakesFrames (bodies ++ body ∷ []) from.bytes to.bytes → IsEarlyEnd e
      → Last e goes.turns (calls_by (admission mid.exchange.last (request_number_of body)) body) mid new
      → Account from to e new.run.journal old.sink.bytes new.sink.bytes
  by-request body mid goes on takes early last =
      let all_of : new.run.journal ≡ t ∷ (goes.turns ++ last.more) = last.journal_is ∙ ap (λ (j : List Turn). j ++ last.more) goes.journal_is in
      let behind : drop 1 new.run.journal ≡ goes.turns ++ last.more = ap (drop 1) all_of in
      let may = calls_by (admission mid.exchange.last (request_number_of body)) body in
      let goes_on : e ≡ end.End → ⊥ = λ is. subst IsEarlyEnd is early in
      record {
        bodies = bodies;
        turns = goes.turns;
        part = last.part;
        more = body ∷ [];
        one = omega arith;
        each = takes.each;
        come = consumed-front from.bytes to.bytes (frames (bodies ++ body ∷ [])) takes.consumed;
        all = λ is. absurd (goes_on is);
        left = λ is. absurd (goes_on is);
        taken = λ is. takes.consumed;
        stops = λ why is. absurd (last.goes (ap (λ (x : ServeEnd). reads_no_more (status_of x)) is ∙ stop-reads why));
        begin = (last.more, sym behind);
        all_turns = λ is. absurd (last.goes is);
        calls = goes.answers.calls_are;
        goes = All-tail Goes t goes.turns (subst AllGo goes.journal_is goes.goes);
        all_calls = (
          last.calls.0,
          ap (λ (ts : List Turn). calls_of ts ++ last.calls.0) behind
              ∙ ap (λ (cs : List Call). cs ++ last.calls.0) (map-append (λ (u : Turn). u.call) goes.turns last.more)
              ∙ append_assoc (calls_of goes.turns) (calls_of last.more) last.calls.0
              ∙ ap (λ (cs : List Call). cs ++ (calls_of last.more ++ last.calls.0)) goes.answers.calls_are
              ∙ ap (λ (cs : List Call). calls_for bodies ++ cs) last.calls.1
              ∙ sym (calls-more bodies goes.turns mid.exchange body goes.answers),
        );
        took = Appends-trans old.sink.bytes mid.sink.bytes new.sink.bytes (all_frames (messages_of goes.turns) (answered_numbers 0 bodies)) last.part goes.took last.took;
        none = last.none;
        front = λ is. let f = last.front is in (f.0, f.1 ∙ ap (λ (ts : List Turn). take f.0 (last_frame ts)) (sym behind));
        some = λ differs none. cc;
        unread = λ none. absurd (cc);
        first = λ u x at ends. absurd (goes-first new.run.journal (goes.turns ++ last.more) u x all_of on at ends);
        ends = last.ends goes.goes;
        decides = last.decides;
      }

by-ends : (E : Scene) (t : Turn) (start : TurnMoment) (old new : At) (e : ServeEnd) (from to : Port) → end_by t.reply ≡ Ok tt → ServeEnds E (t ∷ []) start old new e from to → Account from to e new.run.journal old.sink.bytes new.sink.bytes
by-ends E t start old new e from to on (at_the_end bodies mid why goes takes there is) = by-stream E t start old new e from to bodies mid there.taken why on goes takes there.stops is
by-ends E t start old new e from to on (at_a_request bodies body mid goes takes count one early) =
    by-request E t start old new e from to bodies body mid goes on takes early
    (one-last E body e bodies goes.turns mid new early goes.answers (none-last mid.run.journal goes.none)
    (admission mid.exchange.last (request_number_of body)) (admits mid.exchange.last (request_number_of body)) one)

pub account : (E : Scene) (start : TurnMoment) (sink : Port) (new : At) (e : ServeEnd) (from to : Port) → ServesFrom E start sink new e from to → Account from to e new.run.journal sink.bytes new.sink.bytes
account E start sink new e from to (not_started stops exchange same unread) = by-stop E start sink new e from to stops same unread
account E start sink new e from to (started t mid one on ends) = by-ends E t start (unasked mid sink) new e from to on ends

-- ---- how often the sink failed

stop-quiet : (old new : Port) → new ≡ old → old.faults ≤ new.faults
stop-quiet old new same = omega (arith, ap (λ (p : Port). p.faults) same)

request-later : (E : Scene) (body : List ℕ) (old new : At) (e : ServeEnd) (a : Admission) → ServesBy a E body old new (Err e) → old.sink.faults ≤ new.sink.faults
request-later E body old new e Acts (answered bytes one exchange puts) = later _ 0 (status_of e) old.sink.bytes new.sink.bytes old.sink.faults new.sink.faults puts
request-later E body old new e Acts (stopped why stops_by same_end exchange same) = stop-quiet old.sink new.sink same
request-later E body old new e Repeats puts = later old.exchange.reply 0 (status_of e) old.sink.bytes new.sink.bytes old.sink.faults new.sink.faults puts.puts
request-later E body old new e Ignored both = absurd (no-answer e both.1)

ends-later : (E : Scene) (first : List Turn) (start : TurnMoment) (old new : At) (e : ServeEnd) (from to : Port) → ServeEnds E first start old new e from to → old.sink.faults ≤ new.sink.faults
ends-later E first start old new e from to (at_the_end bodies mid why goes takes there is) = omega (arith, goes.quiet)
ends-later E first start old new e from to (at_a_request bodies body mid goes takes count one early) =
    let more = request-later E body mid new e (admission mid.exchange.last (request_number_of body)) one in
    omega (arith, goes.quiet, more)

pub sink-later : (E : Scene) (start : TurnMoment) (sink : Port) (new : At) (e : ServeEnd) (from to : Port) → ServesFrom E start sink new e from to → sink.faults ≤ new.sink.faults
sink-later E start sink new e from to (not_started stops exchange same unread) = stop-quiet sink new.sink same
sink-later E start sink new e from to (started t mid one on ends) = ends-later E (t ∷ []) start (unasked mid sink) new e from to ends
