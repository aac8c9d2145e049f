-- What holds of a serving, by how it ended.
use Rattle.std.proofs.Common.{◌≡◌, ◌⊎◌, ⊎_elim, inl, inr, ℕ, ◌≤◌, ltb, ltb-true, ltb-false, List, ◌∷◌, ◌++◌, length, length-append, Option, Some, None, Err, refl, sym, ap, subst, ◌∙◌, arith, IsTrue, IsFalse}
use Rattle.std.specs.Prelude.{Contains, IfErr, []}
use Rattle.std.specs.{List.list_any, List.slice_get, Io.KnownBytes.Consumes}
use Rattle.std.proofs.{KnownBytes.Consumes-nil, KnownBytes.Consumes-trans, lemmas.Bool.cases_Bool, lemmas.Bool.false≢true}
use Rattle.std.proofs.{lemmas.List.Elements.Contains-push, lemmas.Option.same_Some, lemmas.Result.IfErr-at_err}
use Rattle.flash_core.specs.Counts.{Rose}
use Rattle.host_io.specs.{Calls.raised, Printed.FailsAtThree}
use Rattle.fwu_model.specs.{Call.Call, Reply.Reply, Reply.Turn, Run.ends_run, Run.is_refused_boot, declared.kinds.NoBoot.NoBoot}
use Rattle.fwu_model.specs.Call as call
use Rattle.fwu_model.specs.Reply as reply
use Rattle.script_turns.specs.{Powered.FitsMachine, Powered.TurnMoment, Turning.NoneFalls}
use Rattle.script_turns.proofs.RunTurns.{rose-before}
use Rattle.wire_frames.specs.{declared.exchange.Admission.Admission, declared.stream.FrameStop.FrameStop}
use Rattle.wire_frames.specs.declared.exchange.Admission.TheVariants.{Acts, Repeats, Ignored}
use Rattle.wire_frames.specs.declared.stream.FrameStop.TheVariants as stop
use Rattle.wire_frames.specs.Frames.{frames, message_of, request_number_of}
use Rattle.wire_frames.specs.Stream.{StopsReading, most_bytes, stop_faults}
use Rattle.wire_frames.proofs.{Readings.one-reading, Stopping.stops-stream}
use Rattle.serving.specs.Serving.{OneStop, OneTurn, ended, starved, ServesBy, ServesNew, answered, stopped}
use Rattle.serving.specs.Ends.{IsEarlyEnd, end_by, end_of_stop, status_of}
use Rattle.serving.specs.Going.{ServesRequests, ServeEnds, StopsThere, TakesFrames, at_a_request, at_the_end, ServesFrom, not_started, started}
use Rattle.serving.specs.Holds.{Cause, EndsWith, FailsAtRead, ServingHolds, IsCompleteServing, RefusesBoot, StopsBy, TakesWithin, end_behind}
use Rattle.serving.specs.{Written.called, declared.ends.ServeEnd.ServeEnd}
use Rattle.serving.specs.Scene.{At, Port, RanIn, RunAt, Scene, begin_at, port, unasked}
use Rattle.serving.specs.declared.ends.ServeEnd.TheVariants as end
use Rattle.serving.proofs.Starts.{Stands, StopsPut, at_memory, at_sink, put-stops, stands-on, stands-still, stands-none}
use Rattle.serving.proofs.Requested.{called-asked, fits-last, is_asked, requested-other}
use Rattle.serving.proofs.Steps.{stands-of}

top : ℕ
top = 18446744073709551615

raised-rose : (n : ℕ) → Rose n (raised n)
unfolding top
raised-rose n = ⊎_elim (λ e. let lt = ltb-true n top e in inl (omega (arith, lt))) (λ e. let ge = ltb-false n top e in inr (omega (arith, ge))) (cases_Bool (ltb n top))

-- ---- what failed

-- an end for which neither the sink nor the source is to blame
record IsElse (e : ServeEnd) : Type 0 where
  sink : status_of e ≡ 3 → ⊥
  source : e ≡ end.ReadFailed → ⊥
  long : e ≡ end.TooLong → ⊥

by-memory : (e : ServeEnd) → e ≡ end.NoMemory → IsElse e
by-memory e is = subst IsElse (sym is) (record { sink = λ three. omega (arith, three); source = λ same. absurd (cc); long = λ same. absurd (cc) })

by-turn : (r : Reply) → IfErr (end_by r) IsElse
by-turn reply.Fault = record { sink = λ three. omega (arith, three); source = λ same. absurd (cc); long = λ same. absurd (cc) }
by-turn (reply.NotBooted why) = record { sink = λ three. omega (arith, three); source = λ same. absurd (cc); long = λ same. absurd (cc) }
by-turn reply.Lost = record { sink = λ three. omega (arith, three); source = λ same. absurd (cc); long = λ same. absurd (cc) }
by-turn other = tt

by-stop : (E : Scene) (c : Call) (e : ServeEnd) (old new : RunAt) → OneStop E c e old new → IsElse e
by-stop E c e old new (starved is same) = by-memory e is
by-stop E c e old new (ended t one is) = IfErr-at_err IsElse is (by-turn t.reply)

sink-still : (e : ServeEnd) (before after : ℕ) → IsElse e → after ≡ before → FailsAtThree (status_of e) before after
sink-still e before after is same = record { failed = λ three. absurd (is.sink three); quiet = λ other. same }

source-still : (e : ServeEnd) (before after : ℕ) → IsElse e → after ≡ before → FailsAtRead e before after
source-still e before after is same = record { failed = λ failed. absurd (is.source failed); quiet = λ other. same; later = omega (arith, same) }

put-sink : (e : ServeEnd) (before after : ℕ) → StopsPut e before after → FailsAtThree (status_of e) before after
put-sink e before after (at_sink is one) = record { failed = λ three. one; quiet = λ other. absurd (other (ap status_of is)) }
put-sink e before after (at_memory is same) = sink-still e before after (by-memory e is) same

put-source : (e : ServeEnd) (before after faults : ℕ) → StopsPut e before after → FailsAtRead e faults faults
put-source e before after faults (at_sink is one) = record { failed = λ failed. absurd (cc); quiet = λ other. refl; later = omega arith }
put-source e before after faults (at_memory is same) = source-still e faults faults (by-memory e is) refl

stop-sink : (why : FrameStop) (n : ℕ) → FailsAtThree (status_of (end_of_stop why)) n n
stop-sink stop.End n = record { failed = λ three. absurd (omega (arith, three)); quiet = λ other. refl }
stop-sink other n = record { failed = λ three. absurd (omega (arith, three)); quiet = λ other. refl }

stop-source : (why : FrameStop) (before after : ℕ) → after ≡ stop_faults {T = ℕ} (Err why) before → before ≤ after → FailsAtRead (end_of_stop why) before after
stop-source stop.Failed before after is later = record { failed = λ failed. is; quiet = λ other. absurd (other refl); later = later }
stop-source other before after is later = record { failed = λ failed. absurd (cc); quiet = λ other. is; later = later }

-- ---- what was taken

-- no more than the most bytes were
takes-few : (e : ServeEnd) (old new : Option (List ℕ)) (given : List ℕ) → Consumes old new given → length given ≤ most_bytes → (e ≡ end.TooLong → ⊥) → TakesWithin e old new
takes-few e old new given consumed few other = record {
  given = given;
  consumed = consumed;
  few = omega (arith, few);
  too_long = (λ is. absurd (other is), λ more. absurd (omega (arith, few, more)));
}

put-long : (e : ServeEnd) (before after : ℕ) → StopsPut e before after → e ≡ end.TooLong → ⊥
put-long e before after (at_sink is one) long = cc
put-long e before after (at_memory is same) long = cc

module _ (bodies : List (List ℕ)) (old mid new : Option (List ℕ)) (taken : ℕ) (takes : TakesFrames bodies old mid) (few : taken ≤ most_bytes) where
  stop-takes : (why : FrameStop) → StopsReading why (length (frames bodies)) taken mid new → TakesWithin (end_of_stop why) old new
  stop-takes stop.End stops =
      let within = takes.few in
      takes-few end.End old new (frames bodies ++ []) (Consumes-trans old mid new (frames bodies) [] takes.consumed stops.0) (omega (arith, within, length-append (frames bodies) [])) (λ is. absurd (cc))
  stop-takes stop.BadFrame (bytes, came, count, kind) =
      takes-few end.BadFrame old new (frames bodies ++ bytes) (Consumes-trans old mid new (frames bodies) bytes takes.consumed came) (omega (arith, few, count, length-append (frames bodies) bytes)) (λ is. absurd (cc))
  stop-takes stop.Failed (bytes, part, came, count) =
      takes-few end.ReadFailed old new (frames bodies ++ bytes) (Consumes-trans old mid new (frames bodies) bytes takes.consumed came) (omega (arith, few, count, length-append (frames bodies) bytes)) (λ is. absurd (cc))
  stop-takes stop.TooLong (bytes, b, part, came, count, most) =
      let one = length-append bytes (b ∷ []) in
      let all = length-append (frames bodies) (bytes ++ b ∷ []) in
      record {
        given = frames bodies ++ (bytes ++ b ∷ []);
        consumed = Consumes-trans old mid new (frames bodies) (bytes ++ b ∷ []) takes.consumed came;
        few = omega (arith, one, all, count, most);
        too_long = (λ is. omega (arith, one, all, count, most), λ more. refl);
      }

-- ---- completeness

some-behind : (rest : List ℕ) → 1 ≤ length rest → end.BadFrame ≡ end_behind rest
some-behind [] some = absurd (omega (arith, some))
some-behind (b ∷ rest) some = refl

module _ (start : TurnMoment) (sink : Port) (new : At) (from to : Port) where
  pub complete : (e : ServeEnd) → Cause e start sink new from to → IsCompleteServing start sink new e from to
  complete end.End cause quiet stream bodies rest told splits few =
      let by = cause stream told in
      inl (ap end_behind (one-reading stream by.0 bodies [] rest by.1 splits).1)
  complete end.TooLong cause quiet stream bodies rest told splits few = let long = (cause stream told).1 in absurd (omega (arith, long, few))
  complete end.BadFrame cause quiet stream bodies rest told splits few =
      let by = cause stream told in
      let left = by.1 in
      inl (some-behind left.0 left.2 ∙ ap end_behind (one-reading stream by.0 bodies left.0 rest left.1 splits).1)
  complete end.NoMemory cause quiet stream bodies rest told splits few = inr refl
  complete end.ReadFailed cause quiet stream bodies rest told splits few = absurd (quiet.no_failed_read cause)
  complete end.SinkFailed cause quiet stream bodies rest told splits few = absurd (quiet.no_failed_put cause)
  complete end.FlashFault cause quiet stream bodies rest told splits few = absurd (quiet.no_fault cause.1)
  complete (end.NotBooted why) cause quiet stream bodies rest told splits few = absurd (quiet.booted why refl)
  complete end.PowerLost cause quiet stream bodies rest told splits few = absurd (quiet.no_cut (cause.1.unarmed quiet.unarmed))

-- ---- why it ended

module _ (E : Scene) (start : TurnMoment) (off : start.on ≡ None) (sink : Port) (from to : Port) where
  -- by a turn
  turn-cause : (first : List Turn) (c : Call) (t : Turn) (mid : RunAt) (new : At) (e : ServeEnd) → Stands E first start mid → Stands E first start new.run → OneTurn E c t mid new.run → ((why : NoBoot) → t.reply ≡ reply.NotBooted why → RefusesBoot new.run.journal why)
      → end_by t.reply ≡ Err e → Cause e start sink new from to
  turn-cause first c t mid new e was is one refused by_reply = IfErr-at_err (λ (x : ServeEnd). Cause x start sink new from to) by_reply (by t.reply refl)
    where
      ends : (r : Reply) → t.reply ≡ r → EndsWith new.run.journal r
      ends r same = record { before = mid.journal; last = t; journal_is = one.kept; reply_is = same }

      falls : NoneFalls start.counts mid.moment.counts
      falls = was.ran.counts

      rises : Rose mid.moment.counts.cuts new.run.moment.counts.cuts ⊎ Rose mid.moment.counts.reached new.run.moment.counts.reached → Rose start.counts.cuts new.run.moment.counts.cuts ⊎ Rose start.counts.reached new.run.moment.counts.reached
      rises (inl cut) = inl (rose-before start.counts.cuts mid.moment.counts.cuts new.run.moment.counts.cuts falls.cuts cut)
      rises (inr reached) = inr (rose-before start.counts.reached mid.moment.counts.reached new.run.moment.counts.reached falls.reached reached)

      by : (r : Reply) → t.reply ≡ r → IfErr (end_by r) (λ (x : ServeEnd). Cause x start sink new from to)
      by reply.Fault same = (ends reply.Fault same, rose-before start.counts.faults mid.moment.counts.faults new.run.moment.counts.faults falls.faults (one.turns.failed same))
      by reply.Lost same = (
        ends reply.Lost same,
        record {
          counted = rises (one.turns.lost same);
          unarmed = λ unarmed. (is.ran.free unarmed is.uncut).lost t (subst (λ (j : List Turn). Contains j t) (sym one.kept) (Contains-push mid.journal t)) same;
        },
      )
      by (reply.NotBooted why) same = refused why same
      by other same = tt

  stop-cause : (first : List Turn) (c : Call) (mid : RunAt) (new : At) (e : ServeEnd) → Stands E first start mid → Stands E first start new.run
      → ((t : Turn) → OneTurn E c t mid new.run → (why : NoBoot) → t.reply ≡ reply.NotBooted why → RefusesBoot new.run.journal why) → OneStop E c e mid new.run → Cause e start sink new from to
  stop-cause first c mid new e was is refused (starved memory same) = subst (λ (x : ServeEnd). Cause x start sink new from to) (sym memory) tt
  stop-cause first c mid new e was is refused (ended t one by_reply) = turn-cause first c t mid new e was is one (refused t one) by_reply

  -- a turn of a request starts no bank, and so none is refused
  unrefused : (c : Call) (t : Turn) (mid : RunAt) (new : At) → RanIn E mid.journal start mid.moment → IsTrue (is_asked c) → OneTurn E c t mid new.run → (why : NoBoot) → t.reply ≡ reply.NotBooted why → RefusesBoot new.run.journal why
  unrefused c t mid new ran asked one why is =
      let here : FitsMachine E.tells start = λ f on. absurd (cc) in
      let fits : FitsMachine E.tells mid.moment = fits-last E.passes E.tells E.files mid.journal start mid.moment E.faults E.faults here ran.follows in
      absurd (false≢true (sym (requested-other E.passes E.tells E.files c t mid.moment new.run.moment E.faults E.faults asked fits one.turns) ∙ ap is_refused_boot is))

  stop-stands : (first : List Turn) (c : Call) (mid new : RunAt) (e : ServeEnd) → Stands E first start mid → IsFalse (list_any (λ (x : Turn). ends_run x.reply) mid.journal) → OneStop E c e mid new → Stands E first start new
  stop-stands first c mid new e was none (starved memory same) = stands-still E first start mid new was same
  stop-stands first c mid new e was none (ended t one by_reply) = stands-on E first start c t mid new off was none one

  -- by a put
  put-cause : (new : At) (e : ServeEnd) → StopsPut e sink.faults new.sink.faults → Cause e start sink new from to
  put-cause new e (at_sink is one) = subst (λ (x : ServeEnd). Cause x start sink new from to) (sym is) (subst (λ (n : ℕ). Rose sink.faults n) (sym one) (raised-rose sink.faults))
  put-cause new e (at_memory is same) = subst (λ (x : ServeEnd). Cause x start sink new from to) (sym is) tt

  -- by what was read
  read-cause : (new : At) (why : FrameStop) → to.faults ≡ stop_faults {T = ℕ} (Err why) from.faults → StopsBy why from → Cause (end_of_stop why) start sink new from to
  read-cause new stop.End fails by = by
  read-cause new stop.Failed fails by = subst (λ (n : ℕ). Rose from.faults n) (sym fails) (raised-rose from.faults)
  read-cause new other fails by = by

  -- ---- in one

  -- what is said besides
  holds-by : (first : List Turn) (new : At) (e : ServeEnd) → Stands E first start new.run → ((t : Turn) → slice_get new.run.journal 0 ≡ Some t → t.call ≡ call.Boot) → Cause e start sink new from to
      → FailsAtThree (status_of e) sink.faults new.sink.faults → FailsAtRead e from.faults to.faults → TakesWithin e from.bytes to.bytes → ServingHolds E start sink new e from to
  holds-by first new e stands boots cause in_sink in_source in_bytes = record {
    ran = stands.ran;
    boots = boots;
    uncut = stands.uncut;
    cause = cause;
    sink_count = in_sink;
    source_count = in_source;
    given = in_bytes;
    complete = complete start sink new from to e cause;
  }

  module _ (boot : Turn) (boots : boot.call ≡ call.Boot) where
    boots-first : (new : At) → Stands E (boot ∷ []) start new.run → (t : Turn) → slice_get new.run.journal 0 ≡ Some t → t.call ≡ call.Boot
    boots-first new stands t at_first =
        let same : boot ≡ t = same_Some boot t (sym (ap (λ (j : List Turn). slice_get j 0) stands.journal_is) ∙ at_first) in
        subst (λ (u : Turn). u.call ≡ call.Boot) same boots

    module _ (first : RunAt) (new : At) (e : ServeEnd) where
      end-holds : (bodies : List (List ℕ)) (mid : Option (List ℕ)) (why : FrameStop) → ServesRequests E (boot ∷ []) start bodies (unasked first sink) new → TakesFrames bodies from.bytes mid
          → StopsThere why (length (frames bodies)) (port mid from.faults) to → e ≡ end_of_stop why → ServingHolds E start sink new e from to
      end-holds bodies mid why goes takes there is =
          let stands = stands-of E (boot ∷ []) start bodies (unasked first sink) new goes in
          let by : StopsBy why from = λ stream told. (bodies, stops-stream stream bodies mid to.bytes there.taken why takes.each (subst (λ (o : Option (List ℕ)). Consumes o mid (frames bodies)) told takes.consumed) there.stops) in
          subst (λ (x : ServeEnd). ServingHolds E start sink new x from to) (sym is)
          (holds-by (boot ∷ []) new (end_of_stop why) stands (boots-first new stands) (read-cause new why there.count by)
          (subst (λ (n : ℕ). FailsAtThree (status_of (end_of_stop why)) sink.faults n) (sym goes.quiet) (stop-sink why sink.faults))
          (stop-source why from.faults to.faults there.count there.later) (stop-takes bodies from.bytes mid to.bytes there.taken takes there.few why there.stops))

      module _ (bodies : List (List ℕ)) (body : List ℕ) (mid : At) (goes : ServesRequests E (boot ∷ []) start bodies (unasked first sink) mid) (takes : TakesFrames (bodies ++ body ∷ []) from.bytes to.bytes) (quiet : to.faults ≡ from.faults) (early : IsEarlyEnd e) where
        stood : Stands E (boot ∷ []) start mid.run
        stood = stands-of E (boot ∷ []) start bodies (unasked first sink) mid goes

        few : (e ≡ end.TooLong → ⊥) → TakesWithin e from.bytes to.bytes
        few other = takes-few e from.bytes to.bytes (frames (bodies ++ body ∷ [])) takes.consumed takes.few other

        -- a frame that was not all put
        put-holds : Stands E (boot ∷ []) start new.run → StopsPut e mid.sink.faults new.sink.faults → ServingHolds E start sink new e from to
        put-holds stands stops =
            let at_first : StopsPut e sink.faults new.sink.faults = subst (λ (n : ℕ). StopsPut e n new.sink.faults) goes.quiet stops in
            holds-by (boot ∷ []) new e stands (boots-first new stands) (put-cause new e at_first) (put-sink e sink.faults new.sink.faults at_first)
            (subst (λ (n : ℕ). FailsAtRead e from.faults n) (sym quiet) (put-source e sink.faults new.sink.faults from.faults at_first)) (few (put-long e sink.faults new.sink.faults at_first))

        new-holds : (number : ℕ) (c : Call) → IsTrue (is_asked c) → ServesNew E number c mid new (Err e) → ServingHolds E start sink new e from to
        new-holds number c asked (answered bytes one exchange_is puts) =
            put-holds (stands-on E (boot ∷ []) start c one.turn mid.run new.run off stood goes.none one.one) (put-stops _ e mid.sink new.sink puts early)
        new-holds number c asked (stopped x stop_of is same_exchange same) =
            let stop_is : OneStop E c e mid.run new.run = IfErr-at_err (λ (y : ServeEnd). OneStop E c y mid.run new.run → OneStop E c e mid.run new.run) is (λ was. was) stop_of in
            let stands = stop-stands (boot ∷ []) c mid.run new.run e stood goes.none stop_is in
            let blame = by-stop E c e mid.run new.run stop_is in
            holds-by (boot ∷ []) new e stands (boots-first new stands) (stop-cause (boot ∷ []) c mid.run new e stood stands (λ t one. unrefused c t mid.run new goes.ran asked one) stop_is)
            (sink-still e sink.faults new.sink.faults blame (ap (λ (p : Port). p.faults) same ∙ goes.quiet)) (source-still e from.faults to.faults blame quiet) (few blame.long)

        one-holds : (a : Admission) → ServesBy a E body mid new (Err e) → ServingHolds E start sink new e from to
        one-holds Acts serves = new-holds (request_number_of body) (called (message_of body)) (called-asked (message_of body)) serves
        one-holds Repeats serves = put-holds (stands-still E (boot ∷ []) start mid.run new.run stood serves.run) (put-stops mid.exchange.reply e mid.sink new.sink serves.puts early)
        one-holds Ignored serves = absurd (cc)

      ends-hold : ServeEnds E (boot ∷ []) start (unasked first sink) new e from to → ServingHolds E start sink new e from to
      ends-hold (at_the_end bodies mid why goes takes there is) = end-holds bodies mid why goes takes there is
      ends-hold (at_a_request bodies body mid goes takes quiet serves early) = one-holds bodies body mid goes takes quiet early _ serves

  no-first : (t : Turn) → slice_get [] 0 ≡ Some t → t.call ≡ call.Boot
  no-first t is = absurd (cc)

  pub serves-holds : (new : At) (e : ServeEnd) → ServesFrom E start sink new e from to → ServingHolds E start sink new e from to
  serves-holds new e (not_started stop_is exchange_is same rest) =
      let none = stands-none E start off in
      let stands = stop-stands [] call.Boot (begin_at start) new.run e none refl stop_is in
      let blame = by-stop E call.Boot e (begin_at start) new.run stop_is in
      holds-by [] new e stands (boots-of stop_is) (stop-cause [] call.Boot (begin_at start) new e none stands refused stop_is)
      (sink-still e sink.faults new.sink.faults blame (ap (λ (p : Port). p.faults) same)) (source-still e from.faults to.faults blame (ap (λ (p : Port). p.faults) rest))
      (takes-few e from.bytes to.bytes [] (subst (λ (p : Port). Consumes from.bytes p.bytes []) (sym rest) (Consumes-nil from.bytes)) (omega arith) blame.long)
    where
      refused : (t : Turn) → OneTurn E call.Boot t (begin_at start) new.run → (why : NoBoot) → t.reply ≡ reply.NotBooted why → RefusesBoot new.run.journal why
      refused t one why is = record { turn = t; only = one.kept; call_is = one.turns.call_is; reply_is = is }

      boots-of : OneStop E call.Boot e (begin_at start) new.run → (t : Turn) → slice_get new.run.journal 0 ≡ Some t → t.call ≡ call.Boot
      boots-of (starved memory still) = subst (λ (run : RunAt). (t : Turn) → slice_get run.journal 0 ≡ Some t → t.call ≡ call.Boot) (sym still) no-first
      boots-of (ended u one by_reply) = subst (λ (j : List Turn). (t : Turn) → slice_get j 0 ≡ Some t → t.call ≡ call.Boot) (sym one.kept)
          (λ t is. subst (λ (v : Turn). v.call ≡ call.Boot) (same_Some u t is) one.turns.call_is)
  serves-holds new e (started t mid one goes ends) = ends-hold t one.turns.call_is mid new e ends
