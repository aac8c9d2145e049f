-- All that a serving promises, whichever way it ended.
use Rattle.std.proofs.Common.{◌≡◌, ◌≢◌, ◌⊎◌, ◌≤◌, ◌<◌, ◌↔◌, inl, inr, ℕ, Bool, List, ◌∷◌, ◌++◌, Contains, length, drop, Option, Some, None, Err, refl, sym, ap, subst, ◌∙◌, arith, append-nil, slice_get, ◌+◌, IsTrue, IsFalse, []}
use Rattle.std.specs.Io.KnownBytes.{Appends, Consumes}
use Rattle.std.proofs.{KnownBytes.Appends-nil, KnownBytes.Consumes-nil, lemmas.Bool.false≢true}
use Rattle.std.proofs.lemmas.List.Elements.{Contains-get_or}
use Rattle.host_io.specs.Printed.{Prints}
use Rattle.wire_frames.specs.Frames.{Splits, frames}
use Rattle.wire_frames.specs.{Stream.most_bytes, declared.stream.FrameStop.FrameStop}
use Rattle.wire_frames.specs.declared.stream.FrameStop.TheVariants as stop
use Rattle.serving.specs.{Ends.end_by, Ends.end_of_stop, Ends.status_of, Holds.Cause, Holds.IsQuietServing, Scene.Port, Scene.port}
use Rattle.serving.specs.{Scene.scene, declared.ends.ServeEnd.ServeEnd}
use Rattle.serving.specs.declared.ends.ServeEnd.TheVariants as end
use Rattle.fwu_model.specs.{Causes.cuts_in, Causes.note_by, Causes.status_by, Contract.Premises, Headline.IsPrefixOf, Headline.made_after}
use Rattle.fwu_model.specs.{Reply.Reply, Reply.Turn, Run.ends_run, Run.is_refused_boot, Sound.Setting, State.State}
use Rattle.fwu_model.specs.{declared.kinds.NoBoot.NoBoot, declared.kinds.Note.Note}
use Rattle.fwu_model.specs.declared.kinds.Note.TheVariants as note
use Rattle.fwu_model.specs.Call as call
use Rattle.fwu_model.specs.Reply as reply
use Rattle.fwu_model.proofs.Complete.{runs-boot}
use Rattle.fwu_words.specs.Order as ask
use Rattle.script_turns.specs.{Powered.TurnMoment, Runs.calls_of}
use Rattle.script_runs.specs.{Ending.Ending, Ending.PutsNone, Ending.World, Ways.Given, Ways.HasGoodList, Ways.Refuses}
use Rattle.flash_commands.specs.Showing.{RefusedList}
use Rattle.script_cmd.specs.{Promises.EndsByLast, Promises.RanHolds, Handed.RefusesBadList, Handed.may_lack_list}
use Rattle.script_cmd.specs.Here.{ServeWay, ServesSource, left_by_serving, list_refused, note_of, served, sink_of, starved}
use Rattle.script_cmd.specs.ServedBy.{ServedBy, ServedComplete, ServedEnds, ServedHeadline, Unread, WroteFrames, may_end_serving, reads_no_more}
use Rattle.script_cmd.proofs.{PromiseEnds.refused-ends, PromiseHeadline.idle-head, PromiseHeadline.ran-head}
use Rattle.script_cmd.proofs.{PromiseHeadline.sound-start, PromiseTurns.idle-holds, PromiseTurns.last-is, PromiseTurns.ran-holds}
use Rattle.script_cmd.proofs.{PromiseTurns.some-from, ServeAccount.Account, ServeAccount.account, ServeAccount.end-at}
use Rattle.script_cmd.proofs.{ServeAccount.same-end, ServeAccount.stop-reads, SoakPromise.alone-last, SoakPromise.none-made}
use Rattle.script_cmd.proofs.TopShows.{good-list-kept, refused-list, starved-list}
use Rattle.script_cmd.proofs.TopCompletes.{granted, list-other, list-status}

-- ---- the end of a status

end-at-six : (e : ServeEnd) → status_of e ≡ 6 → (why : NoBoot) × (e ≡ end.NotBooted why)
end-at-six (end.NotBooted why) is = (why, refl)
end-at-six other is = absurd (omega arith)

no-thirteen : (e : ServeEnd) → status_of e ≡ 13 → ⊥
no-thirteen end.End is = omega arith
no-thirteen other is = omega arith

-- the end of a last turn that ends a run
turn-end : (r : Reply) (e : ServeEnd) → IsTrue (ends_run r) → end_by r ≡ Err e → (status_of e ≡ status_by r) × (note_of e ≡ note_by r)
turn-end reply.Fault e ends is = let same = same-end end.FlashFault e is in (ap status_of same, ap note_of same)
turn-end (reply.NotBooted why) e ends is = let same = same-end (end.NotBooted why) e is in (ap status_of same, ap note_of same)
turn-end reply.ReadFault e ends is = absurd (cc)
turn-end other e ends is = absurd (false≢true ends)

stop-other : (why : FrameStop) → status_of (end_of_stop why) ≢ 6
stop-other stop.End is = omega arith
stop-other other is = omega arith

unnoted : (e : ServeEnd) → status_of e ≢ 6 → note_of e ≡ note.Nothing
unnoted (end.NotBooted why) other = absurd (other refl)
unnoted e other = refl

ends-known : (e : ServeEnd) → IsTrue (may_end_serving (status_of e))
ends-known end.End = refl
ends-known other = refl

-- nothing was taken of the source
takes-none : (status : ℕ) (stream rest : Option (List ℕ)) → rest ≡ stream → (status ≡ 8 → ⊥) → (given : List ℕ) × Consumes stream rest given × (length given ≤ most_bytes + 1) × ((status ≡ 8) ↔ (most_bytes < length given))
takes-none status stream rest same other = (
  [],
  subst (λ (o : Option (List ℕ)). Consumes stream o []) (sym same) (Consumes-nil stream),
  omega arith,
  (λ is. absurd (other is), λ more. absurd (omega (arith, more))),
)

-- ---- a list

module _ (g : Given) (ending : Ending Note) (old new : World) (rest : Option (List ℕ)) (planned : ℕ) (line : List ℕ) (none : ending.journal ≡ []) (why : Refuses (Some ask.serve) g old.faults new.faults planned ending.noted line)
    (prints : Prints line planned ending.status old.taken new.taken old.faults.sink new.faults.sink) where
  was-refused : RefusedList ask.serve g ending.status ending.noted old new
  was-refused = (planned, line, why, prints)

  -- no other status is of a list
  other : (k : ℕ) → IsFalse (may_lack_list k) → ending.status ≡ k → ⊥
  other = list-other ask.serve (λ is. cc) (λ is. cc) g ending.status ending.noted old new was-refused

  list-ends : Unread g old new rest → ServedEnds g ending old new rest
  list-ends unread =
      let ends = refused-ends (Some ask.serve) g old.faults new.faults ending.status ending.noted old.flash.counts planned line old.taken new.taken why prints in
      record {
        no_other = list-status ask.serve (λ is. cc) (λ is. cc) g ending.status ending.noted old new was-refused may_end_serving refl refl refl refl;
        at_end = λ is. absurd (other 0 refl is);
        whole = λ is. absurd (other 0 refl is);
        not_read = λ is. elim (ends.not_read is refl) [ inl source ↦ absurd (let never = source.0 in cc) | inr list ↦ inr (none, list.0, list.1) ];
        read_all = λ unless. unread.1;
        sink_fault = ends.sink_fault;
        flash_fault = λ is. absurd (other 5 refl is);
        not_booted = λ is. absurd (other 6 refl is);
        taken = takes-none ending.status g.script rest unread.0 (other 8 refl);
        too_long = λ is. absurd (other 8 refl is);
        bad_frame = λ is. absurd (other 11 refl is);
        lost = λ is. absurd (other 12 refl is);
        not_list = ends.not_list;
      }

-- ---- nothing was done for want of memory

module _ (g : Given) (ending : Ending Note) (old new : World) (rest : Option (List ℕ)) (nine : ending.status ≡ 9) where
  starved-ends : Unread g old new rest → ServedEnds g ending old new rest
  starved-ends unread = record {
    no_other = subst (λ (k : ℕ). IsTrue (may_end_serving k)) (sym nine) refl;
    at_end = λ is. absurd (omega (arith, is, nine));
    whole = λ is. absurd (omega (arith, is, nine));
    not_read = λ is. absurd (omega (arith, is, nine));
    read_all = λ unless. unread.1;
    sink_fault = λ is. absurd (omega (arith, is, nine));
    flash_fault = λ is. absurd (omega (arith, is, nine));
    not_booted = λ is. absurd (omega (arith, is, nine));
    taken = takes-none ending.status g.script rest unread.0 (λ is. omega (arith, is, nine));
    too_long = λ is. absurd (omega (arith, is, nine));
    bad_frame = λ is. absurd (omega (arith, is, nine));
    lost = λ is. absurd (omega (arith, is, nine));
    not_list = λ is. absurd (omega (arith, is, nine));
  }

  starved-frames : ending.journal ≡ [] → ending.noted ≡ note.Nothing → PutsNone old new → Unread g old new rest
      → WroteFrames g.script rest ending old.taken new.taken
  starved-frames none quiet stuck unread = record {
    bodies = [];
    turns = [];
    part = [];
    more = [];
    one = omega arith;
    each = λ k d below. absurd (omega (arith, below));
    come = some-from g.script (λ s. IsPrefixOf [] s) (λ s told. (s, refl));
    all = λ is. absurd (omega (arith, is, nine));
    taken = λ early. subst (λ (o : Option (List ℕ)). Consumes g.script o []) (sym unread.0) (Consumes-nil g.script);
    stops = λ why is. absurd (false≢true (sym (ap reads_no_more (sym is ∙ nine)) ∙ stop-reads why));
    begin = (drop 1 ending.journal, refl);
    all_turns = λ is. absurd (false≢true (sym (ap reads_no_more nine) ∙ is));
    calls = refl;
    goes = λ k d below. absurd (omega (arith, below));
    all_calls = ([], ap (λ (ts : List Turn). calls_of (drop 1 ts) ++ []) none);
    some = λ other. absurd (other nine);
    took = subst (λ (o : Option (List ℕ)). Appends old.taken o []) (sym stuck.0) (Appends-nil old.taken);
    none = λ other. refl;
    front = λ is. absurd (omega (arith, is, nine));
    quiet = λ other. quiet;
  }

-- ---- it was served

module _ (passes : List ℕ → Bool) (tells : Bool) (g : Given) (ending : Ending Note) (old new : World) (rest : Option (List ℕ)) (unarmed : old.flash.armed ≡ None) (e : ServeEnd) (is : ending.status ≡ status_of e) (said : ending.noted ≡ note_of e)
    (by : ServesSource passes tells g.files g.script e ending.journal old new rest) where
  abbrev from : Port
  from = port g.script old.faults.source

  abbrev to : Port
  to = port rest new.faults.source

  done : Account from to e ending.journal old.taken new.taken
  done = account (scene passes tells g.files old.faults.files) old.flash (sink_of old) (left_by_serving by.on by.exchange ending.journal new) e from to by.serves

  cause-at : (x : ServeEnd) → e ≡ x → Cause x old.flash (sink_of old) (left_by_serving by.on by.exchange ending.journal new) from to
  cause-at x same = subst (λ (y : ServeEnd). Cause y old.flash (sink_of old) (left_by_serving by.on by.exchange ending.journal new) from to) same by.holds.cause

  at : (x : ServeEnd) → status_of x ≢ 6 → ending.status ≡ status_of x → e ≡ x
  at x other same = end-at e x other (sym is ∙ same)

  cause : (x : ServeEnd) → status_of x ≢ 6 → ending.status ≡ status_of x
      → Cause x old.flash (sink_of old) (left_by_serving by.on by.exchange ending.journal new) from to
  cause x other same = cause-at x (at x other same)

  served-ends : ServedEnds g ending old new rest
  served-ends = record {
    no_other = subst (λ (k : ℕ). IsTrue (may_end_serving k)) (sym is) (ends-known e);
    at_end = λ zero. done.left (at end.End (λ z. omega arith) zero);
    whole = λ zero. some-from g.script _ (λ stream told. cause end.End (λ z. omega arith) zero stream told);
    not_read = λ two.
        let failed = at end.ReadFailed (λ z. omega arith) two in
        inl (done.some (λ x. let both = sym failed ∙ x in cc), by.holds.source_count.failed failed);
    read_all = λ unless. by.holds.source_count.quiet (λ failed. done.some (λ x. let both = sym failed ∙ x in cc) (unless (is ∙ ap status_of failed)));
    sink_fault = λ three. cause end.SinkFailed (λ z. omega arith) three;
    flash_fault = λ five. cause end.FlashFault (λ z. omega arith) five;
    not_booted = λ six. let w = end-at-six e (sym is ∙ six) in (w.0, cause-at (end.NotBooted w.0) w.1, said ∙ ap note_of w.1);
    taken =
        let g = by.holds.given in
        (g.given, g.consumed, g.few, (λ eight. g.too_long.0 (at end.TooLong (λ z. omega arith) eight), λ more. is ∙ ap status_of (g.too_long.1 more)));
    too_long = λ eight. some-from g.script _ (λ stream told. (cause end.TooLong (λ z. omega arith) eight stream told).1);
    bad_frame = λ eleven. some-from g.script _ (λ stream told.
        let c = cause end.BadFrame (λ z. omega arith) eleven stream told in
        let some = c.1.2 in
        (c.0, c.1.0, c.1.1, (λ none. omega (arith, some, ap length none))));
    lost = λ twelve. let c = cause end.PowerLost (λ z. omega arith) twelve in (c.0, c.1.unarmed unarmed);
    not_list = λ thirteen. absurd (no-thirteen e (sym is ∙ thirteen));
  }

  served-frames : WroteFrames g.script rest ending old.taken new.taken
  served-frames = record {
    bodies = done.bodies;
    turns = done.turns;
    part = done.part;
    more = done.more;
    one = done.one;
    each = done.each;
    come = done.come;
    all = λ zero. done.all (at end.End (λ z. omega arith) zero);
    taken = λ early. done.taken (subst (λ (k : ℕ). IsFalse (reads_no_more k)) is early);
    stops = λ why same. done.stops why (end-at e (end_of_stop why) (stop-other why) (sym is ∙ same));
    begin = done.begin;
    all_turns = λ no_more. done.all_turns (subst (λ (k : ℕ). IsTrue (reads_no_more k)) is no_more);
    calls = done.calls;
    goes = done.goes;
    all_calls = done.all_calls;
    some = λ other. done.some (λ lacks. other (is ∙ ap status_of lacks));
    took = done.took;
    none = λ other. done.none (λ failed. other (is ∙ ap status_of failed));
    front = λ three. done.front (at end.SinkFailed (λ z. omega arith) three);
    quiet = λ other. said ∙ unnoted e (λ six. other (is ∙ six));
  }

  served-last : EndsByLast ending.journal ending.status ending.noted
  served-last i t at ends =
      let behind = by.holds.ran.ends i t at ends in
      let how = turn-end t.reply e ends (done.decides t (last-is ending.journal i t at behind) ends) in
      (behind, is ∙ how.0, said ∙ how.1)

  -- the boot of a sound flash starts a bank
  boots : IsTrue tells → (E : Setting) (start : State) → Premises E start old.flash.told g.files passes old.flash.counts new.flash.counts → (why : NoBoot) → e ≢ end.NotBooted why
  boots told E start given why same =
      let c = cause-at (end.NotBooted why) same in
      let head = ran-head passes tells g.files ending.status old.flash told E start (calls_of ending.journal) ending.journal new.flash by.on old.faults.files old.faults.files ([], append-nil (calls_of ending.journal)) (λ zero. refl) by.holds.ran given in
      let sound = sound-start E start old.flash.told g.files passes old.flash.counts new.flash.counts given in
      let has : Contains ending.journal c.turn = subst (λ (ts : List Turn). Contains ts c.turn) (sym c.only) (Contains-get_or (c.turn ∷ []) 0 c.turn (omega arith)) in
      false≢true (sym (runs-boot E start ending.journal head.last sound head.run c.turn has) ∙ ap is_refused_boot c.reply_is)

  completes : ServedComplete passes tells g ending old new
  completes told E start bodies given stream are few grants no_source =
      let quiet : IsQuietServing old.flash (sink_of old) (left_by_serving by.on by.exchange ending.journal new) e from to = record {
        booted = boots told E start given;
        no_fault = grants.no_fault;
        no_cut = grants.no_cut;
        unarmed = unarmed;
        no_failed_read = no_source;
        no_failed_put = grants.no_sink_fault;
      } in
      let splits : Splits (frames bodies) bodies [] = record { whole = sym (append-nil (frames bodies)); each = are; no_more = inl (inl (omega arith)) } in
      elim (by.holds.complete quiet (frames bodies) bodies [] stream splits few) [ inl ended ↦ inl (is ∙ ap status_of ended) | inr lacks ↦ inr (is ∙ ap status_of lacks) ]

-- ---- whichever way

still-unread : (g : Given) (old new : World) (rest : Option (List ℕ)) → port rest new.faults.source ≡ port g.script old.faults.source → Unread g old new rest
still-unread g old new rest still = (ap (λ (p : Port). p.bytes) still, ap (λ (p : Port). p.faults) still)

module _ (passes : List ℕ → Bool) (tells : Bool) (g : Given) (ending : Ending Note) (old new : World) (rest : Option (List ℕ)) where
  lists : ServeWay passes tells g ending old new rest → RefusesBadList g old.flash new.flash ending.status old.faults new.faults
  lists (list_refused none same unread refused) = refused-list g old.flash new.flash ending.status old.faults new.faults ask.serve ending.noted old.taken new.taken same refused
  lists (starved none same unread nine quiet stuck) = starved-list g old.flash new.flash ending.status old.faults new.faults same nine
  lists (served good unarmed unread e is said by) = good-list-kept g old.flash new.flash ending.status old.faults new.faults good

  heads : ServeWay passes tells g ending old new rest → ServedHeadline passes tells g.files ending old.flash new.flash
  heads (list_refused none same unread refused) told E start given =
      idle-head passes tells g.files ending.status old.flash told E start (calls_of ending.journal) ending.journal new.flash none same (λ zero. sym (ap calls_of none)) given
  heads (starved none same unread nine quiet stuck) told E start given =
      idle-head passes tells g.files ending.status old.flash told E start (calls_of ending.journal) ending.journal new.flash none same (λ zero. sym (ap calls_of none)) given
  heads (served good unarmed unread e is said by) told E start given =
      ran-head passes tells g.files ending.status old.flash told E start (calls_of ending.journal) ending.journal new.flash by.on old.faults.files old.faults.files ([], append-nil (calls_of ending.journal)) (λ zero. refl) by.holds.ran given

  hold : ServeWay passes tells g ending old new rest → RanHolds passes tells g.files ending.journal old new
  hold (list_refused none same unread refused) = idle-holds passes tells g.files ending.journal old new none same
  hold (starved none same unread nine quiet stuck) = idle-holds passes tells g.files ending.journal old new none same
  hold (served good unarmed unread e is said by) = ran-holds passes tells g.files ending.journal by.on old.faults.files old new (λ some. sym unread) by.holds.ran

  why-ended : ServeWay passes tells g ending old new rest → ServedEnds g ending old new rest
  why-ended (list_refused none same unread (planned, line, why, prints)) = list-ends g ending old new rest planned line none why prints unread
  why-ended (starved none same unread nine quiet stuck) = starved-ends g ending old new rest nine unread
  why-ended (served good unarmed unread e is said by) = served-ends passes tells g ending old new rest unarmed e is said by

  writes : ServeWay passes tells g ending old new rest → WroteFrames g.script rest ending old.taken new.taken
      ⊎ ((ending.journal ≡ []) × RefusedList ask.serve g ending.status ending.noted old new)
  writes (list_refused none same unread refused) = inr (none, refused)
  writes (starved none same unread nine quiet stuck) = inl (starved-frames g ending old new rest nine none quiet stuck unread)
  writes (served good unarmed unread e is said by) = inl (served-frames passes tells g ending old new rest unarmed e is said by)

  -- ---- the turns

  no-turn : ending.journal ≡ [] → (n : ℕ) (t : Turn) → slice_get ending.journal n ≡ Some t → ⊥
  no-turn none n t here = never (sym (ap (λ (ts : List Turn). slice_get ts n) none) ∙ here)
    where
      never : slice_get [] n ≡ Some t → ⊥
      never is = cc

  boots-first : ServeWay passes tells g ending old new rest → (t : Turn) → slice_get ending.journal 0 ≡ Some t → t.call ≡ call.Boot
  boots-first (list_refused none same unread refused) t here = absurd (no-turn none 0 t here)
  boots-first (starved none same unread nine quiet stuck) t here = absurd (no-turn none 0 t here)
  boots-first (served good unarmed unread e is said by) t here = by.holds.boots t here

  cuts-none : ServeWay passes tells g ending old new rest → cuts_in ending.journal ≡ 0
  cuts-none (list_refused none same unread refused) = ap cuts_in none
  cuts-none (starved none same unread nine quiet stuck) = ap cuts_in none
  cuts-none (served good unarmed unread e is said by) = by.holds.uncut

  arms-none : ServeWay passes tells g ending old new rest → new.flash.counts.made ≡ made_after old.flash.counts.made (cuts_in ending.journal)
  arms-none (list_refused none same unread refused) = none-made ending.journal old.flash.counts new.flash.counts none (ap (λ (m : TurnMoment). m.counts.made) same)
  arms-none (starved none same unread nine quiet stuck) = none-made ending.journal old.flash.counts new.flash.counts none (ap (λ (m : TurnMoment). m.counts.made) same)
  arms-none (served good unarmed unread e is said by) = by.holds.ran.made

  last-ends : ServeWay passes tells g ending old new rest → EndsByLast ending.journal ending.status ending.noted
  last-ends (list_refused none same unread refused) = alone-last ending.journal ending.status ending.noted none
  last-ends (starved none same unread nine quiet stuck) = alone-last ending.journal ending.status ending.noted none
  last-ends (served good unarmed unread e is said by) = served-last passes tells g ending old new rest unarmed e is said by

  behind-list : ServeWay passes tells g ending old new rest → ending.journal ≢ [] → HasGoodList g.list g.files × (new.faults.files ≡ old.faults.files)
  behind-list (list_refused none same unread refused) some = absurd (some none)
  behind-list (starved none same unread nine quiet stuck) some = absurd (some none)
  behind-list (served good unarmed unread e is said by) some = (good, unread)

  leaves-unread : ServeWay passes tells g ending old new rest → ending.journal ≡ [] → Unread g old new rest
  leaves-unread (list_refused none same unread refused) empty = unread
  leaves-unread (starved none same unread nine quiet stuck) empty = unread
  leaves-unread (served good unarmed unread e is said by) empty =
      still-unread g old new rest ((done passes tells g ending old new rest unarmed e is said by).unread empty)

  first-unread : ServeWay passes tells g ending old new rest → (t : Turn) (x : ServeEnd) → slice_get ending.journal 0 ≡ Some t → end_by t.reply ≡ Err x
      → Unread g old new rest
  first-unread (list_refused none same unread refused) t x here ends = unread
  first-unread (starved none same unread nine quiet stuck) t x here ends = unread
  first-unread (served good unarmed unread e is said by) t x here ends =
      still-unread g old new rest ((done passes tells g ending old new rest unarmed e is said by).first t x here ends)

  last-by-end : ServeWay passes tells g ending old new rest → (n : ℕ) (t : Turn) (x : ServeEnd) → slice_get ending.journal n ≡ Some t → end_by t.reply ≡ Err x
      → (n + 1 ≡ length ending.journal) × (ending.status ≡ status_of x)
  last-by-end (list_refused none same unread refused) n t x here ends = absurd (no-turn none n t here)
  last-by-end (starved none same unread nine quiet stuck) n t x here ends = absurd (no-turn none n t here)
  last-by-end (served good unarmed unread e is said by) n t x here ends =
      let last = (done passes tells g ending old new rest unarmed e is said by).ends n t x here ends in (last.0, is ∙ ap status_of last.1)

  all-served : ServeWay passes tells g ending old new rest → ServedComplete passes tells g ending old new
  all-served (list_refused none same unread (planned, line, why, prints)) told E start bodies given stream are few grants no_source =
      absurd
      (granted ask.serve (λ x. cc) (λ x. cc) g old.flash.counts new.flash.counts old.faults new.faults planned ending.noted line grants why)
  all-served (starved none same unread nine quiet stuck) told E start bodies given stream are few grants no_source = inr nine
  all-served (served good unarmed unread e is said by) told E start bodies given stream are few grants no_source =
      completes passes tells g ending old new rest unarmed e is said by told E start bodies given stream are few grants no_source

  pub served-by : ServeWay passes tells g ending old new rest → ServedBy passes tells g ending old new rest
  served-by went = record {
    refuses_list = lists went;
    headline = heads went;
    turns = hold went;
    boots = boots-first went;
    uncut = cuts-none went;
    made = arms-none went;
    by_last = last-ends went;
    by_end = last-by-end went;
    listed = behind-list went;
    unread = leaves-unread went;
    first = first-unread went;
    ends = why-ended went;
    wrote = writes went;
    complete = all-served went;
  }
