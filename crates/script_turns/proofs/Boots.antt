-- A boot of a flash, from how it ends: a step of a run, what no loss harms, and what the reply says of the bytes.
use Rattle.std.proofs.Common.{◌≡◌, ◌≢◌, Contains, ℕ, ◌+◌, ◌≤◌, Bool, true, false, List, ◌∷◌, ext_get_or, Option, Some, None, refl, sym, ap, subst, ◌∙◌, inl, inr, arith, IsTrue, IsFalse}
use Rattle.std.specs.Prelude.{◌⊎◌, Result, Ok, is_ok, [], IsErrOf}
use Rattle.flash_core.specs.{declared.flash.Counts.Counts, declared.flash.FlashStop.FlashStop, declared.flash.Arming.Arming}
use Rattle.flash_core.specs.declared.flash.FlashStop.TheVariants as flash_stop
use Rattle.flash_core.specs.Counts.{ReachesNone, Rose, Spends, StaysUnarmed, all_stops, stops_in}
use Rattle.flash_core.specs.Told.{Told, NothingDirty, fresh, is_unsure}
use Rattle.flash_core.specs.May.{Guards, Leaves, May, NoChance}
use Rattle.host_io.specs.Contents.{Directory}
use Rattle.fwu_formats.specs.{declared.kinds.LayoutFault.LayoutFault, Layout.Layout}
use Rattle.fwu_model.specs.{State.State, State.Numbers, State.after, Sound.Setting, Session.Session, Session.Off, Session.On}
use Rattle.fwu_model.specs.{Reply.Reply, Reply.Turn, Answer.Answer, Answer.answer, Headline.LeavesOneOf, Calm.IsCalm, Calm.IsAtRest}
use Rattle.fwu_model.specs.Call as call
use Rattle.fwu_model.specs.Reply as reply
use Rattle.fwu_model.specs.Run.{Condition, Answered, Stopped, StoppedEarly, is_stop, moved_on, prefixes, stopped_moves}
use Rattle.fwu_model.proofs.{Frame.calm-again, Frame.calm-stays, Runs.only}
use Rattle.agent_machine.specs.Fields.{Fields}
use Rattle.early_boot.specs.Started.{Started, started_session}
use Rattle.early_boot.specs.Ends.{Ended, booted, bad_layout, no_metadata, no_bank, lost, failed, stop_of}
use Rattle.early_boot.specs.EndsBy.{BootEnds, EndsByBytes, EndsByMachine, IdleEnd, StartsReady, StopsWith, StartedBy, StartsPermitted, TakesBoot, TakesByBytes, TouchesBoot}
use Rattle.script_turns.specs.{Powered.TurnMoment, Powered.IsAt, Powered.IsSafe, Powered.ShowsAt, Boots.BootsFrom, Replies.LeavesOn}
use Rattle.script_turns.specs.{Replies.power_after, Takes.TakesBy, Takes.stop_told, Takes.TouchesByBoot}
use Rattle.script_turns.specs.Turning.{NoneFalls, Turns, GetsPower, IsOnAfter, ShowsStarted, boot_turn, reply_of_end}
use Rattle.script_turns.proofs.{RunTurns.rose-after, RunTurns.rose-before}
use Rattle.script_turns.proofs.Staying.{Leads, as-told, among, falls-same, safe-by, same-guards}

-- ---- the guard

same-told : (old new : Told) → new ≡ old → new.guard ≡ old.guard
same-told old new same = ap (λ (t : Told). t.guard) same

-- a boot changes no guard
guard-kept : (passes : List ℕ → Bool) (e : Ended) (old new : Told) → EndsByBytes passes old e new → new.guard ≡ old.guard
guard-kept passes (booted b n) old new h = h.others.guard
guard-kept passes (bad_layout f) old new h = same-told old new h.1
guard-kept passes no_metadata old new h = same-told old new h.3
guard-kept passes (no_bank active previous) old new h = h.others.guard
guard-kept passes (lost None) old new h = same-told old new h
guard-kept passes (lost (Some n)) old new h = h.others.guard
guard-kept passes (failed None) old new h = same-told old new h
guard-kept passes (failed (Some n)) old new h = h.others.guard

-- ---- a step

-- what shows one state shows it among others
among-all : (E : Setting) (states : List State) (s : State) (t : Told) → Contains states s → LeavesOneOf E (s ∷ []) t → LeavesOneOf E states t
among-all E states s t found leaves image may =
    let shows = leaves image may in
    record { state = shows.state; one = only (Contains states) s shows.state found shows.one; shows = shows.shows; sound = shows.sound }

same-layout : (E : Setting) (b : Started) (seen : Result Layout LayoutFault) → seen ≡ Ok E.layout → seen ≡ Ok b.layout → E.layout ≡ b.layout
same-layout E b seen one other = cc

-- The flash shows the state s, one of the candidates, and the session boots as if it were off.
module _ (tells : Bool) (told : IsTrue tells) (E : Setting) (c : Condition) (s : State) (mid new : Told) (calm : IsCalm E mid s) (found : Contains c.candidates s)
    (same : answer E s c.session call.Boot ≡ answer E s Off call.Boot) (guards : Guards 1 7 new) where
  step-booted : (passes : List ℕ → Bool) (b : Started) (n : Numbers) (f : Fields) → StartsReady E s b n new → EndsByBytes passes mid (booted b n) new
      → IsOnAfter (booted b n) (Some f) → ShowsStarted tells (booted b n) (Some f) new → Leads E c (boot_turn (booted b n)) (Some f) new
  step-booted passes b n f ready by starts shows =
      let layout : E.layout ≡ f.layout = same-layout E b _ calm.sound.layout by.chose.has_layout ∙ sym starts.layout in
      let then : State = after s (answer E s Off call.Boot).moves in
      let shown : ShowsAt true f new then (started_session b) =
      as-told tells f new then (started_session b) told (shows then (record { layout = ready.ready.calm.sound.layout ∙ ap Ok layout; shows = ready.ready.calm.shows })) in (
        moved_on c call.Boot (after s (answer E s c.session call.Boot).moves ∷ []) (answer E s c.session call.Boot).next,
        Answered refl refl (record {
          state = s;
          found = record { candidate = found; numbers = sym ready.numbers };
          numbers = refl;
          reply_is = ready.reply_is ∙ sym (ap (λ (a : Answer). a.reply) same);
          next_is = refl;
        }),
        record {
          guard = guards;
          shows = record {
            state = then;
            one = ap (λ (a : Answer). after s a.moves ∷ []) same;
            layout = layout;
            shows = subst (λ (x : Session). ShowsAt true f new then x) (ready.next_is ∙ sym (ap (λ (a : Answer). a.next) same)) shown;
            ready = ready.ready;
          };
        },
      )

  step-stopped : (r : Reply) (n : Option Numbers) → IsTrue (is_stop r) → r ≢ reply.ReadFault → stopped_moves E s c.session call.Boot r ≡ (answer E s Off call.Boot).moves → StopsWith n E s new
      → Leads E c (record { call = call.Boot; reply = r; numbers = n }) None new
  step-stopped r None stop reads moves calm = (
    moved_on c call.Boot c.candidates Off,
    StoppedEarly stop (record { boot = refl; numbers = refl; reads = reads; next_is = refl }),
    record { guard = guards; shows = (refl, among-all E c.candidates s new found (calm-stays E new s calm)) },
  )
  step-stopped r (Some n) stop reads moves stops = (
    moved_on c call.Boot (prefixes s (stopped_moves E s c.session call.Boot r)) Off,
    Stopped stop refl (record {
      state = s;
      found = record { candidate = found; numbers = sym stops.0 };
      numbers = refl;
      reads = λ e. absurd (reads e);
      next_is = refl;
    }),
    record { guard = guards; shows = (refl, subst (λ ms. LeavesOneOf E (prefixes s ms) new) (sym moves) stops.1) },
  )

  step-off : (r : Reply) (n : Option Numbers) (on : Option Fields) → on ≡ None → IsTrue (is_stop r) → r ≢ reply.ReadFault
      → stopped_moves E s c.session call.Boot r ≡ (answer E s Off call.Boot).moves → StopsWith n E s new
      → Leads E c (record { call = call.Boot; reply = r; numbers = n }) on new
  step-off r n on off stop reads moves h = subst (λ (o : Option Fields). Leads E c (record { call = call.Boot; reply = r; numbers = n }) o new) (sym off) (step-stopped r n stop reads moves h)

  step-boot : (passes : List ℕ → Bool) (e : Ended) (on : Option Fields) → EndsByMachine E s e new → EndsByBytes passes mid e new → IsOnAfter e on → ShowsStarted tells e on new
      → Leads E c (boot_turn e) on new
  step-boot passes (booted b n) (Some f) ready by starts shows = step-booted passes b n f ready by starts shows
  step-boot passes (booted b n) None ready by starts shows = absurd starts
  step-boot passes (lost n) on h by off shows = step-off reply.Lost n on off refl (λ e. absurd cc) (ap (λ (a : Answer). a.moves) same) h
  step-boot passes (failed n) on h by off shows = step-off reply.Fault n on off refl (λ e. absurd cc) (ap (λ (a : Answer). a.moves) same) h
  step-boot passes other on h by off shows = absurd h

-- whatever the session is, it boots as one that is off
boots-again : (E : Setting) (s : State) (session : Session) → answer E s session call.Boot ≡ answer E s Off call.Boot
unfolding answer
boots-again E s Off = refl
boots-again E s (On boot staging handles) = refl

-- ---- what the reply and the flash say, by the end

-- the device has power by the reply
power-after-end : (e : Ended) (power : Bool) → is_ok (stop_of e) ≡ power_after power (reply_of_end e)
power-after-end no_metadata power = refl
power-after-end other power = refl

boots-from : (passes : List ℕ → Bool) (e : Ended) (old new : Told) → EndsByBytes passes old e new → BootsFrom passes old.now (reply_of_end e)
boots-from passes (booted b n) old new h = record { layout = b.layout; state = h.state; chose = h.chose; version_is = h.version_is }
boots-from passes (bad_layout f) old new h = h.0
boots-from passes no_metadata old new h = (h.0, h.1, h.2)
boots-from passes (no_bank active previous) old new h =
    record { layout = h.layout; state = h.state; chose = h.chose; active_is = h.active_is; previous_is = h.previous_is }
boots-from passes other old new h = tt

reads-none : (e : Ended) → reply_of_end e ≢ reply.ReadFault
reads-none no_metadata h = cc
reads-none other h = cc

-- ---- the counts

stop-of-reply : (e : Ended) → stop_of e ≡ stop_told (reply_of_end e)
stop-of-reply no_metadata = refl
stop-of-reply other = refl

-- Until the boot begins no count falls, no stop is counted, and no arming is made. Nothing is written, and the armed loss stays.
record Waits (old mid : TurnMoment) : Type 0 where
  falls : NoneFalls old.counts mid.counts
  once : all_stops mid.counts ≤ all_stops old.counts
  made : mid.counts.made ≡ old.counts.made
  reached : mid.counts.reached ≡ old.counts.reached
  armed : mid.armed ≡ old.armed
  writes : mid.writes ≡ old.writes

waits : (tells : Bool) (on : Option Fields) (old mid : TurnMoment) → GetsPower tells on old mid → Waits old mid
waits tells None old mid has = record {
  falls = record { faults = omega (arith, has.idles.faults); cuts = omega (arith, has.idles.cuts); reached = omega (arith, has.idles.reached); chances = has.idles.chances };
  once = omega (arith, has.idles.faults, has.idles.cuts, has.idles.reached);
  made = has.made;
  reached = has.idles.reached;
  armed = has.armed;
  writes = has.writes;
}
waits tells (Some f) old mid has = record {
  falls = subst (NoneFalls old.counts) (sym has.counts) (falls-same old.counts);
  once = omega (arith, ap all_stops has.counts);
  made = ap (λ (c : Counts). c.made) has.counts;
  reached = ap (λ (c : Counts). c.reached) has.counts;
  armed = has.armed;
  writes = has.writes;
}

module _ (old mid : TurnMoment) (are : Counts) (waiting : Waits old mid) where
  falls-then : (e : Ended) → Spends (stop_of e) mid.counts are → NoneFalls old.counts are
  falls-then e costs = record {
    faults = omega (arith, costs.faults, waiting.falls.faults);
    cuts = omega (arith, costs.cuts, waiting.falls.cuts);
    reached = omega (arith, costs.reached, waiting.falls.reached);
    chances = omega (arith, costs.chances, waiting.falls.chances);
  }

  lost-then : (e : Ended) → Spends (stop_of e) mid.counts are → reply_of_end e ≡ reply.Lost → Rose old.counts.cuts are.cuts ⊎ Rose old.counts.reached are.reached
  lost-then (lost n) costs h = by-cause (costs.lost refl)
    where
      by-cause : Rose mid.counts.cuts are.cuts ⊎ Rose mid.counts.reached are.reached → Rose old.counts.cuts are.cuts ⊎ Rose old.counts.reached are.reached
      by-cause (inl rose) = inl (rose-before old.counts.cuts mid.counts.cuts are.cuts waiting.falls.cuts rose)
      by-cause (inr rose) = inr (rose-before old.counts.reached mid.counts.reached are.reached waiting.falls.reached rose)
  lost-then other costs h = absurd cc

  failed-then : (e : Ended) → Spends (stop_of e) mid.counts are → reply_of_end e ≡ reply.Fault → Rose old.counts.faults are.faults
  failed-then (failed n) costs h = rose-before old.counts.faults mid.counts.faults are.faults waiting.falls.faults (costs.failed refl)
  failed-then other costs h = absurd cc

  once-then : (e : Ended) → Spends (stop_of e) mid.counts are → all_stops are ≤ all_stops old.counts + stops_in (stop_told (reply_of_end e))
  once-then e costs = omega (arith, waiting.once, costs.once, ap stops_in (stop-of-reply e))

-- ---- what an armed loss counts

reaches-then : {T : Type 0} (result : Result T FlashStop) (old was are : Counts) → old.cuts ≤ was.cuts → was.reached ≡ old.reached → ReachesNone result was are → ReachesNone result old are
reaches-then result old was are cuts reached none = record { same = none.same ∙ reached; lost = λ h. rose-before old.cuts was.cuts are.cuts cuts (none.lost h) }

boots-free : (e : Ended) (old mid new : TurnMoment) → Waits old mid → StaysUnarmed (stop_of e) mid.armed new.armed mid.counts new.counts
    → StaysUnarmed (stop_told (reply_of_end e)) old.armed new.armed old.counts new.counts
boots-free e old mid new waiting unarmed = record {
  spent = λ lost. unarmed.spent (subst (λ (x : Result (Unit {0}) FlashStop). IsErrOf x flash_stop.Lost) (sym (stop-of-reply e)) lost);
  free = λ none.
      let free = unarmed.free (waiting.armed ∙ none) in
      (free.0, subst (λ (x : Result (Unit {0}) FlashStop). ReachesNone x old.counts new.counts) (stop-of-reply e) (reaches-then (stop_of e) old.counts mid.counts new.counts waiting.falls.cuts waiting.reached free.1));
}

-- ---- the flash that boots

fresh-guard : (old mid : Told) → mid ≡ fresh old.guard mid.now → mid.guard ≡ old.guard
unfolding fresh
fresh-guard old mid is = ap (λ (t : Told). t.guard) is

rests : (guard image : List ℕ) → Guards 1 7 (fresh guard image) → IsAtRest (fresh guard image)
unfolding fresh is_unsure
rests guard image guards = record {
  guard = guards;
  front = λ place low high. refl;
  guarded = record { layout = λ place low high. refl; banks = λ image L s may has shows b used place low high. refl };
}

-- it is at rest, whatever it shows
fresh-rests : (old mid : Told) → mid ≡ fresh old.guard mid.now → Guards 1 7 old → IsAtRest mid
fresh-rests old mid is guards =
    let now : Guards 1 7 mid = same-guards old mid (fresh-guard old mid is) guards in
    subst IsAtRest (sym is) (rests old.guard mid.now (subst (Guards 1 7) is now))

-- nothing is unsure where nothing is dirty
sure : (t : Told) (i : ℕ) → NothingDirty t → IsFalse (is_unsure t i)
unfolding fresh is_unsure
sure t i clean = ap (λ (x : Told). is_unsure x i) clean

same-bytes : (old mid : Told) → NothingDirty old → Leaves old mid.now → mid.now ≡ old.now
same-bytes old mid clean leaves = ext_get_or 0 mid.now old.now leaves.size (λ i below. leaves.sure i (sure old i clean))

safe-guards : (power : Bool) (t : Told) → IsSafe power t → Guards 1 7 t
safe-guards true t safe = safe.guard
safe-guards false t safe = safe.0

guard-had : (tells : Bool) (on : Option Fields) (old mid : TurnMoment) → IsTrue tells → GetsPower tells on old mid → mid.told.guard ≡ old.told.guard
guard-had tells None old mid told has = fresh-guard old.told mid.told (has.clean told)
guard-had tells (Some f) old mid told has = same-told old.told mid.told has.told

rests-had : (tells : Bool) (on : Option Fields) (old mid : TurnMoment) → IsTrue tells → GetsPower tells on old mid → mid.power ≡ true → IsSafe old.power old.told → IsAtRest mid.told
rests-had tells None old mid told has power safe = fresh-rests old.told mid.told (has.clean told) (safe-guards old.power old.told safe)
rests-had tells (Some f) old mid told has power safe =
    subst IsAtRest (sym has.told) (subst (λ (b : Bool). IsSafe b old.told) (sym has.power ∙ power) safe)

bytes-had : (tells : Bool) (on : Option Fields) (old mid : TurnMoment) → IsTrue tells → GetsPower tells on old mid → NothingDirty old.told → mid.told.now ≡ old.told.now
bytes-had tells None old mid told has clean = same-bytes old.told mid.told clean (has.leaves told)
bytes-had tells (Some f) old mid told has clean = ap (λ (t : Told). t.now) has.told

-- The flash calmly shows one of the candidates as the boot begins.
record Begins (E : Setting) (c : Condition) (t : Told) : Type 0 where
  state : State
  found : Contains c.candidates state
  calm : IsCalm E t state

begins : (tells : Bool) (on : Option Fields) (old mid : TurnMoment) (last : ℕ) → IsTrue tells → GetsPower tells on old mid → (E : Setting) (c : Condition) → IsAt E c on old.told
    → mid.counts.chances ≤ last → (Rose old.counts.chances last → ⊥) → Begins E c mid.told
begins tells None old mid last told has E c is le none =
    let may : May old.told mid.told.now = record { leaves = has.leaves told; no_chance = no-chance (has.chance told) } in
    let again = calm-again E c.candidates old.told mid.told is.shows.1 (has.clean told) may in
    record { state = again.0; found = again.1; calm = again.2 }
  where
    no-chance : Rose old.counts.chances mid.counts.chances ⊎ NoChance old.told mid.told.now → NoChance old.told mid.told.now
    no-chance (inl rose) = absurd (none (rose-after old.counts.chances mid.counts.chances last le rose))
    no-chance (inr h) = h
begins tells (Some f) old mid last told has E c is le none =
    let s = is.shows.state in
    record {
      state = s;
      found = among c.candidates s is.shows.one;
      calm = subst (λ (t : Told). IsCalm E t s) (sym has.told) is.shows.ready.calm;
    }

-- ---- the turn

-- The boot of a flash with power ended so.
pub record EndsTurn (passes : List ℕ → Bool) (tells : Bool) (e : Ended) (mid new : TurnMoment) : Type 0 where
  pub on_is : IsOnAfter e new.on
  pub leaves : LeavesOn (reply_of_end e) new.on
  pub shows : IsTrue tells → ShowsStarted tells e new.on new.told
  pub power_is : new.power ≡ is_ok (stop_of e)
  pub costs : Spends (stop_of e) mid.counts new.counts
  pub idle : IdleEnd e mid.armed new.armed mid.counts new.counts
  pub spent : TakesBoot e mid.armed new.armed
  pub started : StartedBy e
  pub permitted : StartsPermitted passes e
  pub once : IsTrue tells → TakesByBytes mid.told.now e mid.armed new.armed
  pub unarmed : StaysUnarmed (stop_of e) mid.armed new.armed mid.counts new.counts
  pub touches : TouchesByBoot mid.writes new.writes
  pub touches_fewer : TouchesBoot e mid.writes new.writes
  pub ends : IsTrue tells → BootEnds passes mid.told e new.told

module _ (passes : List ℕ → Bool) (tells : Bool) (files : Option Directory) (faults : ℕ) (e : Ended) (old mid new : TurnMoment) (power : mid.power ≡ true)
    (ended : EndsTurn passes tells e mid new) where
  boots-by : (on : Option Fields) → old.on ≡ on → GetsPower tells on old mid → Turns passes tells files call.Boot (boot_turn e) old new faults faults
  boots-by on on_is has =
      let waiting : Waits old mid = waits tells on old mid has in record {
        call_is = refl;
        unnumbered = λ no. absurd cc;
        counts = falls-then old mid new.counts waiting e ended.costs;
        made = ended.costs.made ∙ waiting.made;
        armed = tt;
        free = λ no. boots-free e old mid new waiting ended.unarmed;
        lost = lost-then old mid new.counts waiting e ended.costs;
        failed = failed-then old mid new.counts waiting e ended.costs;
        once = once-then old mid new.counts waiting e ended.costs;
        unread = λ is. absurd (reads-none e is);
        lacking = λ lacks some. absurd lacks;
        later = omega arith;
        unread_once = omega arith;
        reads_none = λ none. refl;
        replies = (
          ended.leaves,
          record {
            mid = mid;
            has = subst (λ (o : Option Fields). GetsPower tells o old mid) (sym on_is) has;
            end = e;
            reply_is = refl;
            numbers_are = refl;
            on_is = ended.on_is;
            idle = ended.idle;
            spent = subst (λ (a : Option Arming). TakesBoot e a new.armed) waiting.armed ended.spent;
            touches = ended.touches_fewer;
            started = ended.started;
            permitted = ended.permitted;
            once = ended.once;
            ends = ended.ends;
          },
        );
        takes = record { by_call = takes old.on; unread = λ is. absurd (reads-none e is) };
        touches = subst (λ (w : ℕ → ℕ). TouchesByBoot w new.writes) waiting.writes ended.touches;
        power = ended.power_is ∙ power-after-end e old.power;
        guard = λ told. guard told ∙ guard-had tells on old mid told has;
        step = λ told E c passes_are files_are is none. step told E c passes_are (subst (λ (o : Option Fields). IsAt E c o old.told) on_is is) none;
        keeps = λ told f on no. absurd cc;
        spares = λ told f on no whole. absurd cc;
        decides = λ told f on agents. absurd cc;
        safe = λ told safe.
            let rest = rests-had tells on old mid told has power safe in
            subst (λ (b : Bool). IsSafe b new.told) (sym ended.power_is) (safe-by (stop_of e) mid.told new.told (guard told) rest ((ended.ends told).guarded rest));
        boots = λ told off clean is.
            subst (λ (image : List ℕ). BootsFrom passes image (reply_of_end e)) (bytes-had tells on old mid told has clean) (boots-from passes e mid.told new.told (ended.ends told).by_bytes);
      }
    where
      takes : (o : Option Fields) → TakesBy files call.Boot o old (reply_of_end e) new
      takes None = λ no. absurd cc
      takes (Some f) = tt

      guard : IsTrue tells → new.told.guard ≡ mid.told.guard
      guard told = guard-kept passes e mid.told new.told (ended.ends told).by_bytes

      step : IsTrue tells → (E : Setting) (c : Condition) → E.passes ≡ passes → IsAt E c on old.told → (Rose old.counts.chances new.counts.chances → ⊥) → Leads E c (boot_turn e) new.on new.told
      step told E c passes_are is none =
          let begin = begins tells on old mid new.counts.chances told has E c is ended.costs.chances none in
          let guards : Guards 1 7 mid.told = same-guards old.told mid.told (guard-had tells on old mid told has) is.guard in
          step-boot tells told E c begin.state mid.told new.told begin.calm begin.found (boots-again E begin.state c.session) (same-guards mid.told new.told (guard told) guards)
          passes e new.on ((ended.ends told).by_machine E begin.state passes_are begin.calm guards) (ended.ends told).by_bytes ended.on_is (ended.shows told)

  pub boots-turn : GetsPower tells old.on old mid → Turns passes tells files call.Boot (boot_turn e) old new faults faults
  boots-turn has = boots-by old.on refl has
