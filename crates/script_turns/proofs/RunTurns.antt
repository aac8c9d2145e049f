-- A run of turns, and one turn more.
use Rattle.std.proofs.Common.{◌≡◌, ◌⊎◌, ℕ, zero, suc, ◌+◌, ◌-◌, ◌*◌, ◌<◌, ◌≤◌, min, Bool, true, false, cond, List, ◌∷◌, ◌++◌, length, Option, Some, None, refl, sym, ap, subst, ◌∙◌, inl, inr, IsTrue, IsFalse, Contains, add-one, arith, length-append}
use Rattle.std.specs.List.{slice_get, list_any}
use Rattle.std.proofs.{Math.Seq.get_or-append_seam, lemmas.List.Elements.Contains-push_cases, lemmas.List.Sums.sum_by-append}
use Rattle.std.proofs.lemmas.Bool.{cases_Bool, cases_lt, false≢true, or_parts}
use Rattle.std.proofs.lemmas.Option.{same_Some, slice_get-get_or, slice_get_within}
use Rattle.std.specs.Prelude.{IsErrOf, []}
use Rattle.flash_core.specs.{Counts.Rose, Counts.StaysUnarmed, Counts.stops_in, declared.flash.Arming.Arming, declared.flash.Counts.Counts, Told.Told}
use Rattle.flash_core.specs.{Told.NothingDirty, May.Guards}
use Rattle.flash_core.proofs.Calls.{quiet_fresh}
use Rattle.flash_core.specs.declared.flash.FlashStop.TheVariants as flash_stop
pub use Rattle.base_core.proofs.Counts.{rose_earlier as rose-before}
use Rattle.host_io.specs.Contents.{Directory}
use Rattle.fwu_model.specs.{State.State, Sound.Setting, Call.Call, Reply.Reply, Reply.Turn, Calm.IsGuarded}
use Rattle.fwu_model.specs.Call as call
use Rattle.fwu_model.specs.Reply as reply
use Rattle.fwu_model.specs.Run.{Condition, start_of, arming_after, ends_run, Step, Answered, Idle, Stopped, StoppedEarly}
use Rattle.fwu_model.specs.Headline.{ArmedBy, IsCut, made_after}
use Rattle.fwu_model.specs.Causes.{FileNotRead, LossesAreCounted, cuts_in, greatest, is_cut, is_lost, losses_in}
use Rattle.fwu_model.proofs.{Runs.runs-grow, Frame.calm-stays, Frame.start-is-calm}
use Rattle.agent_machine.specs.Fields.{Fields}
use Rattle.script_turns.specs.{Boots.BootsFrom, Replies.Replies, Replies.power_after, Takes.stop_told}
use Rattle.script_turns.specs.Powered.{FitsMachine, TurnMoment, IsSafe, ShowsCondition}
use Rattle.script_turns.specs.Turning.{Makes, NoneFalls, Turns}
use Rattle.script_turns.specs.Runs.{Follows, LossesAreDue, Ran, RunsFree, RunsTo, armings_left, power_left, stops_of}
use Rattle.script_turns.proofs.{Touching.touches-more, Touching.touches-nothing, Staying.falls-same}

-- ---- the places of a list with one element more

slice_get-left : {X : Type 0} (xs ys : List X) (n : ℕ) → n < length xs → slice_get (xs ++ ys) n ≡ slice_get xs n
slice_get-left [] ys n below = absurd (omega (arith, below))
slice_get-left (x ∷ xs) ys zero below = refl
slice_get-left (x ∷ xs) ys (suc n) below = slice_get-left xs ys n (omega (arith, below))

slice_get-last : {X : Type 0} (xs : List X) (x : X) → slice_get (xs ++ x ∷ []) (length (xs ++ x ∷ []) - 1) ≡ Some x
slice_get-last xs x =
    let len = length-append xs (x ∷ []) in
    let at : length (xs ++ x ∷ []) - 1 ≡ length xs = omega (arith, len) in
    ap (slice_get (xs ++ x ∷ [])) at ∙ slice_get-get_or (xs ++ x ∷ []) (length xs) x (omega (arith, len)) ∙ ap Some (get_or-append_seam xs x [] x)

none-at : {X : Type 0} (p : X → Bool) (xs : List X) (n : ℕ) (x : X) → IsFalse (list_any p xs) → slice_get xs n ≡ Some x → IsFalse (p x)
none-at p [] n x none is = absurd (cc)
none-at p (y ∷ ys) zero x none is = ap p (sym (same_Some y x is)) ∙ (or_parts (p y) (list_any p ys) none).0
none-at p (y ∷ ys) (suc n) x none is = none-at p ys n x (or_parts (p y) (list_any p ys) none).1 is

-- ---- counts

falls-on : (old mid new : Counts) → NoneFalls old mid → NoneFalls mid new → NoneFalls old new
falls-on old mid new first then = record {
  faults = let a = first.faults in let b = then.faults in omega arith;
  cuts = let a = first.cuts in let b = then.cuts in omega arith;
  reached = let a = first.reached in let b = then.reached in omega arith;
  chances = let a = first.chances in let b = then.chances in omega arith;
}

pub rose-after : (old mid new : ℕ) → mid ≤ new → Rose old mid → Rose old new
rose-after old mid new later (inl more) = inl (omega arith)
rose-after old mid new later (inr top) = inr (omega arith)

is-lost : (r : Reply) → is_lost r ≡ true → r ≡ reply.Lost
is-lost reply.Lost is = refl
is-lost other is = absurd (false≢true is)

module _ (t : Turn) (journal : List Turn) (old mid new : Counts) where
  lost-more : losses_in (journal ++ t ∷ []) ≡ losses_in journal + cond (is_lost t.reply) 1 0
  lost-more = sum_by-append (λ (x : Turn). cond (is_lost x.reply) 1 0) journal (t ∷ []) ∙ omega arith

  losses-on : NoneFalls mid new → (t.reply ≡ reply.Lost → Rose mid.cuts new.cuts ⊎ Rose mid.reached new.reached) → LossesAreCounted journal old mid → LossesAreCounted (journal ++ t ∷ []) old new
  losses-on falls lost (inr (inl top)) = let cuts = falls.cuts in inr (inl (omega arith))
  losses-on falls lost (inr (inr top)) = let reached = falls.reached in inr (inr (omega arith))
  losses-on falls lost (inl sum) = elim (cases_Bool (is_lost t.reply)) [ inl that ↦ counted that (lost (is-lost t.reply that)) | inr other ↦ kept other ]
    where
      kept : is_lost t.reply ≡ false → LossesAreCounted (journal ++ t ∷ []) old new
      kept other =
          let cuts = falls.cuts in
          let reached = falls.reached in
          let more = lost-more ∙ ap (λ (b : Bool). losses_in journal + cond b 1 0) other in
          inl (omega (arith, more))

      counted : is_lost t.reply ≡ true → Rose mid.cuts new.cuts ⊎ Rose mid.reached new.reached → LossesAreCounted (journal ++ t ∷ []) old new
      counted is (inl (inl more)) =
          let reached = falls.reached in
          let sums = lost-more ∙ ap (λ (b : Bool). losses_in journal + cond b 1 0) is in
          inl (omega (arith, sums))
      counted is (inl (inr top)) = inr (inl top)
      counted is (inr (inl more)) =
          let cuts = falls.cuts in
          let sums = lost-more ∙ ap (λ (b : Bool). losses_in journal + cond b 1 0) is in
          inl (omega (arith, sums))
      counted is (inr (inr top)) = inr (inr top)

-- ---- a flash with nothing dirty

clean-guarded : (t : Told) → NothingDirty t → IsGuarded t
clean-guarded t clean = record {
  layout = quiet_fresh 0 4096 t clean;
  banks = λ image L s may layout shows b valid i from below. quiet_fresh i (i + 1) t clean i (omega arith) (omega arith);
}

clean-safe : (power : Bool) (t : Told) → NothingDirty t → Guards 1 7 t → IsSafe power t
clean-safe false t clean guard = (guard, clean-guarded t clean)
clean-safe true t clean guard = record { guard = guard; front = quiet_fresh 0 (4096 * 8) t clean; guarded = clean-guarded t clean }

-- ---- the arming

next-cuts : {E : Setting} {c : Condition} {t : Turn} {next : Condition} → Step E c t next → next.cuts ≡ (arming_after c t.call).0
next-cuts (Answered stops asks is) = ap (λ (x : Condition). x.cuts) is.next_is
next-cuts (Idle asks is) = ap (λ (x : Condition). x.cuts) is.next_is
next-cuts (Stopped stops asks is) = ap (λ (x : Condition). x.cuts) is.next_is
next-cuts (StoppedEarly stops is) = ap (λ (x : Condition). x.cuts) is.next_is

-- one arming more, or none
made-more : (before n mid after : ℕ) → after ≡ min (mid + 1) greatest → mid ≡ made_after before n → after ≡ made_after before (n + 1)
made-more before n mid after one was = rw (add-one) (one ∙ ap (λ (k : ℕ). min (k + 1) greatest) was)

made-on : (c : Condition) (what : Call) (before mid after next : ℕ) → next ≡ (arming_after c what).0 → Makes what mid after
    → mid ≡ made_after before c.cuts → after ≡ made_after before next
made-on c (call.Cut n k) before mid after next is one was = made-more before c.cuts mid after one was ∙ ap (made_after before) (sym is)
made-on c other before mid after next is same was = same ∙ was ∙ ap (made_after before) (sym is)

armed-on : (E : Setting) (c next : Condition) (t : Turn) (journal : List Turn) (old mid new : Counts) (was armed : Option Arming)
    → ArmedBy c journal old mid was → Step E c t next → Makes t.call mid.made new.made → IsCut (Some t) armed → ArmedBy next (journal ++ t ∷ []) old new armed
armed-on E c next t journal old mid new was armed by step makes cut = record {
  made = made-on c t.call old.made mid.made new.made next.cuts (next-cuts step) makes by.made;
  last = subst (λ (x : Option Turn). IsCut x armed) (sym (slice_get-last journal t)) cut;
}

cuts-more : (journal : List Turn) (t : Turn) → cuts_in (journal ++ t ∷ []) ≡ cuts_in journal + cond (is_cut t.call) 1 0
cuts-more journal t = sum_by-append (λ (x : Turn). cond (is_cut x.call) 1 0) journal (t ∷ []) ∙ omega arith

-- where none of them is a `cut`
none-cut : (journal : List Turn) (t : Turn) → cuts_in (journal ++ t ∷ []) ≡ 0 → (cuts_in journal ≡ 0) × IsFalse (is_cut t.call)
none-cut journal t none = (omega (arith, cuts-more journal t, none), uncut (is_cut t.call) (omega (arith, cuts-more journal t, none)))
  where
    uncut : (b : Bool) → ◌≡◌ {A = ℕ} (cond b 1 0) 0 → IsFalse b
    uncut true one = absurd (omega arith)
    uncut false zero_is = refl

lost-told : (r : Reply) → r ≡ reply.Lost → IsErrOf (stop_told r) flash_stop.Lost
lost-told r is = subst (λ (x : Reply). IsErrOf (stop_told x) flash_stop.Lost) (sym is) refl

free-on : (t : Turn) (journal : List Turn) (old mid new : TurnMoment) → NoneFalls old.counts mid.counts → NoneFalls mid.counts new.counts → StaysUnarmed (stop_told t.reply) mid.armed new.armed mid.counts new.counts → RunsFree journal old mid → RunsFree (journal ++ t ∷ []) old new
free-on t journal old mid new before behind free was =
    let turned = free.free was.armed in
    record {
      armed = turned.0;
      reached = turned.1.same ∙ was.reached;
      lost = λ u in_it is. elim (Contains-push_cases journal t u in_it) [
        | inl earlier ↦ rose-after old.counts.cuts mid.counts.cuts new.counts.cuts behind.cuts (was.lost u earlier is)
        | inr last ↦ rose-before old.counts.cuts mid.counts.cuts new.counts.cuts before.cuts (turned.1.lost (lost-told t.reply (ap (λ (x : Turn). x.reply) last ∙ is)))
      ];
    }

few-left : (a : Option Arming) → armings_left a ≤ 1
few-left None = omega arith
few-left (Some a) = omega arith

-- a turn takes an armed loss, or one that is counted, if it is lost; and it arms one, if it is a `cut`
due-on : (t : Turn) (journal : List Turn) (old mid new : TurnMoment) → NoneFalls mid.counts new.counts
    → (IsTrue (is_cut t.call) → IsFalse (is_lost t.reply)) → (IsFalse (is_cut t.call) → StaysUnarmed (stop_told t.reply) mid.armed new.armed mid.counts new.counts)
    → LossesAreDue journal old mid → LossesAreDue (journal ++ t ∷ []) old new
due-on t journal old mid new falls quiet free (inr top) = let cuts = falls.cuts in inr (omega arith)
due-on t journal old mid new falls quiet free (inl sum) = elim (one-more (is_cut t.call) (is_lost t.reply) refl refl) [
  | inl less ↦ let losses = lost-more t journal old.counts mid.counts new.counts in let cuts = cuts-more journal t in inl (omega (arith, losses, cuts, less, sum))
  | inr top ↦ inr top
]
  where
    one-more : (c l : Bool) → is_cut t.call ≡ c → is_lost t.reply ≡ l
        → (cond (is_lost t.reply) 1 0 + armings_left new.armed + mid.counts.cuts ≤ cond (is_cut t.call) 1 0 + armings_left mid.armed + new.counts.cuts)
        ⊎ (greatest ≤ new.counts.cuts)
    one-more true true is lost = absurd (false≢true (sym (quiet is) ∙ lost))
    one-more true false is other =
        let arms = ap {B = ℕ} (λ (b : Bool). cond b 1 0) is in
        let loses = ap {B = ℕ} (λ (b : Bool). cond b 1 0) other in
        inl (omega (arith, arms, loses, few-left new.armed, falls.cuts))
    one-more false true is lost = by mid.armed refl
      where
        by : (a : Option Arming) → mid.armed ≡ a
            → (cond (is_lost t.reply) 1 0 + armings_left new.armed + mid.counts.cuts ≤ cond (is_cut t.call) 1 0 + armings_left mid.armed + new.counts.cuts)
            ⊎ (greatest ≤ new.counts.cuts)
        by None none =
            let gone = (free is).free none in
            let left = ap armings_left gone.0 in
            let loses = ap {B = ℕ} (λ (b : Bool). cond b 1 0) lost in
            elim (gone.1.lost (lost-told t.reply (is-lost t.reply lost))) [
              | inl more ↦ inl (omega (arith, left, loses, more))
              | inr top ↦ inr top
            ]
        by (Some a) some =
            let left = ap armings_left ((free is).spent (lost-told t.reply (is-lost t.reply lost))) in
            let had = ap armings_left some in
            let loses = ap {B = ℕ} (λ (b : Bool). cond b 1 0) lost in
            inl (omega (arith, left, had, loses, falls.cuts))
    one-more false false is other = by mid.armed refl
      where
        by : (a : Option Arming) → mid.armed ≡ a
            → (cond (is_lost t.reply) 1 0 + armings_left new.armed + mid.counts.cuts ≤ cond (is_cut t.call) 1 0 + armings_left mid.armed + new.counts.cuts)
            ⊎ (greatest ≤ new.counts.cuts)
        by None none =
            let left = ap armings_left ((free is).free none).0 in
            let loses = ap {B = ℕ} (λ (b : Bool). cond b 1 0) other in
            inl (omega (arith, left, loses, falls.cuts))
        by (Some a) some =
            let had = ap armings_left some in
            let loses = ap {B = ℕ} (λ (b : Bool). cond b 1 0) other in
            inl (omega (arith, had, loses, few-left new.armed, falls.cuts))

-- a `cut` is answered as one, so that it isn't lost
quiet-cut : (passes : List ℕ → Bool) (tells : Bool) (files : Option Directory) (c : Call) (t : Turn) (old new : TurnMoment)
    → Replies passes tells files c old t new → IsTrue (is_cut c) → IsFalse (is_lost t.reply)
quiet-cut passes tells files (call.Cut n k) t old new replies is = ap is_lost replies.0
quiet-cut passes tells files other t old new replies is = absurd (false≢true is)

-- the armings of a journal, and of one turn more
made-by : (n before mid after : ℕ) (what : Call) → Makes what mid after → mid ≡ made_after before n → after ≡ made_after before (n + cond (is_cut what) 1 0)
made-by n before mid after (call.Cut m k) one was = made-more before n mid after one was
made-by n before mid after other same was = let none : n ≡ n + 0 = omega arith in same ∙ was ∙ ap (made_after before) none

-- the stops of a journal, and of one turn more
stops-more : (journal : List Turn) (t : Turn) → stops_of (journal ++ t ∷ []) ≡ stops_of journal + stops_in (stop_told t.reply)
stops-more journal t = sum_by-append (λ (x : Turn). stops_in (stop_told x.reply)) journal (t ∷ []) ∙ omega arith

-- ---- the power

power-more : (power : Bool) (journal : List Turn) (t : Turn) → power_left power (journal ++ t ∷ []) ≡ power_after (power_left power journal) t.reply
power-more power [] t = refl
power-more power (u ∷ turns) t = power-more (power_after power u.reply) turns t

-- ---- the files

-- a file that was not read between two counts was not read between counts around them
pub not-read-around : (files : Option Directory) (low was are high : ℕ) (c : Call) → low ≤ was → are ≤ high → FileNotRead files was are c → FileNotRead files low high c
not-read-around files low was are high (call.Send name request) before after (inl rose) = inl (rose-before low was high before (rose-after was are high after rose))
not-read-around files low was are high (call.Send name request) before after (inr lacks) = inr lacks
not-read-around files low was are high (call.SendPartial name request) before after (inl rose) = inl (rose-before low was high before (rose-after was are high after rose))
not-read-around files low was are high (call.SendPartial name request) before after (inr lacks) = inr lacks
not-read-around files low was are high other before after not_read = absurd not_read

-- ---- the whole

module _ (passes : List ℕ → Bool) (tells : Bool) (files : Option Directory) where
  -- what a turn does, behind what those before it did
  follows-on : (journal : List Turn) (t : Turn) (old mid new : TurnMoment) (from through to : ℕ) → Follows passes tells files journal old mid from through → Turns passes tells files t.call t mid new through to
      → FitsMachine tells new → Follows passes tells files (journal ++ t ∷ []) old new from to
  follows-on [] t old mid new from through to (same, none) turned fits = (
    new,
    to,
    subst (λ (m : TurnMoment). Turns passes tells files t.call t m new from to) same (subst (λ (k : ℕ). Turns passes tells files t.call t mid new k to) none turned),
    fits,
    (refl, refl),
  )
  follows-on (u ∷ turns) t old mid new from through to (next, k, first, is, rest) turned fits =
      (next, k, first, is, follows-on turns t next mid new k through to rest turned fits)

  pub ran-none : (old : TurnMoment) (from : ℕ) → old.on ≡ None → Ran passes tells files [] old old from from
  ran-none old from off = record {
    counts = falls-same old.counts;
    once = omega arith;
    free = λ unarmed none. record { armed = unarmed; reached = refl; lost = λ t in_it is. absurd (no-turn t in_it) };
    lost_turns = inl (omega arith);
    due = inl (omega arith);
    fault_turns = λ t in_it is. absurd (no-turn t in_it);
    unread_turns = λ t in_it is. absurd (no-turn t in_it);
    later = omega arith;
    touches = touches-nothing old off;
    follows = (refl, refl);
    made = refl;
    power = refl;
    guard = λ told. refl;
    ends = λ n t is ends. absurd (cc);
    run = λ told E start sound files_are no_chance. record {
      last = start_of start;
      runs = refl;
      is_at = record {
        guard = sound.guarded;
        shows = subst (λ (on : Option Fields). ShowsCondition E (start_of start) on old.told) (sym off)
            (refl, calm-stays E old.told start (start-is-calm E old.told start sound.clean sound.sound sound.shows));
      };
      armed = record { made = refl; last = tt };
    };
    safe = λ told clean guard. clean-safe old.power old.told clean guard;
    untouched = λ empty. refl;
    first = λ told clean t is. absurd (cc);
  }
    where
      no-turn : (t : Turn) → Contains [] t → ⊥
      no-turn t (k, below, is) = omega arith

  run-on : (E : Setting) (start : State) (c : Call) (t : Turn) (journal : List Turn) (old mid new : TurnMoment) (through to : ℕ) → IsTrue tells → E.passes ≡ passes → files ≡ Some E.files → NoneFalls old.counts mid.counts
      → IsFalse (list_any (λ (x : Turn). ends_run x.reply) journal) → Turns passes tells files c t mid new through to → (Rose mid.counts.chances new.counts.chances → ⊥) → RunsTo E start journal old mid → RunsTo E start (journal ++ t ∷ []) old new
  run-on E start c t journal old mid new through to told passes_are files_are falls none turned no_chance was =
      let step = turned.step told E was.last passes_are files_are was.is_at no_chance in
      record {
        last = step.0;
        runs = runs-grow E start journal was.last step.0 t was.runs none step.1;
        is_at = step.2;
        armed = armed-on E was.last step.0 t journal old.counts mid.counts new.counts mid.armed new.armed was.armed step.1
            (subst (λ (x : Call). Makes x mid.counts.made new.counts.made) (sym turned.call_is) turned.made) turned.armed;
      }

  first-on : (c : Call) (t : Turn) (journal : List Turn) (old mid new : TurnMoment) (from through to : ℕ) → old.on ≡ None → Ran passes tells files journal old mid from through
      → Turns passes tells files c t mid new through to
      → IsTrue tells → NothingDirty old.told → (u : Turn) → slice_get (journal ++ t ∷ []) 0 ≡ Some u → u.call ≡ call.Boot → BootsFrom passes old.told.now u.reply
  first-on c t [] old mid new from through to off ran turned told clean u is boots =
      let same = ran.untouched refl in
      let turn_is = same_Some t u is in
      let first = turned.boots told (ap (λ (x : TurnMoment). x.on) same ∙ off) (subst (λ (x : TurnMoment). NothingDirty x.told) (sym same) clean) (sym turned.call_is ∙ ap (λ (x : Turn). x.call) turn_is ∙ boots) in
      subst (λ (x : Turn). BootsFrom passes old.told.now x.reply) turn_is (subst (λ (x : TurnMoment). BootsFrom passes x.told.now t.reply) same first)
  first-on c t (x ∷ xs) old mid new from through to off ran turned told clean u is boots = ran.first told clean u is boots

  ends-on : (t : Turn) (journal : List Turn) → IsFalse (list_any (λ (x : Turn). ends_run x.reply) journal) → (n : ℕ) (u : Turn) → slice_get (journal ++ t ∷ []) n ≡ Some u → IsTrue (ends_run u.reply)
      → n + 1 ≡ length (journal ++ t ∷ [])
  ends-on t journal none n u is ends =
      let len = length-append journal (t ∷ []) in
      let below = slice_get_within (journal ++ t ∷ []) n u is in
      elim (cases_lt n (length journal)) [
        | inl before ↦ absurd (false≢true (sym (none-at (λ (x : Turn). ends_run x.reply) journal n u none (sym (slice_get-left journal (t ∷ []) n before) ∙ is)) ∙ ends))
        | inr behind ↦ omega (arith, len, below)
      ]

  pub ran-on : (c : Call) (t : Turn) (journal : List Turn) (old mid new : TurnMoment) (from through to : ℕ) → old.on ≡ None → Ran passes tells files journal old mid from through
      → IsFalse (list_any (λ (x : Turn). ends_run x.reply) journal) → Turns passes tells files c t mid new through to → FitsMachine tells new
      → Ran passes tells files (journal ++ t ∷ []) old new from to
  ran-on c t journal old mid new from through to off ran none turned fits = record {
    counts = falls-on old.counts mid.counts new.counts ran.counts turned.counts;
    once = omega (arith, ran.once, turned.once, stops-more journal t);
    free = λ unarmed none. free-on t journal old mid new ran.counts turned.counts (turned.free (ap is_cut (sym turned.call_is) ∙ (none-cut journal t none).1)) (ran.free unarmed (none-cut journal t none).0);
    lost_turns = losses-on t journal old.counts mid.counts new.counts turned.counts turned.lost ran.lost_turns;
    due = due-on t journal old mid new turned.counts
        (λ is. quiet-cut passes tells files c t mid new turned.replies (ap is_cut (sym turned.call_is) ∙ is))
        (λ no. turned.free (ap is_cut (sym turned.call_is) ∙ no)) ran.due;
    fault_turns = λ u in_it is. elim (Contains-push_cases journal t u in_it) [
      | inl before ↦ rose-after old.counts.faults mid.counts.faults new.counts.faults turned.counts.faults (ran.fault_turns u before is)
      | inr last ↦ rose-before old.counts.faults mid.counts.faults new.counts.faults ran.counts.faults (turned.failed (ap (λ (x : Turn). x.reply) last ∙ is))
    ];
    unread_turns = λ u in_it is. elim (Contains-push_cases journal t u in_it) [
      | inl before ↦ not-read-around files from from through to u.call (omega arith) turned.later (ran.unread_turns u before is)
      | inr last ↦ subst (λ (x : Call). FileNotRead files from to x) (sym turned.call_is ∙ ap (λ (x : Turn). x.call) last)
          (not-read-around files from through to to c ran.later (omega arith) (turned.unread (ap (λ (x : Turn). x.reply) last ∙ is)))
    ];
    later = let first = ran.later in let more = turned.later in omega arith;
    touches = touches-more passes tells files c t journal old mid new through to turned ran.touches;
    made = subst (λ (n : ℕ). new.counts.made ≡ made_after old.counts.made n) (sym (cuts-more journal t))
        (made-by (cuts_in journal) old.counts.made mid.counts.made new.counts.made t.call (subst (λ (x : Call). Makes x mid.counts.made new.counts.made) (sym turned.call_is) turned.made) ran.made);
    power = turned.power ∙ ap (λ (b : Bool). power_after b t.reply) ran.power ∙ sym (power-more old.power journal t);
    guard = λ told. turned.guard told ∙ ran.guard told;
    follows = follows-on journal t old mid new from through to ran.follows (subst (λ (x : Call). Turns passes tells files x t mid new through to) (sym turned.call_is) turned) fits;
    ends = ends-on t journal none;
    run = λ told E start sound files_are no_chance.
        run-on E start c t journal old mid new through to told sound.passes_are files_are ran.counts none turned (λ rose. no_chance (rose-before old.counts.chances mid.counts.chances new.counts.chances ran.counts.chances rose))
        (ran.run told E start sound files_are (λ rose. no_chance (rose-after old.counts.chances mid.counts.chances new.counts.chances turned.counts.chances rose)));
    safe = λ told clean guard. turned.safe told (ran.safe told clean guard);
    untouched = λ empty. absurd (some journal empty);
    first = first-on c t journal old mid new from through to off ran turned;
  }
    where
      some : (xs : List Turn) → xs ++ t ∷ [] ≡ [] → ⊥
      some xs empty = let len = ap length empty in omega (arith, len, length-append xs (t ∷ []))
