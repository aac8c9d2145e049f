-- Why a run ended as it did, whichever way that was.
use Rattle.std.proofs.Common.{◌≡◌, ◌≢◌, ℕ, suc, ◌-◌, Bool, true, false, not, ◌||◌, ◌==◌, List, ◌∷◌, length, Option, Some, None, Ok, Err, slice_get, Contains, refl, sym, ap, subst, ◌∙◌, arith, inl, inr, ◌⊎◌, IsTrue, IsFalse, IfSome, IsSome, eqb-true, []}
use Rattle.std.specs.List.{list_all}
use Rattle.std.proofs.lemmas.Bool.{cases_Bool, or_cases, false≢true, and_from, not_from_false}
use Rattle.base_core.specs.Counts.{Rose}
use Rattle.flash_core.specs.declared.flash.Counts.{Counts}
use Rattle.fwu_model.specs.{declared.kinds.Note.Note, Call.Call, Reply.Reply, Reply.Turn, Run.ends_run, Script.script_of}
use Rattle.fwu_model.specs.{Script.is_too_long, Allow.list_bytes, Wrote.may_lack, Wrote.IsBadScript, Wrote.IsBadList}
use Rattle.fwu_model.specs.declared.kinds.Note.TheVariants as note
use Rattle.fwu_model.specs.Reply as reply
use Rattle.fwu_model.specs.Asked as model
use Rattle.fwu_formats.specs.Digests.{digests_of}
use Rattle.fwu_model.specs.Causes.{EndsAs, Faults, LossesAreCounted, LacksList, NotRead, NotedAlone, RefusesList, may_end_before, may_fail_before, has_note, status_by, note_by}
use Rattle.fwu_model.specs.Causes as noted_alone
use Rattle.host_io.specs.{Contents.Directory, Printed.Prints, Printed.all, Printed.front, Printed.nothing}
use Rattle.fwu_words.specs.Order.{Asked}
use Rattle.script_runs.specs.{Sourced.in_short, Ending.Ending, Ending.World}
use Rattle.script_turns.specs.{Powered.TurnMoment, Powered.at, Runs.Ran}
use Rattle.script_runs.specs.Ending.{ScriptEnded, Printed, status_of_last, note_of_last, last_turn}
use Rattle.script_runs.specs.Ways.{Given, Way, HasGoodList, AsksTurns, HasCalls, Refuses, usage, not_read, list_not_read, too_long, bad_script, bad_list, starved, refused, ran}
use Rattle.script_runs.proofs.Making.{asks-turns, same-calls}
use Rattle.script_runs.proofs.TopSources.{raised-rose, printed-plan, by-plan, printed-rose}
use Rattle.script_cmd.specs.Promises.{EndsHold}
use Rattle.script_cmd.proofs.PromiseTurns.{last-get, is_ran, none-ended, ran-at, ran-status, lack-cases, some-from, some-at}

-- ---- no turn

no-turn : (t : Turn) → Contains [] t → ⊥
no-turn t (k, below, is) = omega arith

none-lost : (counts : Counts) → LossesAreCounted [] counts counts
none-lost counts = inl (omega arith)

-- ---- why nothing ran

-- a list that is told isn't lacking
lacks-none : (list : Option (List ℕ)) (files : Option Directory) (bytes : List ℕ) → LacksList files list → list_bytes list files ≡ Some bytes → ⊥
lacks-none None files bytes lacks told = lacks
lacks-none (Some name) None bytes lacks told = lacks
lacks-none (Some name) (Some files) bytes lacks told = let both = sym lacks ∙ told in cc

false-of : (b : Bool) → IsTrue (not b) → IsFalse b
false-of false is = refl
false-of true is = absurd (false≢true is)

module _ (asked : Option Asked) (g : Given) (faults_before faults_after : Faults) where
  pub why-planned : (planned : ℕ) (noted : Note) (line : List ℕ) → Refuses asked g faults_before faults_after planned noted line → IsTrue (may_end_before planned) × (planned ≢ 0) × (planned ≢ 3)
  why-planned planned noted line (usage good is) = (refl, (λ e. omega arith), (λ e. omega arith))
  why-planned planned noted line other = (refl, (λ e. omega arith), (λ e. omega arith))

  why-usage : (planned : ℕ) (noted : Note) (line : List ℕ) → Refuses asked g faults_before faults_after planned noted line → planned ≡ 1 → in_short asked ≡ model.NoScript
  why-usage planned noted line (usage good is) e = ap in_short is
  why-usage planned noted line other e = absurd (omega arith)

  why-not_read : (planned : ℕ) (noted : Note) (line : List ℕ) → Refuses asked g faults_before faults_after planned noted line → planned ≡ 2 → NotRead (in_short asked) g.list g.files faults_before faults_after
  why-not_read planned noted line (not_read good run rose) e = inl (ap in_short run, rose)
  why-not_read planned noted line (list_not_read some why) e = inr (some, why)
  why-not_read planned noted line other e = absurd (omega arith)

  why-script : (planned : ℕ) (noted : Note) (line : List ℕ) → Refuses asked g faults_before faults_after planned noted line → planned ≡ 4 → (n : ℕ) × (noted ≡ note.BadLine n) × IsBadScript g.script n
  why-script planned noted line (bad_script n good asks short bad) e = (n, refl, bad)
  why-script planned noted line other e = absurd (omega arith)

  why-long : (planned : ℕ) (noted : Note) (line : List ℕ) → Refuses asked g faults_before faults_after planned noted line → planned ≡ 8 → (in_short asked ≡ model.Source) × IfSome g.script (λ bytes. IsTrue (is_too_long bytes))
  why-long planned noted line (too_long good run long) e = (ap in_short run, long)
  why-long planned noted line other e = absurd (omega arith)

  why-list : (planned : ℕ) (noted : Note) (line : List ℕ) → Refuses asked g faults_before faults_after planned noted line → planned ≡ 13 → IsSome g.list × (n : ℕ) × (noted ≡ note.BadList n) × IsBadList (list_bytes g.list g.files) n
  why-list planned noted line (bad_list n some there bad) e = (some, n, refl, bad)
  why-list planned noted line other e = absurd (omega arith)

  -- ---- what can't run is refused for a cause that comes no later

  good-list : HasGoodList g.list g.files → (bytes : List ℕ) (k : ℕ) → list_bytes g.list g.files ≡ Some bytes → digests_of bytes ≡ Err k → ⊥
  good-list good bytes k is bad = some-at (list_bytes g.list g.files) (λ b. (n : ℕ) → digests_of b ≡ Err n → ⊥) bytes good.good is k bad

  abbrev pub OwnList : ℕ → Type 0
  OwnList planned = (planned ≡ 13) ⊎ ((planned ≡ 2) × Rose faults_before.files faults_after.files)

  bad-list : (planned : ℕ) (noted : Note) (line : List ℕ) → Refuses asked g faults_before faults_after planned noted line → (bytes : List ℕ) (k : ℕ) → list_bytes g.list g.files ≡ Some bytes → digests_of bytes ≡ Err k → OwnList planned
  bad-list planned noted line (usage good is) bytes k told e = absurd (good-list good bytes k told e)
  bad-list planned noted line (not_read good run rose) bytes k told e = absurd (good-list good bytes k told e)
  bad-list planned noted line (list_not_read some (inl rose)) bytes k told e = inr (refl, rose)
  bad-list planned noted line (list_not_read some (inr lacks)) bytes k told e = absurd (lacks-none g.list g.files bytes lacks told)
  bad-list planned noted line (too_long good run long) bytes k told e = absurd (good-list good bytes k told e)
  bad-list planned noted line (bad_script n good asks short bad) bytes k told e = absurd (good-list good bytes k told e)
  bad-list planned noted line (bad_list n some there bad) bytes k told e = inl refl

  pub bad-status : (planned : ℕ) (noted : Note) (line : List ℕ) (status : ℕ) (taken_before taken_after : Option (List ℕ)) (low high : ℕ) → Refuses asked g faults_before faults_after planned noted line → Prints line planned status taken_before taken_after low high
      → (bytes : List ℕ) (k : ℕ) → list_bytes g.list g.files ≡ Some bytes → digests_of bytes ≡ Err k → RefusesList status faults_before faults_after
  bad-status planned noted line status taken_before taken_after low high why prints bytes k told e =
      elim (bad-list planned noted line why bytes k told e) [
        | inl thirteen ↦ inl (by-plan line planned status taken_before taken_after low high prints (λ n. (n == 13) || ((n == 3) || (n == 9))) refl refl (subst (λ n. IsTrue ((n == 13) || ((n == 3) || (n == 9)))) (sym thirteen) refl))
        | inr two ↦ at-two two.0 two.1 prints
      ]
    where
      at-two : planned ≡ 2 → Rose faults_before.files faults_after.files → Prints line planned status taken_before taken_after low high → RefusesList status faults_before faults_after
      at-two two rose (all is appends later) = inr (is ∙ two, rose)
      at-two two rose (front is n appends later rises) = inl (subst (λ n. IsTrue ((n == 13) || ((n == 3) || (n == 9)))) (sym is) refl)
      at-two two rose (nothing is same later) = inl (subst (λ n. IsTrue ((n == 13) || ((n == 3) || (n == 9)))) (sym is) refl)

  pub lacks-list : (planned : ℕ) (noted : Note) (line : List ℕ) → Refuses asked g faults_before faults_after planned noted line → LacksList g.files g.list → IsTrue (may_fail_before planned)
  lacks-list planned noted line (usage good is) lacks = absurd (good.there lacks)
  lacks-list planned noted line (too_long good run long) lacks = absurd (good.there lacks)
  lacks-list planned noted line (bad_script n good asks short bad) lacks = absurd (good.there lacks)
  lacks-list planned noted line (bad_list n some there bad) lacks = absurd (there lacks)
  lacks-list planned noted line other lacks = refl

  alone : (planned : ℕ) (noted : Note) (line : List ℕ) (status : ℕ) (taken_before taken_after : Option (List ℕ)) (low high : ℕ) → Refuses asked g faults_before faults_after planned noted line → Prints line planned status taken_before taken_after low high
      → NotedAlone g.script g.list g.files status noted
  alone planned noted line status taken_before taken_after low high (bad_script n good asks short bad) p =
      noted_alone.BadScript n (by-plan line planned status taken_before taken_after low high p (λ k. (k == 4) || ((k == 3) || (k == 9))) refl refl refl) bad
  alone planned noted line status taken_before taken_after low high (bad_list n some there bad) p =
      noted_alone.BadList n (by-plan line planned status taken_before taken_after low high p (λ k. (k == 13) || ((k == 3) || (k == 9))) refl refl refl) some bad
  alone planned noted line status taken_before taken_after low high other p =
      noted_alone.Nothing
      (false-of _ (by-plan line planned status taken_before taken_after low high p (λ k. not (has_note k)) refl refl refl))

  bad-words : (planned : ℕ) (noted : Note) (line : List ℕ) → Refuses asked g faults_before faults_after planned noted line → in_short asked ≡ model.NoScript → IsTrue ((planned == 1) || (may_fail_before planned || (planned == 13)))
  bad-words planned noted line (not_read good run rose) e = absurd (asks-turns asked (inl run) e)
  bad-words planned noted line (too_long good run long) e = absurd (asks-turns asked (inl run) e)
  bad-words planned noted line (bad_script n good asks short bad) e = absurd (asks-turns asked asks e)
  bad-words planned noted line other e = refl

  longer : (planned : ℕ) (noted : Note) (line : List ℕ) → Refuses asked g faults_before faults_after planned noted line → in_short asked ≢ model.NoScript → (bytes : List ℕ) → g.script ≡ Some bytes → IsTrue (is_too_long bytes)
      → IsTrue ((planned == 8) || (may_fail_before planned || (planned == 13)))
  longer planned noted line (usage good is) runs bytes told e = absurd (runs (ap in_short is))
  longer planned noted line (bad_script n good asks short bad) runs bytes told e =
      absurd (false≢true (sym (some-at g.script (λ b. is_too_long b ≡ false) bytes short told) ∙ e))
  longer planned noted line other runs bytes told e = refl

  no-script : (planned : ℕ) (noted : Note) (line : List ℕ) → Refuses asked g faults_before faults_after planned noted line → in_short asked ≢ model.NoScript
      → IsTrue ((planned == 4) || ((planned == 8) || (may_fail_before planned || (planned == 13))))
  no-script planned noted line (usage good is) runs = absurd (runs (ap in_short is))
  no-script planned noted line other runs = refl

  -- ---- nothing ran

  module _ (status : ℕ) (noted : Note) (counts : Counts) where
    -- at each status but that of the sink or memory there is the cause of that status
    idle-ends : ((k : ℕ) → IsFalse (may_lack k) → status ≡ k → (line : List ℕ) × Refuses asked g faults_before faults_after k noted line)
        → ((f : ℕ → Bool) → IsTrue (f 3) → IsTrue (f 9)
        → ((planned : ℕ) (line : List ℕ) → Refuses asked g faults_before faults_after planned noted line → IsTrue (f planned)) → IsTrue (f status))
        → NotedAlone g.script g.list g.files status noted
        → ((bytes : List ℕ) (n : ℕ) → list_bytes g.list g.files ≡ Some bytes → digests_of bytes ≡ Err n → RefusesList status faults_before faults_after)
        → (status ≡ 3 → Rose faults_before.sink faults_after.sink)
        → EndsAs (in_short asked) g.list g.files g.script status noted [] counts counts faults_before faults_after
    idle-ends at holds alone_noted refuses three = record {
      does = some-from g.script _ (λ bytes told calls reads.
          record { calls = (calls, refl); all_calls = λ e. let w = at 0 refl e in absurd ((why-planned 0 noted w.0 w.1).1 refl) });
      untouched = λ empty. refl;
      made = refl;
      lost_turns = none-lost counts;
      fault_turns = λ t within is. absurd (no-turn t within);
      read_faults = λ t within is. absurd (no-turn t within);
      ends = λ n t is end. absurd (cc);
      by_last = λ t is. absurd (cc);
      by_none = λ empty. holds may_end_before refl refl (λ planned line why. (why-planned planned noted line why).0);
      noted_alone = λ empty. alone_noted;
      all_done = λ is. refl;
      not_read = λ is empty. let w = at 2 refl is in why-not_read 2 noted w.0 w.1 refl;
      not_script = λ is. let w = at 4 refl is in why-script 4 noted w.0 w.1 refl;
      not_list = λ is. let w = at 13 refl is in why-list 13 noted w.0 w.1 refl;
      usage = λ is. let w = at 1 refl is in why-usage 1 noted w.0 w.1 refl;
      too_long = λ is. let w = at 8 refl is in why-long 8 noted w.0 w.1 refl;
      lacks_list = λ lacks. (refl, holds may_fail_before refl refl (λ planned line why. lacks-list planned noted line why lacks));
      refuses_list = some-from (list_bytes g.list g.files) _ (λ bytes told n bad. (refl, refuses bytes n told bad));
      refuses_words = λ words.
          (refl, holds (λ k. (k == 1) || (may_fail_before k || (k == 13))) refl refl (λ planned line why. bad-words planned noted line why words));
      refuses_longer = λ runs. some-from g.script _ (λ bytes told long. (
        refl,
        holds (λ k. (k == 8) || (may_fail_before k || (k == 13))) refl refl
            (λ planned line why. longer planned noted line why runs bytes told long),
      ));
      refuses_script = λ runs. some-from g.script _ (λ bytes told n bad. (
        refl,
        holds (λ k. (k == 4) || ((k == 8) || (may_fail_before k || (k == 13)))) refl refl
            (λ planned line why. no-script planned noted line why runs),
      ));
      sink_fault = three;
    }

    starved-ends : status ≡ 9 → noted ≡ note.Nothing
        → EndsAs (in_short asked) g.list g.files g.script status noted [] counts counts faults_before faults_after
    starved-ends nine quiet =
        idle-ends (λ k whole is. absurd (false≢true (sym whole ∙ ap may_lack (sym is ∙ nine))))
        (λ f three at_nine why. subst (λ (k : ℕ). IsTrue (f k)) (sym nine) at_nine)
        (subst (λ (n : Note). NotedAlone g.script g.list g.files status n) (sym quiet) (noted_alone.Nothing (ap has_note nine)))
        (λ bytes n told bad. inl (ap (λ (k : ℕ). (k == 13) || ((k == 3) || (k == 9))) nine)) (λ is. absurd (omega (arith, is, nine)))

    pub refused-ends : (planned : ℕ) (line : List ℕ) (taken_before taken_after : Option (List ℕ))
        → Refuses asked g faults_before faults_after planned noted line
        → Prints line planned status taken_before taken_after faults_before.sink faults_after.sink
        → EndsAs (in_short asked) g.list g.files g.script status noted [] counts counts faults_before faults_after
    refused-ends planned line taken_before taken_after why prints =
        let plan = printed-plan line planned status taken_before taken_after faults_before.sink faults_after.sink prints in
        idle-ends
        (λ k whole is. (
          line,
          subst (λ (n : ℕ). Refuses asked g faults_before faults_after n noted line) (sym (plan (ap may_lack is ∙ whole)) ∙ is) why,
        ))
        (λ f three nine by.
        by-plan line planned status taken_before taken_after faults_before.sink faults_after.sink prints f three nine (by planned line why))
        (alone planned noted line status taken_before taken_after faults_before.sink faults_after.sink why prints)
        (λ bytes n told bad.
        bad-status planned noted line status taken_before taken_after faults_before.sink faults_after.sink why prints bytes n told bad)
        (printed-rose line planned status taken_before taken_after faults_before.sink faults_after.sink prints
        (why-planned planned noted line why).2)

-- ---- turns ran

ends-status : (r : Reply) → IsTrue (ends_run r) → status_by r ≡ 0 → ⊥
ends-status reply.ReadFault ends is = omega arith
ends-status reply.Fault ends is = omega arith
ends-status (reply.NotBooted why) ends is = omega arith
ends-status other ends is = absurd (cc)

all-from : {X : Type 0} (f : X → Bool) (xs : List X) → ((n : ℕ) (x : X) → slice_get xs n ≡ Some x → IsTrue (f x)) → IsTrue (list_all f xs)
all-from f [] h = refl
all-from f (x ∷ xs) h = and_from (f x) (list_all f xs) (h 0 x refl) (all-from f xs (λ n y is. h (suc n) y is))

module _ (passes : List ℕ → Bool) (tells : Bool) (asked : Option Asked) (g : Given) (journal : List Turn) (status : ℕ) (noted : Note) (old new : TurnMoment) (taken_before taken_after : Option (List ℕ)) (faults_before faults_after : Faults) (calls : List Call)
    (turns : Ran passes tells g.files journal old new faults_before.files faults_after.files) (ended : ScriptEnded calls journal status noted) where
  is : IsTrue (is_ran status)
  is = ran-status calls journal status noted ended

  last-by : (t : Turn) → slice_get journal (length journal - 1) ≡ Some t → (IsFalse (may_lack status) → status ≡ status_by t.reply) × (noted ≡ note_by t.reply)
  last-by t at_last =
      let last = sym (last-get journal) ∙ at_last in
      ((λ lacks. ended.status_is lacks ∙ ap status_of_last last), ended.noted_is ∙ ap note_of_last last)

  no-note : has_note status ≡ false
  no-note = elim (cases_Bool (has_note status)) [
    | inl noted ↦ elim (or_cases (status == 4) (status == 13) noted) [
      | inl four ↦ absurd (false≢true (ran-at status 4 is (eqb-true status 4 four)))
      | inr thirteen ↦ absurd (false≢true (ran-at status 13 is (eqb-true status 13 thirteen)))
    ]
    | inr none ↦ none
  ]

  goes-on : status ≡ 0 → (n : ℕ) (t : Turn) → slice_get journal n ≡ Some t → IsTrue (not (ends_run t.reply))
  goes-on zero_is n t found =
      elim (cases_Bool (ends_run t.reply)) [
        | inl e ↦
            let last = turns.ends n t found e in
            let place : n ≡ length journal - 1 = omega arith in
            let by = last-by t (subst (λ (k : ℕ). slice_get journal k ≡ Some t) place found) in
            absurd (ends-status t.reply e (sym (by.0 (subst (λ (k : ℕ). IsFalse (may_lack k)) (sym zero_is) refl)) ∙ zero_is))
        | inr e ↦ not_from_false (ends_run t.reply) e
      ]

  before-first : journal ≡ [] → IsTrue (may_end_before status)
  before-first empty =
      elim (cases_Bool (may_lack status)) [
        | inl lacks ↦ elim (lack-cases status lacks) [
          | inl three ↦ subst (λ (k : ℕ). IsTrue (may_end_before k)) (sym three) refl
          | inr nine ↦ subst (λ (k : ℕ). IsTrue (may_end_before k)) (sym nine) refl
        ]
        | inr whole ↦ subst (λ (k : ℕ). IsTrue (may_end_before k)) (sym (ended.status_is whole ∙ ap (λ (j : List Turn). status_of_last (last_turn j)) empty)) refl
      ]

  ran-ends : HasGoodList g.list g.files → AsksTurns asked → HasCalls g.script calls → Printed journal status taken_before taken_after faults_before.sink faults_after.sink
      → EndsAs (in_short asked) g.list g.files g.script status noted journal old.counts new.counts faults_before faults_after
  ran-ends good asks has printed = record {
    does = some-from g.script _ (λ bytes told others reads.
        let same : calls ≡ others = same-calls calls others (sym (has-calls bytes told).1 ∙ reads) in
        record { calls = (ended.calls.0, ended.calls.1 ∙ same); all_calls = λ zero_is. ended.all_calls zero_is ∙ same });
    untouched = λ empty. ap (λ (m : TurnMoment). m.counts) (turns.untouched empty);
    made = turns.made;
    lost_turns = turns.lost_turns;
    fault_turns = turns.fault_turns;
    read_faults = turns.unread_turns;
    ends = turns.ends;
    by_last = last-by;
    by_none = before-first;
    noted_alone = λ empty.
        subst (λ (n : Note). NotedAlone g.script g.list g.files status n) (sym (ended.noted_is ∙ ap (λ (j : List Turn). note_of_last (last_turn j)) empty)) (noted_alone.Nothing no-note);
    all_done = λ zero_is. all-from (λ (t : Turn). not (ends_run t.reply)) journal (goes-on zero_is);
    not_read = λ e empty. absurd (none-ended calls journal status noted empty (λ zero_is. absurd (omega arith)) ended);
    not_script = λ e. absurd (false≢true (ran-at status 4 is e));
    not_list = λ e. absurd (false≢true (ran-at status 13 is e));
    usage = λ e. absurd (false≢true (ran-at status 1 is e));
    too_long = λ e. absurd (false≢true (ran-at status 8 is e));
    lacks_list = λ lacks. absurd (good.there lacks);
    refuses_list = some-from (list_bytes g.list g.files) _ (λ bytes told n bad. absurd (good-list asked g faults_before faults_after good bytes n told bad));
    refuses_words = λ words. absurd (asks-turns asked asks words);
    refuses_longer = λ runs. some-from g.script _ (λ bytes told long. absurd (false≢true (sym (has-calls bytes told).0 ∙ long)));
    refuses_script = λ runs. some-from g.script _ (λ bytes told n bad. let both = sym (has-calls bytes told).1 ∙ bad in absurd (cc));
    sink_fault = λ three. raised-rose faults_before.sink faults_after.sink (printed.count.failed three);
  }
    where
      has-calls : (bytes : List ℕ) → g.script ≡ Some bytes → (is_too_long bytes ≡ false) × (script_of bytes ≡ Ok calls)
      has-calls bytes told = some-at g.script (λ b. (is_too_long b ≡ false) × (script_of b ≡ Ok calls)) bytes has told

-- ---- whichever way

module _ (asked : Option Asked) (g : Given) (end : Ending Note) (old new : World) where
  none-ends : end.journal ≡ [] → new.flash ≡ old.flash → EndsAs (in_short asked) g.list g.files g.script end.status end.noted [] old.flash.counts old.flash.counts old.faults new.faults → EndsHold asked g end old new
  none-ends empty same h =
      subst (λ (j : List Turn). EndsHold asked g (record end { journal = j }) old new) (sym empty)
      (subst (λ (m : TurnMoment). EndsHold asked g (record end { journal = [] }) old (record new { flash = m })) (sym same) h)

pub ways-end : (passes : List ℕ → Bool) (tells : Bool) (asked : Option Asked) (g : Given) (end : Ending Note) (old new : World) → Way passes tells asked g end old new
    → EndsHold asked g end old new
ways-end passes tells asked g end old new (starved empty same nine quiet stuck) =
    none-ends asked g end old new empty same (starved-ends asked g old.faults new.faults end.status end.noted old.flash.counts nine quiet)
ways-end passes tells asked g end old new (refused planned line empty same why prints) =
    none-ends asked g end old new empty same (refused-ends asked g old.faults new.faults end.status end.noted old.flash.counts planned line old.taken new.taken why prints)
ways-end passes tells asked g end old new (ran calls on good asks has turns ended printed) =
    ran-ends passes tells asked g end.journal end.status end.noted old.flash (at on new.flash.told new.flash.writes new.flash.counts new.flash.armed new.flash.power) old.taken new.taken old.faults new.faults calls turns ended good asks has printed
