-- The totals of a soak, and how it ended.
use Rattle.std.proofs.Common.{◌≡◌, ◌+◌, Bool, cond, List, ◌∷◌, ◌++◌, length, refl, ◌∙◌, arith, length-append, [], ◌≢◌, ◌<◌, ℕ, get_or, Option, Some, None, Result, sym, ap, subst, IsTrue}
use Rattle.std.proofs.lemmas.List.Sums.{count_by-le-length, fold-append, sum_by-append}
use Rattle.fwu_model.specs.{Reply.Reply, Reply.Turn, Call.Call, Run.ends_run, Causes.status_by, Text.line, declared.kinds.Note.Note, Causes.is_lost}
use Rattle.gen_core.specs.Line.{LastStart, count_of, is_booted, is_fallback, is_sent, last_started, start_after, totals_of, soak_line}
use Rattle.gen_core.specs.{declared.line.Totals.Totals, Calls.file_name, Calls.round_calls, Calls.round_package, Calls.soak_calls}
use Rattle.gen_core.specs.{Draws.register_after, Rounds.rounds_from, Setup.soak_layout, declared.rounds.Round.Round}
use Rattle.std.specs.Prelude.{flat_map}
use Rattle.host_io.specs.{Contents.Directory, Printed.Prints}
use Rattle.fwu_formats.specs.{Digests.passes_any, Layout.ImageRow}
use Rattle.flash_format.specs.{declared.formatting.Formatted.Formatted, declared.stops.FormatStop.FormatStop}
use Rattle.fwu_model.specs.Call as call
use Rattle.fwu_model.specs.Reply as reply
use Rattle.gen_core.proofs.Naming.{rounds-have-packages}
use Rattle.flash_core.specs.declared.flash.Flash.{Ghosts}
use Rattle.agent_machine.specs.Fields.{Fields}
use Rattle.script_turns.specs.{declared.powered.Powered.Powered, Runs.Ran}
use Rattle.script_turns.specs.Powered.{TurnMoment, device, moment, moment_of, moment_on, shown_on}
use Rattle.script_runs.specs.ByTable.{flash_fault_line}
use Rattle.script_runs.proofs.TopWays.{end-of}
use Rattle.flash_commands.specs.Soaking.{AreWithin, SoakReached, goes, starved, ended, first_files, soak_files, stop_text}
use Rattle.flash_commands.specs.{Formatting.Tries, SoakWays.SoakEnds, SoakWays.all_done, SoakWays.lacking, SoakWays.stopped}

-- ---- the totals of a journal, one turn after the other

abbrev no_totals : Totals
no_totals = record { turns = 0; boots = 0; losses = 0; fallbacks = 0; sends = 0; bank = 0; version = 0; counter = 0 }

pub totals-none : totals_of [] ≡ no_totals
unfolding totals_of
totals-none = refl

-- the numbers of the last boot so far
abbrev started_of : Totals → LastStart
started_of t = record { bank = t.bank; version = t.version; counter = t.counter }

-- the totals with one turn more
abbrev pub counted_turn : Totals → Reply → Totals
counted_turn t r = record {
  turns = t.turns + 1;
  boots = t.boots + cond (is_booted r) 1 0;
  losses = t.losses + cond (is_lost r) 1 0;
  fallbacks = t.fallbacks + cond (is_fallback r) 1 0;
  sends = t.sends + cond (is_sent r) 1 0;
  bank = (start_after (started_of t) r).bank;
  version = (start_after (started_of t) r).version;
  counter = (start_after (started_of t) r).counter;
}

count-more : (test : Reply → Bool) (journal : List Turn) (t : Turn) → count_of test (journal ++ t ∷ []) ≡ count_of test journal + cond (test t.reply) 1 0
count-more test journal t = sum_by-append (λ (x : Turn). cond (test x.reply) 1 0) journal (t ∷ []) ∙ omega arith

started-more : (journal : List Turn) (t : Turn) → last_started (journal ++ t ∷ []) ≡ start_after (last_started journal) t.reply
started-more journal t = fold-append (λ (last : LastStart) (x : Turn). start_after last x.reply) (record { bank = 0; version = 0; counter = 0 }) journal (t ∷ [])

totals-more : (journal : List Turn) (t : Turn) → totals_of (journal ++ t ∷ []) ≡ counted_turn (totals_of journal) t.reply
unfolding totals_of
totals-more journal t =
    rw (length-append journal (t ∷ [])) (rw (count-more is_booted journal t) (rw (count-more is_lost journal t) (rw (count-more is_fallback journal t) (rw (count-more is_sent journal t)
    (rw (started-more journal t) refl)))))

pub counts-on : (journal : List Turn) (t : Turn) (old new : Totals) (r : Reply) → new ≡ counted_turn old r → old ≡ totals_of journal → t.reply ≡ r → new ≡ totals_of (journal ++ t ∷ [])
counts-on journal t old new r is was same = is ∙ ap (λ (x : Totals). counted_turn x r) was ∙ ap (counted_turn (totals_of journal)) (sym same) ∙ sym (totals-more journal t)

pub totals-within : (journal : List Turn) → AreWithin (totals_of journal)
unfolding totals_of
totals-within journal = record {
  boots = count_by-le-length (λ (t : Turn). is_booted t.reply) journal;
  losses = count_by-le-length (λ (t : Turn). is_lost t.reply) journal;
  fallbacks = count_by-le-length (λ (t : Turn). is_fallback t.reply) journal;
  sends = count_by-le-length (λ (t : Turn). is_sent t.reply) journal;
}

pub totals-count : (journal : List Turn) → (totals_of journal).turns ≡ length journal
unfolding totals_of
totals-count journal = refl

-- ---- how a soak ends

-- a flash on which no bank was started
pub moment-fresh : {D : Type 0} {F : Ghosts D} (p : Powered D F) (d : D) → shown_on p ≡ None → device p ≡ d
    → moment_of p ≡ moment F d
moment-fresh {F = F} p d off is =
    ap (λ (o : Option Fields). moment_on F o (device p)) off ∙ ap (moment F) is

-- ---- the calls and the files

pub soak-calls-are : (seed register n : ℕ) → register ≡ register_after 2 seed → call.Boot ∷ flat_map (round_calls soak_layout.rows) (rounds_from register 1 n) ≡ soak_calls seed n
unfolding soak_calls
soak-calls-are seed register n is = ap (λ (x : ℕ). call.Boot ∷ flat_map (round_calls soak_layout.rows) (rounds_from x 1 n)) is

pub soak-named : (seed register n : ℕ) → n < 4294967296 → register ≡ register_after 2 seed → (k : ℕ) (d : Round) → k < n
    → soak_files seed n (file_name (k + 1)) ≡ Some (round_package (get_or (rounds_from register 1 n) k d))
soak-named seed register n few is k d below =
    rounds-have-packages.named seed n k d few below ∙ ap (λ (x : ℕ). Some (round_package (get_or (rounds_from x 1 n) k d))) (sym is)

pub tries-as : (tells : Bool) (seed : ℕ) (files : Directory) (name : List ℕ) (rows : List ImageRow) (blocks : ℕ) (old new : TurnMoment) (r : Result Formatted FormatStop) → files ≡ first_files seed → name ≡ file_name 0
    → rows ≡ soak_layout.rows → Tries passes_any tells (Some files) name (record { banks = 2; rows = rows }) blocks old new 0 0 r
    → Tries passes_any tells (Some (first_files seed)) (file_name 0) soak_layout blocks old new 0 0 r
tries-as tells seed files name rows blocks old new r files_are name_is rows_are t =
    subst (λ (f : Directory). Tries passes_any tells (Some f) (file_name 0) soak_layout blocks old new 0 0 r) files_are
    (subst (λ (w : List ℕ). Tries passes_any tells (Some files) w soak_layout blocks old new 0 0 r) name_is
    (subst (λ (rs : List ImageRow). Tries passes_any tells (Some files) name (record { banks = 2; rows = rs }) blocks old new 0 0 r) rows_are t))

-- ---- by how it stands

module _ (tells : Bool) (all : Directory) (calls : List Call) (journal : List Turn) (old new : TurnMoment) (stand : ℕ) (noted : Note) (text : List ℕ) where
  pub stands-ran : SoakReached tells all calls journal old new stand noted text → Ran passes_any tells (Some all) journal old new 0 0
  stands-ran (goes zero_is quiet going) = going.ran
  stands-ran (starved nine quiet front less going) = going.ran
  stands-ran (ended front t is less ran none ends read status_is noted_is text_is) = ran

-- the line of a turn that ended it, by its status: that of a fault of the flash, or its own
stop-printed : (c : Call) (r : Reply) (stand status : ℕ) (old new : Option (List ℕ)) (was are : ℕ) → stand ≡ status_by r → IsTrue (ends_run r) → (stand ≡ 5 → Prints flash_fault_line 5 status old new was are)
    → (stand ≢ 0 → stand ≢ 5 → stand ≢ 9 → Prints (line c r) stand status old new was are) → Prints (stop_text c r) (status_by r) status old new was are
stop-printed c reply.Fault stand status old new was are is ends failed stops = failed is
stop-printed c reply.ReadFault stand status old new was are is ends failed stops =
    subst (λ (k : ℕ). Prints (line c reply.ReadFault) k status old new was are) is (stops (λ zero. absurd (omega (arith, is))) (λ five. absurd (omega (arith, is))) (λ nine. absurd (omega (arith, is))))
stop-printed c (reply.NotBooted why) stand status old new was are is ends failed stops =
    subst (λ (k : ℕ). Prints (line c (reply.NotBooted why)) k status old new was are) is (stops (λ zero. absurd (omega (arith, is))) (λ five. absurd (omega (arith, is))) (λ nine. absurd (omega (arith, is))))
stop-printed c other stand status old new was are is ends failed stops = absurd cc

module _ (tells : Bool) (all : Directory) (rounds : ℕ) (calls : List Call) (journal : List Turn) (old new : TurnMoment) (stand : ℕ) (noted : Note) (text : List ℕ) (status : ℕ) (taken_before taken_after : Option (List ℕ)) (faults_before faults_after : ℕ) where
  pub ends-by : (stand ≡ 0 → Prints (soak_line rounds journal) 0 status taken_before taken_after faults_before faults_after) → (stand ≡ 9 → status ≡ 9) → (stand ≡ 9 → taken_after ≡ taken_before) → (stand ≡ 9 → faults_after ≡ faults_before)
      → (stand ≡ 5 → Prints flash_fault_line 5 status taken_before taken_after faults_before faults_after) → (stand ≢ 0 → stand ≢ 5 → stand ≢ 9 → Prints text stand status taken_before taken_after faults_before faults_after)
      → SoakReached tells all calls journal old new stand noted text → SoakEnds rounds calls (end-of journal status noted) taken_before taken_after faults_before faults_after
  ends-by whole nines same quietly failed stops (goes zero_is quiet going) = all_done going.calls_are going.none quiet (whole zero_is)
  ends-by whole nines same quietly failed stops (starved nine quiet front less going) =
      lacking (less.0, ap (λ (cs : List Call). cs ++ less.0) going.calls_are ∙ less.1) going.none quiet (nines nine) (same nine) (quietly nine)
  ends-by whole nines same quietly failed stops (ended front t is less ran none ends read status_is noted_is text_is) =
      stopped less front t is none ends read noted_is
      (stop-printed t.call t.reply stand status taken_before taken_after faults_before faults_after status_is ends failed
      (λ some lives left. subst (λ (l : List ℕ). Prints l stand status taken_before taken_after faults_before faults_after) text_is (stops some lives left)))
