-- What a run wrote, whichever way it ended.
use Rattle.std.proofs.Common.{◌≡◌, ℕ, Bool, List, ◌++◌, take, drop, Option, Some, None, refl, sym, ap, subst, ◌∙◌, inl, inr, IsTrue, IsFalse, arith, append-nil, []}
use Rattle.std.specs.Io.KnownBytes.{Appends}
use Rattle.std.proofs.{lemmas.Bool.false≢true, lemmas.List.take-append-drop, lemmas.Option.same_Some}
use Rattle.fwu_model.specs.{declared.kinds.Note.Note, Reply.Turn, Text.text, Allow.list_bytes, Causes.Faults}
use Rattle.fwu_model.specs.declared.kinds.Note.TheVariants as note
use Rattle.fwu_model.specs.Wrote.{Wrote, StopsAlone, may_lack, not_read_line, usage_line, too_long_line, bad_script_line, bad_list_line, IsBadScript, IsBadList}
use Rattle.fwu_words.specs.Order.{Asked}
use Rattle.script_runs.specs.{Ending.Ending, Ending.World, Ending.WritesLines}
use Rattle.host_io.specs.Printed.{Prints, all, front, nothing}
use Rattle.script_runs.specs.Ways.{Given, Way, Refuses, usage, too_long, bad_script, bad_list, starved, refused, ran}
use Rattle.script_runs.proofs.TopWays.{end-of}
use Rattle.script_cmd.specs.Promises.{WroteHolds}
use Rattle.script_cmd.proofs.PromiseTurns.{is_ran, none-ended, ran-at, ran-status, early-not-ran}

pub appended : (old new : Option (List ℕ)) (piece before : List ℕ) → old ≡ Some before → Appends old new piece → new ≡ Some (before ++ piece)
appended None new piece before is appends = absurd (cc)
appended (Some xs) None piece before is appends = absurd appends
appended (Some xs) (Some ys) piece before is appends = ap Some (appends ∙ ap (λ (b : List ℕ). b ++ piece) (same_Some xs before is))

module _ (Alone : ℕ → Note → List ℕ → Type 0) (script list : Option (List ℕ)) (status : ℕ) (noted : Note) where
  -- ---- turns ran

  wrote-turns : (journal : List Turn) (w : List ℕ) → IsTrue (is_ran status) → (journal ≡ [] → status ≡ 2 → ⊥) → WritesLines journal status w → Wrote Alone script list status noted journal w
  unfolding text
  wrote-turns journal w is begun writes = record {
    nothing_ran = λ early. absurd (early-not-ran status early is);
    usage = λ e. absurd (false≢true (ran-at status 1 is e));
    not_read = λ e empty. absurd (begun empty e);
    bad_script = λ e. absurd (false≢true (ran-at status 4 is e));
    too_long = λ e. absurd (false≢true (ran-at status 8 is e));
    bad_list = λ e. absurd (false≢true (ran-at status 13 is e));
    turns = λ lacks some. writes.whole lacks;
    no_turns = λ e empty. writes.whole (subst (λ (k : ℕ). IsFalse (may_lack k)) (sym e) refl) ∙ ap text empty;
    sink_fault = λ e. inl (writes.front e);
    no_memory = λ e. inl (writes.none e);
    not_all = λ e. inr (writes.less e);
  }

  -- ---- nothing ran

  wrote-alone : (w : List ℕ)
      → (status ≡ 1 → w ≡ usage_line) → (status ≡ 2 → w ≡ not_read_line)
      → (status ≡ 4 → (n : ℕ) × (noted ≡ note.BadLine n) × IsBadScript script n × (w ≡ bad_script_line n)) → (status ≡ 8 → w ≡ too_long_line)
      → (status ≡ 13 → (n : ℕ) × (noted ≡ note.BadList n) × IsBadList list n × (w ≡ bad_list_line n))
      → (status ≡ 0 → ⊥) → (status ≡ 3 → StopsAlone Alone noted [] w) → (status ≡ 9 → w ≡ [])
      → Wrote Alone script list status noted [] w
  wrote-alone w one two four eight thirteen zero three nine = record {
    nothing_ran = λ early. refl;
    usage = one;
    not_read = λ e empty. two e;
    bad_script = four;
    too_long = eight;
    bad_list = thirteen;
    turns = λ lacks some. absurd (some refl);
    no_turns = λ e empty. absurd (zero e);
    sink_fault = λ e. inr (three e);
    no_memory = λ e. inr (refl, nine e);
    not_all = λ e. inl refl;
  }

  wrote-nothing : status ≡ 9 → Wrote Alone script list status noted [] []
  wrote-nothing is =
      wrote-alone [] (λ e. absurd (omega arith)) (λ e. absurd (omega arith)) (λ e. absurd (omega arith)) (λ e. absurd (omega arith)) (λ e. absurd (omega arith))
      (λ e. omega arith) (λ e. absurd (omega arith)) (λ e. refl)

  wrote-front : (planned : ℕ) (line : List ℕ) (n : ℕ) → Alone planned noted line → status ≡ 3 → Wrote Alone script list status noted [] (take n line)
  wrote-front planned line n alone is =
      wrote-alone (take n line) (λ e. absurd (omega arith)) (λ e. absurd (omega arith)) (λ e. absurd (omega arith)) (λ e. absurd (omega arith)) (λ e. absurd (omega arith))
      (λ e. omega arith) (λ e. record { no_turns = refl; planned = planned; line = line; alone = alone; front = (drop n line, take-append-drop n line) }) (λ e. absurd (omega arith))

module _ (asked : Option Asked) (g : Given) (faults_before faults_after : Faults) (status : ℕ) where
  wrote-line : (planned : ℕ) (noted : Note) (line : List ℕ) → Refuses asked g faults_before faults_after planned noted line → status ≡ planned → Wrote (Refuses asked g faults_before faults_after) g.script (list_bytes g.list g.files) status noted [] line
  wrote-line planned noted line (usage good none) is =
      wrote-alone (Refuses asked g faults_before faults_after) g.script (list_bytes g.list g.files) status noted line (λ e. refl) (λ e. absurd (omega arith)) (λ e. absurd (omega arith)) (λ e. absurd (omega arith)) (λ e. absurd (omega arith))
      (λ e. omega arith) (λ e. absurd (omega arith)) (λ e. absurd (omega arith))
  wrote-line planned noted line (too_long good run long) is =
      wrote-alone (Refuses asked g faults_before faults_after) g.script (list_bytes g.list g.files) status noted line (λ e. absurd (omega arith)) (λ e. absurd (omega arith)) (λ e. absurd (omega arith)) (λ e. refl) (λ e. absurd (omega arith))
      (λ e. omega arith) (λ e. absurd (omega arith)) (λ e. absurd (omega arith))
  wrote-line planned noted line (bad_script n good asks short bad) is =
      wrote-alone (Refuses asked g faults_before faults_after) g.script (list_bytes g.list g.files) status noted line (λ e. absurd (omega arith)) (λ e. absurd (omega arith)) (λ e. (n, refl, bad, refl)) (λ e. absurd (omega arith)) (λ e. absurd (omega arith))
      (λ e. omega arith) (λ e. absurd (omega arith)) (λ e. absurd (omega arith))
  wrote-line planned noted line (bad_list n some there bad) is =
      wrote-alone (Refuses asked g faults_before faults_after) g.script (list_bytes g.list g.files) status noted line (λ e. absurd (omega arith)) (λ e. absurd (omega arith)) (λ e. absurd (omega arith)) (λ e. absurd (omega arith)) (λ e. (n, refl, bad, refl))
      (λ e. omega arith) (λ e. absurd (omega arith)) (λ e. absurd (omega arith))
  wrote-line planned noted line other is =
      wrote-alone (Refuses asked g faults_before faults_after) g.script (list_bytes g.list g.files) status noted line
      (λ e. absurd (omega arith)) (λ e. refl) (λ e. absurd (omega arith)) (λ e. absurd (omega arith)) (λ e. absurd (omega arith))
      (λ e. omega arith) (λ e. absurd (omega arith)) (λ e. absurd (omega arith))

  stays : (taken_before taken_after : Option (List ℕ)) (before : List ℕ) → taken_before ≡ Some before → taken_after ≡ taken_before → taken_after ≡ Some (before ++ [])
  stays taken_before taken_after before is same = same ∙ is ∙ ap Some (sym (append-nil before))

refused-writes : (asked : Option Asked) (g : Given) (status planned : ℕ) (noted : Note) (line : List ℕ) (old new : World) → Refuses asked g old.faults new.faults planned noted line
    → Prints line planned status old.taken new.taken old.faults.sink new.faults.sink → WroteHolds asked g (end-of [] status noted) old new
refused-writes asked g status planned noted line old new why (all is bytes later) before told =
    (line, appended old.taken new.taken line before told bytes, wrote-line asked g old.faults new.faults status planned noted line why is)
refused-writes asked g status planned noted line old new why (front is n bytes later rose) before told =
    (take n line, appended old.taken new.taken (take n line) before told bytes, wrote-front (Refuses asked g old.faults new.faults) g.script (list_bytes g.list g.files) status noted planned line n why is)
refused-writes asked g status planned noted line old new why (nothing is same later) before told =
    ([], stays asked g old.faults new.faults status old.taken new.taken before told same, wrote-nothing (Refuses asked g old.faults new.faults) g.script (list_bytes g.list g.files) status noted is)

pub ways-write : (passes : List ℕ → Bool) (tells : Bool) (asked : Option Asked) (g : Given) (end : Ending Note) (old new : World) → Way passes tells asked g end old new
    → WroteHolds asked g end old new
ways-write passes tells asked g end old new (starved empty same nine quiet stuck) before told = (
  [],
  stays asked g old.faults new.faults end.status old.taken new.taken before told stuck.0,
  subst (λ (j : List Turn). Wrote (Refuses asked g old.faults new.faults) g.script (list_bytes g.list g.files) end.status end.noted j []) (sym empty) (wrote-nothing (Refuses asked g old.faults new.faults) g.script (list_bytes g.list g.files) end.status end.noted nine),
)
ways-write passes tells asked g end old new (refused planned line empty same why prints) before told =
    subst (λ (j : List Turn). WroteHolds asked g (record end { journal = j }) old new) (sym empty) (refused-writes asked g end.status planned end.noted line old new why prints) before told
ways-write passes tells asked g end old new (ran calls on good asks has turns ended printed) before told =
    let h = printed.bytes before told in (
      h.0,
      h.1,
      wrote-turns (Refuses asked g old.faults new.faults) g.script (list_bytes g.list g.files) end.status end.noted end.journal h.0 (ran-status calls end.journal end.status end.noted ended)
          (λ empty two. none-ended calls end.journal end.status end.noted empty (λ zero_is. absurd (omega arith)) ended) h.2,
    )
