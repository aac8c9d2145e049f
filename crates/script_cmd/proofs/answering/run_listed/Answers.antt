use Rattle.std.proofs.Common.{◌≡◌, ◌≢◌, ◌∙◌, ℕ, List, Err, arith, inl, inr, ap, refl, sym}
use Rattle.std.specs.Prelude.{◌==◌, not, Bool, true, false, IsTrue, IsFalse}
use Rattle.std.proofs.lemmas.Bool.{false≢true}
use Rattle.fwu_formats.specs.Digests.{digests_of, passes_listed}
use Rattle.fwu_model.specs.{Causes.may_fail_before, Wrote.bad_list_line, Wrote.not_read_line}
use Rattle.host_io.proofs.Once.{once-none}
use Rattle.script_runs.specs.declared.done.Note.TheVariants as note
use Rattle.script_runs.specs.{Ways.bad_list, Ways.list_not_read, Sourced.reads_all}
use Rattle.script_runs.proofs.TopSources.{by-plan, later}
use Rattle.script_turns.specs.Powered.{moment}
use Rattle.script_cmd.proofs.{AnsweredBy.answered-refused, AnsweredBy.answered-starved, AnsweredBy.answered-with-list, Serving.serving}
use Rattle.script_cmd.proofs.TopLists.{bytes-there, good-list, idles, idles-at, list-lacks, list-there, of-list, reads-list}
use Rattle.script_cmd.proofs.Unasked.{asks-behind, asks-list}
use Rattle.script_cmd.proofs.answering.run_listed.Goals as goal

is-false : (b : Bool) → IsTrue (not b) → IsFalse b
is-false true held = absurd (false≢true held)
is-false false held = refl

not-at-8 : (k : ℕ) → IsTrue (not (k == 8)) → k ≢ 8
not-at-8 k held is = false≢true (ap (λ (n : ℕ). not (n == 8)) (sym is) ∙ held)

pub returns-in-Err-Failed-clause-serves : goal.returns-in-Err-Failed-clause-serves
returns-in-Err-Failed-clause-serves g c =
    let e = c.refuse.ensures in
    let name = c.args.name.now in
    let files = g.H.Files.contents c.args.files.now in
    let why = list-lacks files name _ _ (c.in-Err-Failed.ensures.cause.failed (ap Err c.in-Err-Failed.field-0-is)) in
    let same = ap (moment g.D.Flash) e.flash in
    inr (
      idles-at _ _ _ _ not_read_line 2 _ _ _ _ e.no_turns same refl e.prints,
      λ passes.
          serving (answered-refused _ name 2 not_read_line note.Nothing (λ script asked. list_not_read refl why) (λ two. absurd (omega arith)) refl
          e.no_turns same c.requires.unarmed e.note e.prints (λ whole. absurd (false≢true (sym whole ∙ by-plan not_read_line 2 _ _ _ _ _ e.prints may_fail_before refl refl refl)))
          (not-at-8 _ (by-plan not_read_line 2 _ _ _ _ _ e.prints (λ k. not (k == 8)) refl refl refl)) (is-false _ (by-plan not_read_line 2 _ _ _ _ _ e.prints (λ k. not (reads_all k)) refl refl refl))
          refl refl refl (record { files = c.read_list.ensures.reads.later; source = omega arith; sink = later _ _ _ _ _ _ _ e.prints })),
    )

pub returns-in-Ok-clause-serves : goal.returns-in-Ok-clause-serves
returns-in-Ok-clause-serves g c =
    let name = c.args.name.now in
    let digests = c.in-Ok.list in
    let files = g.H.Files.contents c.args.files.now in
    let read = c.in-Ok.ensures.ok in
    let whole = bytes-there files name read.bytes read.stands in
    inl (
      passes_listed digests,
      record { any = λ is. absurd (false≢true (sym is)); listed = λ is. reads-list name read.bytes digests files whole read.is },
      serving (answered-with-list _ name _ _ _ c.answer_with.ensures.answers c.read_list.ensures.reads.same (good-list files name read.bytes digests whole read.is) c.in-Ok.ensures.cause.done refl refl c.requires.unarmed),
    )

pub returns-in-Err-BadLine-clause-serves : goal.returns-in-Err-BadLine-clause-serves
returns-in-Err-BadLine-clause-serves g c =
    let e = c.refuse-in-Err-BadLine.ensures in
    let name = c.args.name.now in
    let line = c.in-Err-BadLine.line in
    let files = g.H.Files.contents c.args.files.now in
    let is = ap Err c.in-Err-BadLine.field-0-is in
    let read = c.in-Err-BadLine.ensures.bad line is in
    let whole = bytes-there files name read.bytes read.stands in
    let same = ap (moment g.D.Flash) e.flash in
    let bad = of-list files name read.bytes (λ (l : List ℕ). digests_of l ≡ Err line) whole read.is in
    inr (
      idles-at _ _ _ _ (bad_list_line line) 13 _ _ _ _ e.no_turns same refl e.prints,
      λ passes.
          serving (answered-refused _ name 13 (bad_list_line line) (note.BadList line) (λ script asked. bad_list line refl (list-there files name read.bytes whole) bad) (λ thirteen. absurd (omega arith)) refl
          e.no_turns same c.requires.unarmed e.note e.prints (λ some. c.in-Err-BadLine.ensures.cause.bad line is)
          (not-at-8 _ (by-plan (bad_list_line line) 13 _ _ _ _ _ e.prints (λ k. not (k == 8)) refl refl refl)) (is-false _ (by-plan (bad_list_line line) 13 _ _ _ _ _ e.prints (λ k. not (reads_all k)) refl refl refl))
          refl refl refl (record { files = c.read_list.ensures.reads.later; source = omega arith; sink = later _ _ _ _ _ _ _ e.prints })),
    )

pub returns-in-Err-NoMemory-clause-serves : goal.returns-in-Err-NoMemory-clause-serves
returns-in-Err-NoMemory-clause-serves g c =
    let e = c.refuse-in-Err-NoMemory.ensures in
    let stuck = e.starved refl in
    let same = ap (moment g.D.Flash) e.flash in
    inr (
      idles _ _ _ _ e.no_turns same stuck.0,
      λ passes.
          serving (answered-starved _ _ e.no_turns same c.requires.unarmed stuck.0 e.note (ap g.O.Sink.taken stuck.1, ap g.O.Sink.faults stuck.1) (c.in-Err-NoMemory.ensures.cause.memory (ap Err c.in-Err-NoMemory.field-0-is)) (λ unlisted. absurd cc) refl refl refl
          (record { files = c.read_list.ensures.reads.later; source = omega arith; sink = let quiet = ap g.O.Sink.faults stuck.1 in omega (arith, quiet) })),
    )

-- ---- no read at all

pub returns-in-Err-Failed-clause-once : goal.returns-in-Err-Failed-clause-once
returns-in-Err-Failed-clause-once g c = once-none g.I.Source g.met.I.Source.at_rest c.args.source.now

pub returns-in-Err-BadLine-clause-once : goal.returns-in-Err-BadLine-clause-once
returns-in-Err-BadLine-clause-once g c = once-none g.I.Source g.met.I.Source.at_rest c.args.source.now

pub returns-in-Err-NoMemory-clause-once : goal.returns-in-Err-NoMemory-clause-once
returns-in-Err-NoMemory-clause-once g c = once-none g.I.Source g.met.I.Source.at_rest c.args.source.now

-- ---- which files are asked for

pub returns-in-Ok-clause-reads : goal.returns-in-Ok-clause-reads
returns-in-Ok-clause-reads g c =
    let name = c.args.name.now in
    let files = g.H.Files.contents c.args.files.now in
    let read = c.in-Ok.ensures.ok in
    asks-behind g.H.Files g.met.H.Files.joins name _ _ _ _ refl
    (good-list files name read.bytes c.in-Ok.list (bytes-there files name read.bytes read.stands) read.is)
    c.read_list.ensures.reads c.answer_with.ensures.reads

pub returns-in-Err-Failed-clause-reads : goal.returns-in-Err-Failed-clause-reads
returns-in-Err-Failed-clause-reads g c = asks-list g.H.Files c.args.name.now _ _ refl c.read_list.ensures.reads

pub returns-in-Err-BadLine-clause-reads : goal.returns-in-Err-BadLine-clause-reads
returns-in-Err-BadLine-clause-reads g c = asks-list g.H.Files c.args.name.now _ _ refl c.read_list.ensures.reads

pub returns-in-Err-NoMemory-clause-reads : goal.returns-in-Err-NoMemory-clause-reads
returns-in-Err-NoMemory-clause-reads g c = asks-list g.H.Files c.args.name.now _ _ refl c.read_list.ensures.reads
