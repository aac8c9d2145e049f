use Rattle.host_io.proofs.Once.{once-none}
use Rattle.std.proofs.lemmas.Bool.{false≢true}
use Rattle.std.proofs.Common.{None, ap, refl, sym, ◌∙◌, arith}
use Rattle.fwu_words.specs.Order as ask
use Rattle.script_runs.specs.Ways.{Given}
use Rattle.script_runs.proofs.TopSources.{later}
use Rattle.script_turns.specs.Powered.{moment}
use Rattle.script_cmd.proofs.AnsweredBy.{answered-plain, answered-starved, answered-turns, answered-usage, no-other}
use Rattle.script_cmd.proofs.{TopFormats.formatted-by, TopShows.showed-by, TopLists.no-list-named}
use Rattle.script_cmd.proofs.Unasked.{asks-none, asks-still}
use Rattle.script_cmd.proofs.answering.answer_with.Goals as goal

pub returns-in-Ok-Turns-clause-answers : goal.returns-in-Ok-Turns-clause-answers
returns-in-Ok-Turns-clause-answers g c =
    let e = c.run_turns.ensures in
    answered-turns c.in-Ok-Turns.order.from c.in-Ok-Turns.order.place _ (rw c.in-Ok-Turns.field-0-is at c.in-Ok-Turns.ensures)
    (e.way (record { list = None; files = g.H.Files.contents c.args.files.now; script = None }) no-list-named refl)
    e.takes e.source_count e.unsent (ap g.H.Files.faults) e.boot_files e.boot_source e.note (record { files = e.later_files; source = e.later_source; sink = e.later_sink })

pub returns-in-Ok-Show-clause-answers : goal.returns-in-Ok-Show-clause-answers
returns-in-Ok-Show-clause-answers g c =
    let e = c.show.ensures in
    let files = g.H.Files.faults c.args.files.now in
    let source = g.I.Source.faults c.args.source.now in
    let given : Given = record { list = None; files = g.H.Files.contents c.args.files.now; script = g.I.Source.left c.args.source.now } in
    answered-plain _ ask.show (rw c.in-Ok-Show.field-0-is at c.in-Ok-Show.ensures) ((λ runs. runs), refl, refl)
    (showed-by g.D.Flash.tells given _ _ _ _ _ _ _ _ _
    (e.showed given (record { files = files; source = source; sink = 0 }) (record { files = files; source = source; sink = 0 }) no-list-named)
    e.content e.guard e.no_turns e.counts e.made e.unarmed)
    (λ other. e.note) (λ other. refl) (λ other. refl) (λ other. (refl, refl))
    (record { files = omega arith; source = omega arith; sink = e.later })

pub returns-in-Ok-Format-clause-answers : goal.returns-in-Ok-Format-clause-answers
returns-in-Ok-Format-clause-answers g c =
    let e = c.format_flash.ensures in
    let wanted = c.in-Ok-Format.wanted in
    answered-plain _ (ask.format wanted.banks wanted.rows.items wanted.package.now) (rw c.in-Ok-Format.field-0-is at c.in-Ok-Format.ensures)
    ((λ runs. runs), refl, refl)
    (formatted-by _ _ _ _ _ _ _ _ _ _ _ _ _ _ _ c.requires.unarmed e.no_turns
    (e.formats (g.I.Source.left c.args.source.now) (g.I.Source.faults c.args.source.now) (g.I.Source.faults c.args.source.now)))
    (λ other. absurd (false≢true (sym other))) (λ other. refl) (λ other. other) (λ other. absurd (false≢true (sym other)))
    (record { files = e.reads.later; source = omega arith; sink = e.later_sink })

pub returns-in-Ok-Soak-clause-answers : goal.returns-in-Ok-Soak-clause-answers
returns-in-Ok-Soak-clause-answers g c =
    let files = g.H.Files.faults c.args.files.now in
    let source = g.I.Source.faults c.args.source.now in
    let e = c.soak.ensures in
    answered-plain _ (ask.soak c.in-Ok-Soak.seed c.in-Ok-Soak.rounds) (rw c.in-Ok-Soak.field-0-is at c.in-Ok-Soak.ensures)
    ((λ runs. runs), refl, refl)
    (e.way (record { list = None; files = g.H.Files.contents c.args.files.now; script = g.I.Source.left c.args.source.now })
    (record { files = files; source = source; sink = 0 }) no-list-named)
    (λ other. absurd (false≢true (sym other))) (λ other. refl) (λ other. refl) (λ other. (refl, refl))
    (record { files = omega arith; source = omega arith; sink = e.later })

pub returns-in-Ok-Serve-clause-answers : goal.returns-in-Ok-Serve-clause-answers
returns-in-Ok-Serve-clause-answers g c =
    let e = c.serve_source.ensures in
    let kept = ap g.H.Files.faults e.files in
    answered-plain _ ask.serve (rw c.in-Ok-Serve.field-0-is at c.in-Ok-Serve.ensures) ((λ runs. runs), refl, refl) e.way
    (λ other. e.note) (λ other. absurd (false≢true (sym other))) (λ other. refl) (λ other. (e.files, kept))
    (record { files = omega (arith, kept); source = e.later_source; sink = e.later_sink })

pub returns-in-Err-Usage-clause-answers : goal.returns-in-Err-Usage-clause-answers
returns-in-Err-Usage-clause-answers g c =
    let e = c.refuse.ensures in
    answered-usage _ None (rw c.in-Err-Usage.field-0-is at c.in-Err-Usage.ensures) no-list-named e.no_turns (ap (moment g.D.Flash) e.flash) e.note e.prints
    refl refl refl refl refl (record { files = omega arith; source = omega arith; sink = later _ _ _ _ _ _ _ e.prints })

pub returns-in-Err-NoMemory-clause-answers : goal.returns-in-Err-NoMemory-clause-answers
returns-in-Err-NoMemory-clause-answers g c =
    let e = c.refuse-in-Err-NoMemory.ensures in
    let stuck = e.starved refl in
    answered-starved _ None e.no_turns (ap (moment g.D.Flash) e.flash) c.requires.unarmed stuck.0 e.note (ap g.O.Sink.taken stuck.1, ap g.O.Sink.faults stuck.1) refl
    (λ unlisted. refl) refl refl refl (record { files = omega arith; source = omega arith; sink = let quiet = ap g.O.Sink.faults stuck.1 in omega (arith, quiet) })

-- ---- no read at all

pub returns-in-Ok-Show-clause-once : goal.returns-in-Ok-Show-clause-once
returns-in-Ok-Show-clause-once g c = once-none g.I.Source g.met.I.Source.at_rest c.args.source.now

pub returns-in-Ok-Format-clause-once : goal.returns-in-Ok-Format-clause-once
returns-in-Ok-Format-clause-once g c = once-none g.I.Source g.met.I.Source.at_rest c.args.source.now

pub returns-in-Ok-Soak-clause-once : goal.returns-in-Ok-Soak-clause-once
returns-in-Ok-Soak-clause-once g c = once-none g.I.Source g.met.I.Source.at_rest c.args.source.now

pub returns-in-Err-Usage-clause-once : goal.returns-in-Err-Usage-clause-once
returns-in-Err-Usage-clause-once g c = once-none g.I.Source g.met.I.Source.at_rest c.args.source.now

pub returns-in-Err-NoMemory-clause-once : goal.returns-in-Err-NoMemory-clause-once
returns-in-Err-NoMemory-clause-once g c = once-none g.I.Source g.met.I.Source.at_rest c.args.source.now

-- ---- which files are asked for

pub returns-in-Ok-Turns-clause-reads : goal.returns-in-Ok-Turns-clause-reads
returns-in-Ok-Turns-clause-reads g c =
    let e = c.run_turns.ensures in
    record {
      same = e.same_files;
      unwritten = e.unwritten;
      later = e.later_files;
      spares = λ access other.
          e.spares access (other.sent (λ seed rounds soaks.
          no-other c.in-Ok-Turns.order.from c.in-Ok-Turns.order.place (ask.soak seed rounds) refl (sym (rw c.in-Ok-Turns.field-0-is at c.in-Ok-Turns.ensures) ∙ soaks)));
    }

pub returns-in-Ok-Show-clause-reads : goal.returns-in-Ok-Show-clause-reads
returns-in-Ok-Show-clause-reads g c = asks-none g.H.Files g.met.H.Files.at_rest c.args.files.now

pub returns-in-Ok-Format-clause-reads : goal.returns-in-Ok-Format-clause-reads
returns-in-Ok-Format-clause-reads g c =
    let e = c.format_flash.ensures.reads in
    record {
      same = e.same;
      unwritten = e.unwritten;
      later = e.later;
      spares = λ access other.
          e.spares access (other.wanted c.in-Ok-Format.wanted.banks c.in-Ok-Format.wanted.rows.items c.in-Ok-Format.wanted.package.now (rw c.in-Ok-Format.field-0-is at c.in-Ok-Format.ensures) no-list-named);
    }

pub returns-in-Ok-Soak-clause-reads : goal.returns-in-Ok-Soak-clause-reads
returns-in-Ok-Soak-clause-reads g c = asks-none g.H.Files g.met.H.Files.at_rest c.args.files.now

pub returns-in-Ok-Serve-clause-reads : goal.returns-in-Ok-Serve-clause-reads
returns-in-Ok-Serve-clause-reads g c =
    asks-still g.H.Files g.met.H.Files.at_rest c.args.files.now _ c.serve_source.ensures.files

pub returns-in-Err-Usage-clause-reads : goal.returns-in-Err-Usage-clause-reads
returns-in-Err-Usage-clause-reads g c = asks-none g.H.Files g.met.H.Files.at_rest c.args.files.now

pub returns-in-Err-NoMemory-clause-reads : goal.returns-in-Err-NoMemory-clause-reads
returns-in-Err-NoMemory-clause-reads g c = asks-none g.H.Files g.met.H.Files.at_rest c.args.files.now
