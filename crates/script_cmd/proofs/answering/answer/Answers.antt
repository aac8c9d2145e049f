use Rattle.std.proofs.Common.{List, ℕ, None, ap, arith, map, refl, inl, inr, false}
use Rattle.std.specs.Prelude.{string_bytes}
use Rattle.fwu_formats.specs.Digests.{passes_any}
use Rattle.fwu_model.specs.{Allow.list_name, Wrote.usage_line}
use Rattle.host_io.proofs.Once.{once-none}
use Rattle.script_runs.proofs.TopSources.{later}
use Rattle.script_turns.specs.Powered.{moment}
use Rattle.script_cmd.proofs.{AnsweredBy.answered-usage, Serving.serves-at, Serving.serving, Unasked.asks-at, Unasked.asks-none}
use Rattle.script_cmd.proofs.TopLists.{has-any, idles-at, no-list, no-words, none-bad, some-list}
use Rattle.script_cmd.proofs.answering.answer.Goals as goal

pub returns-in-No-clause-serves : goal.returns-in-No-clause-serves
returns-in-No-clause-serves g c =
    let n = no-list _ c.in-No.ensures in
    serves-at c.in-No.ensures n.0 n.1 (inl (passes_any, has-any false None _ refl, serving c.answer_with.ensures.answers))

pub returns-in-Usage-clause-serves : goal.returns-in-Usage-clause-serves
returns-in-Usage-clause-serves g c =
    let e = c.refuse.ensures in
    let words : List (List ℕ) = map string_bytes c.args.words.now in
    let files = g.H.Files.contents c.args.files.now in
    let same = ap (moment g.D.Flash) e.flash in
    inr (
      idles-at _ _ _ _ usage_line 1 _ _ _ _ e.no_turns same refl e.prints,
      λ passes.
          serving (answered-usage _ (list_name words) (no-words words c.in-Usage.ensures) (none-bad (list_name words) files c.in-Usage.ensures.none) e.no_turns same e.note e.prints
          refl refl refl refl refl (record { files = omega arith; source = omega arith; sink = later _ _ _ _ _ _ _ e.prints })),
    )

pub returns-in-File-clause-serves : goal.returns-in-File-clause-serves
returns-in-File-clause-serves g c =
    let n = some-list _ _ c.in-File.name.now c.in-File.ensures in
    serves-at n.1 n.0 n.2 c.run_listed.ensures.serves

-- ---- no read at all

pub returns-in-Usage-clause-once : goal.returns-in-Usage-clause-once
returns-in-Usage-clause-once g c = once-none g.I.Source g.met.I.Source.at_rest c.args.source.now

-- ---- which files are asked for

pub returns-in-No-clause-reads : goal.returns-in-No-clause-reads
returns-in-No-clause-reads g c =
    let n = no-list _ c.in-No.ensures in
    asks-at g.H.Files _ _ _ _ n.0 n.1 c.answer_with.ensures.reads

pub returns-in-Usage-clause-reads : goal.returns-in-Usage-clause-reads
returns-in-Usage-clause-reads g c = asks-none g.H.Files g.met.H.Files.at_rest c.args.files.now

pub returns-in-File-clause-reads : goal.returns-in-File-clause-reads
returns-in-File-clause-reads g c =
    let n = some-list _ _ c.in-File.name.now c.in-File.ensures in
    asks-at g.H.Files _ _ _ _ n.0 n.2 c.run_listed.ensures.reads
