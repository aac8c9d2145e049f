use Rattle.std.proofs.Common.{◌≡◌, Option, subst, ◌∙◌, ◌+◌, ◌-◌, arith, length, map}
use Rattle.std.specs.Prelude.{string_bytes}
use Rattle.std.proofs.lemmas.List.{length-map}
use Rattle.fwu_formats.specs.Digests.{passes_any}
use Rattle.fwu_journal.specs.Shown.{turns}
use Rattle.gen_core.specs.Calls.{shown as soak_shown}
use Rattle.host_io.specs.Contents.{Directory}
use Rattle.script_turns.specs.Powered.{moment_of}
use Rattle.script_text.specs.Shown.{shown}
use Rattle.script_runs.specs.{Ending.noted, Ending.DoesTurn}
use Rattle.flash_commands.specs.Soaking.{only_file_of}
use Rattle.flash_commands.proofs.SoakTurns.{calls-done, calls-end, calls-on, calls-starved}
use Rattle.flash_commands.proofs.soaking.do_calls.Goals as goal

pub returns-in_default-clause-stands : goal.returns-in_default-clause-stands
returns-in_default-clause-stands g c all done old was agree off =
    calls-starved _ _ _ (map soak_shown c.args.calls.now) c.loop-index.index _ _ _ _ (c.loop-index.invariant.going all done old was agree off)

pub returns-then-end-ne0-clause-stands : goal.returns-then-end-ne0-clause-stands
returns-then-end-ne0-clause-stands g c all done old was agree off =
    calls-end _ (only_file_of (string_bytes c.args.files.now.name) c.args.files.now.bytes.items) all done c.args.calls.now c.loop-index.index c.index-calls-index.result _ (shown c.in-Ok.call) _ _ _ _ _ _ _ _ c.loop-index-test.true
    c.index-calls-index.is c.in-Ok.ensures.shown (c.loop-index.invariant.going all done old was agree off)
    (subst (λ (d : Option Directory). DoesTurn passes_any g.D.Flash.tells d (shown c.in-Ok.call) (turns c.loop-index.run.journal) (turns c.do_call-end.new.run.journal) (moment_of c.loop-index.run.powered) (moment_of c.do_call-end.new.run.powered) 0 0 c.do_call-end.result.status (noted c.do_call-end.result.note) c.do_call-end.new.run.text.items) c.loop-index.invariant.same c.do_call-end.ensures.does)
    agree off c.if-end-ne0.true

pub loop-index-preserved : goal.loop-index-preserved
loop-index-preserved g c =
    let was = c.loop-index.invariant in
    record {
      going = λ all done old start agree off.
          calls-on _ (only_file_of (string_bytes c.args.files.now.name) c.args.files.now.bytes.items) all done c.args.calls.now c.loop-index.index c.index-calls-index.result _ (shown c.in-Ok.call) _ _ _ _ _ _ _ _ c.loop-index-test.true
          c.index-calls-index.is c.in-Ok.ensures.shown (was.going all done old start agree off)
          (subst (λ (d : Option Directory). DoesTurn passes_any g.D.Flash.tells d (shown c.in-Ok.call) (turns c.loop-index.run.journal) (turns c.do_call-end.new.run.journal) (moment_of c.loop-index.run.powered) (moment_of c.do_call-end.new.run.powered) 0 0 c.do_call-end.result.status (noted c.do_call-end.result.note) c.do_call-end.new.run.text.items) was.same c.do_call-end.ensures.does)
          agree off c.if-end-ne0.false;
      powered = c.do_call-end.ensures.powered c.if-end-ne0.false;
      turns_fit = c.do_call-end.ensures.turns_fit (length c.args.calls.now - (c.loop-index.index + 1)) (omega (arith, was.turns_fit, c.loop-index-test.true));
      same = c.do_call-end.ensures.same_files ∙ was.same;
      size = c.do_call-end.ensures.size ∙ was.size;
    }

pub returns-clause-stands : goal.returns-clause-stands
returns-clause-stands g c all done old was agree off =
    let len = length-map c.args.calls.now soak_shown in
    let end : c.loop-index.index ≡ length (map soak_shown c.args.calls.now) = omega (arith, len, c.loop-index-test.false, c.loop-index.auto.index-end) in
    calls-done _ _ _ (map soak_shown c.args.calls.now) c.loop-index.index _ _ _ _ end (c.loop-index.invariant.going all done old was agree off)
