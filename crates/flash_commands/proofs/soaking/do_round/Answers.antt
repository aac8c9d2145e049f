use Rattle.std.proofs.Common.{◌≡◌, ◌++◌, List, sym, ap, subst, ◌∙◌, map}
use Rattle.std.specs.Prelude.{string_bytes}
use Rattle.fwu_journal.specs.Shown.{turns}
use Rattle.fwu_model.specs.{Call.Call, Reply.Turn}
use Rattle.fwu_model.specs.Call as call
use Rattle.gen_core.specs.{Calls.round_calls, Calls.shown as soak_shown, Setup.soak_layout}
use Rattle.script_turns.specs.Powered.{moment_of}
use Rattle.script_runs.specs.Ending.{noted}
use Rattle.flash_commands.specs.Soaking.{GoesSoaking, SoakReached}
use Rattle.flash_commands.proofs.SoakRounds.{calls-armable, round-agrees, starved-before}
use Rattle.flash_commands.proofs.soaking.do_round.Goals as goal

pub returns-in_default-clause-stands : goal.returns-in_default-clause-stands
returns-in_default-clause-stands g c all done old was there off = starved-before _ all done _ _ old _ _ was

pub returns-in_default-round_calls-clause-stands : goal.returns-in_default-round_calls-clause-stands
returns-in_default-round_calls-clause-stands g c all done old was there off = starved-before _ all done _ _ old _ _ was

pub returns-then-is_err-clause-stands : goal.returns-then-is_err-clause-stands
returns-then-is_err-clause-stands g c all done old was there off =
    starved-before _ all done _ _ old _ _ (subst (λ (ts : List Turn). GoesSoaking g.D.Flash.tells all done ts old (moment_of c.args.run.now.powered)) (sym c.make_room.ensures.stays) was)

pub do_calls-requires-clause-armable : goal.do_calls-requires-clause-armable
do_calls-requires-clause-armable g c =
    calls-armable soak_layout.rows c.args.round.now c.as_slice.result.now
    (ap (map soak_shown) c.as_slice.ensures.value ∙ c.in-Ok-round_calls.ensures ∙ ap (λ rows. round_calls rows c.args.round.now) c.soak_rows.ensures.rows) c.requires.armable

pub returns-clause-stands : goal.returns-clause-stands
returns-clause-stands g c all done old was there off =
    let shown_are : map soak_shown c.as_slice.result.now ≡ round_calls soak_layout.rows c.args.round.now =
    ap (map soak_shown) c.as_slice.ensures.value ∙ c.in-Ok-round_calls.ensures ∙ ap (λ rows. round_calls rows c.args.round.now) c.soak_rows.ensures.rows in
    subst (λ (cs : List Call). SoakReached g.D.Flash.tells all (done ++ cs) (turns c.do_calls.new.run.journal) old (moment_of c.do_calls.new.run.powered) c.do_calls.result.status (noted c.do_calls.result.note) c.do_calls.new.run.text.items) shown_are
    (c.do_calls.ensures.stands all done old (subst (λ (ts : List Turn). GoesSoaking g.D.Flash.tells all done ts old (moment_of c.args.run.now.powered)) (sym c.make_room.ensures.stays) was)
    (λ name request. round-agrees soak_layout.rows c.args.round.now (string_bytes c.in-Ok.file.name) c.in-Ok.file.bytes.items all (map soak_shown c.as_slice.result.now) shown_are c.in-Ok.ensures.name c.in-Ok.ensures.bytes there (call.Send name request)) off)
