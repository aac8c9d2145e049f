use Rattle.std.proofs.Common.{◌∷◌, List, refl, sym, subst, []}
use Rattle.std.specs.Prelude.{flat_map, string_bytes}
use Rattle.fwu_model.specs.Call as call
use Rattle.fwu_model.specs.Reply.{Turn}
use Rattle.fwu_journal.specs.Shown.{turns}
use Rattle.gen_core.specs.{Calls.round_calls, Rounds.rounds_from, Setup.soak_layout}
use Rattle.script_turns.specs.Powered.{moment_of}
use Rattle.flash_commands.specs.Soaking.{GoesSoaking, only_file_of}
use Rattle.flash_commands.proofs.SoakTurns.{goes-none, steps-end, steps-on}
use Rattle.flash_commands.proofs.soaking.do_soak.Goals as goal

pub returns-then-end-ne0-clause-stands : goal.returns-then-end-ne0-clause-stands
returns-then-end-ne0-clause-stands g c all named =
    let old = moment_of c.args.run.now.powered in
    let more = flat_map (round_calls soak_layout.rows) (rounds_from c.args.register.now 1 c.args.rounds) in
    steps-end g.D.Flash.tells (only_file_of (string_bytes c.args.first.now.name) c.args.first.now.bytes.items) all [] call.Boot (turns c.args.run.now.journal) _ old old _ _ _ _ (call.Boot ∷ more)
    (subst (λ (ts : List Turn). GoesSoaking g.D.Flash.tells all [] ts old old) (sym c.requires.no_turns) (goes-none g.D.Flash.tells all old c.requires.not_booted))
    c.do_call-end.ensures.does tt c.requires.not_booted c.if-end-ne0.true (more, refl)

pub returns-clause-stands : goal.returns-clause-stands
returns-clause-stands g c all named =
    let old = moment_of c.args.run.now.powered in
    c.do_rounds.ensures.stands all (call.Boot ∷ []) old
    (steps-on g.D.Flash.tells (only_file_of (string_bytes c.args.first.now.name) c.args.first.now.bytes.items) all [] call.Boot (turns c.args.run.now.journal) _ old old _ _ _ _
    (subst (λ (ts : List Turn). GoesSoaking g.D.Flash.tells all [] ts old old) (sym c.requires.no_turns) (goes-none g.D.Flash.tells all old c.requires.not_booted))
    c.do_call-end.ensures.does tt c.requires.not_booted c.if-end-ne0.false)
    named c.requires.not_booted
