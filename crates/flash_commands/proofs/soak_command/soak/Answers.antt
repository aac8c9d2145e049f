use Rattle.std.proofs.Common.{refl, sym, ap, ◌∙◌}
use Rattle.gen_core.specs.{Draws.register_after, Setup.is_too_small}
use Rattle.script_turns.specs.Powered.{moment}
use Rattle.script_runs.proofs.TopSources.{later}
use Rattle.flash_commands.specs.{Soaking.first_files, SoakWays.starved, SoakWays.too_small}
use Rattle.flash_commands.proofs.soak_command.soak.Goals as goal

pub returns-then-is_too_small-clause-way : goal.returns-then-is_too_small-clause-way
returns-then-is_too_small-clause-way g c given was good =
    too_small good (ap is_too_small (sym c.blocks-2.ensures) ∙ sym c.is_too_small.ensures ∙ c.if-is_too_small.true) c.new.ensures
    refl refl c.put_line.ensures

pub returns-clause-way : goal.returns-clause-way
returns-clause-way g c given was good =
    c.format_and_soak.ensures.way c.args.seed given was good (ap is_too_small (sym c.blocks-2.ensures) ∙ sym c.is_too_small.ensures ∙ c.if-is_too_small.false)
    (c.first_file.ensures.moves_on ∙ ap (register_after 2) c.new-register.ensures) (c.in-Ok.ensures.file ∙ ap first_files c.new-register.ensures)

pub returns-then-is_too_small-clause-later : goal.returns-then-is_too_small-clause-later
returns-then-is_too_small-clause-later g c = later _ _ _ _ _ _ _ c.put_line.ensures

-- no memory

pub returns-in_default-clause-way : goal.returns-in_default-clause-way
returns-in_default-clause-way g c given was good =
    let e = c.refuse.ensures in
    let stuck = e.starved refl in
    starved e.no_turns (ap (moment g.D.Flash) e.flash) stuck.0 e.note (ap g.O.Sink.taken stuck.1, ap g.O.Sink.faults stuck.1)

pub returns-in_default-clause-later : goal.returns-in_default-clause-later
returns-in_default-clause-later g c = later _ _ _ _ _ _ _ c.refuse.ensures.prints

pub returns-in_default-make-clause-way : goal.returns-in_default-make-clause-way
returns-in_default-make-clause-way g c given was good =
    let e = c.refuse-in_default-make.ensures in
    let stuck = e.starved refl in
    starved e.no_turns (ap (moment g.D.Flash) e.flash) stuck.0 e.note (ap g.O.Sink.taken stuck.1, ap g.O.Sink.faults stuck.1)

pub returns-in_default-make-clause-later : goal.returns-in_default-make-clause-later
returns-in_default-make-clause-later g c = later _ _ _ _ _ _ _ c.refuse-in_default-make.ensures.prints
