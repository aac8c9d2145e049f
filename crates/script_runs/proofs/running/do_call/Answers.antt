use Rattle.std.proofs.Common.{sym, ◌∙◌}
use Rattle.fwu_journal.specs.Shown.{turn}
use Rattle.script_runs.proofs.RunEnds.{on-at-zero}
use Rattle.script_runs.proofs.running.do_call.Goals as goal

pub returns-clause-does : goal.returns-clause-does
returns-clause-does g c = record {
  turn = turn c.turn-next.result;
  turns = c.turn-next.ensures.turns;
  fits = c.turn-next.ensures.fits;
  kept = c.add.ensures.adds;
  status_is = c.write_turn-end.ensures.status;
  noted_is = c.write_turn-end.ensures.noted;
  text_is = c.write_turn-end.ensures.text;
}

pub returns-clause-powered : goal.returns-clause-powered
returns-clause-powered g c zero_is = c.turn-next.ensures.powered (on-at-zero (turn c.turn-next.result).reply (sym c.write_turn-end.ensures.status ∙ zero_is))

pub returns-clause-spares : goal.returns-clause-spares
returns-clause-spares g c = c.turn-next.ensures.reads.spares
