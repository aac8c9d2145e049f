use Rattle.std.proofs.Common.{ℕ, List, ◌++◌, ◌∙◌, ap}
use Rattle.fwu_model.specs.Text.{line}
use Rattle.script_text.specs.Shown.{shown}
use Rattle.fwu_journal.specs.Shown.{reply}
use Rattle.script_runs.proofs.running.write_turn.Goals as goal

pub returns-clause-text : goal.returns-clause-text
returns-clause-text c =
    let t = c.args.next.now in
    c.add_line.ensures.items ∙ ap (λ (w : List ℕ). w ++ line (shown t.call) (reply t.reply)) c.clear.ensures.items
