use Rattle.fip_words.proofs.commands.fip_command.Goals as goal

pub returns : goal.returns
returns c = c.with_leaves.ensures _ c.top.ensures
