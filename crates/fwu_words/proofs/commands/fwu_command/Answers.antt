use Rattle.std.proofs.lemmas.Result.{IfOk-weaker}
use Rattle.clap_words.proofs.CommandLemmas.{leaf_added}
use Rattle.fwu_words.proofs.commands.fwu_command.Goals as goal

pub with_command-requires : goal.with_command-requires
with_command-requires c = IfOk-weaker c.turns_command.result _ _ (λ l h. h.globals) c.turns_command.ensures

pub with_command-requires-2 : goal.with_command-requires-2
with_command-requires-2 c = IfOk-weaker c.turns_command-2.result _ _ (λ l h. h.globals) c.turns_command-2.ensures

pub with_command-requires-3 : goal.with_command-requires-3
with_command-requires-3 c = IfOk-weaker c.format_command.result _ _ (λ l h. h.globals) c.format_command.ensures

pub with_command-requires-4 : goal.with_command-requires-4
with_command-requires-4 c = IfOk-weaker c.soak_command.result _ _ (λ l h. h.globals) c.soak_command.ensures

pub returns : goal.returns
returns c =
    let run = c.in_ok-command.ensures _ _ c.top.ensures c.turns_command.ensures in
    let boot = c.in_ok-command-2.ensures _ _ run c.turns_command-2.ensures in
    let show = leaf_added boot (record { app = c.new.ensures.app; globals = c.new.ensures.local }) c.in_ok-command-3.ensures in
    let format = c.in_ok-command-4.ensures _ _ show c.format_command.ensures in
    let soak = c.in_ok-command-5.ensures _ _ format c.soak_command.ensures in
    IfOk-weaker c.with_leaf_command-2.result _ _ (λ r h. leaf_added soak (record { app = c.new-2.ensures.app; globals = c.new-2.ensures.local }) h) c.with_leaf_command-2.ensures
