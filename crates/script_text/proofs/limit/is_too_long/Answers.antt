use Rattle.std.proofs.Common.{◌≤◌, [], length, nat_lt, sym, ◌∙◌}
use Rattle.std.proofs.lemmas.Bool.{OnFalse_from}
use Rattle.script_text.proofs.Extents.{long_beyond, few_bytes}
use Rattle.script_text.proofs.limit.is_too_long.Goals as goal

pub returns-clause-long : goal.returns-clause-long
returns-clause-long c =
    long_beyond c.args.bytes.now c.feed.result c.feed.ensures.some (c.feed.ensures.taken [] c.new-limit.ensures).within (λ less. c.feed.ensures.full less [] c.new-limit.ensures)

pub returns-clause-short : goal.returns-clause-short
returns-clause-short c = OnFalse_from (nat_lt c.feed.result (length c.args.bytes.now)) (length c.args.bytes.now ≤ 4194304) (λ fits. few_bytes c.args.bytes.now (sym (returns-clause-long c) ∙ fits))
