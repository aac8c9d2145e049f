use Rattle.fip_making.specs.Payloads.{joined_pieces}
use Rattle.fip_tool.proofs.{WroteLemmas.one-text, WritingLemmas.then-printed}
use Rattle.fip_tool.proofs.writing.join_and_print.Goals as goal

pub returns-clause-told : goal.returns-clause-told
returns-clause-told g c = λ told e.
    then-printed told _ _ _ _ _ _ c.args.file.now.name.now (joined_pieces told c.args.file.now.frame.now c.args.file.now.pieces.now) c.args.line.now c.print.result (c.in_ok-join.ensures.told told e) c.print.ensures.printed

pub returns-clause-texts : goal.returns-clause-texts
returns-clause-texts g c =
    let put = c.print.ensures in
    one-text c.args.line.now c.in_ok-join.ensures.file_count.quiet c.in_ok-join.ensures.wrote put.printed put.late put.later put.count
