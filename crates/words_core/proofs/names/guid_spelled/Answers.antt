use Rattle.words_core.proofs.Spelled.{none-where_not_text}
use Rattle.words_core.proofs.names.guid_spelled.Goals as goal

pub returns-in-Err : goal.returns-in-Err
returns-in-Err c = none-where_not_text c.args.word.now c.in-Err.ensures.cases.0
