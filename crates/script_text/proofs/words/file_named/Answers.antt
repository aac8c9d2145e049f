use Rattle.std.proofs.Common.{◌∙◌, sym}
use Rattle.script_text.proofs.Names.{file-text}
use Rattle.script_text.proofs.words.file_named.Goals as goal

pub returns-in-Err : goal.returns-in-Err
returns-in-Err c = absurd (c.in-Err.ensures.cases.0 (file-text c.args.name.now (sym c.is_file_name.ensures ∙ c.if-not-is_file_name.false)))
