use Rattle.std.proofs.Common.{lit<}
use Rattle.std.proofs.lemmas.Str.Pattern.{split_once_first}
use Rattle.clap_words.proofs.SplitLemmas.{split_result}
use Rattle.fip_words.proofs.values.split_at_equals.Goals as goal

pub returns : goal.returns
returns c =
    split_result 61 c.args.text.now c.split_once.result
    (split_once_first 61 c.args.text.now c.split_once.result c.split_once.ensures.cases (lit< tt))
