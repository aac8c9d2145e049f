use Rattle.fwu_words.proofs.AllowLemmas.{none_admits}
use Rattle.fwu_words.proofs.laws.lists_are_told.Goals as goal

pub returns-clause-none : goal.returns-clause-none
returns-clause-none c = λ words rest files passes h. none_admits words rest files passes h.asks h.none
