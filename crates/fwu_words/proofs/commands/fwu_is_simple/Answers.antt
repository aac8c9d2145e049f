use Rattle.std.proofs.Common.{refl}
use Rattle.clap.proofs.OnLiterals.{clap_on_literals}
use Rattle.fwu_words.proofs.commands.fwu_is_simple.Goals as goal

pub returns : goal.returns
unfolding clap_on_literals
returns c = refl
