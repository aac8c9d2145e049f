use Rattle.std.proofs.Common.{refl}
use Rattle.clap.proofs.OnLiterals.{clap_on_literals}
use Rattle.fip_words.proofs.commands.fip_is_simple.Goals as goal

pub returns : goal.returns
unfolding clap_on_literals
returns c = refl
