use Rattle.std.proofs.Common.{refl}
use Rattle.fwu_words.specs.Commands.{fwu_app}
use Rattle.clap_words.proofs.Refusals.{refused, reads_nothing}
use Rattle.fwu_words.proofs.laws.refusals_are_of_clap.Goals as goal

pub returns : goal.returns
returns c = λ words. (λ e. refused fwu_app words refl e, reads_nothing fwu_app words)
