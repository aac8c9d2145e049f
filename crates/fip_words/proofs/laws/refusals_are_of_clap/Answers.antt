use Rattle.std.proofs.Common.{refl}
use Rattle.fip_words.specs.Commands.{fip_app}
use Rattle.clap_words.proofs.Refusals.{refused, reads_nothing}
use Rattle.fip_words.proofs.laws.refusals_are_of_clap.Goals as goal

pub returns : goal.returns
returns c = λ words. (λ e. refused fip_app words refl e, reads_nothing fip_app words)
