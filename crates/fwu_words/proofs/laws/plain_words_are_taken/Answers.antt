use Rattle.std.proofs.Common.{refl}
use Rattle.clap.proofs.OnLiterals.{clap_on_literals}
use Rattle.fwu_words.proofs.PlainWords.{plain_banks, plain_format, plain_more, plain_seed, plain_soak, plain_third}
use Rattle.fwu_words.proofs.laws.plain_words_are_taken.Goals as goal

pub returns-clause-run : goal.returns-clause-run
unfolding clap_on_literals
returns-clause-run c = refl

pub returns-clause-boot : goal.returns-clause-boot
unfolding clap_on_literals
returns-clause-boot c = refl

pub returns-clause-show : goal.returns-clause-show
unfolding clap_on_literals
returns-clause-show c = refl

pub returns-clause-format : goal.returns-clause-format
returns-clause-format c = plain_format

pub returns-clause-banks : goal.returns-clause-banks
returns-clause-banks c = plain_banks

pub returns-clause-soak : goal.returns-clause-soak
returns-clause-soak c = plain_soak

pub returns-clause-soak_alone : goal.returns-clause-soak_alone
unfolding clap_on_literals
returns-clause-soak_alone c = refl

pub returns-clause-seed_alone : goal.returns-clause-seed_alone
returns-clause-seed_alone c = plain_seed

pub returns-clause-third : goal.returns-clause-third
returns-clause-third c = plain_third

pub returns-clause-serve : goal.returns-clause-serve
unfolding clap_on_literals
returns-clause-serve c = refl

pub returns-clause-serve_by_table : goal.returns-clause-serve_by_table
unfolding clap_on_literals
returns-clause-serve_by_table c = refl

pub returns-clause-serve_more : goal.returns-clause-serve_more
returns-clause-serve_more c = plain_more

pub returns-clause-help : goal.returns-clause-help
unfolding clap_on_literals
returns-clause-help c = refl

pub returns-clause-nothing : goal.returns-clause-nothing
unfolding clap_on_literals
returns-clause-nothing c = refl

pub returns-clause-run_partitioned : goal.returns-clause-run_partitioned
unfolding clap_on_literals
returns-clause-run_partitioned c = refl

pub returns-clause-boot_partitioned : goal.returns-clause-boot_partitioned
unfolding clap_on_literals
returns-clause-boot_partitioned c = refl
