use Rattle.std.proofs.Common.{refl}
use Rattle.clap.proofs.OnLiterals.{clap_on_literals}
use Rattle.fip_words.proofs.PlainWords.{plain_aligned, plain_aligned_package, plain_capsule, plain_create, plain_info, plain_manifest, plain_package, plain_remove, plain_unpack, plain_update}
use Rattle.fip_words.proofs.laws.plain_words_are_taken.Goals as goal

pub returns : goal.returns
unfolding clap_on_literals
returns c = record {
  info = plain_info;
  source = refl;
  create = plain_create;
  align = plain_aligned;
  update = plain_update;
  remove = plain_remove;
  unpack = plain_unpack;
  manifest = plain_manifest;
  capsule = plain_capsule;
  «package» = plain_package;
  aligned_package = plain_aligned_package;
  help = refl;
  nothing = refl;
}
