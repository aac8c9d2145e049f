use Rattle.gen_core.proofs.Making.{layouts-have-images}
use Rattle.gen_core.proofs.laws.layouts_have_images.Goals as goal

pub returns : goal.returns
returns c = layouts-have-images
