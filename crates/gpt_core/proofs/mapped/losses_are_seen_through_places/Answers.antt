use Rattle.gpt_core.proofs.Viewed.{guards-view, may-view}
use Rattle.gpt_core.proofs.mapped.losses_are_seen_through_places.Goals as goal

pub returns-clause-images : goal.returns-clause-images
returns-clause-images c = λ blocks on p t image fit sound may. may-view p blocks fit t on image sound may

pub returns-clause-guards : goal.returns-clause-guards
returns-clause-guards c = λ blocks p t fit guarded. guards-view p blocks t fit guarded
