use Rattle.std.specs.Prelude.{All, IsTrue, Ok, ◌≡◌}
use Rattle.agent_calls.specs.{Shown.SpentBy, Shown.device, Shown.moment, Takes.CopiesTake, Copies.FillsBank}
use Rattle.agent_calls.proofs.CopyingAll.{CopiesFirst}
use Rattle.agent_calls.proofs.agent.Agent.copy_images.Given as goal

abbrev pub invariant-loop-image : goal.invariant-loop-image
invariant-loop-image g l = record {
  first : CopiesFirst l.fn.named l.image (moment l.fn.self) (moment l.self);
  takes : CopiesTake l.fn.named l.image (moment l.fn.self) (g.D.Flash.arming (device l.fn.self)) (g.D.Flash.arming (device l.self));
  spent : SpentBy (Ok tt) l.fn.self l.self;
  fills : FillsBank (moment l.fn.self) (moment l.self);
  still : All IsTrue l.fn.named → l.self ≡ l.fn.self;
}
