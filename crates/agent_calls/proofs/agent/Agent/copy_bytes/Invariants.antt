use Rattle.std.proofs.Common.{◌-◌, ◌≡◌, ◌≤◌, Some, length}
use Rattle.std.specs.Prelude.{Ok}
use Rattle.base_core.specs.Block.{block_bytes}
use Rattle.agent_machine.specs.Fields.{total_of}
use Rattle.agent_calls.specs.{Shown.SpentBy, Shown.device, Shown.fields, Shown.moment, Copies.FillsBank}
use Rattle.agent_calls.proofs.{CopyTaking.FrontTaken, Copies.CopiesFront}
use Rattle.agent_calls.proofs.agent.Agent.copy_bytes.Given as goal

abbrev pub invariant-loop-at : goal.invariant-loop-at
invariant-loop-at g l = record {
  inside : l.at ≤ total_of (fields l.fn.self) (Some l.fn.image);
  buffer : length l.buf ≡ block_bytes;
  first : CopiesFront l.fn.image l.at (moment l.fn.self) (moment l.self);
  takes : FrontTaken l.fn.image l.at (moment l.fn.self) (g.D.Flash.arming (device l.fn.self)) (g.D.Flash.arming (device l.self));
  spent : SpentBy (Ok tt) l.fn.self l.self;
  fills : FillsBank (moment l.fn.self) (moment l.self);
}

abbrev pub decreases-loop-at : goal.decreases-loop-at
decreases-loop-at g l = l.total - l.at
