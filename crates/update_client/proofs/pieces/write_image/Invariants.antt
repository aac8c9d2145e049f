use Rattle.std.proofs.Common.{◌-◌, ◌≤◌, length}
use Rattle.std.specs.Prelude.{Ok}
use Rattle.agent_calls.specs.Shown.{device, moment}
use Rattle.update_client.specs.Images.{KeepsBeside}
use Rattle.update_client.proofs.{WrittenImage.WritesFirst, ImagesTaking.FirstTaken}
use Rattle.update_client.proofs.pieces.write_image.Given as goal

abbrev pub invariant-loop-at : goal.invariant-loop-at
invariant-loop-at g l = record {
  inside : l.at ≤ l.payload.entry.now.size;
  first : WritesFirst (g.H.Files.contents l.fn.files) l.payload.name.now l.payload.entry.now l.at (moment l.fn.agent) (moment l.agent);
  takes : FirstTaken (length l.fn.buf) l.payload.entry.now l.at (moment l.fn.agent) (g.D.Flash.arming (device l.fn.agent)) (g.D.Flash.arming (device l.agent));
  keeps : KeepsBeside {T = Unit {0}} g.H.Files l.payload.name.now (Ok tt) l.fn.agent l.agent l.fn.files l.files l.fn.buf l.buf;
}

abbrev pub decreases-loop-at : goal.decreases-loop-at
decreases-loop-at g l = l.payload.entry.now.size - l.at
