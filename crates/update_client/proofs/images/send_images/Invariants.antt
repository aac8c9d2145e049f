use Rattle.std.proofs.Common.{length}
use Rattle.std.specs.Prelude.{Ok}
use Rattle.agent_calls.specs.Shown.{device, moment}
use Rattle.update_client.proofs.SentImages.{SendsFirst}
use Rattle.update_client.specs.{Images.KeepsBeside, Takes.ImagesTake}
use Rattle.update_client.proofs.images.send_images.Given as goal

abbrev pub invariant-loop-k : goal.invariant-loop-k
invariant-loop-k g l = record {
  first : SendsFirst (g.H.Files.contents l.fn.files) l.payloads.name.now l.payloads.entries.now l.acceptance l.k (moment l.fn.agent) (moment l.agent);
  takes : ImagesTake (length l.fn.buf) l.payloads.entries.now l.k (moment l.fn.agent) (g.D.Flash.arming (device l.fn.agent)) (g.D.Flash.arming (device l.agent));
  keeps : KeepsBeside {T = Unit {0}} g.H.Files l.payloads.name.now (Ok tt) l.fn.agent l.agent l.fn.files l.files l.fn.buf l.buf;
}
