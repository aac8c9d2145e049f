use Rattle.std.proofs.Common.{◌∙◌}
use Rattle.step_flash.specs.{Device.after_steps, Steps.under_of}
use Rattle.step_flash.proofs.Calls.{halted}
use Rattle.step_flash.proofs.device.StepDevice.stop.Goals as goal

pub returns : goal.returns
returns c =
    let s = c.args.self.now in
    let f = c.failed.ensures in
    record {
      stop = f.stop;
      call = record {
        content = λ told. f.call.content told ∙ halted (under_of s.stopped) s.live (after_steps s) _ c.args.at c.args.bytes.now c.new.ensures;
        power = f.call.power;
        size = f.call.size;
        arming = f.call.arming;
        counts = f.call.counts;
      };
      kept = record { steps = f.kept.steps; room = f.kept.room };
      live = f.live;
    }
