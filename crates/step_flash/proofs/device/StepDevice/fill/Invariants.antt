use Rattle.std.proofs.Common.{◌≡◌, ◌+◌, length, take, slice_range}
use Rattle.step_flash.specs.{Guard.start_with, Steps.run_with}
use Rattle.step_flash.proofs.device.StepDevice.fill.Given as goal

abbrev pub invariant-loop-step : goal.invariant-loop-step
invariant-loop-step l =
    (length l.out ≡ length l.fn.out)
    × (l.out ≡ slice_range
    (run_with l.self.file.bytes.now l.self.room.items (start_with l.self.image.now l.self.file.bytes.now)
    (take l.step-index l.self.steps.items)).now l.at (l.at + length l.fn.out))
