use Rattle.std.proofs.Common.{inr, refl, rules}
use Rattle.step_flash.specs.{Device.after_steps, Steps.under_of}
use Rattle.step_flash.proofs.Calls.{fresh_back, leaves_back, no_chance_back}
use Rattle.step_flash.proofs.device.StepDevice.power_on.Goals as goal

pub returns-clause-back : goal.returns-clause-back
returns-clause-back c =
    let s = c.args.self.now in
    record {
      fresh_is = λ _. fresh_back (under_of s.stopped) s.live (after_steps s);
      leaves = λ _. leaves_back (under_of s.stopped) s.live (after_steps s);
      chance = λ _. inr (no_chance_back (under_of s.stopped) s.live (after_steps s));
      effect = search rules;
      power = refl;
      size = refl;
      arming = refl;
      made = refl;
      counts = search rules;
    }
