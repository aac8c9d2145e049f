use Rattle.step_flash.specs.Guard.{start_with}
use Rattle.step_flash.proofs.Places.{all_beside, all_have, all_within}
use Rattle.step_flash.proofs.device.StepDevice.into_parts.Goals as goal

pub returns-clause-inside : goal.returns-clause-inside
returns-clause-inside c = rw c.args.self.size c.args.self.inside

pub returns-clause-lie : goal.returns-clause-lie
returns-clause-lie c =
    let s = c.args.self in
    let have = all_have s.file.bytes.now s.room.items _ _ _ (start_with s.image.now s.file.bytes.now) s.steps.items s.inside s.doable in
    record {
      places = λ first last only. all_within first last s.steps.items have only;
      beside = λ first last order none. all_beside first last s.steps.items have order none;
    }
