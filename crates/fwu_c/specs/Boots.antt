-- What C is told of a boot.
use Rattle.std.specs.Prelude.{◌≡◌, ℕ, ◌*◌, List, [], All, Option, take}
use Rattle.base_core.specs.Block.{block_bytes}
use Rattle.flash_core.specs.{Told.Told, Counts.lowered_by, declared.flash.Arming.Arming}
use Rattle.fwu_formats.specs.{Digests.passes_any, Places.counter_block, Places.first_record}
use Rattle.early_boot.specs.{Ends.Ended, EndsBy.BootEnds, EndsBy.TakesByBytes, EndsBy.TouchesBoot}
use Rattle.step_flash.specs.{declared.step.Step.Step, Guard.start_with, Writes.LiesBeside, Writes.LiesWithin}
use Rattle.step_flash.specs.Writes.{erases_and_programs, writes_in}
use Rattle.fwu_c.specs.{Reports.end_code, Handed.IsMadeBy, Handed.boot_reach, Reports.ReportsEnd, declared.report.Report.Report}

-- From the image it boots as the definitions say. What the flash then tells is what the steps make of the image.
pub record BootsBy (image : List ℕ) (number : ℕ) (old r : Report) (steps : List Step) (room : List ℕ) : Type 0 where
  pub end : Ended
  pub number_is : number ≡ end_code end
  pub t : Told
  pub ends : BootEnds (λ m. passes_any m) (start_with image []) end t
  -- without a package: so no step is a copy
  pub made : IsMadeBy image [] r steps room t
  -- each lies in blocks 1 to 6, and so in no bank, and none in block 4, which has the counter's marks
  pub places : All (LiesWithin block_bytes boot_reach) (take r.steps steps)
  pub beside_marks : All (LiesBeside (block_bytes * counter_block) (block_bytes * first_record)) (take r.steps steps)
  -- and of these blocks, by how it ends, fewer or none
  pub touches_fewer : TouchesBoot end (λ k. 0) (writes_in (take r.steps steps))
  -- As many are erases and programs as bring an armed loss nearer, by how it ends and by what the replicas hold. At a stop nothing
  -- is said.
  pub spent : (armed : Option Arming)
      → TakesByBytes image end armed (lowered_by (erases_and_programs (take r.steps steps)) armed)
  pub reports : ReportsEnd end old r
