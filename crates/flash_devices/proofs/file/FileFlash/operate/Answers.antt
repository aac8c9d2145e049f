use Rattle.std.proofs.Common.{◌≡◌, true, arith, rules, take, sym, ◌∙◌, ap}
use Rattle.std.specs.Prelude.{is_err}
use Rattle.flash_core.proofs.Touches.{touches_wider}
use Rattle.flash_devices.specs.File.{arming_of}
use Rattle.flash_devices.proofs.FileSteps.{due_write, failed_as_told, failed_write}
use Rattle.flash_devices.proofs.file.FileFlash.operate.Goals as goal

pub returns-then-is_err : goal.returns-then-is_err
returns-then-is_err g c =
    let failed : is_err c.write_at.result ≡ true = sym c.is_err.ensures.value ∙ c.if-is_err.true in
    let part = due_write (arming_of c.args.self.now) c.in-Some-eq1.field-0 c.min-landed.result c.args.bytes.now c.in-Some-eq1.is (search rules) (search rules) in
    record {
      leaves = failed_write c.failed.result c.write_at.result (arming_of c.args.self.now) c.args.at c.from.result c.args.bytes.now
          (take c.min-landed.result c.args.bytes.now) _ _ _ c.failed.ensures.stop failed (search rules) part
          (ap (λ f. g.F.ByteFile.content f) c.failed.ensures.file) c.write_at.ensures.writes;
      fails = failed_as_told c.failed.result c.write_at.result _ _ c.args.at c.from.result (take c.min-landed.result c.args.bytes.now) _
          c.failed.ensures.stop failed (search rules) part c.write_at.ensures.fails;
      touches = search (rules, touches_wider, arith);
      armed = search rules;
      one_call = search rules;
      counted = search rules;
      power = search rules;
      size = search rules;
      arming = search rules;
      counts = search rules;
      reached = search rules;
      landed = search rules;
    }

pub returns-then-is_err-2 : goal.returns-then-is_err-2
returns-then-is_err-2 g c = record {
  leaves = search rules;
  touches = search rules;
  fails = search rules;
  armed = search rules;
  one_call = search rules;
  counted = search rules;
  power = search rules;
  size = search rules;
  arming = search rules;
  counts = search rules;
  reached = search rules;
  landed = search rules;
}
