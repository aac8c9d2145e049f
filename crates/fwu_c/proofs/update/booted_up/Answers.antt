use Rattle.std.proofs.Common.{◌≡◌, ◌≤◌, ◌∙◌, refl, sym, arith}
use Rattle.early_boot.specs.{Ends.device_of, Ends.ended, Numbers.numbers}
use Rattle.early_boot.specs.{declared.booted.Booted.Booted, declared.numbers.Numbers.Numbers, declared.ends.BootEnd.BootEnd}
use Rattle.fwu_c.specs.Reports.{end_code}
use Rattle.fwu_c.proofs.{Booting.boot_end_is, Telling.keeps_started}
use Rattle.flash_core.specs.declared.flash.Flash.{Ghosts}
use Rattle.early_boot.specs.declared.ends.BootEnd.TheVariants as boot_end
use Rattle.fwu_c.proofs.update.booted_up.Goals as goal

-- an end of a boot that started no bank
not_started : {D : Type 0} {F : Ghosts D} (x : BootEnd D F) → ((b : Booted D F) (n : Numbers) → x ≡ boot_end.Booted b n → ⊥)
    → 1 ≤ end_code (ended x)
not_started (boot_end.Booted b n) not = absurd (not b n refl)
not_started s not = omega arith

pub returns-in-Ok : goal.returns-in-Ok
returns-in-Ok c = rw c.in-Ok.ensures.ok (
  numbers c.in-Booted.field-1,
  record {
    number_is = refl;
    ends = c.in-Booted.ensures.boots.ends refl;
    reports = c.report_start.ensures.reports;
    kept = keeps_started _ _ c.report_start.ensures.kept;
    unlost = λ four. omega (arith, four);
    touches = c.in-Booted.ensures.boots.touches;
    touches_fewer = c.in-Booted.ensures.boots.touches_fewer;
  },
)

pub returns : goal.returns
returns c =
    let ended_as = c.report_end-number.ensures in
    let same = c.in_default.end-is in
    let given_back = c.into_flash.ensures in
    let back : c.into_flash.result ≡ device_of c.boot_in.result = cc in
    let code : c.report_end-number.result ≡ end_code (ended c.boot_in.result) = cc in
    let boots = c.boot_in.ensures.boots in
    let end = boot_end_is (ended c.boot_in.result) c.args.flash (device_of c.boot_in.result) boots.costs in
    let none = not_started c.boot_in.result (λ b n is. c.in_default.not-Booted b n (cc)) in
    rw back (
      omega (arith, none, code),
      ended c.boot_in.result,
      record {
        number_is = code;
        ends = boots.ends refl;
        reports = ended_as.reports;
        kept = ended_as.kept;
        unlost = λ four. end.0 (sym code ∙ four);
        touches = boots.touches;
        touches_fewer = boots.touches_fewer;
      },
    )
