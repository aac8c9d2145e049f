use Rattle.std.proofs.Common.{refl, arith}
use Rattle.early_boot.specs.TakenUp.{no_metadata, not_started}
use Rattle.fwu_c.proofs.Telling.{keeps_started, keeps_stays}
use Rattle.fwu_c.proofs.calling.taken_up.Goals as goal

pub returns-in-NoMetadata : goal.returns-in-NoMetadata
returns-in-NoMetadata c = (
  omega arith,
  no_metadata,
  record {
    number_is = refl;
    ends = c.in-NoMetadata.ensures.takes.ends refl;
    runs = tt;
    reports = tt;
    kept = keeps_stays _ _;
    unlost = λ e. omega (arith, e);
    touches = c.in-NoMetadata.ensures.takes.touches;
  },
)

pub returns-in-NotStarted : goal.returns-in-NotStarted
returns-in-NotStarted c = (
  omega arith,
  not_started,
  record {
    number_is = refl;
    ends = c.in-NotStarted.ensures.takes.ends refl;
    runs = tt;
    reports = tt;
    kept = keeps_stays _ _;
    unlost = λ e. omega (arith, e);
    touches = c.in-NotStarted.ensures.takes.touches;
  },
)

pub returns-in-Ok : goal.returns-in-Ok
returns-in-Ok c = rw c.in-Ok.ensures.ok (record {
  number_is = refl;
  ends = c.in-Taken.ensures.takes.ends refl;
  runs = c.in-Taken.ensures.takes.numbers;
  reports = c.report_start.ensures.reports;
  kept = keeps_started _ _ c.report_start.ensures.kept;
  unlost = λ e. omega (arith, e);
  touches = c.in-Taken.ensures.takes.touches;
})
