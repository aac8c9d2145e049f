use Rattle.std.proofs.Common.{refl, sym, subst}
use Rattle.early_boot.specs.{declared.showing.Shown.Shown, Knows.KnowsStarted, Tells.started_as}
use Rattle.early_boot.specs.TakenUp.{IsTakeUp, TakenUp, device_left, taken, unshown_as}
use Rattle.early_boot.proofs.TakenUp.{knows-taken, none-take-up, refused-take-up, stopped-take-up, taken-take-up}
use Rattle.early_boot.proofs.taking_up.take_up.Goals as goal

pub returns-in-Err : goal.returns-in-Err
returns-in-Err g c =
    let passes = g.V.Verifier.passes c.args.verifier.now in
    record {
      takes =
          subst (λ (e : TakenUp). IsTakeUp g.D.Flash passes c.args.bank c.args.flash e (device_left c.unshown.result)) (sym c.unshown.ensures.taken)
          (subst (λ d. IsTakeUp g.D.Flash passes c.args.bank c.args.flash (unshown_as c.in-Err.why) d) (sym c.unshown.ensures.device)
          (none-take-up g.D.Flash passes c.args.bank c.args.flash c.read_shown.new.flash c.in-Err.why c.in-Err.ensures.reads c.in-Err.ensures.nothing));
    }

pub invariant_of-booted-clause-knows : goal.invariant_of-booted-clause-knows
invariant_of-booted-clause-knows g c tells =
    let chosen = c.in-Ok-Some.chosen in
    let found = rw c.in-Ok-Some.field-0-is at c.in-Ok-Some.ensures in
    subst (λ (x : Shown). KnowsStarted (started_as x chosen) (g.D.Flash.told c.check_and_mend.new.flash)) (sym c.mended.ensures)
    (knows-taken g.D.Flash (g.V.Verifier.passes c.args.verifier.now) c.args.bank c.args.flash c.read_shown.new.flash
    c.check_and_mend.new.flash c.in-Ok.shown c.in-Ok.ensures.reads c.in-Ok.ensures.shown
    found.touches chosen found.running found.mends tells)

pub returns-in-Ok-Some : goal.returns-in-Ok-Some
returns-in-Ok-Some g c =
    let passes = g.V.Verifier.passes c.args.verifier.now in
    let chosen = c.in-Ok-Some.chosen in
    let found = rw c.in-Ok-Some.field-0-is at c.in-Ok-Some.ensures in
    record {
      takes =
          subst (λ (x : Shown). IsTakeUp g.D.Flash passes c.args.bank c.args.flash (taken (started_as x chosen)) c.check_and_mend.new.flash) (sym c.mended.ensures)
          (taken-take-up g.D.Flash passes c.args.bank c.args.flash c.read_shown.new.flash c.check_and_mend.new.flash c.in-Ok.shown
          c.in-Ok.ensures.reads c.in-Ok.ensures.shown
          found.touches chosen found.running found.mends found.goes found.spent found.once found.found);
    }

pub returns-in-Ok-None : goal.returns-in-Ok-None
returns-in-Ok-None g c =
    let passes = g.V.Verifier.passes c.args.verifier.now in
    let none = rw c.in-Ok-None.field-0-is at c.in-Ok-None.ensures in
    record {
      takes =
          refused-take-up g.D.Flash passes c.args.bank c.args.flash c.read_shown.new.flash c.check_and_mend.new.flash c.in-Ok.shown
          c.in-Ok.ensures.reads c.in-Ok.ensures.shown
          none.touches none.goes none.spent none.running none.mends (none.refused refl);
    }

pub returns-in-Err-check_and_mend : goal.returns-in-Err-check_and_mend
returns-in-Err-check_and_mend g c =
    let passes = g.V.Verifier.passes c.args.verifier.now in
    record {
      takes =
          stopped-take-up g.D.Flash passes c.args.bank c.args.flash c.read_shown.new.flash c.check_and_mend.new.flash c.in-Ok.shown c.in-Ok.ensures.reads c.in-Ok.ensures.shown c.in-Err-check_and_mend.ensures.touches
          c.in-Err-check_and_mend.stop c.in-Err-check_and_mend.ensures.goes c.in-Err-check_and_mend.ensures.mends;
    }
