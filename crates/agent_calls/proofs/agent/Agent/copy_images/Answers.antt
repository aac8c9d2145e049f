use Rattle.std.proofs.Common.{◌≡◌, ℕ, true, false, length, get_or, refl, subst, ◌∙◌, arith}
use Rattle.std.proofs.lemmas.List.{get_or_default}
use Rattle.agent_calls.specs.{Shown.device, Shown.gone, Shown.moment, Takes.CopiesTake}
use Rattle.agent_calls.proofs.CopyFilling.{fills-none, fills-then, unnamed}
use Rattle.agent_calls.proofs.CopyingAll.{copies-none, copies-named, copies-more, copies-stopped, copies-done}
use Rattle.agent_calls.proofs.CopyTaking.{copies-take-none, copies-take-named, copies-take-more}
use Rattle.agent_machine.proofs.Spending.{none-spent, spent-then}
use Rattle.agent_calls.proofs.agent.Agent.copy_images.Goals as goal

pub loop-image-init : goal.loop-image-init
loop-image-init g c = record {
  first = copies-none c.args.named.now (moment c.args.self.now);
  takes = copies-take-none c.args.named.now (moment c.args.self.now) (g.D.Flash.arming (device c.args.self.now));
  spent = none-spent g.D.Flash (gone c.args.self.now) (device c.args.self.now) c.requires.here (c.args.self.now.power c.requires.here);
  fills = fills-none (moment c.args.self.now);
  still = λ all. refl;
}

pub loop-image-preserved-then-named-image : goal.loop-image-preserved-then-named-image
loop-image-preserved-then-named-image g c =
    let before = c.loop-image.invariant in
    let is : get_or c.args.named.now c.loop-image.image true ≡ true =
    get_or_default c.args.named.now c.loop-image.image true false c.loop-image-test.true ∙ c.if-named-image.true in
    record {
      first = copies-named c.args.named.now c.loop-image.image (moment c.args.self.now) (moment c.loop-image.self) before.first is;
      takes = copies-take-named c.args.named.now c.loop-image.image (moment c.args.self.now) (g.D.Flash.arming (device c.args.self.now))
          (g.D.Flash.arming (device c.loop-image.self)) is before.takes;
      spent = before.spent;
      fills = before.fills;
      still = before.still;
    }

pub returns-in-Err-clause-copies : goal.returns-in-Err-clause-copies
returns-in-Err-clause-copies g c =
    copies-stopped c.args.named.now c.loop-image.image (moment c.args.self.now) (moment c.loop-image.self) c.loop-image.invariant.first
    (moment c.copy_image.new.self) c.loop-image-test.true c.in-Err.stop c.in-Err.ensures.copies

pub loop-image-preserved : goal.loop-image-preserved
loop-image-preserved g c =
    let before = c.loop-image.invariant in
    let is : get_or c.args.named.now c.loop-image.image true ≡ false =
    get_or_default c.args.named.now c.loop-image.image true false c.loop-image-test.true ∙ c.if-named-image.false in
    record {
      first = copies-more c.args.named.now c.loop-image.image (moment c.args.self.now) (moment c.loop-image.self) before.first
          (moment c.copy_image.new.self) c.loop-image-test.true is c.in-Ok.ensures.copies;
      takes = copies-take-more c.args.named.now c.loop-image.image (moment c.args.self.now) (moment c.loop-image.self)
          (g.D.Flash.arming (device c.args.self.now)) (g.D.Flash.arming (device c.loop-image.self)) (g.D.Flash.arming (device c.copy_image.new.self))
          c.loop-image-test.true is before.first before.takes c.in-Ok.ensures.takes;
      spent = spent-then before.spent c.in-Ok.ensures.spent;
      fills = fills-then (moment c.args.self.now) (moment c.loop-image.self) (moment c.copy_image.new.self) before.fills c.in-Ok.ensures.fills;
      still = λ all. absurd (unnamed c.args.named.now c.loop-image.image c.loop-image-test.true all is);
    }

pub returns-clause-copies : goal.returns-clause-copies
returns-clause-copies g c =
    copies-done c.args.named.now c.loop-image.image (moment c.args.self.now) (moment c.loop-image.self) c.loop-image.invariant.first
    (omega (arith, c.loop-image-test.false, c.loop-image.auto.image-end))

pub returns-clause-takes : goal.returns-clause-takes
returns-clause-takes g c =
    let all : c.loop-image.image ≡ length c.args.named.now = omega (arith, c.loop-image-test.false, c.loop-image.auto.image-end) in
    subst (λ (n : ℕ). CopiesTake c.args.named.now n (moment c.args.self.now) (g.D.Flash.arming (device c.args.self.now))
    (g.D.Flash.arming (device c.loop-image.self))) all c.loop-image.invariant.takes

pub returns-in-Err-clause-spent : goal.returns-in-Err-clause-spent
returns-in-Err-clause-spent g c = spent-then c.loop-image.invariant.spent c.in-Err.ensures.spent

pub returns-in-Err-clause-fills : goal.returns-in-Err-clause-fills
returns-in-Err-clause-fills g c =
    fills-then (moment c.args.self.now) (moment c.loop-image.self) (moment c.copy_image.new.self) c.loop-image.invariant.fills c.in-Err.ensures.fills
