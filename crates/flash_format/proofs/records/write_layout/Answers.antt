use Rattle.std.proofs.Common.{◌≡◌, ◌≤◌, length, sym, ap, subst, ◌∙◌, arith, rules, ◌+◌}
use Rattle.std.specs.Prelude.{IsTrue}
use Rattle.base_core.specs.Block.{block}
use Rattle.flash_core.specs.{Told.Told, Told.put, May.Keeps, Touches.TouchesOnly}
use Rattle.flash_core.proofs.{Calls.keeps_same, Spent.spent_barrier, Spent.spent_one, Touches.touches_still, Touches.touches_wider}
use Rattle.flash_format.specs.Formatted.{HasAtMost}
use Rattle.flash_format.proofs.Ranges.{keeps_written, erased_range}
use Rattle.flash_format.proofs.Recorded.{at_most_written, on_ok_from, keeps_settled, now_settled, clean_after, whole_put, length_put, padded_front, layout_read}
use Rattle.fwu_formats.specs.Layout.{layout_bytes}
use Rattle.flash_format.proofs.records.write_layout.Given as given
use Rattle.flash_format.proofs.records.write_layout.Goals.{After-program, After-barrier}
use Rattle.flash_format.proofs.records.write_layout.Goals as goal

pub program-requires-clause-blank : goal.program-requires-clause-blank
program-requires-clause-blank g c = λ tells.
    let size = (g.met.D.Flash.sound c.args.flash.now tells).size in
    let many = (g.met.D.Flash.sizes c.args.flash.now).0 in
    let whole : length c.write.new.out ≡ 4096 = omega (arith, c.write.auto.out) in
    erased_range 0 (length c.write.new.out) (g.D.Flash.told c.args.flash.now).now (omega (arith, size, many, whole)) (λ i above below. c.requires.erased tells i above (omega (arith, below, whole)))

module _ (g : given.Over) (c : After-program g) where
  abbrev old : Told
  old = g.D.Flash.told c.args.flash.now

  abbrev then : Told
  then = g.D.Flash.told c.program.new.self

  whole : length c.write.new.out ≡ 4096
  whole = omega (arith, c.write.auto.out)

  room : IsTrue g.D.Flash.tells → 32768 ≤ length old.now
  room tells = let size = (g.met.D.Flash.sound c.args.flash.now tells).size in let many = (g.met.D.Flash.sizes c.args.flash.now).0 in omega (arith, size, many)

  keeps : IsTrue g.D.Flash.tells → Keeps 0 4096 old then
  keeps tells =
      subst (Keeps 0 4096 old) (sym (c.program.ensures.content tells))
      (keeps_written c.program.result 0 4096 0 c.write.new.out old old (omega arith) (omega (arith, whole)) (omega (arith, room tells, whole)) (keeps_same 0 4096 old))

  touched : TouchesOnly 0 4096 (g.D.Flash.writes c.args.flash.now) (g.D.Flash.writes c.program.new.self)
  touched = touches_wider 0 (0 + length c.write.new.out) 0 4096 (omega arith) (omega (arith, whole)) c.program.ensures.touches

  at_most : IsTrue g.D.Flash.tells → HasAtMost c.args.layout.now then.now
  at_most tells =
      let size = (g.met.D.Flash.sound c.args.flash.now tells).size in
      let many = (g.met.D.Flash.sizes c.args.flash.now).0 in
      subst (λ (u : Told). HasAtMost c.args.layout.now u.now) (sym (c.program.ensures.content tells))
      (at_most_written c.program.result c.args.layout.now c.write.new.out _ old size (omega (arith, many)) c.requires.ready.room (c.requires.erased tells) whole c.write.ensures.read_again)

module _ (g : given.Over) (c : After-barrier g) (tells : IsTrue g.D.Flash.tells) where
  now : (g.D.Flash.told c.barrier.new.self).now ≡ (put 0 c.write.new.out (g.D.Flash.told c.args.flash.now)).now
  now = ap (λ (u : Told). u.now) (c.barrier.ensures.content tells) ∙ now_settled c.barrier.result _ ∙ ap (λ (u : Told). u.now) (c.in_ok-program.ensures.content tells)

  there : block 0 (g.D.Flash.told c.barrier.new.self).now ≡ c.write.new.out
  there =
      let size = (g.met.D.Flash.sound c.args.flash.now tells).size in
      let many = (g.met.D.Flash.sizes c.args.flash.now).0 in
      ap (block 0) now ∙ whole_put c.write.new.out (g.D.Flash.told c.args.flash.now) (omega (arith, size, many)) (omega (arith, c.write.auto.out)) (c.requires.erased tells)

pub returns-in_err-program-clause-writes : goal.returns-in_err-program-clause-writes
returns-in_err-program-clause-writes g c =
    let p = (goal.at.returns-in_err-program-clause-writes g c).After-program in
    record { keeps = keeps g p; goes = search rules; spent = search rules; touches = touched g p }

pub returns-clause-writes : goal.returns-clause-writes
returns-clause-writes g c =
    let p = (goal.at.returns-clause-writes g c).After-program in
    record {
      keeps = λ tells. subst (Keeps 0 4096 (old g p)) (sym (c.barrier.ensures.content tells)) (keeps_settled c.barrier.result 0 4096 (old g p) (then g p) (keeps g p tells));
      goes = search rules;
      spent = spent_barrier c.barrier.result 1 _ _ _ (spent_one _ _ c.in_ok-program.ensures.arming) c.barrier.ensures.arming;
      touches = touches_still 0 4096 (touched g p) c.barrier.ensures.writes;
    }

pub returns-clause-layout : goal.returns-clause-layout
returns-clause-layout g c = on_ok_from _ c.barrier.result (λ tells.
    let b = (goal.at.returns-clause-layout g c).After-barrier in
    let size = (g.met.D.Flash.sound c.args.flash.now tells).size in
    let many = (g.met.D.Flash.sizes c.args.flash.now).0 in
    let same = length_put 0 c.write.new.out (g.D.Flash.told c.args.flash.now) (omega (arith, size, many, c.write.auto.out)) in
    layout_read c.args.layout.now c.write.new.out (g.D.Flash.told c.barrier.new.self).now _ (ap length (now g b tells) ∙ same ∙ size) c.requires.ready.room (there g b tells) c.write.ensures.read_again)

pub returns-clause-clean : goal.returns-clause-clean
returns-clause-clean g c = clean_after _ c.barrier.result (g.D.Flash.told c.program.new.self) (g.D.Flash.told c.barrier.new.self) c.barrier.ensures.content

pub returns-clause-spelled : goal.returns-clause-spelled
returns-clause-spelled g c = on_ok_from _ c.barrier.result (λ tells.
    there g (goal.at.returns-clause-spelled g c).After-barrier tells ∙ padded_front c.write.new.out (layout_bytes c.args.layout.now) _ (omega (arith, c.write.auto.out)) c.write.ensures.spelled)

pub returns-in_err-program-clause-seen : goal.returns-in_err-program-clause-seen
returns-in_err-program-clause-seen g c = at_most g (goal.at.returns-in_err-program-clause-seen g c).After-program

pub returns-clause-seen : goal.returns-clause-seen
returns-clause-seen g c = λ tells.
    let now = ap (λ (u : Told). u.now) (c.barrier.ensures.content tells) ∙ now_settled c.barrier.result _ in
    subst (HasAtMost c.args.layout.now) (sym now) (at_most g (goal.at.returns-clause-seen g c).After-program tells)
