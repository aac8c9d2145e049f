use Rattle.std.proofs.Common.{◌≡◌, ◌≤◌, inr, ℕ, List, length, take, sym, ap, subst, ◌∙◌, arith, rules, ◌+◌}
use Rattle.std.proofs.lemmas.List.{length-take}
use Rattle.std.specs.Prelude.{IsTrue}
use Rattle.flash_core.specs.{Told.Told, Told.put, Told.settled, May.Keeps, Touches.TouchesOnly}
use Rattle.flash_core.proofs.{Calls.keeps_same, Spent.spent_barrier, Spent.spent_both, Spent.spent_one}
use Rattle.flash_core.proofs.Touches.{touches_still, touches_then, touches_wider}
use Rattle.fwu_formats.specs.Metadata.{MetaRead, first_meta, fits_meta, replica_bytes}
use Rattle.flash_format.proofs.Ranges.{keeps_written, erased_range, erased_stays}
use Rattle.flash_format.proofs.Recorded.{HoldTwice, both_first, on_ok_from, keeps_settled, clean_after, put_twice}
use Rattle.flash_format.proofs.records.write_replicas.Given as given
use Rattle.flash_format.proofs.records.write_replicas.Goals.{After-program-2, After-barrier}
use Rattle.flash_format.proofs.records.write_replicas.Goals as goal

pub program-requires-clause-blank : goal.program-requires-clause-blank
program-requires-clause-blank g c = λ tells.
    let size = (g.met.D.Flash.sound c.args.flash.now tells).size in
    let many = (g.met.D.Flash.sizes c.args.flash.now).0 in
    let bytes = take c.replica_size-size.result c.write.new.out in
    let few : length bytes ≤ 4096 = omega (arith, length-take c.replica_size-size.result c.write.new.out, c.write.auto.out) in
    erased_range 4096 (length bytes) (g.D.Flash.told c.args.flash.now).now (omega (arith, size, many, few)) (λ i above below. c.requires.erased tells i above (omega (arith, below, few)))

pub returns-in_err-program-clause-writes : goal.returns-in_err-program-clause-writes
returns-in_err-program-clause-writes g c =
    let bytes = take c.replica_size-size.result c.write.new.out in
    let few : length bytes ≤ 4096 = omega (arith, length-take c.replica_size-size.result c.write.new.out, c.write.auto.out) in
    record {
      keeps =
          λ tells.
          let s = g.D.Flash.told c.args.flash.now in
          let size = (g.met.D.Flash.sound c.args.flash.now tells).size in
          let many = (g.met.D.Flash.sizes c.args.flash.now).0 in
          subst (Keeps 4096 12288 s) (sym (c.program.ensures.content tells))
          (keeps_written c.program.result 4096 12288 4096 bytes s s (omega arith) (omega (arith, few)) (omega (arith, size, many, few)) (keeps_same 4096 12288 s));
      goes = search rules;
      spent = search rules;
      touches = touches_wider 4096 (4096 + length bytes) 4096 12288 (omega arith) (omega (arith, few)) c.program.ensures.touches;
    }

pub program-requires-2-clause-blank : goal.program-requires-2-clause-blank
program-requires-2-clause-blank g c = λ tells.
    let s = g.D.Flash.told c.args.flash.now in
    let m = g.D.Flash.told c.program.new.self in
    let size = (g.met.D.Flash.sound c.args.flash.now tells).size in
    let many = (g.met.D.Flash.sizes c.args.flash.now).0 in
    let bytes = take c.replica_size-size.result c.write.new.out in
    let few : length bytes ≤ 4096 = omega (arith, length-take c.replica_size-size.result c.write.new.out, c.write.auto.out) in
    let keeps = subst (Keeps 4096 8192 s) (sym (c.program.ensures.content tells)) (keeps_written c.program.result 4096 8192 4096 bytes s s (omega arith) (omega (arith, few)) (omega (arith, size, many, few)) (keeps_same 4096 8192 s)) in
    let erased = erased_stays 8192 12288 4096 8192 s m (inr (omega arith)) keeps (λ i above below. c.requires.erased tells i (omega (arith, above)) below) in
    erased_range 8192 (length bytes) m.now (omega (arith, size, many, few, keeps.size)) (λ i above below. erased i above (omega (arith, below, few)))

module _ (g : given.Over) (c : After-program-2 g) where
  few : length (take c.replica_size-size.result c.write.new.out) ≤ 4096
  few = omega (arith, length-take c.replica_size-size.result c.write.new.out, c.write.auto.out)

  keeps : IsTrue g.D.Flash.tells → Keeps 4096 12288 (g.D.Flash.told c.args.flash.now) (g.D.Flash.told c.program-2.new.self)
  keeps tells =
      let s = g.D.Flash.told c.args.flash.now in
      let m = g.D.Flash.told c.program.new.self in
      let size = (g.met.D.Flash.sound c.args.flash.now tells).size in
      let many = (g.met.D.Flash.sizes c.args.flash.now).0 in
      let bytes = take c.replica_size-size.result c.write.new.out in
      let first = subst (Keeps 4096 12288 s) (sym (c.program.ensures.content tells)) (keeps_written c.program.result 4096 12288 4096 bytes s s (omega arith) (omega (arith, few)) (omega (arith, size, many, few)) (keeps_same 4096 12288 s)) in
      subst (Keeps 4096 12288 s) (sym (c.program-2.ensures.content tells)) (keeps_written c.program-2.result 4096 12288 8192 bytes s m (omega arith) (omega (arith, few)) (omega (arith, size, many, few)) first)

  touched : TouchesOnly 4096 12288 (g.D.Flash.writes c.args.flash.now) (g.D.Flash.writes c.program-2.new.self)
  touched =
      let bytes = take c.replica_size-size.result c.write.new.out in
      touches_then 4096 12288 (touches_wider 4096 (4096 + length bytes) 4096 12288 (omega arith) (omega (arith, few)) c.program.ensures.touches)
      (touches_wider 8192 (8192 + length bytes) 4096 12288 (omega arith) (omega (arith, few)) c.program-2.ensures.touches)

pub returns-in_err-program-2-clause-writes : goal.returns-in_err-program-2-clause-writes
returns-in_err-program-2-clause-writes g c =
    let p = (goal.at.returns-in_err-program-2-clause-writes g c).After-program-2 in
    record { keeps = keeps g p; goes = search rules; spent = search rules; touches = touched g p }

pub returns-clause-writes : goal.returns-clause-writes
returns-clause-writes g c =
    let p = (goal.at.returns-clause-writes g c).After-program-2 in
    let s = g.D.Flash.told c.args.flash.now in
    record {
      keeps = λ tells. subst (Keeps 4096 12288 s) (sym (c.barrier.ensures.content tells)) (keeps_settled c.barrier.result 4096 12288 s (g.D.Flash.told c.program-2.new.self) (keeps g p tells));
      goes = search rules;
      spent = spent_barrier c.barrier.result 2 _ _ _ (spent_both 1 1 2 _ _ _ (omega arith) (spent_one _ _ c.in_ok-program.ensures.arming) (spent_one _ _ c.in_ok-program-2.ensures.arming)) c.barrier.ensures.arming;
      touches = touches_still 4096 12288 (touched g p) c.barrier.ensures.writes;
    }

module _ (g : given.Over) (c : After-barrier g) where
  -- what was programmed is the first metadata
  spelled : take c.replica_size-size.result c.write.new.out ≡ replica_bytes c.args.layout.now (first_meta c.args.layout.now)
  spelled =
      ap (λ (n : ℕ). take n c.write.new.out) c.replica_size-size.ensures.value ∙ c.write.ensures.replica (omega (arith, c.replica_size-size.ensures.value, c.replica_size-size.ensures.small))
      ∙ ap (λ (r : MetaRead). replica_bytes c.args.layout.now r.meta) c.first-meta.ensures.value

  twice : IsTrue g.D.Flash.tells → HoldTwice (replica_bytes c.args.layout.now (first_meta c.args.layout.now)) (g.D.Flash.told c.barrier.new.self).now
  twice tells =
      let bytes = take c.replica_size-size.result c.write.new.out in
      let few : length bytes ≤ 4096 = omega (arith, length-take c.replica_size-size.result c.write.new.out, c.write.auto.out) in
      let size = (g.met.D.Flash.sound c.args.flash.now tells).size in
      let many = (g.met.D.Flash.sizes c.args.flash.now).0 in
      let both = put_twice c.barrier.result bytes (g.D.Flash.told c.args.flash.now) (omega (arith, size, many)) few (c.requires.erased tells) in
      let first = subst (λ (m : Told). HoldTwice bytes (settled c.barrier.result (put 8192 bytes m)).now) (sym (c.in_ok-program.ensures.content tells)) both in
      let second = subst (λ (m : Told). HoldTwice bytes (settled c.barrier.result m).now) (sym (c.in_ok-program-2.ensures.content tells)) first in
      let after = subst (λ (m : Told). HoldTwice bytes m.now) (sym (c.barrier.ensures.content tells)) second in
      subst (λ (l : List ℕ). HoldTwice l (g.D.Flash.told c.barrier.new.self).now) spelled after

pub returns-clause-spelled : goal.returns-clause-spelled
returns-clause-spelled g c = on_ok_from _ c.barrier.result (twice g (goal.at.returns-clause-spelled g c).After-barrier)

pub returns-clause-replicas : goal.returns-clause-replicas
returns-clause-replicas g c = on_ok_from _ c.barrier.result (λ tells.
    let L = c.args.layout.now in
    let fits = subst (λ (r : MetaRead). IsTrue (fits_meta L r.meta)) c.first-meta.ensures.value c.first-meta.ensures.fits in
    both_first L (g.D.Flash.told c.barrier.new.self).now c.rows-rows.ensures.fit fits (twice g (goal.at.returns-clause-replicas g c).After-barrier tells))

pub returns-clause-clean : goal.returns-clause-clean
returns-clause-clean g c = clean_after (IsTrue g.D.Flash.tells) c.barrier.result (g.D.Flash.told c.program-2.new.self) (g.D.Flash.told c.barrier.new.self) c.barrier.ensures.content
