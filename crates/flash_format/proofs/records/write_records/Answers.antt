use Rattle.std.proofs.Common.{◌≡◌, inl, inr, ◌∙◌, arith, IsTrue, rules}
use Rattle.base_core.specs.Block.{block}
use Rattle.flash_core.specs.Replaces.{padded}
use Rattle.flash_core.proofs.{Calls.now_kept, Spent.spent_then, Touches.touches_then, Touches.touches_wider}
use Rattle.fwu_formats.specs.{Layout.layout_bytes, Metadata.first_meta}
use Rattle.fwu_model.specs.Replica.{in_version}
use Rattle.flash_format.specs.Formatted.{IsSpelled}
use Rattle.flash_format.proofs.{Ranges.erased_stays, Formats.unlaid}
use Rattle.flash_format.proofs.Recorded.{on_ok_from, on_ok_map, both_stay, ordered_before, ordered_after}
use Rattle.flash_format.proofs.records.write_records.Goals as goal

pub returns-clause-both : goal.returns-clause-both
returns-clause-both g c = on_ok_from _ c.write_layout.result (λ tells.
    let L = c.args.layout.now in
    let s = g.D.Flash.told c.write_replicas.new.flash in
    let t = g.D.Flash.told c.write_layout.new.flash in
    let size = (g.met.D.Flash.sound c.write_replicas.new.flash tells).size in
    let many = (g.met.D.Flash.sizes c.write_replicas.new.flash).0 in
    both_stay L (in_version 2 (first_meta L)) s t (omega (arith, size, many)) (c.write_layout.ensures.writes.keeps tells) (c.in_ok-write_replicas.ensures.replicas tells))

pub returns-in_err-write_replicas-clause-ordered : goal.returns-in_err-write_replicas-clause-ordered
returns-in_err-write_replicas-clause-ordered g c = λ tells clean.
    let size = (g.met.D.Flash.sound c.args.flash.now tells).size in
    let many = (g.met.D.Flash.sizes c.args.flash.now).0 in
    ordered_before c.args.layout.now 4096 (g.D.Flash.told c.args.flash.now) (g.D.Flash.told c.write_replicas.new.flash) (omega arith) (omega (arith, size, many)) (λ i above below. c.requires.erased tells i above (omega (arith, below))) clean
    (c.write_replicas.ensures.writes.keeps tells)

pub returns-clause-ordered : goal.returns-clause-ordered
returns-clause-ordered g c = λ tells clean.
    let size = (g.met.D.Flash.sound c.write_replicas.new.flash tells).size in
    let many = (g.met.D.Flash.sizes c.write_replicas.new.flash).0 in
    ordered_after c.args.layout.now (g.D.Flash.told c.write_replicas.new.flash) (g.D.Flash.told c.write_layout.new.flash) (omega (arith, size, many)) (c.in_ok-write_replicas.ensures.clean tells) (c.in_ok-write_replicas.ensures.replicas tells)
    (c.write_layout.ensures.writes.keeps tells)

pub returns-clause-writes : goal.returns-clause-writes
returns-clause-writes g c = record {
  keeps = search rules;
  goes = search rules;
  spent = spent_then c.write_layout.result 2 1 3 _ _ _ (omega arith) c.in_ok-write_replicas.ensures.writes.spent c.write_layout.ensures.writes.spent;
  touches = touches_then 0 12288 (touches_wider 4096 12288 0 12288 (omega arith) (omega arith) c.write_replicas.ensures.writes.touches)
      (touches_wider 0 4096 0 12288 (omega arith) (omega arith) c.write_layout.ensures.writes.touches);
}

pub returns-clause-spelled : goal.returns-clause-spelled
returns-clause-spelled g c =
    let L = c.args.layout.now in
    let s = g.D.Flash.told c.write_replicas.new.flash in
    let t = g.D.Flash.told c.write_layout.new.flash in
    on_ok_map (IsTrue g.D.Flash.tells → block 0 t.now ≡ padded (layout_bytes L)) (IsTrue g.D.Flash.tells → IsSpelled L t.now) c.write_layout.result
    (λ first tells.
    let size = (g.met.D.Flash.sound c.write_replicas.new.flash tells).size in
    let many = (g.met.D.Flash.sizes c.write_replicas.new.flash).0 in
    let keeps = c.write_layout.ensures.writes.keeps tells in
    record {
      layout = first tells;
      zero = now_kept 1 0 4096 s t (omega (arith, size, many)) (inr (omega arith)) keeps ∙ (c.in_ok-write_replicas.ensures.spelled tells).0;
      one = now_kept 2 0 4096 s t (omega (arith, size, many)) (inr (omega arith)) keeps ∙ (c.in_ok-write_replicas.ensures.spelled tells).1;
    })
    c.write_layout.ensures.spelled

pub returns-in_err-write_replicas-clause-seen : goal.returns-in_err-write_replicas-clause-seen
returns-in_err-write_replicas-clause-seen g c = λ tells.
    let s = g.D.Flash.told c.args.flash.now in
    let t = g.D.Flash.told c.write_replicas.new.flash in
    let size = (g.met.D.Flash.sound c.write_replicas.new.flash tells).size in
    let many = (g.met.D.Flash.sizes c.write_replicas.new.flash).0 in
    inl (unlaid t.now (omega (arith, size, many)) (erased_stays 0 4096 4096 12288 s t (inl (omega arith)) (c.write_replicas.ensures.writes.keeps tells) (λ i above below. c.requires.erased tells i above (omega (arith, below)))))
