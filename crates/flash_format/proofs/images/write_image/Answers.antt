use Rattle.std.proofs.Common.{◌≡◌, ◌+◌, ◌*◌, ◌≤◌, ℕ, inl, inr, drop, sym, ap, subst, ◌∙◌, arith, rules}
use Rattle.std.specs.Prelude.{Ok, Option}
use Rattle.flash_core.proofs.{Calls.keeps_wider, Calls.keeps_then, Costs.spends_then, Spent.spent_both}
use Rattle.flash_core.proofs.Touches.{touches_then, touches_wider}
use Rattle.host_io.specs.Contents.{Directory}
use Rattle.host_io.proofs.Reading.{reads-then}
use Rattle.fip_tables.specs.Files.{Tells}
use Rattle.fwu_formats.specs.Package.{Entry, payload}
use Rattle.flash_format.specs.Places.{HoldsThenErased}
use Rattle.flash_format.proofs.{Recorded.left_then, Recorded.left_fewer, Stopped.unarmed_then}
use Rattle.flash_format.proofs.Ranges.{erased_stays, stands_stays, stands_more}
use Rattle.flash_format.proofs.images.write_image.Goals as goal

pub returns-in_err-write_piece-clause-writes : goal.returns-in_err-write_piece-clause-writes
returns-in_err-write_piece-clause-writes g c = record {
  keeps = search rules;
  left =
      λ tells.
      let m = g.D.Flash.told c.loop-k.flash in
      let t = g.D.Flash.told c.write_piece.new.flash in
      let b = c.args.first + c.loop-k.k in
      left_then c.args.first (g.D.Flash.told c.args.flash.now) m t (c.loop-k.invariant.left tells) (left_fewer c.args.first b m t (omega arith) (c.write_piece.ensures.writes.left tells));
  goes = search rules;
  spent = search rules;
  touches =
      let b = c.args.first + c.loop-k.k in
      let low = 4096 * c.args.first in
      let high = 4096 * (c.args.first + c.args.slots) in
      let within : c.loop-k.k + 1 ≤ c.args.slots = omega (arith, c.loop-k-test.true, c.requires.fits, ap (λ (e : Entry). e.size) c.entry.view_is) in
      touches_then low high c.loop-k.invariant.touches (touches_wider (4096 * b) (4096 * b + 4096) low high (omega arith) (omega (arith, within)) c.write_piece.ensures.writes.touches);
  stops = search rules;
}

pub loop-k-preserved : goal.loop-k-preserved
loop-k-preserved g c =
    let s = g.D.Flash.told c.args.flash.now in
    let m = g.D.Flash.told c.loop-k.flash in
    let t = g.D.Flash.told c.write_piece.new.flash in
    let first = c.args.first in
    let k = c.loop-k.k in
    let b = c.args.first + c.loop-k.k in
    let before = c.loop-k.invariant in
    let done = c.in_ok-write_piece.ensures in
    let within : k + 1 ≤ c.args.slots = omega (arith, c.loop-k-test.true, c.requires.fits, ap (λ (e : Entry). e.size) c.entry.view_is) in
    record {
      on = done.writes.goes.power;
      same_size = done.writes.goes.size ∙ before.same_size;
      keeps = λ tells. keeps_then (4096 * first) (4096 * (first + c.args.slots)) s m t (before.keeps tells)
          (keeps_wider (4096 * b) (4096 * b + 4096) (4096 * first) (4096 * (first + c.args.slots)) m t (omega arith) (omega (arith, within)) (done.writes.keeps tells));
      touches =
          let low = 4096 * first in
          let high = 4096 * (first + c.args.slots) in
          touches_then low high before.touches (touches_wider (4096 * b) (4096 * b + 4096) low high (omega arith) (omega (arith, within)) done.writes.touches);
      left = λ tells. left_then first s m t (before.left tells) (left_fewer first b m t (omega arith) (done.writes.left tells));
      rest = λ tells. erased_stays (4096 * (first + (k + 1))) (4096 * (first + c.args.slots)) (4096 * b) (4096 * b + 4096) m t (inr (omega arith)) (done.writes.keeps tells)
          (λ i above below. before.rest tells i (omega arith) below);
      front = λ tells file told.
          let bytes = payload file c.args.entry.now in
          let here : Tells (g.H.Files.contents c.loop-k.files) c.args.name.now file = subst (λ (d : Option Directory). Tells d c.args.name.now file) (sym before.files.same) told in
          let old = stands_stays (4096 * first) (4096 * k) (4096 * b) (4096 * b + 4096) bytes m t (inl (omega arith)) (done.writes.keeps tells) (before.front tells file told) in
          let piece = done.bytes tells file here in
          let step : 4096 * c.from.result ≡ 4096 * k = omega (arith, c.from.ensures) in
          stands_more first k bytes t.now old (subst (λ (n : ℕ). HoldsThenErased (4096 * b) 4096 (drop n bytes) t.now) step piece);
      costs = spends_then tt (Ok tt) _ _ _ before.costs done.writes.goes.costs;
      spent = spent_both k 1 (k + 1) _ _ _ (omega arith) before.spent done.writes.spent;
      unarmed = unarmed_then _ _ _ _ (g.D.Flash.counts c.args.flash.now) (g.D.Flash.counts c.loop-k.flash) (g.D.Flash.counts c.write_piece.new.flash) before.unarmed done.writes.goes.unarmed;
      files = reads-then g.H.Files _ g.met.H.Files.joins _ _ _ before.files done.reads.files;
      none = omega (arith, before.none, done.reads.once);
    }

pub returns-in_err-write_piece-clause-reads : goal.returns-in_err-write_piece-clause-reads
returns-in_err-write_piece-clause-reads g c = record {
  files = reads-then g.H.Files _ g.met.H.Files.joins _ _ _ c.loop-k.invariant.files c.write_piece.ensures.reads.files;
  once = search rules;
  cause = search rules;
}
