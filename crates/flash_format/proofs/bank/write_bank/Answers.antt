use Rattle.std.proofs.Common.{◌≡◌, inr, ◌+◌, ◌*◌, ◌<◌, ◌≤◌, ℕ, List, length, get_or, take, sym, ap, subst, ◌∙◌, arith, rules}
use Rattle.std.specs.Prelude.{Ok, Option}
use Rattle.std.proofs.lemmas.List.{get_or_default}
use Rattle.flash_core.specs.{May.Keeps, Counts.lowered_by}
use Rattle.flash_core.proofs.{Calls.keeps_wider, Calls.keeps_then, Costs.spends_then, Spent.spent_both}
use Rattle.flash_core.proofs.Touches.{touches_then, touches_wider}
use Rattle.host_io.specs.Contents.{Directory}
use Rattle.host_io.proofs.Reading.{reads-then}
use Rattle.fip_tables.specs.{Files.Tells, Images.no_entry}
use Rattle.fwu_formats.specs.{Layout.ImageRow, Layout.slot_total, Layout.start, Layout.slot_bytes, Package.Entry, Package.payload, Layout.no_row}
use Rattle.fwu_formats.proofs.SealLaws.{limits}
use Rattle.image_check.proofs.OfBank.{bank_fits}
use Rattle.flash_format.specs.{Places.HoldsThenErased, Choosing.pieces_in, Choosing.block_pieces_of}
use Rattle.flash_format.proofs.{Ranges.erased_stays, Taking.pieces_all, Taking.pieces_more, Stopped.unarmed_then}
use Rattle.flash_format.proofs.Recorded.{left_then, left_fewer}
use Rattle.flash_format.proofs.Formats.{slots_more, slots_more_le, all_stand_more}
use Rattle.flash_format.proofs.bank.write_bank.Goals as goal

pub start-first-requires-clause-below : goal.start-first-requires-clause-below
start-first-requires-clause-below g c = let few = (limits c.args.layout.now c.rows-rows.ensures.fit).fewest_banks in omega (arith, few)

pub write_image-requires-clause-ready : goal.write_image-requires-clause-ready
write_image-requires-clause-ready g c =
    let L = c.args.layout.now in
    let k = c.loop-k.k in
    let few = (limits L c.rows-rows.ensures.fit).fewest_banks in
    let below : k < length L.rows = omega (arith, c.loop-k-test.true, ap length c.rows-rows.ensures.value) in
    let row = ap (λ (l : List ImageRow). (get_or l k c.index-rows-k.result).slots) c.rows-rows.ensures.value ∙ ap (λ (r : ImageRow). r.slots) (get_or_default L.rows k c.index-rows-k.result no_row below) in
    let more = slots_more_le L.rows k below in
    let bank = bank_fits 0 L.banks (slot_total L.rows) (g.D.Flash.blocks c.args.flash.now) (omega (arith, few)) c.requires.ready.room in
    record { on = c.loop-k.invariant.on; room = omega (arith, row, more, bank, c.start-first.ensures, c.loop-k.invariant.same_size) }

pub write_image-requires-clause-erased : goal.write_image-requires-clause-erased
write_image-requires-clause-erased g c = λ tells i above under.
    let L = c.args.layout.now in
    let k = c.loop-k.k in
    let below : k < length L.rows = omega (arith, c.loop-k-test.true, ap length c.rows-rows.ensures.value) in
    let row = ap (λ (l : List ImageRow). (get_or l k c.index-rows-k.result).slots) c.rows-rows.ensures.value ∙ ap (λ (r : ImageRow). r.slots) (get_or_default L.rows k c.index-rows-k.result no_row below) in
    let more = slots_more_le L.rows k below in
    c.loop-k.invariant.rest tells i (omega (arith, above, c.start-first.ensures)) (omega (arith, under, row, more, c.start-first.ensures))

pub returns-in_err-write_image-clause-writes : goal.returns-in_err-write_image-clause-writes
returns-in_err-write_image-clause-writes g c =
    let L = c.args.layout.now in
    let k = c.loop-k.k in
    let below : k < length L.rows = omega (arith, c.loop-k-test.true, ap length c.rows-rows.ensures.value) in
    let row = ap (λ (l : List ImageRow). (get_or l k c.index-rows-k.result).slots) c.rows-rows.ensures.value ∙ ap (λ (r : ImageRow). r.slots) (get_or_default L.rows k c.index-rows-k.result no_row below) in
    let more = slots_more_le L.rows k below in
    let slots = (get_or c.rows-rows.result.now k c.index-rows-k.result).slots in
    let first = c.start-first.result in
    let high = 4096 * (8 + slot_total L.rows) in
    let s = g.D.Flash.told c.args.flash.now in
    let m = g.D.Flash.told c.loop-k.flash in
    let t = g.D.Flash.told c.write_image.new.flash in
    record {
      keeps = λ tells. keeps_then 32768 high s m t (c.loop-k.invariant.keeps tells)
          (keeps_wider (4096 * first) (4096 * (first + slots)) 32768 high m t (omega (arith, c.start-first.ensures)) (omega (arith, row, more, c.start-first.ensures)) (c.write_image.ensures.writes.keeps tells));
      left = λ tells. left_then 8 s m t (c.loop-k.invariant.left tells) (left_fewer 8 first m t (omega (arith, c.start-first.ensures)) (c.write_image.ensures.writes.left tells));
      goes = search rules;
      spent = search rules;
      touches = touches_then 32768 high c.loop-k.invariant.touches
          (touches_wider (4096 * first) (4096 * (first + slots)) 32768 high (omega (arith, c.start-first.ensures)) (omega (arith, row, more, c.start-first.ensures)) c.write_image.ensures.writes.touches);
      stops = search rules;
    }

pub loop-k-preserved : goal.loop-k-preserved
loop-k-preserved g c =
    let L = c.args.layout.now in
    let k = c.loop-k.k in
    let s = g.D.Flash.told c.args.flash.now in
    let m = g.D.Flash.told c.loop-k.flash in
    let t = g.D.Flash.told c.write_image.new.flash in
    let below : k < length L.rows = omega (arith, c.loop-k-test.true, ap length c.rows-rows.ensures.value) in
    let d = c.index-rows-k.result in
    let slots = (get_or c.rows-rows.result.now k d).slots in
    let row : slots ≡ (get_or L.rows k no_row).slots = ap (λ (l : List ImageRow). (get_or l k d).slots) c.rows-rows.ensures.value ∙ ap (λ (r : ImageRow). r.slots) (get_or_default L.rows k d no_row below) in
    let more = slots_more_le L.rows k below in
    let next = slots_more L.rows k below in
    let first = c.start-first.result in
    let high = 4096 * (8 + slot_total L.rows) in
    let before = c.loop-k.invariant in
    let done = c.in_ok-write_image.ensures in
    record {
      on = done.writes.goes.power;
      same_size = done.writes.goes.size ∙ before.same_size;
      keeps = λ tells. keeps_then 32768 high s m t (before.keeps tells)
          (keeps_wider (4096 * first) (4096 * (first + slots)) 32768 high m t (omega (arith, c.start-first.ensures)) (omega (arith, row, more, c.start-first.ensures)) (done.writes.keeps tells));
      touches = touches_then 32768 high before.touches
          (touches_wider (4096 * first) (4096 * (first + slots)) 32768 high (omega (arith, c.start-first.ensures)) (omega (arith, row, more, c.start-first.ensures)) done.writes.touches);
      left = λ tells. left_then 8 s m t (before.left tells) (left_fewer 8 first m t (omega (arith, c.start-first.ensures)) (done.writes.left tells));
      rest = λ tells. erased_stays (4096 * (8 + slot_total (take (k + 1) L.rows))) high (4096 * first) (4096 * (first + slots)) m t (inr (omega (arith, row, next, c.start-first.ensures))) (done.writes.keeps tells)
          (λ i above under. before.rest tells i (omega (arith, above, next)) under);
      front = λ tells file told.
          let here : Tells (g.H.Files.contents c.loop-k.files) c.args.name.now file = subst (λ (x : Option Directory). Tells x c.args.name.now file) (sym before.files.same) told in
          let at : first ≡ start L 0 k = omega (arith, c.start-first.ensures) in
          let one : k < length c.args.entries.now = omega (arith, below, c.requires.planned.count) in
          let entry = c.index-entries-k.is ∙ get_or_default c.args.entries.now k c.index-entries-k.result no_entry one in
          let kept = subst (λ (n : ℕ). Keeps (4096 * start L 0 k) (4096 * (start L 0 k + n)) m t) row (subst (λ (n : ℕ). Keeps (4096 * n) (4096 * (n + slots)) m t) at (done.writes.keeps tells)) in
          let placed = subst (λ (n : ℕ). HoldsThenErased (4096 * n) (4096 * slots) (payload file c.index-entries-k.result) t.now) at (done.bytes tells file here) in
          let sized = subst (λ (n : ℕ). HoldsThenErased (4096 * start L 0 k) (4096 * n) (payload file c.index-entries-k.result) t.now) row placed in
          let stands = subst (λ (e : Entry). HoldsThenErased (4096 * start L 0 k) (slot_bytes L k) (payload file e) t.now) entry sized in
          all_stand_more L k file c.args.entries.now m t below kept (before.front tells file told) stands;
      costs = spends_then tt (Ok tt) _ _ _ before.costs done.writes.goes.costs;
      spent =
          let es = c.args.entries.now in
          let one : k < length es = omega (arith, below, c.requires.planned.count) in
          let entry = c.index-entries-k.is ∙ get_or_default es k c.index-entries-k.result no_entry one in
          spent_both (pieces_in (take k es)) (block_pieces_of c.index-entries-k.result.size) (pieces_in (take (k + 1) es)) _ _ _
          (ap (λ (e : Entry). pieces_in (take k es) + block_pieces_of e.size) entry ∙ sym (pieces_more es k one)) before.spent done.writes.spent;
      unarmed = unarmed_then _ _ _ _ (g.D.Flash.counts c.args.flash.now) (g.D.Flash.counts c.loop-k.flash) (g.D.Flash.counts c.write_image.new.flash) before.unarmed done.writes.goes.unarmed;
      files = reads-then g.H.Files _ g.met.H.Files.joins _ _ _ before.files done.reads.files;
      none = omega (arith, before.none, done.reads.once);
    }

pub returns-clause-writes : goal.returns-clause-writes
returns-clause-writes g c = record {
  keeps = search rules;
  left = search rules;
  goes = search rules;
  spent =
      let es = c.args.entries.now in
      let all : length es ≤ c.loop-k.k = omega (arith, c.requires.planned.count, ap length c.rows-rows.ensures.value) in
      c.loop-k.invariant.spent ∙ ap (λ (n : ℕ). lowered_by n (g.D.Flash.arming c.args.flash.now)) (pieces_all es c.loop-k.k all);
  touches = c.loop-k.invariant.touches;
  stops = search rules;
}

pub returns-in_err-write_image-clause-reads : goal.returns-in_err-write_image-clause-reads
returns-in_err-write_image-clause-reads g c = record {
  files = reads-then g.H.Files _ g.met.H.Files.joins _ _ _ c.loop-k.invariant.files c.write_image.ensures.reads.files;
  once = search rules;
  cause = search rules;
}
