use Rattle.std.proofs.Common.{◌*◌, inr, arith}
use Rattle.flash_format.proofs.Recorded.{only_then, bare_fresh, bare_stays, on_ok_from}
use Rattle.flash_format.proofs.erasing.erase_all.Goals as goal

pub returns-clause-clears : goal.returns-clause-clears
returns-clause-clears g c = record {
  only =
      λ tells.
      only_then (g.D.Flash.told c.args.flash.now) (g.D.Flash.told c.erase_layout.new.flash) (g.D.Flash.told c.erase_behind.new.flash) (c.erase_layout.ensures.only tells) (c.erase_behind.ensures.only tells);
  first =
      λ tells.
      let m = g.D.Flash.told c.erase_layout.new.flash in
      inr (bare_stays 4096 (4096 * c.args.count) m (g.D.Flash.told c.erase_behind.new.flash) (omega arith) (c.erase_behind.ensures.writes.keeps tells) (bare_fresh m (c.in_ok-erase_layout.ensures.erased tells) (c.in_ok-erase_layout.ensures.clean tells)));
}

pub returns-clause-bare : goal.returns-clause-bare
returns-clause-bare g c = on_ok_from _ c.erase_behind.result (λ tells.
    let m = g.D.Flash.told c.erase_layout.new.flash in
    bare_stays 4096 (4096 * c.args.count) m (g.D.Flash.told c.erase_behind.new.flash) (omega arith) (c.erase_behind.ensures.writes.keeps tells) (bare_fresh m (c.in_ok-erase_layout.ensures.erased tells) (c.in_ok-erase_layout.ensures.clean tells)))
