use Rattle.std.proofs.Common.{◌≡◌, ◌<◌, ℕ, List, Some, get_or, refl, ap, ◌∙◌, arith}
use Rattle.base_core.specs.Block.{block_bytes}
use Rattle.agent_machine.specs.Fields.{total_of}
use Rattle.agent_calls.specs.{Shown.device, Shown.fields, Shown.gone, Shown.moment, Takes.piece_at}
use Rattle.agent_calls.proofs.CopyFilling.{fills-none, fills-then}
use Rattle.agent_calls.proofs.Copies.{front-none, front-more, bytes-stopped, bytes-done}
use Rattle.agent_calls.proofs.CopyTaking.{front-taken-none, front-taken-more, front-taken-all}
use Rattle.agent_machine.proofs.Spending.{none-spent, spent-then}
use Rattle.agent_calls.proofs.agent.Agent.copy_bytes.Goals as goal

pub loop-at-init : goal.loop-at-init
loop-at-init g c = record {
  inside = omega arith;
  buffer = refl;
  first = front-none c.args.image (moment c.args.self.now);
  takes = front-taken-none c.args.image (moment c.args.self.now) (g.D.Flash.arming (device c.args.self.now));
  spent = none-spent g.D.Flash (gone c.args.self.now) (device c.args.self.now) c.requires.here (c.args.self.now.power c.requires.here);
  fills = fills-none (moment c.args.self.now);
}

pub loop-at-preserved : goal.loop-at-preserved
loop-at-preserved g c =
    let before = c.loop-at.invariant in
    let piece = c.in-Ok.ensures.copies in
    let long : total_of (fields c.loop-at.self) (Some c.args.image) ≡ total_of (fields c.args.self.now) (Some c.args.image) =
    ap (λ (l : List ℕ). get_or l c.args.image 0) before.first.stays.lengths in
    let more : c.loop-at.at < total_of (fields c.args.self.now) (Some c.args.image) = omega (arith, c.loop-at-test.true) in
    record {
      inside = omega (arith, piece.count.2, long);
      buffer = c.in-Ok.ensures.buffer ∙ before.buffer;
      first = front-more c.args.image c.loop-at.at (moment c.args.self.now) (moment c.loop-at.self) (moment c.copy_piece.new.self) before.first c.in-Ok.count piece;
      takes = front-taken-more c.args.image c.loop-at.at c.in-Ok.count (moment c.args.self.now) (moment c.loop-at.self) (g.D.Flash.arming (device c.args.self.now))
          (g.D.Flash.arming (device c.loop-at.self)) (g.D.Flash.arming (device c.copy_piece.new.self)) more
          (c.in-Ok.ensures.piece ∙ ap (λ (n : ℕ). piece_at block_bytes n c.loop-at.at) long) before.first before.takes c.in-Ok.ensures.takes;
      spent = spent-then before.spent c.in-Ok.ensures.spent;
      fills = fills-then (moment c.args.self.now) (moment c.loop-at.self) (moment c.copy_piece.new.self) before.fills c.in-Ok.ensures.fills;
    }

pub returns-in-Err-clause-copies : goal.returns-in-Err-clause-copies
returns-in-Err-clause-copies g c =
    bytes-stopped c.args.image c.loop-at.at (moment c.args.self.now) (moment c.loop-at.self) (moment c.copy_piece.new.self) c.loop-at.invariant.first c.in-Err.stop c.in-Err.ensures.copies

pub returns-clause-copies : goal.returns-clause-copies
returns-clause-copies g c =
    bytes-done c.args.image c.loop-at.at (moment c.args.self.now) (moment c.loop-at.self) (moment c.loop-at.self) c.loop-at.invariant.first
    (omega (arith, c.loop-at-test.false, c.loop-at.invariant.inside)) c.requires.image

pub returns-clause-takes : goal.returns-clause-takes
returns-clause-takes g c =
    front-taken-all c.args.image c.loop-at.at (moment c.args.self.now) (g.D.Flash.arming (device c.args.self.now)) (g.D.Flash.arming (device c.loop-at.self))
    (omega (arith, c.loop-at-test.false)) c.loop-at.invariant.takes

pub returns-in-Err-clause-fills : goal.returns-in-Err-clause-fills
returns-in-Err-clause-fills g c =
    fills-then (moment c.args.self.now) (moment c.loop-at.self) (moment c.copy_piece.new.self) c.loop-at.invariant.fills c.in-Err.ensures.fills
