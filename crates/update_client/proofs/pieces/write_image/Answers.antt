use Rattle.std.proofs.Common.{◌≡◌, ℕ, ◌<◌, length, Ok, Err, Option, ap, subst, ◌∙◌, arith}
use Rattle.host_io.specs.Contents.{Directory}
use Rattle.update_client.proofs.ImagesTaking.{first-taken-none, first-taken-more, first-taken-all}
use Rattle.update_client.proofs.WrittenImage.{first-none, first-more, image-stopped, image-done}
use Rattle.update_client.proofs.Keeping.{keeps-none, keeps-ok, keeps-on, keeps-then}
use Rattle.update_client.proofs.Unsent.{front-takes, unread-then}
use Rattle.fwu_formats.specs.Package.{Entry}
use Rattle.agent_calls.specs.{Shown.device, Shown.moment, Takes.piece_at}
use Rattle.update_client.specs.{Images.WritesPiece, Takes.TakesFront, Takes.UnwrittenTakes}
use Rattle.base_core.proofs.Results.{handed-on}
use Rattle.update_client.proofs.pieces.write_image.Goals as goal

pub returns-clause-wrote : goal.returns-clause-wrote
returns-clause-wrote g c = image-done _ _ _ _ _ _ (moment c.loop-at.agent) c.loop-at.invariant.first
    (omega (arith, c.loop-at-test.false, ap (λ (e : Entry). e.size) c.entry.view_is))
    (omega (arith, c.loop-at.invariant.inside, ap (λ (e : Entry). e.size) c.entry.view_is))

pub loop-at-init : goal.loop-at-init
loop-at-init g c = record {
  inside = omega arith;
  first = first-none _ _ _ _;
  takes = first-taken-none (length c.args.buf.now) c.args.payload.now.entry.now _ _ c.requires.room;
  keeps = keeps-none g.H.Files g.met.H.Files.at_rest g.met.H.Files.joins c.args.payload.now.name.now c.args.agent.now _ _ c.requires.here (c.args.agent.now.power c.requires.here);
}

pub loop-at-preserved : goal.loop-at-preserved
loop-at-preserved g c =
    let before = c.loop-at.invariant in
    let wrote = subst (λ (d : Option Directory). WritesPiece d c.args.payload.now.name.now c.args.payload.now.entry.now c.loop-at.at (Ok c.in_ok-at.field-0)
    (moment c.loop-at.agent) (moment c.write_piece.new.agent)) before.keeps.files.same c.in_ok-at.ensures.wrote in
    let more : c.loop-at.at < c.args.payload.now.entry.now.size = omega (arith, c.loop-at-test.true, ap (λ (e : Entry). e.size) c.entry.view_is) in
    record {
      inside = omega (arith, wrote.count.2, ap (λ (e : Entry). e.size) c.entry.view_is);
      first = first-more _ _ _ _ _ _ _ before.first c.in_ok-at.field-0 wrote;
      takes = first-taken-more _ _ (length c.args.buf.now) c.args.payload.now.entry.now _ c.in_ok-at.field-0 _ (moment c.loop-at.agent) _ _ _ more
          (c.in_ok-at.ensures.piece ∙ ap (λ (m : ℕ). piece_at m c.args.payload.now.entry.now.size c.loop-at.at) before.keeps.buffer) before.first before.takes c.in_ok-at.ensures.takes;
      keeps = keeps-then g.H.Files g.met.H.Files.at_rest g.met.H.Files.joins c.args.payload.now.name.now before.keeps (keeps-ok g.H.Files g.met.H.Files.at_rest g.met.H.Files.joins c.args.payload.now.name.now c.in_ok-at.ensures.keeps);
    }

pub returns-in_err-at-clause-wrote : goal.returns-in_err-at-clause-wrote
returns-in_err-at-clause-wrote g c =
    rw (handed-on c.from_residual.result c.in_err-at.field-0.0 c.from_residual.ensures.1) (
    let before = c.loop-at.invariant in
    let wrote = subst (λ (d : Option Directory). WritesPiece d c.args.payload.now.name.now c.args.payload.now.entry.now c.loop-at.at (Err c.in_err-at.field-0.0)
    (moment c.loop-at.agent) (moment c.write_piece.new.agent)) before.keeps.files.same c.in_err-at.ensures.wrote in
    image-stopped _ _ _ _ _ _ _ before.first c.in_err-at.field-0.0 wrote)

pub returns-clause-takes : goal.returns-clause-takes
returns-clause-takes g c =
    let size = ap (λ (e : Entry). e.size) c.entry.view_is in
    first-taken-all (length c.args.buf.now) c.args.payload.now.entry.now _ _ _ _ c.requires.room (omega (arith, c.loop-at-test.false, size)) c.loop-at.invariant.takes

-- a read that failed
pub returns-in_err-at-clause-unread : goal.returns-in_err-at-clause-unread
returns-in_err-at-clause-unread g c =
    rw (handed-on c.from_residual.result c.in_err-at.field-0.0 c.from_residual.ensures.1) (
    let size = length c.args.buf.now in
    let entry = c.args.payload.now.entry.now in
    let armed = g.D.Flash.arming (device c.args.agent.now) in
    let arming = g.D.Flash.arming (device c.write_piece.new.agent) in
    let more : c.loop-at.at < entry.size = omega (arith, c.loop-at-test.true, ap (λ (e : Entry). e.size) c.entry.view_is) in
    unread-then ℕ (Unit {0}) c.in_err-at.field-0.0 (c.write_piece.new.agent ≡ c.loop-at.agent)
    (TakesFront size entry (λ w. UnwrittenTakes w entry (moment c.args.agent.now) armed arming))
    (λ same. front-takes size entry c.loop-at.at (moment c.args.agent.now) armed (g.D.Flash.arming (device c.loop-at.agent)) arming more
    (ap (λ a. g.D.Flash.arming (device a)) same) c.loop-at.invariant.takes) c.in_err-at.ensures.unsent)

pub returns-in_err-at-clause-keeps : goal.returns-in_err-at-clause-keeps
returns-in_err-at-clause-keeps g c =
    let name = c.args.payload.now.name.now in
    rw (handed-on c.from_residual.result c.in_err-at.field-0.0 c.from_residual.ensures.1)
    (keeps-then g.H.Files g.met.H.Files.at_rest g.met.H.Files.joins name c.loop-at.invariant.keeps (keeps-on g.H.Files g.met.H.Files.at_rest g.met.H.Files.joins name (Unit {0}) c.in_err-at.field-0.0 c.in_err-at.ensures.keeps))
