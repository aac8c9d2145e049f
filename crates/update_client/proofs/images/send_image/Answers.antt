use Rattle.std.proofs.Common.{Bool, true, List, Ok, Err, ℕ, length, sym, ap, subst}
use Rattle.fwu_formats.specs.Package.{Entry}
use Rattle.fwu_model.specs.Call as call
use Rattle.fwu_model.specs.Reply as reply
use Rattle.agent_machine.proofs.CallGoing.{MeetsAs}
use Rattle.agent_calls.specs.{Shown.device, Shown.moment, Takes.pieces_of, Takes.writes_of_pieces}
use Rattle.update_client.specs.{declared.stops.SendStop.SendStop, Images.SendsImage}
use Rattle.update_client.specs.Takes.{TakesFront, UnstagedTakes, UnwrittenTakes}
use Rattle.update_client.proofs.{ImagesTaking.image-takes, Sparing.spares-left, Unsent.image-starts, Unsent.unread-then}
use Rattle.update_client.proofs.WrittenPiece.{image-unopened, image-unwritten, image-sent, image-uncommitted}
use Rattle.update_client.proofs.Keeping.{keeps-called, keeps-stopped, keeps-then}
use Rattle.base_core.proofs.Results.{handed-on}
use Rattle.update_client.proofs.images.send_image.Goals as goal

pub returns-in-Err-clause-sent : goal.returns-in-Err-clause-sent
returns-in-Err-clause-sent g c =
    let opens = subst (λ (guid : List ℕ). (passes : List ℕ → Bool) → MeetsAs {T = ℕ} (λ k. reply.Opened k) (Err c.in-Err.stop) passes (call.OpenWrite guid)
    (moment c.args.agent.now) (moment c.open.new.self)) (ap (λ (e : Entry). e.guid) c.entry.view_is) (c.in-Err.ensures.meets c.requires.here) in
    subst (λ (st : SendStop). SendsImage (g.H.Files.contents c.args.files.now) c.args.payload.now.name.now c.args.payload.now.entry.now c.args.acceptance (Err st)
    (moment c.args.agent.now) (moment c.open.new.self)) (sym c.stopped.ensures)
    (image-unopened _ _ _ _ _ _ c.in-Err.stop _ _ c.requires.here c.in-Err.ensures.goes.gone opens)

pub returns-in_err-write_image-clause-sent : goal.returns-in_err-write_image-clause-sent
returns-in_err-write_image-clause-sent g c =
    let opens = subst (λ (guid : List ℕ). (passes : List ℕ → Bool) → MeetsAs {T = ℕ} (λ k. reply.Opened k) (Ok c.in-Ok.field-0) passes (call.OpenWrite guid)
    (moment c.args.agent.now) (moment c.open.new.self)) (ap (λ (e : Entry). e.guid) c.entry.view_is) (c.in-Ok.ensures.meets c.requires.here) in
    rw (handed-on c.from_residual.result c.in_err-write_image.field-0.0 c.from_residual.ensures.1)
    (image-unwritten _ _ _ _ c.in-Ok.field-0 _ (moment c.open.new.self) _ c.in_err-write_image.field-0.0 opens c.in_err-write_image.ensures.wrote)

pub returns-in-Ok-commit-clause-sent : goal.returns-in-Ok-commit-clause-sent
returns-in-Ok-commit-clause-sent g c =
    let opens = subst (λ (guid : List ℕ). (passes : List ℕ → Bool) → MeetsAs {T = ℕ} (λ k. reply.Opened k) (Ok c.in-Ok.field-0) passes (call.OpenWrite guid)
    (moment c.args.agent.now) (moment c.open.new.self)) (ap (λ (e : Entry). e.guid) c.entry.view_is) (c.in-Ok.ensures.meets c.requires.here) in
    image-sent _ _ _ _ c.in-Ok.field-0 _ (moment c.open.new.self) (moment c.write_image.new.agent) _ opens c.in_ok-write_image.ensures.wrote
    (c.in-Ok-commit.ensures.meets c.in_ok-write_image.ensures.keeps.spent.gone_is)

pub returns-in-Err-commit-clause-sent : goal.returns-in-Err-commit-clause-sent
returns-in-Err-commit-clause-sent g c =
    let opens = subst (λ (guid : List ℕ). (passes : List ℕ → Bool) → MeetsAs {T = ℕ} (λ k. reply.Opened k) (Ok c.in-Ok.field-0) passes (call.OpenWrite guid)
    (moment c.args.agent.now) (moment c.open.new.self)) (ap (λ (e : Entry). e.guid) c.entry.view_is) (c.in-Ok.ensures.meets c.requires.here) in
    subst (λ (st : SendStop). SendsImage (g.H.Files.contents c.args.files.now) c.args.payload.now.name.now c.args.payload.now.entry.now c.args.acceptance (Err st)
    (moment c.args.agent.now) (moment c.commit.new.self)) (sym c.stopped-in-Err-commit.ensures)
    (image-uncommitted _ _ _ _ c.in-Ok.field-0 _ (moment c.open.new.self) (moment c.write_image.new.agent) _ opens c.in_ok-write_image.ensures.wrote
    c.in-Err-commit.stop _ _ c.in_ok-write_image.ensures.keeps.spent.gone_is c.in-Err-commit.ensures.goes.gone
    (c.in-Err-commit.ensures.meets c.in_ok-write_image.ensures.keeps.spent.gone_is))

pub returns-in-Ok-commit-clause-takes : goal.returns-in-Ok-commit-clause-takes
returns-in-Ok-commit-clause-takes g c =
    let opens = subst (λ (guid : List ℕ). (passes : List ℕ → Bool) → MeetsAs {T = ℕ} (λ k. reply.Opened k) (Ok c.in-Ok.field-0) passes (call.OpenWrite guid)
    (moment c.args.agent.now) (moment c.open.new.self)) (ap (λ (e : Entry). e.guid) c.entry.view_is) (c.in-Ok.ensures.meets c.requires.here) in
    let size = length c.args.buf.now in
    let e = c.args.payload.now.entry.now in
    image-takes _ _ size _ c.in-Ok.field-0 _ (moment c.open.new.self) (moment c.write_image.new.agent) _
    (g.D.Flash.arming (device c.write_image.new.agent)) _ opens c.in_ok-write_image.ensures.wrote
    (subst (λ d. UnwrittenTakes (writes_of_pieces size e.size (pieces_of size e.size)) e (moment c.open.new.self)
    (g.D.Flash.arming d) (g.D.Flash.arming (device c.write_image.new.agent))) c.in-Ok.ensures.still c.in_ok-write_image.ensures.takes)
    (λ image writes. (c.in-Ok-commit.ensures.image c.in_ok-write_image.ensures.keeps.spent.gone_is image writes).spent.lowered)

pub returns-in_err-write_image-clause-unread : goal.returns-in_err-write_image-clause-unread
returns-in_err-write_image-clause-unread g c =
    rw (handed-on c.from_residual.result c.in_err-write_image.field-0.0 c.from_residual.ensures.1) (
    let opens = subst (λ (guid : List ℕ). (passes : List ℕ → Bool) → MeetsAs {T = ℕ} (λ k. reply.Opened k) (Ok c.in-Ok.field-0) passes (call.OpenWrite guid)
    (moment c.args.agent.now) (moment c.open.new.self)) (ap (λ (e : Entry). e.guid) c.entry.view_is) (c.in-Ok.ensures.meets c.requires.here) in
    let size = length c.args.buf.now in
    let entry = c.args.payload.now.entry.now in
    let armed = g.D.Flash.arming (device c.args.agent.now) in
    let opened = g.D.Flash.arming (device c.open.new.self) in
    let arming = g.D.Flash.arming (device c.write_image.new.agent) in
    unread-then (Unit {0}) (Unit {0}) c.in_err-write_image.field-0.0 (TakesFront size entry (λ w. UnwrittenTakes w entry (moment c.open.new.self) opened arming))
    (TakesFront size entry (λ w. UnstagedTakes w entry (moment c.args.agent.now) armed arming))
    (λ front. image-starts size entry c.in-Ok.field-0 (moment c.args.agent.now) (moment c.open.new.self) armed opened arming opens
    (ap (λ d. g.D.Flash.arming d) c.in-Ok.ensures.still) front) c.in_err-write_image.ensures.unread)

pub returns-in-Err-clause-keeps : goal.returns-in-Err-clause-keeps
returns-in-Err-clause-keeps g c = rw c.stopped.ensures (keeps-stopped g.H.Files g.met.H.Files.at_rest g.met.H.Files.joins c.args.payload.now.name.now (Unit {0}) c.in-Err.stop c.args.agent.now c.open.new.self _ _
    c.requires.here c.in-Err.ensures.goes (spares-left (c.in-Err.ensures.meets c.requires.here (λ _. true)).leaves))

pub returns-in_err-write_image-clause-keeps : goal.returns-in_err-write_image-clause-keeps
returns-in_err-write_image-clause-keeps g c =
    let name = c.args.payload.now.name.now in
    let done : Unit {0} = tt in
    rw (handed-on c.from_residual.result c.in_err-write_image.field-0.0 c.from_residual.ensures.1)
    (keeps-then g.H.Files g.met.H.Files.at_rest g.met.H.Files.joins name (keeps-called g.H.Files g.met.H.Files.at_rest g.met.H.Files.joins name c.in-Ok.field-0 done c.args.agent.now c.open.new.self _ _ c.requires.here c.in-Ok.ensures.goes
    (spares-left (c.in-Ok.ensures.meets c.requires.here (λ _. true)).leaves))
    c.in_err-write_image.ensures.keeps)

pub returns-in-Ok-commit-clause-keeps : goal.returns-in-Ok-commit-clause-keeps
returns-in-Ok-commit-clause-keeps g c =
    let name = c.args.payload.now.name.now in
    let done : Unit {0} = tt in
    let wrote = c.in_ok-write_image.ensures.keeps in
    keeps-then g.H.Files g.met.H.Files.at_rest g.met.H.Files.joins name (keeps-called g.H.Files g.met.H.Files.at_rest g.met.H.Files.joins name c.in-Ok.field-0 done c.args.agent.now c.open.new.self _ _ c.requires.here c.in-Ok.ensures.goes
    (spares-left (c.in-Ok.ensures.meets c.requires.here (λ _. true)).leaves))
    (keeps-then g.H.Files g.met.H.Files.at_rest g.met.H.Files.joins name wrote (keeps-called g.H.Files g.met.H.Files.at_rest g.met.H.Files.joins name done done c.write_image.new.agent c.commit.new.self _ _ wrote.spent.gone_is c.in-Ok-commit.ensures.goes
    (spares-left (c.in-Ok-commit.ensures.meets wrote.spent.gone_is (λ _. true)).leaves)))

pub returns-in-Err-commit-clause-keeps : goal.returns-in-Err-commit-clause-keeps
returns-in-Err-commit-clause-keeps g c =
    let name = c.args.payload.now.name.now in
    let done : Unit {0} = tt in
    let wrote = c.in_ok-write_image.ensures.keeps in
    rw c.stopped-in-Err-commit.ensures
    (keeps-then g.H.Files g.met.H.Files.at_rest g.met.H.Files.joins name (keeps-called g.H.Files g.met.H.Files.at_rest g.met.H.Files.joins name c.in-Ok.field-0 done c.args.agent.now c.open.new.self _ _ c.requires.here c.in-Ok.ensures.goes
    (spares-left (c.in-Ok.ensures.meets c.requires.here (λ _. true)).leaves))
    (keeps-then g.H.Files g.met.H.Files.at_rest g.met.H.Files.joins name wrote (keeps-stopped g.H.Files g.met.H.Files.at_rest g.met.H.Files.joins name (Unit {0}) c.in-Err-commit.stop c.write_image.new.agent c.commit.new.self _ _ wrote.spent.gone_is
    c.in-Err-commit.ensures.goes (spares-left (c.in-Err-commit.ensures.meets wrote.spent.gone_is (λ _. true)).leaves))))
