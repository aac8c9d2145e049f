use Rattle.std.proofs.Common.{◌≡◌, ◌++◌, ◌≤◌, ℕ, true, length, take, drop, Err, sym, ap, subst, ◌∙◌, arith, length-append, length-drop}
use Rattle.std.proofs.lemmas.List.{length-take-le, take-append-le, take_all}
use Rattle.fwu_formats.specs.Package.{Entry, payload}
use Rattle.flash_core.specs.Counts.{lowered_by}
use Rattle.slot_writer.specs.Writes.{writes_to_append}
use Rattle.agent_kept.specs.Kept.{part_at, size_of}
use Rattle.agent_calls.specs.Shown.{device, fields, moment}
use Rattle.update_client.specs.{declared.stops.SendStop.SendStop, Images.WritesPiece}
use Rattle.update_client.proofs.{ImagesTaking.piece-takes, Sparing.spares-left}
use Rattle.update_client.proofs.WrittenPiece.{piece-unread, piece-written, piece-stopped}
use Rattle.update_client.proofs.Keeping.{keeps-called, keeps-read, keeps-stopped, keeps-then}
use Rattle.update_client.proofs.pieces.write_piece.Goals as goal

pub returns-in-Err-clause-wrote : goal.returns-in-Err-clause-wrote
returns-in-Err-clause-wrote g c = piece-unread _ _ _ _ _

pub returns-in-Ok-write_stream-clause-wrote : goal.returns-in-Ok-write_stream-clause-wrote
returns-in-Ok-write_stream-clause-wrote g c =
    let n = c.min-size.result in
    let buf = c.args.buf.now in
    let out = c.payload_at.new.out in
    let small : n ≤ length buf = omega (arith, c.min-size.ensures) in
    let size : length out ≡ n = c.payload_at.auto.out ∙ length-take-le n buf small in
    let whole : take n (out ++ drop n buf) ≡ out = take-append-le n out (drop n buf) (omega (arith, size)) ∙ take_all n out (omega (arith, size)) in
    piece-written _ _ _ _ n _ _ _ (ap length whole ∙ size) (omega
    (arith, c.requires.room, c.requires.some, c.min-size.ensures, ap (λ (e : Entry). e.size) c.entry.view_is))
    (omega (arith, c.requires.some, c.min-size.ensures, ap (λ (e : Entry). e.size) c.entry.view_is))
    (λ file told. whole ∙ c.in-Ok.ensures.bytes file told ∙ ap (λ (k : ℕ). take k (drop c.args.at (payload file c.args.payload.now.entry.now)))
    (length-take-le n buf small))
    (c.in-Ok-write_stream.ensures.meets c.requires.here)

pub returns-in-Err-write_stream-clause-wrote : goal.returns-in-Err-write_stream-clause-wrote
returns-in-Err-write_stream-clause-wrote g c =
    let n = c.min-size.result in
    let buf = c.args.buf.now in
    let out = c.payload_at.new.out in
    let small : n ≤ length buf = omega (arith, c.min-size.ensures) in
    let size : length out ≡ n = c.payload_at.auto.out ∙ length-take-le n buf small in
    let whole : take n (out ++ drop n buf) ≡ out = take-append-le n out (drop n buf) (omega (arith, size)) ∙ take_all n out (omega (arith, size)) in
    subst (λ (st : SendStop). WritesPiece (g.H.Files.contents c.args.files.now) c.args.payload.now.name.now c.args.payload.now.entry.now c.args.at (Err st)
    (moment c.args.agent.now) (moment c.write_stream.new.self)) (sym c.stopped.ensures)
    (piece-stopped _ _ _ _ n _ _ _ c.in-Err-write_stream.stop _ _ (ap length whole ∙ size)
    (omega (arith, c.requires.some, c.min-size.ensures, ap (λ (e : Entry). e.size) c.entry.view_is))
    c.requires.here c.in-Err-write_stream.ensures.goes.gone (c.in-Err-write_stream.ensures.meets c.requires.here))

pub returns-in-Ok-write_stream-clause-takes : goal.returns-in-Ok-write_stream-clause-takes
returns-in-Ok-write_stream-clause-takes g c =
    let n = c.min-size.result in
    let buf = c.args.buf.now in
    let out = c.payload_at.new.out in
    let small : n ≤ length buf = omega (arith, c.min-size.ensures) in
    let size : length out ≡ n = c.payload_at.auto.out ∙ length-take-le n buf small in
    let whole : length (take n (out ++ drop n buf)) ≡ n = ap length (take-append-le n out (drop n buf) (omega (arith, size)) ∙ take_all n out (omega (arith, size)))
    ∙ size in
    piece-takes _ _ _ _ _ (λ image writes.
    ((c.in-Ok-write_stream.ensures.image image writes).spent tt).lowered
    ∙ ap (λ (m : ℕ). lowered_by (writes_to_append (size_of (part_at (fields c.args.agent.now).session image)) m) (g.D.Flash.arming (device c.args.agent.now))) whole)

pub returns-in-Ok-write_stream-clause-keeps : goal.returns-in-Ok-write_stream-clause-keeps
returns-in-Ok-write_stream-clause-keeps g c =
    let n = c.min-size.result in
    let buf = c.args.buf.now in
    let agent = c.args.agent.now in
    let out = c.payload_at.new.out in
    let size : length out ≡ n = c.payload_at.auto.out ∙ length-take-le n buf (omega (arith, c.min-size.ensures)) in
    let long : length (out ++ drop n buf) ≡ length buf = omega (arith, length-append out (drop n buf), length-drop n buf, size, c.min-size.ensures) in
    let name = c.args.payload.now.name.now in
    keeps-then g.H.Files g.met.H.Files.at_rest g.met.H.Files.joins name
    (keeps-read g.H.Files g.met.H.Files.at_rest g.met.H.Files.joins name agent c.args.files.now c.payload_at.new.files buf (out ++ drop n buf) c.requires.here (agent.power c.requires.here) long
    c.in-Ok.ensures.reads c.in-Ok.ensures.cause.done)
    (keeps-called g.H.Files g.met.H.Files.at_rest g.met.H.Files.joins name tt n agent c.write_stream.new.self _ _ c.requires.here c.in-Ok-write_stream.ensures.goes
    (spares-left (c.in-Ok-write_stream.ensures.meets c.requires.here (λ _. true)).leaves))

pub returns-in-Err-write_stream-clause-keeps : goal.returns-in-Err-write_stream-clause-keeps
returns-in-Err-write_stream-clause-keeps g c =
    let n = c.min-size.result in
    let buf = c.args.buf.now in
    let agent = c.args.agent.now in
    let out = c.payload_at.new.out in
    let size : length out ≡ n = c.payload_at.auto.out ∙ length-take-le n buf (omega (arith, c.min-size.ensures)) in
    let long : length (out ++ drop n buf) ≡ length buf = omega (arith, length-append out (drop n buf), length-drop n buf, size, c.min-size.ensures) in
    let name = c.args.payload.now.name.now in
    rw c.stopped.ensures (keeps-then g.H.Files g.met.H.Files.at_rest g.met.H.Files.joins name
    (keeps-read g.H.Files g.met.H.Files.at_rest g.met.H.Files.joins name agent c.args.files.now c.payload_at.new.files buf (out ++ drop n buf) c.requires.here (agent.power c.requires.here) long
    c.in-Ok.ensures.reads c.in-Ok.ensures.cause.done)
    (keeps-stopped g.H.Files g.met.H.Files.at_rest g.met.H.Files.joins name ℕ c.in-Err-write_stream.stop agent c.write_stream.new.self _ _ c.requires.here c.in-Err-write_stream.ensures.goes
    (spares-left (c.in-Err-write_stream.ensures.meets c.requires.here (λ _. true)).leaves)))
