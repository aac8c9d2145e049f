use Rattle.std.proofs.Common.{◌≡◌, ◌∙◌, ℕ, List, length, replicate, take, drop, ap, refl, subst, arith}
use Rattle.std.proofs.lemmas.List.{length-replicate, length-take-le, take_rest}
use Rattle.fwu_wire.proofs.Written.{behind-eight, frame-written}
use Rattle.serving.specs.{Serving.ServesNew, Serving.stopped, Written.called, Scene.at, Scene.port, Scene.scene}
use Rattle.serving.proofs.Starts.{new-answered}
use Rattle.serving.proofs.serving.serve_new.Goals as goal

pub returns-in-Err-clause-serves : goal.returns-in-Err-clause-serves
returns-in-Err-clause-serves g c =
    let stop = rw (take_rest c.args.body.now 4) at c.in-Err.ensures.acts in
    stopped c.in-Err.end stop refl c.act_on-acted.ensures.exchange refl

pub returns-clause-serves : goal.returns-clause-serves
returns-clause-serves g c =
    let E = scene (g.V.Verifier.passes c.args.verifier.now) g.D.Flash.tells (g.H.Files.contents c.args.files.now) (g.H.Files.faults c.args.files.now) in
    let body = c.args.body.now in
    let old = at c.args.serving.now (port (g.O.Sink.taken c.args.sink.now) (g.O.Sink.faults c.args.sink.now)) in
    let acted = c.act_on-acted.new.serving in
    let new = at (record acted { exchange = c.keep.new.self }) (port (g.O.Sink.taken c.put.new.sink) (g.O.Sink.faults c.put.new.sink)) in
    let size = c.in-Ok.size in
    let sub = c.act_on-acted.new.out in
    let out = c.put_head.new.out in
    let first : List ℕ = replicate 4112 0 in
    let room : length first ≡ 4112 = length-replicate {A = ℕ} 4112 0 in
    let few = c.in-Ok.ensures.few in
    let long = c.act_on-acted.auto.out in
    let behind : drop 8 out ≡ sub = c.put_head.ensures.behind ∙ behind-eight first sub (omega (arith, room)) in
    let whole = frame-written c.number_of-number.result size out (take size sub) c.put_head.ensures.front (ap (take size) behind) (length-take-le size sub (omega (arith, few, long, room))) in
    let one = rw (take_rest body 4) at c.in-Ok.ensures.acts in
    subst (λ (n : ℕ). ServesNew E n (called (drop 4 body)) old new c.put.result) c.number_of-number.ensures
    (new-answered E c.number_of-number.result size (called (drop 4 body)) old new c.put.result sub out one whole c.keep.ensures c.put.ensures.puts)
