use Rattle.std.proofs.Common.{◌≡◌, ◌≤◌, ◌∙◌, ℕ, List, ◌++◌, length, take, drop, refl, ap, subst, sym, arith}
use Rattle.std.proofs.lemmas.List.{length-take-le}
use Rattle.fwu_model.specs.Call as call
use Rattle.fwu_wire.specs.Calls.{shown, AsksWithin}
use Rattle.fwu_model.specs.Call.{open_call}
use Rattle.fwu_wire.proofs.Buffers.{read-behind}
use Rattle.fwu_wire.proofs.Meeting.{here, meets-as, meets-done, meets-previous}
use Rattle.fwu_wire.proofs.Taking.{reads-refused, takes-as, takes-begun, takes-committed, takes-done, takes-open, takes-still, takes-written}
use Rattle.agent_calls.specs.Shown.{device}
use Rattle.fwu_wire.proofs.calling.call_agent.Goals as goal

pub returns-in-Discover-clause-meets : goal.returns-in-Discover-clause-meets
returns-in-Discover-clause-meets g c live =
    let passes = g.V.Verifier.passes c.args.verifier.now in
    meets-as (shown c.args.call.now) call.Discover _ c.discover.result c.args.out.now passes _ _ (ap shown c.in-Discover.is) refl (c.discover.ensures.meets live passes c.args.out.now)

pub returns-in-Open-clause-meets : goal.returns-in-Open-clause-meets
returns-in-Open-clause-meets g c live =
    let passes = g.V.Verifier.passes c.args.verifier.now in
    meets-as (shown c.args.call.now) (open_call c.in-Open.guid c.in-Open.op) _ c.open.result c.args.out.now passes _ _ (ap shown c.in-Open.is) refl (c.open.ensures.meets live passes c.args.out.now)

pub returns-in-Read-clause-meets : goal.returns-in-Read-clause-meets
returns-in-Read-clause-meets g c live =
    let passes = g.V.Verifier.passes c.args.verifier.now in
    let within : c.in-Read.room ≤ 4096 = subst AsksWithin c.in-Read.is c.requires.within in
    let room : length (take c.in-Read.room c.args.out.now) ≡ c.in-Read.room = length-take-le c.in-Read.room c.args.out.now (omega (arith, within, c.requires.room)) in
    let behind : List ℕ = drop c.in-Read.room c.args.out.now in
    meets-as (shown c.args.call.now) (call.Read c.in-Read.handle (length (take c.in-Read.room c.args.out.now))) _ c.read.result (c.read.new.out ++ behind) passes _ _
    (ap shown c.in-Read.is ∙ sym (ap (call.Read c.in-Read.handle) room)) refl (c.read.ensures.meets live passes behind)

pub returns-in-Read-clause-behind : goal.returns-in-Read-clause-behind
returns-in-Read-clause-behind g c = read-behind c.read.result c.in-Read.room c.args.out.now c.read.new.out c.read.auto.out c.read.ensures.behind

pub returns-in-Previous-clause-meets : goal.returns-in-Previous-clause-meets
returns-in-Previous-clause-meets g c live =
    let passes = g.V.Verifier.passes c.args.verifier.now in
    let h = c.previous.ensures in
    meets-as (shown c.args.call.now) call.Previous _ _ c.args.out.now passes _ _ (ap shown c.in-Previous.is) c.done-in-Previous.ensures
    (meets-previous c.previous.result c.args.out.now passes _ _ (here _ _ _ h.goes.gone live) (h.meets live passes refl) h.changes.passed)

pub returns-in-Begin-clause-meets : goal.returns-in-Begin-clause-meets
returns-in-Begin-clause-meets g c live =
    let passes = g.V.Verifier.passes c.args.verifier.now in
    let h = c.begin.ensures in
    meets-as (shown c.args.call.now) (call.Begin c.in-Begin.partial_count) _ _ c.args.out.now passes _ _ (ap shown c.in-Begin.is) c.done.ensures
    (meets-done c.begin.result c.args.out.now passes (call.Begin c.in-Begin.partial_count) _ _ (λ previous. previous) (here _ _ _ h.goes.gone live) (λ q same. same) (h.meets live passes))

pub returns-in-End-clause-meets : goal.returns-in-End-clause-meets
returns-in-End-clause-meets g c live =
    let passes = g.V.Verifier.passes c.args.verifier.now in
    let h = c.end.ensures in
    meets-as (shown c.args.call.now) (call.End) _ _ c.args.out.now passes _ _ (ap shown c.in-End.is) c.done-in-End.ensures
    (meets-done c.end.result c.args.out.now passes (call.End) _ _ (λ previous. previous) (here _ _ _ h.goes.gone live) (λ q same. same) (h.meets live passes refl))

pub returns-in-Cancel-clause-meets : goal.returns-in-Cancel-clause-meets
returns-in-Cancel-clause-meets g c live =
    let passes = g.V.Verifier.passes c.args.verifier.now in
    let h = c.cancel.ensures in
    meets-as (shown c.args.call.now) (call.Cancel) _ _ c.args.out.now passes _ _ (ap shown c.in-Cancel.is) c.done-in-Cancel.ensures
    (meets-done c.cancel.result c.args.out.now passes (call.Cancel) _ _ (λ previous. previous) (here _ _ _ h.goes.gone live) (λ q same. same) (h.meets live passes))

pub returns-in-Write-clause-meets : goal.returns-in-Write-clause-meets
returns-in-Write-clause-meets g c live =
    let passes = g.V.Verifier.passes c.args.verifier.now in
    let h = c.write_stream.ensures in
    meets-as (shown c.args.call.now) (call.Write c.in-Write.handle c.in-Write.bytes.now) _ _ c.args.out.now passes _ _ (ap shown c.in-Write.is) c.done-in-Write.ensures
    (meets-done c.write_stream.result c.args.out.now passes (call.Write c.in-Write.handle c.in-Write.bytes.now) _ _ (λ previous. previous) (here _ _ _ h.goes.gone live) (λ q same. same) (h.meets live passes))

pub returns-in-Commit-clause-meets : goal.returns-in-Commit-clause-meets
returns-in-Commit-clause-meets g c live =
    let passes = g.V.Verifier.passes c.args.verifier.now in
    let h = c.commit.ensures in
    meets-as (shown c.args.call.now) (call.Commit c.in-Commit.handle c.in-Commit.acceptance_req) _ _ c.args.out.now passes _ _ (ap shown c.in-Commit.is) c.done-in-Commit.ensures
    (meets-done c.commit.result c.args.out.now passes (call.Commit c.in-Commit.handle c.in-Commit.acceptance_req) _ _ (λ previous. previous) (here _ _ _ h.goes.gone live) (λ q same. same) (h.meets live passes))

pub returns-in-Accept-clause-meets : goal.returns-in-Accept-clause-meets
returns-in-Accept-clause-meets g c live =
    let passes = g.V.Verifier.passes c.args.verifier.now in
    let h = c.accept.ensures in
    meets-as (shown c.args.call.now) (call.Accepts c.in-Accept.guid) _ _ c.args.out.now passes _ _ (ap shown c.in-Accept.is) c.done-in-Accept.ensures
    (meets-done c.accept.result c.args.out.now passes (call.Accepts c.in-Accept.guid) _ _ (λ previous. previous) (here _ _ _ h.goes.gone live) (λ q same. same) (h.meets live passes))

-- ---- what an armed loss counts

pub returns-in-Discover-clause-takes : goal.returns-in-Discover-clause-takes
returns-in-Discover-clause-takes g c live =
    let a = c.args.agent.now in
    let b = c.discover.new.agent in
    let same = ap device c.discover.ensures.still in
    takes-as a b (shown c.args.call.now) call.Discover c.discover.result c.discover.result c.args.out.now (ap shown c.in-Discover.is) refl
    (takes-still a b call.Discover c.discover.result c.args.out.now same (λ refused. same))

pub returns-in-Open-clause-takes : goal.returns-in-Open-clause-takes
returns-in-Open-clause-takes g c live =
    let a = c.args.agent.now in
    let b = c.open.new.agent in
    takes-as a b (shown c.args.call.now) (open_call c.in-Open.guid c.in-Open.op) c.open.result c.open.result c.args.out.now (ap shown c.in-Open.is) refl
    (takes-open a b c.in-Open.guid c.in-Open.op c.open.result c.args.out.now c.open.ensures.still)

pub returns-in-Cancel-clause-takes : goal.returns-in-Cancel-clause-takes
returns-in-Cancel-clause-takes g c live =
    let a = c.args.agent.now in
    let b = c.cancel.new.self in
    let same = c.cancel.ensures.still in
    let made = c.done-in-Cancel.result in
    takes-as a b (shown c.args.call.now) call.Cancel made made c.args.out.now (ap shown c.in-Cancel.is) refl
    (takes-still a b call.Cancel made c.args.out.now same (λ refused. same))

pub returns-in-Read-clause-takes : goal.returns-in-Read-clause-takes
returns-in-Read-clause-takes g c live =
    let a = c.args.agent.now in
    let b = c.read.new.agent in
    let asked = call.Read c.in-Read.handle c.in-Read.room in
    let bytes : List ℕ = c.read.new.out ++ drop c.in-Read.room c.args.out.now in
    takes-as a b (shown c.args.call.now) asked c.read.result c.read.result bytes (ap shown c.in-Read.is) refl
    (takes-still a b asked c.read.result bytes tt (λ refused. ap device (c.read.ensures.refused refused)))

pub returns-in-Begin-clause-takes : goal.returns-in-Begin-clause-takes
returns-in-Begin-clause-takes g c live =
    let a = c.args.agent.now in
    let b = c.begin.new.self in
    let h = c.begin.ensures in
    takes-as a b (shown c.args.call.now) (call.Begin c.in-Begin.partial_count) c.done.result _ c.args.out.now (ap shown c.in-Begin.is) c.done.ensures
    (takes-done a b (call.Begin c.in-Begin.partial_count) c.begin.result c.args.out.now (takes-begun a b c.in-Begin.partial_count c.begin.result h.spent h.keeps h.still) (λ refused. ap device (h.refused refused)))

pub returns-in-End-clause-takes : goal.returns-in-End-clause-takes
returns-in-End-clause-takes g c live =
    let a = c.args.agent.now in
    let b = c.end.new.self in
    let h = c.end.ensures in
    takes-as a b (shown c.args.call.now) (call.End) c.done-in-End.result _ c.args.out.now (ap shown c.in-End.is) c.done-in-End.ensures
    (takes-done a b (call.End) c.end.result c.args.out.now h.staging.spent (λ refused. ap device (h.refused refused)))

pub returns-in-Write-clause-takes : goal.returns-in-Write-clause-takes
returns-in-Write-clause-takes g c live =
    let a = c.args.agent.now in
    let b = c.write_stream.new.self in
    let h = c.write_stream.ensures in
    takes-as a b (shown c.args.call.now) (call.Write c.in-Write.handle c.in-Write.bytes.now) c.done-in-Write.result _ c.args.out.now (ap shown c.in-Write.is) c.done-in-Write.ensures
    (takes-done a b (call.Write c.in-Write.handle c.in-Write.bytes.now) c.write_stream.result c.args.out.now (takes-written a b c.in-Write.handle c.in-Write.bytes.now c.write_stream.result h.writes (λ image is. (h.image image is).spent)) (λ refused. ap device (h.refused refused)))

pub returns-in-Commit-clause-takes : goal.returns-in-Commit-clause-takes
returns-in-Commit-clause-takes g c live =
    let a = c.args.agent.now in
    let b = c.commit.new.self in
    let h = c.commit.ensures in
    takes-as a b (shown c.args.call.now) (call.Commit c.in-Commit.handle c.in-Commit.acceptance_req) c.done-in-Commit.result _ c.args.out.now (ap shown c.in-Commit.is) c.done-in-Commit.ensures
    (takes-done a b (call.Commit c.in-Commit.handle c.in-Commit.acceptance_req) c.commit.result c.args.out.now (takes-committed a b c.in-Commit.handle c.in-Commit.acceptance_req c.commit.result (λ image is. (h.image live image is).spent)) (λ refused. ap device (h.refused refused)))

pub returns-in-Accept-clause-takes : goal.returns-in-Accept-clause-takes
returns-in-Accept-clause-takes g c live =
    let a = c.args.agent.now in
    let b = c.accept.new.self in
    let h = c.accept.ensures in
    takes-as a b (shown c.args.call.now) (call.Accepts c.in-Accept.guid) c.done-in-Accept.result _ c.args.out.now (ap shown c.in-Accept.is) c.done-in-Accept.ensures
    (takes-done a b (call.Accepts c.in-Accept.guid) c.accept.result c.args.out.now h.spent (λ refused. ap device (h.refused refused)))

pub returns-in-Previous-clause-takes : goal.returns-in-Previous-clause-takes
returns-in-Previous-clause-takes g c live =
    let a = c.args.agent.now in
    let b = c.previous.new.self in
    let h = c.previous.ensures in
    takes-as a b (shown c.args.call.now) (call.Previous) c.done-in-Previous.result _ c.args.out.now (ap shown c.in-Previous.is) c.done-in-Previous.ensures
    (takes-done a b (call.Previous) c.previous.result c.args.out.now h.changes.spent (λ r. reads-refused g.D.Flash c.previous.result (device a) (device b) r (h.changes.content r) (h.changes.arming r) (h.changes.writes r) h.goes.costs))
