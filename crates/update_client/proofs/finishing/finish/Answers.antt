use Rattle.std.proofs.Common.{Err, refl, sym, subst}
use Rattle.fwu_model.specs.Call as call
use Rattle.fwu_model.specs.Reply as reply
use Rattle.agent_machine.specs.{declared.stop.Stop.Stop, Meets.GoesBy}
use Rattle.agent_calls.specs.Shown.{gone, moment}
use Rattle.update_client.specs.{declared.stops.SendStop.SendStop, Images.FinishesBy}
use Rattle.update_client.proofs.Finished.{finish-done, finish-lost, finish-failed, finish-refused, finish-halted, still-here}
use Rattle.update_client.proofs.Sparing.{spares-left, spares-then}
use Rattle.update_client.proofs.finishing.finish.Goals as goal
use Rattle.agent_machine.proofs.CallGoing.{MeetsAs}

pub returns-in-Ok-clause-finishes : goal.returns-in-Ok-clause-finishes
returns-in-Ok-clause-finishes g c = finish-done _ _ _ (c.in-Ok.ensures.meets c.requires.here _ refl)

pub returns-in-Ok-cancel-clause-finishes : goal.returns-in-Ok-cancel-clause-finishes
returns-in-Ok-cancel-clause-finishes g c =
    let st = c.in-Err-Status.status in
    let ends = subst (λ (q : Stop). MeetsAs {T = Unit {0}} (λ _. reply.Success) (Err q) (g.V.Verifier.passes c.args.verifier.now) call.End
    (moment c.args.agent.now) (moment c.end.new.self)) c.in-Err-Status.field-0-is (c.in-Err-Status.ensures.meets c.requires.here _ refl) in
    let goes = subst (λ (q : Stop). GoesBy {T = Unit {0}} (Err q) (gone c.args.agent.now)
    (gone c.end.new.self)) c.in-Err-Status.field-0-is c.in-Err-Status.ensures.goes.gone in
    finish-refused _ _ (moment c.end.new.self) _ st ends (c.in-Ok-cancel.ensures.meets (still-here st _ _ c.requires.here goes))

pub returns-in-Err-clause-finishes : goal.returns-in-Err-clause-finishes
returns-in-Err-clause-finishes g c =
    let st = c.in-Err-Status.status in
    let ends = subst (λ (q : Stop). MeetsAs {T = Unit {0}} (λ _. reply.Success) (Err q) (g.V.Verifier.passes c.args.verifier.now) call.End
    (moment c.args.agent.now) (moment c.end.new.self)) c.in-Err-Status.field-0-is (c.in-Err-Status.ensures.meets c.requires.here _ refl) in
    let goes = subst (λ (q : Stop). GoesBy {T = Unit {0}} (Err q) (gone c.args.agent.now)
    (gone c.end.new.self)) c.in-Err-Status.field-0-is c.in-Err-Status.ensures.goes.gone in
    let here = still-here st _ _ c.requires.here goes in
    subst (λ (q : SendStop). FinishesBy (g.V.Verifier.passes c.args.verifier.now) (Err q) (moment c.args.agent.now) (moment c.cancel.new.self))
    (sym c.stopped.ensures)
    (finish-halted _ _ (moment c.end.new.self) _ st ends c.in-Err.stop _ _ here c.in-Err.ensures.goes.gone (c.in-Err.ensures.meets here))

pub returns-in-Err-Lost-clause-finishes : goal.returns-in-Err-Lost-clause-finishes
returns-in-Err-Lost-clause-finishes g c = finish-lost _ _ _ (subst
    (λ (q : Stop). MeetsAs {T = Unit {0}} (λ _. reply.Success) (Err q) (g.V.Verifier.passes c.args.verifier.now) call.End (moment c.args.agent.now)
    (moment c.end.new.self)) c.in-Err-Lost.field-0-is (c.in-Err-Lost.ensures.meets c.requires.here _ refl))

pub returns-in-Err-Fault-clause-finishes : goal.returns-in-Err-Fault-clause-finishes
returns-in-Err-Fault-clause-finishes g c = finish-failed _ _ _ (subst
    (λ (q : Stop). MeetsAs {T = Unit {0}} (λ _. reply.Success) (Err q) (g.V.Verifier.passes c.args.verifier.now) call.End (moment c.args.agent.now)
    (moment c.end.new.self)) c.in-Err-Fault.field-0-is (c.in-Err-Fault.ensures.meets c.requires.here _ refl))

pub returns-in-Ok-clause-spares : goal.returns-in-Ok-clause-spares
returns-in-Ok-clause-spares g c = spares-left (c.in-Ok.ensures.meets c.requires.here _ refl).leaves

pub returns-in-Ok-cancel-clause-spares : goal.returns-in-Ok-cancel-clause-spares
returns-in-Ok-cancel-clause-spares g c =
    let st = c.in-Err-Status.status in
    let goes = subst (λ (q : Stop). GoesBy {T = Unit {0}} (Err q) (gone c.args.agent.now)
    (gone c.end.new.self)) c.in-Err-Status.field-0-is c.in-Err-Status.ensures.goes.gone in
    spares-then (spares-left (c.in-Err-Status.ensures.meets c.requires.here _ refl).leaves)
    (spares-left (c.in-Ok-cancel.ensures.meets (still-here st _ _ c.requires.here goes) (g.V.Verifier.passes c.args.verifier.now)).leaves)

pub returns-in-Err-Lost-clause-spares : goal.returns-in-Err-Lost-clause-spares
returns-in-Err-Lost-clause-spares g c = spares-left (c.in-Err-Lost.ensures.meets c.requires.here _ refl).leaves

pub returns-in-Err-Fault-clause-spares : goal.returns-in-Err-Fault-clause-spares
returns-in-Err-Fault-clause-spares g c = spares-left (c.in-Err-Fault.ensures.meets c.requires.here _ refl).leaves
