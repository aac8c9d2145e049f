use Rattle.std.proofs.Common.{refl, IsFalse}
use Rattle.agent_calls.specs.Shown as agent
use Rattle.fwu_c.specs.Calls.{call_of}
use Rattle.fwu_c.proofs.Calls.{call_end_is, calls_from, ends_so, here_after}
use Rattle.fwu_c.proofs.calling.called.Goals as goal

pub returns-clause-ends : goal.returns-clause-ends
returns-clause-ends c =
    let goes = c.ask-done.ensures.goes in
    call_end_is c.ask-done.result
    (ends_so c.ask-done.result (agent.device c.deref_mut.result.now) (agent.device c.ask-done.new.agent) _ _ goes.costs goes.gone
    (rw c.deref_mut.ensures.value c.requires.here))

pub returns-clause-calls : goal.returns-clause-calls
returns-clause-calls c =
    let first = c.deref_mut.result.now in
    let done = c.ask-done in
    let goes = done.ensures.goes in
    let here : IsFalse (agent.gone first) = rw c.deref_mut.ensures.value c.requires.here in
    rw (c.flash_from.ensures, ← c.deref_mut.ensures.value) (λ b begins.
    let meets = done.ensures.meets here in
    calls_from (call_of c.args.call) b done.result (agent.moment first) (agent.moment done.new.agent)
    (ends_so done.result (agent.device first) (agent.device done.new.agent) _ _ goes.costs goes.gone here) refl begins.from meets.exact meets.leaves begins.shows
    (λ ok s x shows. (rw c.deref.ensures at c.showing.ensures.seen) (here_after done.result _ _ here goes.gone ok) refl s x shows)
    done.ensures.refused (done.ensures.again b begins.from) (done.ensures.metadata b begins.from))
