use Rattle.std.proofs.Common.{ap, refl}
use Rattle.base_core.specs.Block.{block_bytes}
use Rattle.fwu_formats.specs.Digests.{passes_any}
use Rattle.agent_calls.specs.Shown.{device, fields}
use Rattle.step_flash.specs.Flash.{writes_of}
use Rattle.fwu_c.specs.Handed.{call_reach}
use Rattle.fwu_c.proofs.Calls.{accepts_meta, back_meta, touches_by}
use Rattle.fwu_c.proofs.calling.ask.Goals as goal

pub returns-in-Accept-clause-meets : goal.returns-in-Accept-clause-meets
returns-in-Accept-clause-meets c = λ here. rw c.in-Accept.is (c.accept.ensures.meets here (λ m. passes_any m))

pub returns-in-Previous-clause-meets : goal.returns-in-Previous-clause-meets
returns-in-Previous-clause-meets c = λ here.
    let meets = c.previous.ensures.meets here (λ m. passes_any m) refl in
    rw c.in-Previous.is (record { exact = λ E s x setting shows. meets.exact E s x setting shows refl; leaves = meets.leaves })

pub returns-in-Accept-clause-touches : goal.returns-in-Accept-clause-touches
returns-in-Accept-clause-touches c =
    let accept = c.accept.ensures in
    touches_by c.accept.result block_bytes call_reach
    (λ done. let found = accept.found done in (accept.image found.0 found.1).touches)
    (λ refused. ap (λ a. writes_of (device a)) (accept.refused refused))
    (λ gone. ap (λ a. writes_of (device a)) (accept.goes.untouched gone))

pub returns-in-Accept-clause-metadata : goal.returns-in-Accept-clause-metadata
returns-in-Accept-clause-metadata c = λ b from done.
    let accept = c.accept.ensures in
    let found = accept.found done in
    rw c.in-Accept.is (accepts_meta _ b (fields c.args.agent.now) found.0 _ from found.1 ((accept.image found.0 found.1).keeps done))

pub returns-in-Previous-clause-metadata : goal.returns-in-Previous-clause-metadata
returns-in-Previous-clause-metadata c = λ b from done.
    rw c.in-Previous.is (back_meta b (fields c.args.agent.now) _ from (c.previous.ensures.changes.either done))
