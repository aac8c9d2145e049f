use Rattle.std.proofs.Common.{◌≡◌, ◌⊎◌, inl, inr, ℕ, true, false, List, Option, refl, ap, ◌∙◌, arith}
use Rattle.std.specs.Prelude.{string_bytes}
use Rattle.base_core.specs.Counts.{Rose}
use Rattle.host_io.specs.Contents.{Directory}
use Rattle.host_io.proofs.Reading.{reads-then}
use Rattle.fip_tables.specs.Files.{Lacks}
use Rattle.fwu_model.specs.{Causes.LacksFile, Call.Call}
use Rattle.fwu_model.specs.Reply as reply
use Rattle.script_turns.specs.{Replies.moment_where, Turning.quiet_turn, Sending.send_call}
use Rattle.script_turns.proofs.SendTurns.{bad-table, lacks-file, moment-as, turns-as, unread-table}
use Rattle.script_turns.proofs.Quiets.{same-device}
use Rattle.script_turns.proofs.sending.send_turn.Goals as goal

unread-by : (files : Option Directory) (name : List ℕ) (was are : ℕ) → Rose was are ⊎ Lacks files name → Rose was are ⊎ LacksFile files name
unread-by files name was are (inl rose) = inl rose
unread-by files name was are (inr lacks) = inr (lacks-file files name lacks)

pub returns-in-Ok-clause-turns : goal.returns-in-Ok-clause-turns
returns-in-Ok-clause-turns g c =
    let kept : g.H.Files.faults c.read_table.new.files ≡ g.H.Files.faults c.args.files.now = omega (arith, c.read_table.ensures.cause.later, c.in-Ok.ensures.cause.once) in
    rw c.if-partial.true (rw (c.read_table.ensures.reads.same, kept) at c.send_partial_by.ensures.turns)

pub returns-in-Ok-2-clause-turns : goal.returns-in-Ok-2-clause-turns
returns-in-Ok-2-clause-turns g c =
    let kept : g.H.Files.faults c.read_table.new.files ≡ g.H.Files.faults c.args.files.now = omega (arith, c.read_table.ensures.cause.later, c.in-Ok.ensures.cause.once) in
    rw c.if-partial.false (rw (c.read_table.ensures.reads.same, kept) at c.send_by.ensures.turns)

pub returns-in-Err-Package-clause-turns : goal.returns-in-Err-Package-clause-turns
returns-in-Err-Package-clause-turns g c =
    let agent = c.args.agent.now in
    let answer = reply.BadPackage c.in-Err-Package.fault in
    let read = rw (c.as_str.ensures.value, c.in-Err-Package.field-0-is) at c.in-Err-Package.ensures in
    turns-as _ (quiet_turn (send_call c.args.partial (string_bytes c.args.name) c.args.request) answer) (moment_where true agent) (moment_where true agent) _ _
    (c.answered.ensures.turn ∙ ap (λ (x : Call). quiet_turn x answer) c.send_call.ensures) refl
    (moment-as agent c.answered.result.here true c.answered.ensures.here)
    (bad-table c.args.partial _ _ _ _ _ _ _ _ _ _ _ _ _ read.cause.later answer (omega (arith, read.cause.once)) refl refl refl (read.told (λ e. absurd cc), read.some)
    ((read.told (λ e. absurd cc), read.some), refl)
    (λ lacks. let failed = read.missing lacks in cc) (same-device _))

pub returns-in-Err-Capsule-clause-turns : goal.returns-in-Err-Capsule-clause-turns
returns-in-Err-Capsule-clause-turns g c =
    let agent = c.args.agent.now in
    let answer = reply.BadCapsule c.in-Err-Capsule.fault in
    let turned = c.answered-in-Err-Capsule in
    let read = rw (c.as_str.ensures.value, c.in-Err-Capsule.field-0-is) at c.in-Err-Capsule.ensures in
    turns-as _ (quiet_turn (send_call c.args.partial (string_bytes c.args.name) c.args.request) answer) (moment_where true agent) (moment_where true agent) _ _
    (turned.ensures.turn ∙ ap (λ (x : Call). quiet_turn x answer) c.send_call-in-Err-Capsule.ensures) refl
    (moment-as agent turned.result.here true turned.ensures.here)
    (bad-table c.args.partial _ _ _ _ _ _ _ _ _ _ _ _ _ read.cause.later answer (omega (arith, read.cause.once)) refl refl refl (read.told (λ e. absurd cc), read.some)
    ((read.told (λ e. absurd cc), read.some), refl)
    (λ lacks. let failed = read.missing lacks in cc) (same-device _))

pub returns-in-Err-ReadFailed-clause-turns : goal.returns-in-Err-ReadFailed-clause-turns
returns-in-Err-ReadFailed-clause-turns g c =
    let agent = c.args.agent.now in
    let read = rw (c.as_str.ensures.value, c.in-Err-ReadFailed.field-0-is) at c.in-Err-ReadFailed.ensures in
    turns-as _ (quiet_turn (send_call c.args.partial (string_bytes c.args.name) c.args.request) reply.ReadFault) (moment_where true agent) (moment_where true agent) _ _
    (c.stopped.ensures.turn ∙ ap (λ (x : Call). quiet_turn x reply.ReadFault) c.send_call-in-Err-ReadFailed.ensures) refl
    (moment-as agent c.stopped.result.here false c.stopped.ensures.here)
    (unread-table c.args.partial _ _ _ _ _ _ _ _ _ _ _ _ _ read.cause.later read.cause.once (unread-by (g.H.Files.contents c.args.files.now) (string_bytes c.args.name) _ _ (read.cause.failed refl)))

pub returns-in-Ok-clause-reads : goal.returns-in-Ok-clause-reads
returns-in-Ok-clause-reads g c =
    let read = rw c.as_str.ensures.value at c.read_table.ensures in
    reads-then g.H.Files _ g.met.H.Files.joins _ _ _ read.reads c.send_partial_by.ensures.reads

pub returns-in-Ok-2-clause-reads : goal.returns-in-Ok-2-clause-reads
returns-in-Ok-2-clause-reads g c =
    let read = rw c.as_str.ensures.value at c.read_table.ensures in
    reads-then g.H.Files _ g.met.H.Files.joins _ _ _ read.reads c.send_by.ensures.reads
