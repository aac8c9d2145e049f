use Rattle.std.proofs.Common.{◌≤◌, length, refl, arith}
use Rattle.std.proofs.lemmas.Result.{IfOk-from_err}
use Rattle.std.specs.Prelude.{Ok}
use Rattle.flash_core.proofs.Touches.{touches_then, touches_wider}
use Rattle.replicas.proofs.{Reading.replica_read, Both.spelled_out, Both.other_stopped, Both.both_migrated}
use Rattle.replicas.proofs.repairing.migrate_zero.Goals as goal

pub returns-in_err-replace-clause-repairs : goal.returns-in_err-replace-clause-repairs
returns-in_err-replace-clause-repairs g c tells =
    let s = g.D.Flash.told c.args.flash.now in
    let t = g.D.Flash.told c.replace.new.flash in
    let room : 12288 ≤ length s.now = omega (arith, (g.met.D.Flash.sizes c.args.flash.now).0, (g.met.D.Flash.sound c.args.flash.now tells).size) in
    let replaced = spelled_out c.replace.result 2 c.args.bytes.now _ s s t c.requires.spelled refl (c.replace.ensures.replaces tells) in
    other_stopped c.args.layout.now c.requires.layout c.args.meta.now (replica_read c.args.layout.now c.args.meta.now.meta c.requires.layout c.requires.of_layout) c.from_residual.result s t room _ (c.requires.loaded tells)
    (c.requires.lacks tells) replaced (λ A. IfOk-from_err c.from_residual.result (λ x. A) c.from_residual.ensures.0)

pub returns-clause-repairs : goal.returns-clause-repairs
returns-clause-repairs g c tells =
    let s = g.D.Flash.told c.args.flash.now in
    let m = g.D.Flash.told c.replace.new.flash in
    let room : 12288 ≤ length s.now = omega (arith, (g.met.D.Flash.sizes c.args.flash.now).0, (g.met.D.Flash.sound c.args.flash.now tells).size) in
    let first = spelled_out (Ok c.in_ok-replace.field-0) 2 c.args.bytes.now _ s s m c.requires.spelled refl (c.in_ok-replace.ensures.replaces tells) in
    both_migrated c.args.layout.now c.requires.layout c.args.meta.now (replica_read c.args.layout.now c.args.meta.now.meta c.requires.layout c.requires.of_layout) _ c.replace-2.result s m _ room (c.requires.loaded tells)
    (c.requires.lacks tells) first first.ok
    (spelled_out c.replace-2.result 1 c.args.bytes.now _ m m _ c.requires.spelled refl (c.replace-2.ensures.replaces tells))

pub returns-in_err-replace-clause-touches : goal.returns-in_err-replace-clause-touches
returns-in_err-replace-clause-touches g c = touches_wider 8192 12288 4096 12288 (omega arith) (omega arith) c.in_err-replace.ensures.touches

pub returns-clause-touches : goal.returns-clause-touches
returns-clause-touches g c =
    touches_then 4096 12288 (touches_wider 8192 12288 4096 12288 (omega arith) (omega arith) c.in_ok-replace.ensures.touches) (touches_wider 4096 8192 4096 12288 (omega arith) (omega arith) c.replace-2.ensures.touches)
