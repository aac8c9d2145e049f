use Rattle.std.proofs.Common.{◌≤◌, length, arith}
use Rattle.std.proofs.lemmas.Result.{IfOk-from_err}
use Rattle.flash_core.specs.Replaces.{padded}
use Rattle.flash_core.proofs.Touches.{touches_then, touches_wider}
use Rattle.replicas.proofs.Both.{zero_written, one_written}
use Rattle.replicas.proofs.storing.write_both.Goals as goal

pub returns-in_err-replace-clause-writes : goal.returns-in_err-replace-clause-writes
returns-in_err-replace-clause-writes g c tells =
    let s = g.D.Flash.told c.args.flash.now in
    let room : 12288 ≤ length s.now = omega (arith, (g.met.D.Flash.sizes c.args.flash.now).0, (g.met.D.Flash.sound c.args.flash.now tells).size) in
    zero_written _ c.from_residual.result (padded c.args.bytes.now) s _ room (c.replace.ensures.replaces tells) (λ A. IfOk-from_err c.from_residual.result (λ x. A) c.from_residual.ensures.0)

pub returns-clause-writes : goal.returns-clause-writes
returns-clause-writes g c tells =
    let first = c.in_ok-replace.ensures.replaces tells in
    let m = g.D.Flash.told c.replace.new.flash in
    let s = g.D.Flash.told c.args.flash.now in
    let space : 12288 ≤ length s.now = omega (arith, (g.met.D.Flash.sizes c.args.flash.now).0, (g.met.D.Flash.sound c.args.flash.now tells).size) in
    let room : 12288 ≤ length m.now = omega (arith, (g.met.D.Flash.sizes c.replace.new.flash).0, (g.met.D.Flash.sound c.replace.new.flash tells).size) in
    one_written _ c.replace-2.result (padded c.args.bytes.now) s m _ space room first first.ok (c.replace-2.ensures.replaces tells)

pub returns-in_err-replace-clause-touches : goal.returns-in_err-replace-clause-touches
returns-in_err-replace-clause-touches g c = touches_wider 4096 8192 4096 12288 (omega arith) (omega arith) c.in_err-replace.ensures.touches

pub returns-clause-touches : goal.returns-clause-touches
returns-clause-touches g c =
    touches_then 4096 12288 (touches_wider 4096 8192 4096 12288 (omega arith) (omega arith) c.in_ok-replace.ensures.touches) (touches_wider 8192 12288 4096 12288 (omega arith) (omega arith) c.replace-2.ensures.touches)
