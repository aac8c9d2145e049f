use Rattle.std.proofs.Common.{rules, ℕ, ap, subst, ◌∙◌, ◌+◌, ◌*◌, length, arith}
use Rattle.base_core.specs.Block.{block_bytes}
use Rattle.base_core.proofs.Images.{length-overwritten}
use Rattle.flash_core.specs.Touches.{TouchesOnly}
use Rattle.std.proofs.lemmas.Result.{err_from_is_err_and}
use Rattle.std.specs.Prelude.{is_err}
use Rattle.flash_core.proofs.Touches.{touches_none, touches_then}
use Rattle.flash_devices.specs.{Meters.CountsMet, Meters.counts_in, MemoryFiles.writes_of}
use Rattle.flash_devices.proofs.FileSteps.{nothing_written}
use Rattle.flash_devices.proofs.memory_file.MemoryFileByteFile.write_at.Goals as goal

pub returns-in_err-call-clause-writes : goal.returns-in_err-call-clause-writes
returns-in_err-call-clause-writes c =
    let p = err_from_is_err_and c.from_residual.result c.from_residual.ensures.1 in
    nothing_written c.from_residual.result c.args.at c.args.bytes.now _ _ (ap is_err p.1) c.in_err-call.ensures.same

pub returns-in_err-from-clause-writes : goal.returns-in_err-from-clause-writes
returns-in_err-from-clause-writes c =
    let p = err_from_is_err_and c.from_residual-in_err-from.result c.from_residual-in_err-from.ensures.1 in
    nothing_written c.from_residual-in_err-from.result c.args.at c.args.bytes.now _ _ (ap is_err p.1) c.in_ok-call.ensures.same

pub returns-in_err-call-clause-touches : goal.returns-in_err-call-clause-touches
returns-in_err-call-clause-touches c = touches_none _ _ c.in_err-call.ensures.writes

pub returns-in_err-from-clause-touches : goal.returns-in_err-from-clause-touches
returns-in_err-from-clause-touches c = touches_none _ _ c.in_ok-call.ensures.writes

pub invariant_of-self : goal.invariant_of-self
invariant_of-self c = record {
  counted = omega (
    arith,
    c.call.new.self.counted,
    ap (λ n. block_bytes * n) c.count_met.ensures.size,
    ap length c.put_in.ensures ∙ length-overwritten c.in_ok-from.from c.args.bytes.now c.call.new.self.bytes.items (search (rules, arith)),
  );
}

pub returns-clause-touches : goal.returns-clause-touches
returns-clause-touches c =
    let place = c.in_ok-from.ensures.place.0 in
    let met = subst (λ at. TouchesOnly at (at + length c.args.bytes.now) (writes_of c.call.new.self) (counts_in c.count_met.new.counts.items)) place c.count_met.ensures.touches in
    touches_then _ _ (touches_none _ _ c.in_ok-call.ensures.writes) met

pub returns-clause-counted : goal.returns-clause-counted
returns-clause-counted c =
    let n = length c.args.bytes.now in
    let new = counts_in c.count_met.new.counts.items in
    subst (λ (old : ℕ → ℕ). CountsMet c.args.at n old new) c.in_ok-call.ensures.writes
    (subst (λ at. CountsMet at n (writes_of c.call.new.self) new) c.in_ok-from.ensures.place.0 c.count_met.ensures.met)
