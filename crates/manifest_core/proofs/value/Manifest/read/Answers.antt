use Rattle.std.proofs.Common.{◌≡◌, ◌∙◌, ◌-◌, ℕ, ap, sym, take, length, arith}
use Rattle.base_core.specs.Bytes.{listed}
use Rattle.fwu_formats.specs.Manifest.{row_at}
use Rattle.manifest_core.proofs.Passed.{fault_is, read_is, count_is}
use Rattle.manifest_core.proofs.value.Manifest.read.Goals as goal

pub returns-in-Err-clause-fault : goal.returns-in-Err-clause-fault
returns-in-Err-clause-fault c = fault_is _ c.in-Err.fault (sym c.in-Err.is ∙ c.test.ensures.is)

pub returns-in-Ok-read_rows-clause-ok : goal.returns-in-Ok-read_rows-clause-ok
returns-in-Ok-read_rows-clause-ok c =
    let front = ap (λ (k : ℕ). listed (length c.args.rows.now - 1) (row_at (take k c.args.bytes.now))) c.manifest_size-size.ensures in
    read_is c.args.rows.now c.args.bytes.now c.in-Ok.security _ (sym c.in-Ok.is ∙ c.test.ensures.is) (c.in-Ok-read_rows.ensures ∙ front)

pub invariant_of-result : goal.invariant_of-result
invariant_of-result c =
    let count : length c.in-Ok-read_rows.rows.items ≡ length c.args.rows.now - 1 = count_is _ _ _ c.in-Ok-read_rows.ensures in
    (omega (arith, count, c.requires.some), omega (arith, count, c.requires.few))
