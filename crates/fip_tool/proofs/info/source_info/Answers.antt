use Rattle.std.proofs.Common.{Vec, ℕ}
use Rattle.std.specs.Global.{Global}
use Rattle.fip_tool.proofs.Texts.{text-made, text-stopped, table-given}
use Rattle.fip_making.proofs.Refusing.{handed-on}
use Rattle.fip_tool.proofs.info.source_info.Goals as goal

pub returns-clause-given : goal.returns-clause-given
returns-clause-given g c =
    let given = c.in_ok-toc.ensures.given in
    (given.0, given.1, text-made _ _ (Unit {0}) given.0 (c.in_ok-toc.toc, c.in_ok-toc.size) c.in_ok-info_text.field-0.items given.2 c.in_ok-info_text.ensures)

pub returns-clause-listed : goal.returns-clause-listed
returns-clause-listed g c =
    let given = c.in_ok-toc.ensures.given in
    (c.in_ok-toc.toc, c.in_ok-toc.size, (given.0, table-given given.0 c.in_ok-toc.toc c.in_ok-toc.size given.2.2), c.in_ok-info_text.ensures)

pub returns-in_err-toc-clause-given : goal.returns-in_err-toc-clause-given
returns-in_err-toc-clause-given g c =
    rw (handed-on c.from_residual.result c.in_err-toc.field-0.0 c.from_residual.ensures.1) (let given = c.in_err-toc.ensures.given in
    (given.0, given.1, text-stopped (λ (text : Vec ℕ Global). text.items) _ _ _ given.0 c.in_err-toc.field-0.0 given.2))
