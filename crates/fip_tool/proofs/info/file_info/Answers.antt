use Rattle.std.proofs.Common.{Vec, ℕ}
use Rattle.std.specs.Global.{Global}
use Rattle.fip_making.proofs.{Tables.gives-err, Refusing.handed-on}
use Rattle.fip_tool.proofs.Texts.{info-err, info-made}
use Rattle.fip_tool.proofs.info.file_info.Goals as goal

pub returns-clause-told : goal.returns-clause-told
returns-clause-told g c = λ told e.
    info-made told c.args.name.now (c.in_ok-toc.toc, c.in_ok-toc.size) c.in_ok-info_text.field-0.items (c.in_ok-toc.ensures.told told e) c.in_ok-info_text.ensures

pub returns-in_err-toc-clause-told : goal.returns-in_err-toc-clause-told
returns-in_err-toc-clause-told g c =
    rw (handed-on c.from_residual.result c.in_err-toc.field-0.0 c.from_residual.ensures.1) (λ told e.
    gives-err (λ t. t) (λ (text : Vec ℕ Global). text.items) _ _ _ _ c.in_err-toc.field-0.0 (λ r. r) (info-err told c.args.name.now _) (c.in_err-toc.ensures.told told e))
