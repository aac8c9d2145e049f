use Rattle.std.proofs.Common.{subst, ℕ, Result}
use Rattle.fwu_formats.specs.declared.kinds.FipFault.{FipFault}
use Rattle.fip_tables.specs.Stream.{IsHeaderOf}
use Rattle.fip_tables.proofs.Groups.{after-bad-header}
use Rattle.fip_tables.proofs.reader.take_header.Goals as goal

pub returns-in-Err : goal.returns-in-Err
returns-in-Err c = λ bytes h.
    let group = c.args.group.now in
    after-bad-header c.in-Err.fault group bytes h.0 c.requires
    (subst (λ (r : Result (ℕ × ℕ) FipFault). IsHeaderOf group r) c.in-Err.is c.header_in.ensures)
