use Rattle.std.proofs.Common.{refl}
use Rattle.fip_making.specs.{Payloads.part_told, declared.payloads.Payload.Payload}
use Rattle.fip_making.proofs.{Tables.gives-err, Makings.has-range, Refusing.handed-on}
use Rattle.fip_making.proofs.Packings.{payload-made, payload-stopped}
use Rattle.fip_making.proofs.payloads.payload_of_file.Goals as goal

pub returns-clause-told : goal.returns-clause-told
returns-clause-told g c = λ told e.
    let made : Payload = record { guid = c.args.named.now.guid; flags = 0; size = c.in_ok-size.size; file = c.args.named.now.file; at = 0 } in
    payload-made told c.args.named.now made c.in_ok-size.size (c.in_ok-size.ensures.told told e) refl refl refl refl refl

pub returns-clause-there : goal.returns-clause-there
returns-clause-there g c = has-range _ c.args.named.now.file.now c.in_ok-size.size c.in_ok-size.size (λ told e. c.in_ok-size.ensures.told told e) refl

pub returns-in_err-size-clause-told : goal.returns-in_err-size-clause-told
returns-in_err-size-clause-told g c =
    rw (handed-on c.from_residual.result c.in_err-size.field-0.0 c.from_residual.ensures.1) (λ told e.
    gives-err (λ n. n) (part_told told) _ _ _ _ c.in_err-size.field-0.0 (λ r. r) (payload-stopped told c.args.named.now _) (c.in_err-size.ensures.told told e))
