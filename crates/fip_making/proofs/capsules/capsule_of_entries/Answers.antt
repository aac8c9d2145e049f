use Rattle.std.proofs.Common.{◌∙◌, ◌≢◌, List, ap, length, map, subst, sym}
use Rattle.std.specs.List.{All}
use Rattle.host_io.specs.Access.{Asks}
use Rattle.fip_making.specs.{Values.enclose_value, Values.updated_part, declared.payloads.Payload.Payload}
use Rattle.fip_making.specs.Payloads.{IsElsewhere, IsThere, file_bytes, part_told}
use Rattle.fip_making.proofs.{Makings.makes-as, Packings.none-there}
use Rattle.fip_making.proofs.capsules.capsule_of_entries.Goals as goal

pub returns : goal.returns
returns c =
    let none = c.as_slice.ensures.value ∙ c.new-none.ensures.items in
    let all = c.as_slice-2.ensures.value in
    makes-as (λ told has. subst (All (IsThere told)) (sym all) (c.in-Ok.ensures.there told (none-there (IsThere told) c.as_slice.result.now none, has)))
    (λ access other. subst (λ (ps : List Payload). IsElsewhere ps access) (sym all) (c.in-Ok.ensures.elsewhere access (other, none-there (λ p. access ≢ Asks p.file.now) c.as_slice.result.now none)))
    (λ told has. ap enclose_value (sym (ap (map (part_told told)) all ∙ c.in-Ok.ensures.told told
    ∙ ap (λ (ps : List Payload). map (updated_part (file_bytes told c.args.from.now) (map (part_told told) ps)) c.args.entries.now) none)))
    (sym (ap length all ∙ c.in-Ok.ensures.count)) c.enclosed.ensures
