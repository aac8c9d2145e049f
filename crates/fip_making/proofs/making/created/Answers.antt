use Rattle.std.proofs.Common.{◌∙◌, List, Vec, Some, ap, map, subst, sym}
use Rattle.std.proofs.lemmas.Result.{IfOk-weaker}
use Rattle.std.specs.Global.{Global}
use Rattle.fip_words.specs.Order.{part_view}
use Rattle.fip_making.specs.{Payloads.IsElsewhere, Payloads.made_by, Payloads.part_told, declared.payloads.Payload.Payload}
use Rattle.fip_making.specs.Values.{new_serial, pack_value}
use Rattle.fip_making.proofs.Packings.{create-err, create-of, gives-same, there-of-files}
use Rattle.fip_making.proofs.Tables.{gives-err}
use Rattle.fip_making.proofs.making.created.Goals as goal

pub returns-in-Ok-clause-told : goal.returns-in-Ok-clause-told
returns-in-Ok-clause-told g c = λ told e.
    gives-same (made_by told) _ _ _ _ c.packed.result (λ r. absurd r)
    (create-of told c.args.align (map part_view c.args.named.now) (map (part_told told) c.in-Ok.payloads.items) (c.in-Ok.ensures.told told e)
    ∙ ap (λ (ps : List Payload). pack_value new_serial 0 (map (part_told told) ps) c.args.align) (sym c.as_slice.ensures.value))
    (c.packed.ensures.told told (there-of-files _ (Some told) c.in-Ok.payloads.items c.as_slice.result.now (sym e) c.as_slice.ensures.value c.in-Ok.ensures.there))

pub returns-in-Err-clause-told : goal.returns-in-Err-clause-told
returns-in-Err-clause-told g c = λ told e.
    gives-err (λ (v : Vec Payload Global). map (part_told told) v.items) (made_by told) _ _ _ _ c.in-Err.stop (λ r. r) (create-err told c.args.align (map part_view c.args.named.now) _) (c.in-Err.ensures.told told e)

pub returns-in-Ok-clause-pieces : goal.returns-in-Ok-clause-pieces
returns-in-Ok-clause-pieces g c =
    IfOk-weaker c.packed.result _ _ (λ m none access other. none access (subst (λ (ps : List Payload). IsElsewhere ps access) (sym c.as_slice.ensures.value) (c.in-Ok.ensures.elsewhere access other))) c.packed.ensures.pieces
