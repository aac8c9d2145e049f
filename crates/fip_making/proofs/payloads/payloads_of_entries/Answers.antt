use Rattle.std.proofs.Common.{◌≡◌, ◌≢◌, ◌∙◌, ◌+◌, All, List, [], ◌∷◌, ◌++◌, ap, arith, sym, subst, length, map, take}
use Rattle.std.proofs.lemmas.List.{length-append, map-append, take_more}
use Rattle.std.proofs.lemmas.List.Elements.{All-get_or}
use Rattle.fwu_formats.specs.Package.{Entry, Part}
use Rattle.host_io.specs.Access.{Asks}
use Rattle.fip_making.specs.{Payloads.HasEntry, Payloads.IsElsewhere, Payloads.IsThere, Payloads.file_bytes, Payloads.part_told, Values.updated_part, declared.payloads.Payload.Payload}
use Rattle.fip_making.proofs.Packings.{one-more-there}
use Rattle.fip_making.proofs.payloads.payloads_of_entries.Goals as goal

pub loop-entry-preserved : goal.loop-entry-preserved
loop-entry-preserved c =
    let more = c.in-Ok.ensures.items in
    let p = c.payload_of_entry.result in
    let e = c.entry-item.result in
    let i = c.loop-entry.entry-index in
    let es = c.args.entries.now in
    let here : take (i + 1) es ≡ take i es ++ (e ∷ []) = take_more es i e c.loop-entry-test.true ∙ ap (λ (x : Entry). take i es ++ (x ∷ [])) (sym c.entry-item.is) in record {
      told = λ told.
          let part = updated_part (file_bytes told c.args.from.now) (map (part_told told) c.args.new.now) in
          ap (map (part_told told)) more ∙ map-append (part_told told) c.loop-entry.payloads.items (p ∷ [])
          ∙ ap (λ (xs : List Part). xs ++ (part_told told p ∷ [])) (c.loop-entry.invariant.told told)
          ∙ ap (λ (x : Part). map part (take i es) ++ (x ∷ [])) (c.payload_of_entry.ensures.told told)
          ∙ sym (ap (map part) here ∙ map-append part (take i es) (e ∷ []));
      there = λ told has.
          subst (All (IsThere told)) (sym more)
          (one-more-there (IsThere told) c.loop-entry.payloads.items p (c.loop-entry.invariant.there told has)
          (c.payload_of_entry.ensures.there told (has.0, subst (HasEntry told c.args.from.now) (sym c.entry-item.is) (All-get_or (HasEntry told c.args.from.now) es i e c.loop-entry-test.true has.1))));
      elsewhere = λ access other.
          subst (λ (ps : List Payload). IsElsewhere ps access) (sym more)
          (one-more-there (λ q. access ≢ Asks q.file.now) c.loop-entry.payloads.items p (c.loop-entry.invariant.elsewhere access other) (c.payload_of_entry.ensures.elsewhere access other));
      count = omega (arith, ap length more, length-append c.loop-entry.payloads.items (p ∷ []), c.loop-entry.invariant.count);
    }
