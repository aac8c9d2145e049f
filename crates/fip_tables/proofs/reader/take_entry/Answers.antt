use Rattle.std.proofs.Common.{◌≢◌, ◌∙◌, ap, sym, subst, ℕ, length}
use Rattle.std.specs.List.{list_any}
use Rattle.fwu_formats.specs.Package.{Entry, Toc, has_guid}
use Rattle.fip_tables.specs.Stream.{HasLastingFault, IsAmongEntries}
use Rattle.fwu_formats.specs.declared.kinds.FipFault.TheVariants as fault
use Rattle.fip_tables.proofs.Groups.{after-duplicate, after-entry, after-marker, after-too-many}
use Rattle.fip_tables.proofs.reader.take_entry.Goals as goal

pub returns-then-is_marker : goal.returns-then-is_marker
returns-then-is_marker c = λ bytes h.
    after-marker _ c.args.group.now c.at-entry.result bytes (record { among = h; whole = c.requires; read = c.at-entry.ensures })
    (sym c.is_marker.ensures ∙ c.if-is_marker.true)

pub returns-then-count-eq64 : goal.returns-then-count-eq64
returns-then-count-eq64 c = λ bytes h.
    let among = subst (λ (t : Toc). IsAmongEntries t c.args.group.now bytes) (sym c.toc.view_is) h in
    after-too-many _ c.args.group.now c.at-entry.result bytes (record { among = among; whole = c.requires; read = c.at-entry.ensures })
    (sym c.len-count.ensures.length ∙ c.if-count-eq64.true) (sym c.is_marker.ensures ∙ c.if-is_marker.false)

pub returns-then-has : goal.returns-then-has
returns-then-has c = λ bytes h.
    let among = subst (λ (t : Toc). IsAmongEntries t c.args.group.now bytes) (sym c.toc.view_is) h in
    let few : length c.toc.inside.entries ≢ 64 = λ e. c.if-count-eq64.false (c.len-count.ensures.length ∙ e) in
    subst (λ (n : ℕ). HasLastingFault (fault.Duplicate n) bytes) (sym c.len-count.ensures.length)
    (after-duplicate _ c.args.group.now c.at-entry.result bytes (record { among = among; whole = c.requires; read = c.at-entry.ensures })
    few (sym c.is_marker.ensures ∙ c.if-is_marker.false)
    (ap (λ (e : Entry). list_any (has_guid e.guid) c.toc.inside.entries) (sym c.entry.view_is) ∙ sym c.has.ensures ∙ c.if-has.true))

pub returns : goal.returns
returns c = λ bytes h.
    let among = subst (λ (t : Toc). IsAmongEntries t c.args.group.now bytes) (sym c.toc.view_is) h in
    let few : length c.toc.inside.entries ≢ 64 = λ e. c.if-count-eq64.false (c.len-count.ensures.length ∙ e) in
    after-entry _ c.args.group.now c.at-entry.result bytes (record { among = among; whole = c.requires; read = c.at-entry.ensures })
    c.push.new.self few c.push.ensures (sym c.is_marker.ensures ∙ c.if-is_marker.false)
    (ap (λ (e : Entry). list_any (has_guid e.guid) c.toc.inside.entries) (sym c.entry.view_is) ∙ sym c.has.ensures ∙ c.if-has.false)
