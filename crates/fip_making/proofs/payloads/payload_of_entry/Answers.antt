use Rattle.std.proofs.Common.{◌≢◌, refl, sym, ap, ◌∙◌}
use Rattle.std.specs.Prelude.{find}
use Rattle.base_core.specs.Bytes.{same_bytes}
use Rattle.fwu_formats.specs.Package.{Entry}
use Rattle.host_io.specs.Access.{Asks}
use Rattle.fip_making.specs.{declared.payloads.Payload.Payload, Payloads.IsThere, Payloads.file_bytes}
use Rattle.fip_making.proofs.Packings.{entry-kept, entry-renewed, found-has}
use Rattle.fip_making.proofs.payloads.payload_of_entry.Goals as goal

pub returns-in-Some-clause-told : goal.returns-in-Some-clause-told
returns-in-Some-clause-told c = λ told.
    let e = c.entry.inside in
    let q = c.in-Some.payload in
    let made : Payload = record { guid = e.guid; flags = e.flags; size = q.size; file = q.file; at = q.at } in
    entry-renewed told (file_bytes told c.args.from.now) c.args.new.now c.args.entry.now q made
    (sym (c.in-Some.ensures ∙ ap (λ (x : Entry). find (λ (p : Payload). same_bytes p.guid x.guid) c.args.new.now) c.entry.view_is))
    (ap (λ (x : Entry). x.guid) c.entry.view_is) (ap (λ (x : Entry). x.flags) c.entry.view_is) refl refl refl

pub returns-in-None-clause-told : goal.returns-in-None-clause-told
returns-in-None-clause-told c = λ told.
    let e = c.entry.inside in
    let made : Payload = record { guid = e.guid; flags = e.flags; size = e.size; file = c.args.from; at = e.offset } in
    entry-kept told (file_bytes told c.args.from.now) c.args.new.now c.args.entry.now made
    (sym (c.in-None.ensures ∙ ap (λ (x : Entry). find (λ (p : Payload). same_bytes p.guid x.guid) c.args.new.now) c.entry.view_is))
    refl (ap (λ (x : Entry). x.guid) c.entry.view_is) (ap (λ (x : Entry). x.flags) c.entry.view_is) (ap (λ (x : Entry). x.size) c.entry.view_is) (ap (λ (x : Entry). x.offset) c.entry.view_is)

pub returns-in-Some-clause-there : goal.returns-in-Some-clause-there
returns-in-Some-clause-there c = λ told has.
    found-has (IsThere told) (λ (p : Payload). same_bytes p.guid c.entry.inside.guid) c.args.new.now c.in-Some.payload has.0 (sym c.in-Some.ensures)

pub returns-in-Some-clause-elsewhere : goal.returns-in-Some-clause-elsewhere
returns-in-Some-clause-elsewhere c = λ access other.
    found-has (λ (p : Payload). access ≢ Asks p.file.now) (λ (p : Payload). same_bytes p.guid c.entry.inside.guid) c.args.new.now c.in-Some.payload other.1 (sym c.in-Some.ensures)
