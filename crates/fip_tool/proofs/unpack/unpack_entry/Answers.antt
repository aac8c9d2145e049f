use Rattle.std.proofs.Common.{◌≢◌, ◌∷◌, ◌∙◌, [], ap}
use Rattle.std.proofs.lemmas.List.Elements.{All-cons, All-nil}
use Rattle.fwu_formats.specs.Package.{Entry}
use Rattle.host_io.specs.{Access.Asks, Contents.Directory, declared.joining.Piece.Piece}
use Rattle.fip_tool.specs.Lines.{unpacked_name}
use Rattle.fip_making.specs.Payloads.{joined_pieces}
use Rattle.fip_tool.proofs.UnpackedBy.{made, piece-is, unnamed}
use Rattle.fip_making.proofs.Refusing.{handed-on}
use Rattle.fip_making.specs.declared.stops.Stop.TheVariants as stop
use Rattle.fip_tool.proofs.unpack.unpack_entry.Goals as goal

pub returns : goal.returns
returns g c =
    let e = c.join_and_print.ensures in
    let piece : Piece = record { gap = 0; file = c.args.from; at = c.entry.inside.offset; count = c.entry.inside.size } in
    made c.entry.inside.guid c.as_str-2.result.now c.as_str.result.now c.as_slice.result.now (λ (told : Directory). joined_pieces told [] (piece ∷ []))
    (ap (λ (e : Entry). unpacked_name c.args.prefix.now e.guid) c.entry.view_is)
    (c.as_str-2.ensures.value ∙ c.in_ok-name.ensures.name) (c.as_str.ensures.value ∙ c.in_ok-name.ensures.name)
    (λ told bytes is. piece-is told c.args.from.now bytes c.args.entry.now c.entry.inside.offset c.entry.inside.size is
    (ap (λ (e : Entry). e.offset) c.entry.view_is) (ap (λ (e : Entry). e.size) c.entry.view_is))
    (c.as_slice.ensures.value ∙ c.in_ok-line.ensures) c.in_ok-name.ensures.other
    e.told e.silent e.unspoiled e.texts
    (λ access asked other. e.spares access other (All-cons (λ (p : Piece). access ≢ Asks p.file.now) piece [] asked (All-nil _)))

pub returns-in_err-name : goal.returns-in_err-name
returns-in_err-name g c =
    rw (handed-on c.from_residual.result stop.NoMemory c.from_residual.ensures.1) (unnamed (λ access. g.met.H.Files.at_rest _ access))

pub returns-in_err-line : goal.returns-in_err-line
returns-in_err-line g c =
    rw (handed-on c.from_residual-in_err-line.result stop.NoMemory c.from_residual-in_err-line.ensures.1) (unnamed (λ access. g.met.H.Files.at_rest _ access))
