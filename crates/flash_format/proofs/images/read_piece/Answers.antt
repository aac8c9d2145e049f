use Rattle.std.proofs.Common.{◌≡◌, ◌≤◌, ℕ, length, take, drop, ap, ◌∙◌, arith}
use Rattle.std.proofs.lemmas.List.{length-take-le, length-drop, length-append}
use Rattle.base_core.proofs.Blocks.{length-blank}
use Rattle.fwu_formats.specs.Package.{Entry, payload}
use Rattle.flash_format.proofs.Ranges.{length-payload, piece_erased, piece_stands}
use Rattle.flash_format.proofs.images.read_piece.Goals as goal

pub slice_bounds-payload_at-end : goal.slice_bounds-payload_at-end
slice_bounds-payload_at-end g c = omega (arith, ap length c.requires.erased, length-blank 4096, c.min-size.ensures)

pub slice_bounds-payload_at-end-2 : goal.slice_bounds-payload_at-end-2
slice_bounds-payload_at-end-2 g c = omega (arith, ap length c.requires.erased, length-blank 4096, c.min-size.ensures, length-take-le c.min-size.result c.args.out.now)

pub returns-in_err-payload_at-clause-buffer : goal.returns-in_err-payload_at-clause-buffer
returns-in_err-payload_at-clause-buffer g c =
    let size = c.min-size.result in
    let room : length c.args.out.now ≡ 4096 = ap length c.requires.erased ∙ length-blank 4096 in
    let few : size ≤ 4096 = omega (arith, c.min-size.ensures) in
    omega (arith, room, few, c.payload_at.auto.out, length-take-le size c.args.out.now (omega (arith, room, few)), length-append c.payload_at.new.out (drop size c.args.out.now), length-drop size c.args.out.now)

pub returns-clause-buffer : goal.returns-clause-buffer
returns-clause-buffer g c =
    let size = c.min-size.result in
    let room : length c.args.out.now ≡ 4096 = ap length c.requires.erased ∙ length-blank 4096 in
    let few : size ≤ 4096 = omega (arith, c.min-size.ensures) in
    omega (arith, room, few, c.payload_at.auto.out, length-take-le size c.args.out.now (omega (arith, room, few)), length-append c.payload_at.new.out (drop size c.args.out.now), length-drop size c.args.out.now)

pub returns-clause-bytes : goal.returns-clause-bytes
returns-clause-bytes g c = λ file told.
    let size = c.min-size.result in
    let bytes = payload file c.args.entry.now in
    let room : length c.args.out.now ≡ 4096 = ap length c.requires.erased ∙ length-blank 4096 in
    let few : size ≤ 4096 = omega (arith, c.min-size.ensures) in
    let asked : length (take size c.args.out.now) ≡ size = length-take-le size c.args.out.now (omega (arith, room, few)) in
    let filled : length c.payload_at.new.out ≡ size = omega (arith, asked, c.payload_at.auto.out) in
    let whole = length-payload file c.args.entry.now (c.requires.stored.within file told) in
    let is = c.in_ok-payload_at.ensures.bytes file told ∙ ap (λ (n : ℕ). take n (drop c.args.done bytes)) asked in
    piece_stands size c.payload_at.new.out c.args.out.now c.requires.erased filled c.args.done bytes is (λ less. omega (arith, less, whole, c.min-size.ensures, ap (λ (e : Entry). e.size) c.entry.view_is))

pub returns-clause-erased : goal.returns-clause-erased
returns-clause-erased g c =
    let size = c.min-size.result in
    let room : length c.args.out.now ≡ 4096 = ap length c.requires.erased ∙ length-blank 4096 in
    let few : size ≤ 4096 = omega (arith, c.min-size.ensures) in
    let asked : length (take size c.args.out.now) ≡ size = length-take-le size c.args.out.now (omega (arith, room, few)) in
    let filled : length c.payload_at.new.out ≡ size = omega (arith, asked, c.payload_at.auto.out) in
    piece_erased size c.payload_at.new.out c.args.out.now c.requires.erased filled _ (omega arith)
