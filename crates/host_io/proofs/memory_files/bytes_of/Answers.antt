use Rattle.std.proofs.Common.{◌∙◌, sym, ap, Some, arith, ◌≡◌, ◌≤◌, ◌<◌, length, get_or, List, ℕ}
use Rattle.std.proofs.lemmas.List.{get_or-map, length-map}
use Rattle.host_io.specs.Contents.{name_and_bytes, pairs_of, place_in}
use Rattle.host_io.proofs.Directories.{bytes_at_place, no_bytes}
use Rattle.host_io.proofs.memory_files.bytes_of.Goals as goal

pub returns-then-i-files : goal.returns-then-i-files
returns-then-i-files c =
    let pairs = pairs_of c.args.files.now in
    let long : length pairs ≡ length c.args.files.now = length-map c.args.files.now name_and_bytes in
    let at = c.place-i.ensures in
    let within : place_in pairs c.args.name.now < length pairs = omega arith in
    let found = bytes_at_place pairs c.args.name.now (name_and_bytes c.index-files-i.result) within in
    let here : get_or pairs (place_in pairs c.args.name.now) (name_and_bytes c.index-files-i.result) ≡ name_and_bytes c.index-files-i.result =
    ap (λ (i : ℕ). get_or pairs i (name_and_bytes c.index-files-i.result)) (sym at)
    ∙ get_or-map name_and_bytes c.args.files.now c.place-i.result c.index-files-i.result (name_and_bytes c.index-files-i.result) c.if-i-files.true
    ∙ ap name_and_bytes (sym c.index-files-i.is) in
    ap Some (c.as_slice.ensures.value ∙ ap (λ (f : _). f.1.items) (sym c.index-files-i.is)) ∙ sym (found ∙ ap (λ (p : List ℕ × List ℕ). Some p.1) here)

pub returns-else-i-files : goal.returns-else-i-files
returns-else-i-files c =
    let pairs = pairs_of c.args.files.now in
    let long : length pairs ≡ length c.args.files.now = length-map c.args.files.now name_and_bytes in
    let at = c.place-i.ensures in
    let beyond : length pairs ≤ place_in pairs c.args.name.now = omega arith in
    no_bytes pairs c.args.name.now beyond
