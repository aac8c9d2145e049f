use Rattle.std.proofs.Common.{◌≡◌, ℕ, ◌-◌, List, length, take, drop, ap, ◌∙◌, arith}
use Rattle.std.proofs.lemmas.List.{length-take, length-replicate}
use Rattle.fwu_formats.specs.{Layout.ImageRow, Manifest.manifest_size}
use Rattle.fwu_formats.proofs.SealLaws.{limits}
use Rattle.agent_machine.specs.{Directory.directory_by, Directory.manifest_in, Fields.directory_size}
use Rattle.agent_machine.proofs.{Directory.manifest-fits, Directory.manifest-read, Directory.piece-at, Room.slot-inside}
use Rattle.agent_calls.proofs.reading.read_directory.Goals as goal

pub read-requires-clause-inside : goal.read-requires-clause-inside
read-requires-clause-inside g c =
    let L = c.args.layout.now in
    let count : length c.rows.result.now ≡ length L.rows = ap (λ (l : List ImageRow). length l) c.rows.ensures.value in
    let fits = manifest-fits L c.rows.ensures.fit in
    let inside = slot-inside L c.args.bank 0 c.requires.holds.below in
    omega (arith, c.start.ensures, c.manifest_size.ensures, count, fits, inside, c.requires.holds.inside, length-take {A = ℕ})

pub returns-clause-bytes : goal.returns-clause-bytes
returns-clause-bytes g c = λ tells.
    let L = c.args.layout.now in
    let count : length c.rows.result.now ≡ length L.rows = ap (λ (l : List ImageRow). length l) c.rows.ensures.value in
    let size : c.manifest_size.result ≡ manifest_size (length L.rows - 1) = c.manifest_size.ensures ∙ ap (λ (n : ℕ). manifest_size (n - 1)) count in
    let few = limits L c.rows.ensures.fit in
    let manifest : c.read.new.out ≡ manifest_in L (g.D.Flash.told c.args.flash.now).now c.args.bank =
    manifest-read L (g.D.Flash.told c.args.flash.now).now c.read.new.out c.args.bank c.start.result _ c.rows.ensures.fit c.start.ensures
    (omega (arith, size, few.most_images, length-take {A = ℕ}, length-replicate {A = ℕ})) (c.in_ok-read.ensures.bytes tells) in
    c.copy_from_slice.ensures.after
    ∙ piece-at c.directory_of-directory.result _ c.args.at (length c.args.out.now)
    (directory_size (length L.rows)) c.requires.within c.directory_of-directory.ensures.spelled
    ∙ ap (λ (l : List ℕ). take (length c.args.out.now) (drop c.args.at (directory_by L c.args.meta.now.meta c.args.bank c.args.lengths.now l))) manifest
