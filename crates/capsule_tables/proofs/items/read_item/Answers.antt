use Rattle.std.proofs.Common.{◌≡◌, ◌∙◌, ◌+◌, ◌*◌, ℕ, List, Option, take, drop, ap, sym, subst}
use Rattle.capsule_tables.proofs.{Headers.of-item, OneByOne.item-by-range, OneByOne.place-by-range}
use Rattle.host_io.proofs.Reading.{reads-then}
use Rattle.base_core.specs.Bytes.{num_at}
use Rattle.host_io.specs.Contents.{Directory}
use Rattle.fip_tables.specs.Files.{Tells}
use Rattle.fwu_formats.specs.Capsule.{Shape, item_place}
use Rattle.capsule_tables.specs.Ranges.{item_read}
use Rattle.capsule_tables.proofs.items.read_item.Goals as goal

pub returns-clause-told : goal.returns-clause-told
returns-clause-told g c = λ bytes told.
    let s : Shape = c.args.shape.now in
    let i = c.args.i in
    let h = c.shape.inside.header in
    let p = h + 8 + 8 * (c.shape.inside.drivers + i) in
    let later = subst (λ (o : Option Directory). Tells o c.args.name.now bytes) (sym c.read_range.ensures.reads.same) told in
    let place : h + c.le64_at-from_header.result ≡ h + num_at 8 (take 8 (drop p bytes)) 0 =
    ap (λ (n : ℕ). h + n) (c.le64_at-from_header.ensures ∙ ap (λ (xs : List ℕ). num_at 8 xs 0) (c.in_ok-read_range.ensures.bytes bytes told)) in
    let at : h + c.le64_at-from_header.result ≡ item_place bytes s i =
    place ∙ ap (λ (x : Shape). x.header + num_at 8 (take 8 (drop (x.header + 8 + 8 * (x.drivers + i)) bytes)) 0) c.shape.view_is ∙ place-by-range bytes s i in
    c.item_in.ensures.value
    ∙ ap (item_read s (h + c.le64_at-from_header.result)) (c.in_ok-read_range-2.ensures.bytes bytes later)
    ∙ ap (λ (n : ℕ). item_read s n (take 32 (drop n bytes))) at
    ∙ item-by-range bytes s i

pub returns-in_err-read_range-2-clause-reads : goal.returns-in_err-read_range-2-clause-reads
returns-in_err-read_range-2-clause-reads g c =
    reads-then g.H.Files _ g.met.H.Files.joins _ _ _ c.read_range.ensures.reads c.read_range-2.ensures.reads

pub returns-clause-reads : goal.returns-clause-reads
returns-clause-reads g c =
    reads-then g.H.Files _ g.met.H.Files.joins _ _ _ c.read_range.ensures.reads c.read_range-2.ensures.reads

pub returns-clause-some : goal.returns-clause-some
returns-clause-some g c =
    of-item _ _ _ _ c.item_in.ensures.value
