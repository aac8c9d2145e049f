use Rattle.std.proofs.Common.{◌≡◌, ◌∙◌, ◌+◌, ◌≤◌, ap, sym, subst, ℕ, length, take, drop}
use Rattle.std.proofs.lemmas.Result.{on_ok_weaker}
use Rattle.fwu_formats.specs.Package.{Entry, payload}
use Rattle.fip_tables.proofs.Told.{part_of, range_is}
use Rattle.fip_tables.proofs.read.payload_at.Goals as goal

pub returns-clause-bytes : goal.returns-clause-bytes
returns-clause-bytes g c =
    on_ok_weaker c.read_at.result
    (λ range bytes told.
    let offset = c.entry.inside.offset in
    let at = c.args.at in
    let n = length c.args.out.now in
    let size : length c.read_at.new.out ≡ n = c.read_at.auto.out in
    let small : at + n ≤ c.entry.inside.size = (let i = subst (λ (e : Entry). at + n ≤ e.size) (sym c.entry.view_is) c.requires.inside in i) in
    range_is _ c.args.name.now (offset + at) c.read_at.new.out bytes told range
    ∙ ap (λ (k : ℕ). take k (drop (offset + at) bytes)) size
    ∙ sym (part_of bytes offset c.entry.inside.size at n small)
    ∙ ap (λ (e : Entry). take n (drop at (payload bytes e))) c.entry.view_is)
    c.read_at.ensures.bytes
