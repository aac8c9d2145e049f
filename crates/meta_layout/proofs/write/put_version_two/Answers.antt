use Rattle.std.proofs.Common.{◌≡◌, ◌-◌, ◌++◌, take, ap, ◌∙◌, arith}
use Rattle.fwu_formats.specs.Metadata.{meta_size, entries_bytes}
use Rattle.meta_layout.specs.Entries.{rest_bytes}
use Rattle.meta_layout.proofs.{Fits.meta-fits, Writes.body-two}
use Rattle.meta_layout.proofs.write.put_version_two.Goals as goal

pub returns : goal.returns
returns c =
    let size : meta_size c.args.layout.now - 4 ≡ c.put_entries-end.result = omega (arith, c.put_front-front.ensures.next_is, c.put_rest-rest.ensures.next_is, c.put_entries-end.ensures.next_is) in
    let L = c.args.layout.now in
    ap (λ n. take n c.put_entries-end.new.out) size ∙ c.put_entries-end.ensures.front
    ∙ ap (λ l. l ++ entries_bytes L c.args.meta.now.meta)
    (c.put_rest-rest.ensures.front ∙ ap (λ l. l ++ rest_bytes L) c.put_front-front.ensures.front)
    ∙ body-two L c.args.meta.now.meta (meta-fits L c.args.meta.now.meta c.requires.fit).states
