use Rattle.std.proofs.Common.{◌≡◌, ◌+◌, ◌-◌, ◌%◌, ◌++◌, ℕ, List, length, take, drop, replicate, ap, ◌∙◌, arith}
use Rattle.std.proofs.lemmas.List.{length-take-le, length-drop, length-append, length-replicate}
use Rattle.fwu_formats.specs.Metadata.{meta_size, meta_body, meta_bytes, meta_of}
use Rattle.fwu_formats.proofs.MetaWritten.{meta-read}
use Rattle.meta_layout.proofs.Writes.{written, padded}
use Rattle.meta_layout.proofs.meta.Meta.write.Goals as goal

pub returns-clause-spelled : goal.returns-clause-spelled
unfolding meta_bytes
returns-clause-spelled c =
    let size : 40 + c.entries_size-size.result ≡ meta_size c.args.layout.now = ap (λ n. 40 + n) c.entries_size-size.ensures.value in
    written (meta_body c.args.layout.now c.args.self.now.meta) c.args.out.now c.put_version_two.new.out c.seal.new.out (40 + c.entries_size-size.result)
    (omega arith) (omega (arith, size, c.requires.room))
    (c.put_version_two.auto.out ∙ length-take-le (length c.args.out.now - 4) (drop 4 c.args.out.now) (omega (arith, length-drop 4 c.args.out.now)))
    (ap (λ n. take (n - 4) c.put_version_two.new.out) size ∙ c.put_version_two.ensures) c.seal.ensures
    ∙ ap (λ n. meta_bytes c.args.layout.now c.args.self.now.meta ++ replicate (length c.args.out.now - n) 0xFF) size

pub returns-clause-replica : goal.returns-clause-replica
returns-clause-replica c room =
    let L = c.args.layout.now in
    let bytes = meta_bytes L c.args.self.now.meta in
    let whole : length c.seal.new.out ≡ length bytes + (length c.args.out.now - meta_size L) =
    ap (λ (l : List ℕ). length l) (returns-clause-spelled c) ∙ length-append bytes (replicate (length c.args.out.now - meta_size L) 0xFF) ∙ ap (λ n. length bytes + n) (length-replicate (length c.args.out.now - meta_size L) 0xFF) in
    let size : length bytes ≡ meta_size L = omega (arith, whole, c.requires.room, c.seal.auto.out) in
    padded (meta_bytes c.args.layout.now c.args.self.now.meta) c.seal.new.out (meta_size c.args.layout.now) ((16 - meta_size c.args.layout.now % 16) % 16) (length c.args.out.now)
    size room (returns-clause-spelled c)

pub returns-clause-read_again : goal.returns-clause-read_again
returns-clause-read_again c =
    ap (meta_of c.args.layout.now) (returns-clause-spelled c)
    ∙ meta-read c.args.layout.now c.args.self.now.meta (replicate (length c.args.out.now - meta_size c.args.layout.now) 0xFF) c.entries_size-size.ensures.fit c.requires.fits
