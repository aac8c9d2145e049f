use Rattle.std.proofs.Common.{◌≡◌, ◌+◌, ◌-◌, ◌++◌, ℕ, length, take, drop, replicate, ap, ◌∙◌, arith}
use Rattle.std.proofs.lemmas.List.{length-take-le, length-drop, length-replicate}
use Rattle.fwu_formats.specs.Metadata.{meta_size_v1, meta_body_v1, meta_bytes_v1, meta_of}
use Rattle.fwu_formats.proofs.MetaWritten.{meta_v1-read}
use Rattle.meta_layout.proofs.Writes.{written}
use Rattle.meta_layout.proofs.meta.Meta.write_one.Goals as goal

pub returns-clause-spelled : goal.returns-clause-spelled
unfolding meta_bytes_v1
returns-clause-spelled c =
    let size : 16 + c.entries_size-size.result ≡ meta_size_v1 c.args.layout.now = ap (λ n. 16 + n) c.entries_size-size.ensures.value in
    written (meta_body_v1 c.args.layout.now c.args.self.now.meta) c.args.out.now c.put_version_one.new.out c.seal.new.out (16 + c.entries_size-size.result)
    (omega arith) (omega (arith, size, c.requires.room))
    (c.put_version_one.auto.out ∙ length-take-le (length c.args.out.now - 4) (drop 4 c.args.out.now) (omega (arith, length-drop 4 c.args.out.now)))
    (ap (λ n. take (n - 4) c.put_version_one.new.out) size ∙ c.put_version_one.ensures) c.seal.ensures
    ∙ ap (λ n. meta_bytes_v1 c.args.layout.now c.args.self.now.meta ++ replicate (length c.args.out.now - n) 0xFF) size

pub returns-clause-read_again : goal.returns-clause-read_again
returns-clause-read_again c sayable room =
    ap (meta_of c.args.layout.now) (returns-clause-spelled c)
    ∙ meta_v1-read c.args.layout.now c.args.self.now.meta (replicate (length c.args.out.now - meta_size_v1 c.args.layout.now) 0xFF) c.entries_size-size.ensures.fit c.requires.fits sayable
    (omega (arith, room, length-replicate {A = ℕ} (length c.args.out.now - meta_size_v1 c.args.layout.now) 0xFF))
