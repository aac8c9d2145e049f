use Rattle.std.proofs.Common.{◌≡◌, ◌+◌, ◌-◌, ◌*◌, ◌++◌, List, length, take, drop, replicate, ap, ◌∙◌, arith}
use Rattle.std.proofs.lemmas.List.{length-take-le, length-drop}
use Rattle.fwu_formats.specs.Layout.{ImageRow, layout_size, layout_body, layout_bytes, layout_of}
use Rattle.fwu_formats.proofs.Written.{layout-read}
use Rattle.meta_layout.proofs.Writes.{written}
use Rattle.meta_layout.proofs.layout.Layout.write.Goals as goal

pub returns-clause-spelled : goal.returns-clause-spelled
unfolding layout_bytes
returns-clause-spelled c =
    let count : length c.rows.result.now ≡ length c.args.self.now.rows = ap (λ (l : List ImageRow). length l) c.rows.ensures.value in
    let size : 32 + 24 * length c.rows.result.now ≡ layout_size c.args.self.now = ap (λ n. 32 + 24 * n) count in
    written (layout_body c.args.self.now) c.args.out.now c.put_body.new.out c.seal.new.out (32 + 24 * length c.rows.result.now)
    (omega arith) (omega (arith, count, c.rows.ensures.high, c.requires))
    (c.put_body.auto.out ∙ length-take-le (length c.args.out.now - 4) (drop 4 c.args.out.now) (omega (arith, length-drop 4 c.args.out.now)))
    (ap (λ n. take (n - 4) c.put_body.new.out) size ∙ c.put_body.ensures) c.seal.ensures
    ∙ ap (λ n. layout_bytes c.args.self.now ++ replicate (length c.args.out.now - n) 0xFF) size

pub returns-clause-read_again : goal.returns-clause-read_again
returns-clause-read_again c blocks fits =
    ap (λ (l : List _). layout_of l blocks) (returns-clause-spelled c)
    ∙ layout-read c.args.self.now c.rows.ensures.fit (replicate (length c.args.out.now - layout_size c.args.self.now) 0xFF) blocks fits
