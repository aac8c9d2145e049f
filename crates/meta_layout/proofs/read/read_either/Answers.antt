use Rattle.std.proofs.Common.{◌≡◌, ◌+◌, sym, ap, ◌∙◌}
use Rattle.fwu_formats.specs.Metadata.{meta_size}
use Rattle.meta_layout.proofs.Metas.{meta-short, meta-two, meta-one, meta-none}
use Rattle.meta_layout.proofs.read.read_either.Goals as goal

pub returns-then-block-entries_size : goal.returns-then-block-entries_size
returns-then-block-entries_size c =
    let size : 40 + c.entries_size.result ≡ meta_size c.args.layout.now = ap (λ n. 40 + n) c.entries_size.ensures.value in
    meta-short c.args.layout.now c.args.block.now (rw size at c.if-block-entries_size.true)

pub returns-then-version-eq2 : goal.returns-then-version-eq2
returns-then-version-eq2 c =
    let size : 40 + c.entries_size.result ≡ meta_size c.args.layout.now = ap (λ n. 40 + n) c.entries_size.ensures.value in
    c.read_version_two.ensures
    ∙ meta-two c.args.layout.now c.args.block.now (rw size at c.if-block-entries_size.false) (sym c.le32_at-version.ensures ∙ c.if-version-eq2.true)

pub returns-then-version-eq1 : goal.returns-then-version-eq1
returns-then-version-eq1 c =
    let size : 40 + c.entries_size.result ≡ meta_size c.args.layout.now = ap (λ n. 40 + n) c.entries_size.ensures.value in
    c.read_version_one.ensures
    ∙ meta-one c.args.layout.now c.args.block.now (rw size at c.if-block-entries_size.false) (sym c.le32_at-version.ensures ∙ c.if-version-eq1.true)

pub returns : goal.returns
returns c =
    let size : 40 + c.entries_size.result ≡ meta_size c.args.layout.now = ap (λ n. 40 + n) c.entries_size.ensures.value in
    meta-none c.args.layout.now c.args.block.now (rw size at c.if-block-entries_size.false)
    (λ e. c.if-version-eq2.false (c.le32_at-version.ensures ∙ e)) (λ e. c.if-version-eq1.false (c.le32_at-version.ensures ∙ e))
