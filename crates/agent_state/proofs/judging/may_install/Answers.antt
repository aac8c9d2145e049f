use Rattle.std.proofs.Common.{◌≡◌, ◌-◌, ◌+◌, ◌*◌, ℕ, List, length, take, sym, ap, ap₂, ◌∙◌}
use Rattle.std.proofs.lemmas.Bool.{ne_eqb, eq-eqb}
use Rattle.fwu_formats.specs.{Layout.ImageRow, Manifest.manifest_of, Manifest.manifest_size}
use Rattle.manifest_core.specs.Shown.{version_of}
use Rattle.agent_kept.specs.{Kept.Kept, Kept.kept, Judged.manifest_kept, Judged.are_rows_kept}
use Rattle.agent_state.proofs.Judges.{none-installed, not-sized, faulty, counted, installed, front-whole}
use Rattle.agent_state.proofs.judging.may_install.Goals as goal

sizes-is : (k : Kept) (rows : List ImageRow) → rows ≡ k.rows → take (48 + 56 * (length rows - 1)) k.front ≡ manifest_kept k
sizes-is k rows e = ap (λ (l : List ImageRow). take (manifest_size (length l - 1)) k.front) e

count-is : (k : Kept) (rows : List ImageRow) → rows ≡ k.rows → 48 + 56 * (length rows - 1) ≡ manifest_size (length k.rows - 1)
count-is k rows e = ap (λ (l : List ImageRow). manifest_size (length l - 1)) e

pub returns-then-not-all_committed : goal.returns-then-not-all_committed
returns-then-not-all_committed g c = none-installed _ c.args.counter (kept c.args.session.now) (sym c.all_committed.ensures ∙ c.if-not-all_committed.true)

pub returns-then-size : goal.returns-then-size
returns-then-size g c =
    not-sized _ c.args.counter (kept c.args.session.now) (sym c.all_committed.ensures ∙ c.if-not-all_committed.false)
    (ne_eqb _ _ (λ e. c.if-size.true (c.size.ensures ∙ e ∙ sym (count-is (kept c.args.session.now) c.rows.result.now c.rows.ensures.value))))

pub are_images-same-requires-clause-count : goal.are_images-same-requires-clause-count
are_images-same-requires-clause-count g c =
    let k = kept c.args.session.now in
    let m = ap (take (48 + 56 * (length c.rows.result.now - 1))) c.front.ensures.value ∙ sizes-is k c.rows.result.now c.rows.ensures.value in
    let says = sym c.in-Ok.is ∙ c.test.ensures.is ∙ ap₂ (λ (l : List ImageRow) (b : List ℕ). version_of (manifest_of l b)) c.rows-2.ensures.value m in
    rw m (counted (g.V.Verifier.passes c.args.verifier.now) c.args.counter k c.in-Ok.version says)

pub returns-in-Ok : goal.returns-in-Ok
returns-in-Ok g c =
    let k = kept c.args.session.now in
    let m = ap (take (48 + 56 * (length c.rows.result.now - 1))) c.front.ensures.value ∙ sizes-is k c.rows.result.now c.rows.ensures.value in
    let says = sym c.in-Ok.is ∙ c.test.ensures.is ∙ ap₂ (λ (l : List ImageRow) (b : List ℕ). version_of (manifest_of l b)) c.rows-2.ensures.value m in
    c.all_three.ensures
    ∙ installed (g.V.Verifier.passes c.args.verifier.now) c.args.counter k c.in-Ok.version c.are_images-same.result c.accepts-passes.result (sym c.all_committed.ensures ∙ c.if-not-all_committed.false)
    (eq-eqb _ _ (sym c.size.ensures ∙ c.if-size.false ∙ count-is k c.rows.result.now c.rows.ensures.value)) says (front-whole k)
    (c.are_images-same.ensures ∙ ap (are_rows_kept k) m) (c.accepts-passes.ensures ∙ ap (g.V.Verifier.passes c.args.verifier.now) m)

pub returns-in-Err : goal.returns-in-Err
returns-in-Err g c =
    let k = kept c.args.session.now in
    let m = ap (take (48 + 56 * (length c.rows.result.now - 1))) c.front.ensures.value ∙ sizes-is k c.rows.result.now c.rows.ensures.value in
    faulty (g.V.Verifier.passes c.args.verifier.now) c.args.counter k c.in-Err.field-0 (sym c.all_committed.ensures ∙ c.if-not-all_committed.false)
    (eq-eqb _ _ (sym c.size.ensures ∙ c.if-size.false ∙ count-is k c.rows.result.now c.rows.ensures.value))
    (sym c.in-Err.is ∙ c.test.ensures.is ∙ ap₂ (λ (l : List ImageRow) (b : List ℕ). version_of (manifest_of l b)) c.rows-2.ensures.value m)
