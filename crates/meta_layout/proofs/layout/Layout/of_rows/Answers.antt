use Rattle.std.proofs.Common.{◌≡◌, ◌+◌, ◌*◌, List, sym, ap, ◌∙◌}
use Rattle.fwu_formats.specs.Layout.{Layout, ImageRow, fits_layout, blocks_needed, slot_total}
use Rattle.fwu_formats.proofs.{SealLaws.limits, Written.rows-fit}
use Rattle.meta_layout.proofs.Layouts.{fitted-bad, fitted-beyond, fitted-ok}
use Rattle.meta_layout.proofs.layout.Layout.of_rows.Goals as goal

pub returns-then-not-is_layout : goal.returns-then-not-is_layout
returns-then-not-is_layout c =
    let L : Layout = record { banks = c.args.banks; rows = c.args.rows } in
    let test : c.is_layout.result ≡ fits_layout L = c.is_layout.ensures ∙ ap (λ (l : List ImageRow). fits_layout (record { banks = c.args.banks; rows = l })) c.as_slice-listed.ensures.value in
    fitted-bad L c.args.blocks (sym test ∙ c.if-not-is_layout.true)

pub slot_sum-requires-clause-fit : goal.slot_sum-requires-clause-fit
slot_sum-requires-clause-fit c = rows-fit (record { banks = c.args.banks; rows = c.as_slice-listed.result.now }) (sym c.is_layout.ensures ∙ c.if-not-is_layout.false)

pub blocks_for-requires-clause-few : goal.blocks_for-requires-clause-few
blocks_for-requires-clause-few c = (limits (record { banks = c.args.banks; rows = c.as_slice-listed.result.now }) (sym c.is_layout.ensures ∙ c.if-not-is_layout.false)).most_banks

pub returns-then-blocks-blocks_for : goal.returns-then-blocks-blocks_for
returns-then-blocks-blocks_for c =
    let L : Layout = record { banks = c.args.banks; rows = c.args.rows } in
    let test : c.is_layout.result ≡ fits_layout L = c.is_layout.ensures ∙ ap (λ (l : List ImageRow). fits_layout (record { banks = c.args.banks; rows = l })) c.as_slice-listed.ensures.value in
    let needed : c.blocks_for.result ≡ blocks_needed L = c.blocks_for.ensures.value ∙ ap (λ n. 8 + c.args.banks * n) (c.slot_sum.ensures.sum ∙ ap slot_total c.as_slice-listed.ensures.value) in
    fitted-beyond L c.args.blocks (sym test ∙ c.if-not-is_layout.false) (rw needed at c.if-blocks-blocks_for.true)

pub returns : goal.returns
returns c =
    let L : Layout = record { banks = c.args.banks; rows = c.args.rows } in
    let test : c.is_layout.result ≡ fits_layout L = c.is_layout.ensures ∙ ap (λ (l : List ImageRow). fits_layout (record { banks = c.args.banks; rows = l })) c.as_slice-listed.ensures.value in
    let needed : c.blocks_for.result ≡ blocks_needed L = c.blocks_for.ensures.value ∙ ap (λ n. 8 + c.args.banks * n) (c.slot_sum.ensures.sum ∙ ap slot_total c.as_slice-listed.ensures.value) in
    fitted-ok L c.args.blocks (sym test ∙ c.if-not-is_layout.false) (rw needed at c.if-blocks-blocks_for.false)
