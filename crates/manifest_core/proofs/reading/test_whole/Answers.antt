use Rattle.std.proofs.Common.{◌∙◌, sym, refl, ap, ℕ, drop, take}
use Rattle.std.proofs.lemmas.List.{take_rest}
use Rattle.manifest_core.proofs.InTurn.{whole_is}
use Rattle.manifest_core.proofs.reading.test_whole.Goals as goal
use Rattle.base_core.specs.Bytes.{same_bytes}
use Rattle.sha2.specs.Sha256.{sha256}

pub returns-then-not-has_magic : goal.returns-then-not-has_magic
returns-then-not-has_magic c = whole_is c.args.rows.now _ c.args.whole.now (take_rest c.args.rows.now 1) c.requires.size _ _ _ _ _ _ _
    (sym c.if-not-has_magic.true ∙ c.has_magic.ensures) refl refl refl refl refl refl

pub returns-then-not-has_form : goal.returns-then-not-has_form
returns-then-not-has_form c = whole_is c.args.rows.now _ c.args.whole.now (take_rest c.args.rows.now 1) c.requires.size _ _ _ _ _ _ _
    (sym c.if-not-has_magic.false ∙ c.has_magic.ensures) (sym c.if-not-has_form.true ∙ c.has_form.ensures) refl refl refl refl refl

pub returns-then-is_version_too_high : goal.returns-then-is_version_too_high
returns-then-is_version_too_high c = whole_is c.args.rows.now _ c.args.whole.now (take_rest c.args.rows.now 1) c.requires.size _ _ _ _ _ _ _
    (sym c.if-not-has_magic.false ∙ c.has_magic.ensures) (sym c.if-not-has_form.false ∙ c.has_form.ensures) (sym c.if-is_version_too_high.true ∙ c.is_version_too_high.ensures) refl refl refl refl

pub returns-then-not-has_count : goal.returns-then-not-has_count
returns-then-not-has_count c = whole_is c.args.rows.now _ c.args.whole.now (take_rest c.args.rows.now 1) c.requires.size _ _ _ _ _ _ _
    (sym c.if-not-has_magic.false ∙ c.has_magic.ensures) (sym c.if-not-has_form.false ∙ c.has_form.ensures) (sym c.if-is_version_too_high.false ∙ c.is_version_too_high.ensures) (sym c.if-not-has_count.true ∙ c.has_count.ensures) refl refl refl

pub returns-then-not-is_in_order : goal.returns-then-not-is_in_order
returns-then-not-is_in_order c = whole_is c.args.rows.now _ c.args.whole.now (take_rest c.args.rows.now 1) c.requires.size _ _ _ _ _ _ _
    (sym c.if-not-has_magic.false ∙ c.has_magic.ensures) (sym c.if-not-has_form.false ∙ c.has_form.ensures) (sym c.if-is_version_too_high.false ∙ c.is_version_too_high.ensures) (sym c.if-not-has_count.false ∙ c.has_count.ensures) (sym c.if-not-is_in_order.true ∙ c.is_in_order.ensures) refl refl

pub returns-then-not-fits_slots : goal.returns-then-not-fits_slots
returns-then-not-fits_slots c = whole_is c.args.rows.now _ c.args.whole.now (take_rest c.args.rows.now 1) c.requires.size _ _ _ _ _ _ _
    (sym c.if-not-has_magic.false ∙ c.has_magic.ensures) (sym c.if-not-has_form.false ∙ c.has_form.ensures) (sym c.if-is_version_too_high.false ∙ c.is_version_too_high.ensures) (sym c.if-not-has_count.false ∙ c.has_count.ensures) (sym c.if-not-is_in_order.false ∙ c.is_in_order.ensures) (sym c.if-not-fits_slots.true ∙ c.fits_slots.ensures) refl

pub returns-then-not-is_digested : goal.returns-then-not-is_digested
returns-then-not-is_digested c = whole_is c.args.rows.now _ c.args.whole.now (take_rest c.args.rows.now 1) c.requires.size _ _ _ _ _ _ _
    (sym c.if-not-has_magic.false ∙ c.has_magic.ensures) (sym c.if-not-has_form.false ∙ c.has_form.ensures) (sym c.if-is_version_too_high.false ∙ c.is_version_too_high.ensures) (sym c.if-not-has_count.false ∙ c.has_count.ensures) (sym c.if-not-is_in_order.false ∙ c.is_in_order.ensures) (sym c.if-not-fits_slots.false ∙ c.fits_slots.ensures) (sym c.if-not-is_digested.true ∙ c.is_digested.ensures ∙ ap (λ (n : ℕ). same_bytes (drop n c.args.whole.now) (sha256 (take n c.args.whole.now))) c.row_place.ensures)

pub returns : goal.returns
returns c =
    rw c.le32_at.ensures (whole_is c.args.rows.now _ c.args.whole.now (take_rest c.args.rows.now 1) c.requires.size _ _ _ _ _ _ _
    (sym c.if-not-has_magic.false ∙ c.has_magic.ensures) (sym c.if-not-has_form.false ∙ c.has_form.ensures) (sym c.if-is_version_too_high.false ∙ c.is_version_too_high.ensures) (sym c.if-not-has_count.false ∙ c.has_count.ensures) (sym c.if-not-is_in_order.false ∙ c.is_in_order.ensures) (sym c.if-not-fits_slots.false ∙ c.fits_slots.ensures) (sym c.if-not-is_digested.false ∙ c.is_digested.ensures ∙ ap (λ (n : ℕ). same_bytes (drop n c.args.whole.now) (sha256 (take n c.args.whole.now))) c.row_place.ensures))
