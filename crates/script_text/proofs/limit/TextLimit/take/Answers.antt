use Rattle.std.proofs.Common.{◌≡◌, ℕ, ◌+◌, ap, sym, ◌∙◌, subst, inl, inr, refl, arith, cond}
use Rattle.std.proofs.lemmas.Bool.{ne_eqb}
use Rattle.script_text.specs.Limit.{Extent, IsExtentOf}
use Rattle.script_text.proofs.Extents.{extent_full, extent_with, is_end}
use Rattle.script_text.proofs.limit.TextLimit.take.Goals as goal
use Rattle.script_text.proofs.limit.TextLimit.take.Goals.{then-self-eq-MOST_BYTES-via-then-self-eq-MOST_BYTES, then-self-eq-MOST_BYTES-via-else-self-eq-MOST_BYTES+then-self-eq-MOST_LINES}

pub returns-then-self-eq-MOST_BYTES-clause-full : goal.returns-then-self-eq-MOST_BYTES-clause-full
returns-then-self-eq-MOST_BYTES-clause-full c text of =
    elim c.then-self-eq-MOST_BYTES.branch [
      | then-self-eq-MOST_BYTES-via-then-self-eq-MOST_BYTES w ↦
          extent_full c.args.self.now text c.args.byte (inl (ap (λ (e : Extent). e.bytes) (sym c.self.view_is) ∙ w.if-self-eq-MOST_BYTES.true)) of
      | then-self-eq-MOST_BYTES-via-else-self-eq-MOST_BYTES+then-self-eq-MOST_LINES w ↦
          extent_full c.args.self.now text c.args.byte (inr (ap (λ (e : Extent). e.ends) (sym c.self.view_is) ∙ w.if-self-eq-MOST_LINES.true)) of
    ]

pub returns-then-byte-eq10-clause-taken : goal.returns-then-byte-eq10-clause-taken
returns-then-byte-eq10-clause-taken c text of =
    let before : Extent = record { bytes = c.self.inside.bytes; ends = c.self.inside.ends } in
    let one : ℕ = 1 in
    let end : cond (is_end c.args.byte) one 0 ≡ one = rw c.if-byte-eq10.true refl in
    extent_with before (record { bytes = c.self.inside.bytes + 1; ends = c.self.inside.ends + 1 }) text c.args.byte
    (omega (arith, c.self.invariant.0, c.if-self-eq-MOST_BYTES.false)) (omega (arith, c.self.invariant.1, c.if-self-eq-MOST_LINES.false)) refl (omega (arith, end))
    (subst (λ (e : Extent). IsExtentOf e text) (sym c.self.view_is) of)

pub returns-else-byte-eq10-clause-taken : goal.returns-else-byte-eq10-clause-taken
returns-else-byte-eq10-clause-taken c text of =
    let before : Extent = record { bytes = c.self.inside.bytes; ends = c.self.inside.ends } in
    let none : ℕ = 0 in
    let end : cond (is_end c.args.byte) 1 none ≡ none = rw (ne_eqb c.args.byte 10 c.if-byte-eq10.false) refl in
    extent_with before (record { bytes = c.self.inside.bytes + 1; ends = c.self.inside.ends }) text c.args.byte
    (omega (arith, c.self.invariant.0, c.if-self-eq-MOST_BYTES.false)) (omega (arith, c.self.invariant.1, c.if-self-eq-MOST_LINES.false)) refl (omega (arith, end))
    (subst (λ (e : Extent). IsExtentOf e text) (sym c.self.view_is) of)
