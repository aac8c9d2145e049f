-- What was appended to an image, and what is kept of it, by the fields.
use Rattle.std.proofs.Common.{◌≡◌, ℕ, ◌+◌, ◌*◌, ◌%◌, ◌<◌, List, [], length, take, get_or, set, sym, ap, ◌∙◌, subst, arith, get_or-set_same}
use Rattle.flash_core.specs.{Told.Told, Touches.TouchesOnly}
use Rattle.fwu_formats.specs.Layout.{ImageRow, start}
use Rattle.moves.specs.Law.{CallResult}
use Rattle.slot_writer.specs.Slots.{Appends, blocks_for, done_of, kept_of}
use Rattle.agent_kept.specs.Kept.{part_at, size_of}
use Rattle.agent_machine.specs.{Fields.Fields, Fields.rest_of, Fields.target, Knows.Fitting}
use Rattle.agent_machine.proofs.Answered.{layout-limits}

-- which blocks that touched
pub touched : (f : Fields) (image size : ℕ) (bytes : List ℕ) → size ≡ size_of (part_at f.session image) → (first : ℕ)
    → first ≡ start f.layout (target f) image → {old new : ℕ → ℕ}
    → TouchesOnly (4096 * first + done_of size) (4096 * (first + blocks_for (done_of (size + length bytes)))) old new
    → let at = start f.layout (target f) image in let long = size_of (part_at f.session image) in
    TouchesOnly (4096 * at + done_of long) (4096 * (at + blocks_for (done_of (long + length bytes)))) old new
touched f image size bytes size-is first first-is {old = old} {new = new} touches =
    subst (λ (a : ℕ). let n = size_of (part_at f.session image) in
    TouchesOnly (4096 * a + done_of n) (4096 * (a + blocks_for (done_of (n + length bytes)))) old new) first-is
    (subst (λ (n : ℕ). TouchesOnly (4096 * first + done_of n) (4096 * (first + blocks_for (done_of (n + length bytes)))) old new) size-is touches)

module _ (f : Fields) (fitting : Fitting f) (image size : ℕ) (bytes left : List ℕ) (within : image < length f.session.rows)
    (size-is : size ≡ size_of (part_at f.session image)) where
  abbrev pub left_of : List ℕ
  left_of = get_or (set f.rests image left) image []

  left-is : left_of ≡ left
  left-is =
      let few = (layout-limits f.layout fitting.layout).few_rows in
      let rows : length f.session.rows ≡ length f.layout.rows = ap (λ (l : List ImageRow). length l) fitting.rows in
      get_or-set_same f.rests image left [] (omega (arith, within, few, rows, fitting.rests))

  pub appended : (result : CallResult) (first : ℕ) (s t : Told) → first ≡ start f.layout (target f) image
      → Appends result first size (rest_of f image) bytes left s t
      → Appends result (start f.layout (target f) image) (size_of (part_at f.session image)) (rest_of f image) bytes left_of s t
  appended result first s t first-is appends =
      subst (λ (l : List ℕ). Appends result (start f.layout (target f) image) (size_of (part_at f.session image)) (rest_of f image) bytes l s t) (sym left-is)
      (subst (λ (a : ℕ). Appends result a (size_of (part_at f.session image)) (rest_of f image) bytes left s t) first-is
      (subst (λ (n : ℕ). Appends result first n (rest_of f image) bytes left s t) size-is appends))

  pub left-kept : take ((size + length bytes) % 16) left ≡ kept_of size (rest_of f image) bytes
      → take ((size_of (part_at f.session image) + length bytes) % 16) left_of ≡ kept_of (size_of (part_at f.session image)) (rest_of f image) bytes
  left-kept kept =
      subst (λ (n : ℕ). take ((n + length bytes) % 16) left_of ≡ kept_of n (rest_of f image) bytes) size-is
      (ap (λ (l : List ℕ). take ((size + length bytes) % 16) l) left-is ∙ kept)
