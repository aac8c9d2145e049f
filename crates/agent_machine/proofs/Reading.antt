-- What is read of the bank that was started, and what the machine answers to an open and to a read.
use Rattle.std.proofs.Common.{◌≡◌, ℕ, ◌+◌, ◌*◌, ◌<◌, ◌≤◌, List, [], length, get_or, take, drop, Option, Some, None, ap, ◌∙◌, arith}
use Rattle.std.proofs.lemmas.List.{drop-drop}
use Rattle.flash_core.specs.Told.{Told}
use Rattle.fwu_formats.specs.{Layout.start, Layout.slot_bytes, Image.package_in, Image.slot}
use Rattle.fwu_formats.proofs.{Spell.part_front, SealLaws.limits}
use Rattle.fwu_model.specs.{Sound.Setting, Answer.content, Answer.held_package}
use Rattle.agent_machine.specs.{Machine.state_in, Knows.Fitting, Knows.Knows, Directory.piece_of}
use Rattle.agent_machine.specs.Fields.{Fields, total_of, IsImageOrDirectory}
use Rattle.agent_machine.proofs.{Held.held-in-slots, Totals.held-long}
use Rattle.agent_machine.proofs.Directory.{package-is, directory-is, some-of}

-- ---- an image of the bank that was started

-- the bytes of an image from a place on are those at that place of its slot
pub image-piece : (E : Setting) (f : Fields) (t : Told) (image at n : ℕ) → E.layout ≡ f.layout → Fitting f → Knows f t → image < length f.layout.rows
    → at + n ≤ total_of f (Some image)
    → take n (drop at (content E (state_in f t.now) f.boot (Some image)))
    ≡ take n (drop (4096 * start f.layout f.boot image + at) t.now)
image-piece E f t image at n same fitting knows lt fits =
    let p = held_package (package_in f.layout t.now f.boot) in
    let few = limits f.layout fitting.layout in
    let slots = held-in-slots f.layout t.now f.boot p (omega (arith, few.fewest_images)) (some-of (package_in f.layout t.now f.boot) knows.held) in
    let place : ℕ = 4096 * start f.layout f.boot image in
    let one : List ℕ = get_or p image [] in
    let long : total_of f (Some image) ≡ length one = held-long f p image knows.lengths_are lt in
    let room = fitting.within image lt in
    ap (λ (q : List (List ℕ)). take n (drop at (get_or q image []))) (package-is E f t same fitting knows)
    ∙ ap (λ (l : List ℕ). take n (drop at l)) (slots.images image (omega (arith, lt, slots.count)))
    ∙ part_front n at (length one) (slot f.layout t.now f.boot image) (omega (arith, fits, long))
    ∙ part_front n at (slot_bytes f.layout image) (drop place t.now) (omega (arith, fits, room))
    ∙ ap (take n) (drop-drop at place t.now)

-- what is read is what the machine reads
pub piece-is : (E : Setting) (f : Fields) (t : Told) (image : Option ℕ) (at n : ℕ) → E.layout ≡ f.layout → Fitting f → Knows f t → IsImageOrDirectory f image
    → at + n ≤ total_of f image
    → take n (drop at (content E (state_in f t.now) f.boot image)) ≡ piece_of f.layout f.meta.meta f.boot f.lengths t.now image at n
piece-is E f t None at n same fitting knows there fits = ap (λ (l : List ℕ). take n (drop at l)) (directory-is E f t same fitting knows)
piece-is E f t (Some image) at n same fitting knows there fits = image-piece E f t image at n same fitting knows there fits
