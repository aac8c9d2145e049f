use Rattle.std.proofs.Common.{◌≡◌, ℕ, ◌+◌, ◌-◌, ◌*◌, ◌%◌, ◌<◌, ◌≤◌, List, length, take, drop, sym, ◌∙◌, subst, arith}
use Rattle.std.proofs.lemmas.List.{length-take-le, take_all, take_rest}
use Rattle.std.specs.Prelude.{OnOk}
use Rattle.slot_writer.specs.Slots.{Appends, done_of}
use Rattle.slot_writer.proofs.{Behind.reached, Keeping.kept-filled, Appending.filled-appended}
use Rattle.slot_writer.proofs.writing.append.Goals as goal
use Rattle.std.proofs.lemmas.Result.{on_ok_weaker}

pub returns-clause-appends : goal.returns-clause-appends
returns-clause-appends g c tells =
    let bytes = c.args.bytes.now in
    let size = c.args.size in
    let room : ℕ = 16 - size % 16 in
    let s = g.D.Flash.told c.args.flash.now in
    let fits : 4096 * c.args.first + size + length bytes ≤ length s.now = omega (arith, c.requires.inside, reached (size + length bytes), (g.met.D.Flash.sound c.args.flash.now tells).size) in
    let some : 0 < size % 16 = omega (arith, c.if-kept-eq0.false) in
    let enough : room ≤ length bytes = omega (arith, c.if-kept-bytes-lt-GRANULE.false, some) in
    let filled = c.keep-2.new.rest in
    let piece : length (take room bytes) ≡ room = length-take-le room bytes enough in
    filled-appended c.append_whole-2.result c.args.first size room c.args.rest.now bytes filled c.append_whole-2.new.rest s (g.D.Flash.told c.program_behind.new.flash) (g.D.Flash.told c.append_whole-2.new.flash) some (omega arith) enough fits
    (sym (take_all (size % 16 + length (take room bytes)) filled (omega (arith, c.keep-2.array_long, piece, some))) ∙ c.keep-2.ensures) c.keep-2.array_long (c.in_ok-program_behind.ensures.programs tells)
    (subst (λ (l : List ℕ). Appends c.append_whole-2.result c.args.first (done_of size + 16) filled l c.append_whole-2.new.rest (g.D.Flash.told c.program_behind.new.flash) (g.D.Flash.told c.append_whole-2.new.flash)) (take_rest bytes room) (c.append_whole-2.ensures.appends tells))

pub returns-clause-kept : goal.returns-clause-kept
returns-clause-kept g c =
    let bytes = c.args.bytes.now in
    let some : 0 < c.args.size % 16 = omega (arith, c.if-kept-eq0.false) in
    let left = c.append_whole-2.new.rest in
    let room : ℕ = 16 - c.args.size % 16 in
    let enough : room ≤ length bytes = omega (arith, c.if-kept-bytes-lt-GRANULE.false, some) in
    let kept : OnOk c.append_whole-2.result (take (length (drop room bytes) % 16) left ≡ drop (length (drop room bytes) - length (drop room bytes) % 16) (drop room bytes)) =
    subst (λ (l : List ℕ). OnOk c.append_whole-2.result (take (length l % 16) left ≡ drop (length l - length l % 16) l)) (take_rest bytes room) c.append_whole-2.ensures.kept in
    on_ok_weaker {P = take (length (drop room bytes) % 16) left ≡ drop (length (drop room bytes) - length (drop room bytes) % 16) (drop room bytes)} c.append_whole-2.result
    (kept-filled c.args.size room c.args.rest.now bytes left some (omega arith) enough c.told-rest) kept
