use Rattle.std.proofs.Common.{◌≡◌, ℕ, ◌+◌, ◌-◌, ◌*◌, ◌%◌, ◌≤◌, length, take, drop, ap, ◌∙◌, arith}
use Rattle.std.proofs.lemmas.List.{length-drop, take_rest}
use Rattle.slot_writer.proofs.{Behind.reached, Appending.whole-appended}
use Rattle.slot_writer.proofs.writing.append_whole.Goals as goal

pub returns-clause-appends : goal.returns-clause-appends
returns-clause-appends g c tells =
    let bytes = c.args.bytes.now in
    let whole : ℕ = length bytes - length bytes % 16 in
    let s = g.D.Flash.told c.args.flash.now in
    let room : 4096 * c.args.first + c.args.size + length bytes ≤ length s.now = omega (arith, c.requires.inside, reached (c.args.size + length bytes), (g.met.D.Flash.sound c.args.flash.now tells).size) in
    let tail : length (drop whole bytes) ≡ length bytes - whole = length-drop whole bytes in
    let count : length bytes - whole ≡ 0 + length (take (length bytes - whole) (drop whole bytes)) = omega (arith, ap length (take_rest bytes whole), tail) in
    whole-appended c.args.first c.args.size whole c.args.rest.now bytes c.keep.new.rest s (g.D.Flash.told c.program_behind.new.flash) c.requires.granule (omega arith) room (c.in_ok-program_behind.ensures.programs tells)
    (ap (λ (k : ℕ). take k c.keep.new.rest) count ∙ c.keep.ensures ∙ take_rest bytes whole)
