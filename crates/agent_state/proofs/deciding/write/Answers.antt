use Rattle.std.proofs.Common.{◌-◌, sym, ap, ◌∙◌, arith}
use Rattle.std.proofs.lemmas.Bool.{lt-ltb, le-ltb}
use Rattle.agent_kept.specs.Kept.{kept, handles_meant, staging_meant, handle_meant}
use Rattle.agent_state.proofs.Machine as machine
use Rattle.agent_state.proofs.Replies as replies
use Rattle.agent_state.proofs.deciding.write.Goals as goal

pub returns-in-Free-clause-decides : goal.returns-in-Free-clause-decides
returns-in-Free-clause-decides c = λ m boot passes counter E s staged bytes speaks fits.
    let k = kept c.args.session.now in
    let stg = staging_meant k staged in
    let hs = handles_meant k in
    replies.write-free E s boot stg hs bytes c.args.handle (machine.handle-is k c.args.handle c.handle.result c.handle.ensures.zero c.handle.ensures.at ∙ ap handle_meant c.in-Free.is)

pub returns-in-Reads-clause-decides : goal.returns-in-Reads-clause-decides
returns-in-Reads-clause-decides c = λ m boot passes counter E s staged bytes speaks fits.
    let k = kept c.args.session.now in
    let stg = staging_meant k staged in
    let hs = handles_meant k in
    replies.write-reads E s boot stg hs bytes c.args.handle c.in-Reads.image c.in-Reads.at (machine.handle-is k c.args.handle c.handle.result c.handle.ensures.zero c.handle.ensures.at ∙ ap handle_meant c.in-Reads.is)

pub returns-then-from-length-clause-decides : goal.returns-then-from-length-clause-decides
returns-then-from-length-clause-decides c = λ m boot passes counter E s staged bytes speaks fits.
    let k = kept c.args.session.now in
    let stg = staging_meant k staged in
    let hs = handles_meant k in
    let there = machine.handle-place k c.args.handle c.handle.result c.handle.ensures.zero c.handle.ensures.at (λ e. machine.free-writes (sym e ∙ c.in-Writes.is)) ∙ c.in-Writes.is in
    let sound = c.args.session.now.sound in
    let lt = sound.within (c.args.handle - 1) c.in-Writes.image there in
    let long = machine.staged-long k staged c.in-Writes.image speaks.kept lt (sound.staged (c.args.handle - 1) c.in-Writes.image there) in
    let slot = machine.slot-is E k c.in-Writes.image speaks.rows in
    let size = sound.sizes c.in-Writes.image lt in
    replies.write-full E s boot stg hs bytes c.args.handle c.in-Writes.image (machine.handle-is k c.args.handle c.handle.result c.handle.ensures.zero c.handle.ensures.at ∙ ap handle_meant c.in-Writes.is) (lt-ltb _ _ (omega (arith, long, slot, size, fits, c.if-from-length.true, c.from.ensures, c.slot.ensures, c.size-at.ensures)))

pub returns-else-from-length-clause-decides : goal.returns-else-from-length-clause-decides
returns-else-from-length-clause-decides c = λ m boot passes counter E s staged bytes speaks fits.
    let k = kept c.args.session.now in
    let stg = staging_meant k staged in
    let hs = handles_meant k in
    let there = machine.handle-place k c.args.handle c.handle.result c.handle.ensures.zero c.handle.ensures.at (λ e. machine.free-writes (sym e ∙ c.in-Writes.is)) ∙ c.in-Writes.is in
    let sound = c.args.session.now.sound in
    let lt = sound.within (c.args.handle - 1) c.in-Writes.image there in
    let long = machine.staged-long k staged c.in-Writes.image speaks.kept lt (sound.staged (c.args.handle - 1) c.in-Writes.image there) in
    let slot = machine.slot-is E k c.in-Writes.image speaks.rows in
    let size = sound.sizes c.in-Writes.image lt in
    replies.write-does E s boot stg hs bytes c.args.handle c.in-Writes.image _ _ (machine.handle-is k c.args.handle c.handle.result c.handle.ensures.zero c.handle.ensures.at ∙ ap handle_meant c.in-Writes.is) (le-ltb _ _ (omega (arith, long, slot, size, fits, c.if-from-length.false, c.from.ensures, c.slot.ensures, c.size-at.ensures)))
