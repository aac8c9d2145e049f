use Rattle.std.proofs.Common.{◌-◌, ◌<◌, length, refl, arith}
use Rattle.agent_kept.specs.declared.parts.Handle.TheVariants.{Reads}
use Rattle.agent_kept.proofs.Changes.{handle-sound, reader-ends}
use Rattle.agent_kept.proofs.session.Session.set_reader.Goals as goal

pub invariant_of-self : goal.invariant_of-self
invariant_of-self c =
    let s = c.args.self.now in
    let below : c.args.number - 1 < length s.handles = omega arith in
    record {
      few = s.few;
      sound = handle-sound s.handles (c.args.number - 1) (Reads c.args.image c.args.at c.args.total) below s.staging _ s.parts refl (reader-ends c.args.image c.args.at c.args.total c.requires.within) s.sound;
    }
