use Rattle.std.proofs.Common.{◌-◌, ◌<◌, take, length, refl, arith}
use Rattle.agent_kept.specs.declared.parts.Part.TheVariants.{Open}
use Rattle.agent_kept.proofs.Changes.{open-sound}
use Rattle.agent_kept.proofs.session.Session.open_part.Goals as goal

pub invariant_of-self : goal.invariant_of-self
invariant_of-self c =
    let s = c.args.self.now in
    let below : c.args.number - 1 < length s.handles = omega arith in
    let room : c.args.image < length s.parts = omega (arith, c.requires.within, s.sound.few) in
    record {
      few = s.few;
      sound = open-sound s.handles (c.args.number - 1) below (take s.images s.rows) s.parts c.args.image (Open 0 c.new.result) c.requires.within room c.requires.closed refl refl s.staging c.requires.staging s.sound;
    }
