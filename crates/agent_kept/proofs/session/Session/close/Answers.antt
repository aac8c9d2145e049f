use Rattle.std.proofs.Common.{◌-◌, ◌<◌, length, refl, arith}
use Rattle.agent_kept.specs.declared.parts.Handle.TheVariants.{Free}
use Rattle.agent_kept.proofs.{Changes.handle-sound, Sounds.not-free-reads}
use Rattle.agent_kept.proofs.session.Session.close.Goals as goal

pub invariant_of-self : goal.invariant_of-self
invariant_of-self c =
    let s = c.args.self.now in
    let below : c.args.number - 1 < length s.handles = omega arith in
    record {
      few = s.few;
      sound = handle-sound s.handles (c.args.number - 1) Free below s.staging _ s.parts refl (λ image at total e. absurd (not-free-reads image at total e)) s.sound;
    }
