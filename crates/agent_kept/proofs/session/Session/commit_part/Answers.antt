use Rattle.std.proofs.Common.{◌≡◌, ◌-◌, ◌<◌, List, set, get_or, take, length, arith, ap, ◌∙◌, length-set, get_or-set_same, get_or-set_other}
use Rattle.agent_kept.specs.{declared.parts.Part.Part, declared.parts.Part.TheVariants.Nothing, Sound.size_of}
use Rattle.agent_kept.proofs.Changes.{commit-sound, commits-size}
use Rattle.agent_kept.proofs.session.Session.commit_part.Goals as goal

pub invariant_of-self : goal.invariant_of-self
invariant_of-self c =
    let s = c.args.self.now in
    let below : c.args.number - 1 < length s.handles = omega arith in
    let image = c.args.image in
    let emptied : List Part = set s.parts image c.replace-part.new.dest in
    let within : image < length (take s.images s.rows) = s.sound.within (c.args.number - 1) image c.requires.writes in
    let room : image < length emptied = omega (arith, within, s.sound.few, length-set s.parts image c.replace-part.new.dest) in
    let size : size_of (get_or (set emptied image c.committed.result) image Nothing) ≡ size_of (get_or s.parts image Nothing) =
    ap size_of (get_or-set_same emptied image c.committed.result Nothing room) ∙ commits-size c.replace-part.result c.committed.result c.args.bit c.committed.ensures ∙ ap size_of c.replace-part.ensures.value in
    record {
      few = s.few;
      sound = commit-sound s.handles (c.args.number - 1) below s.staging (take s.images s.rows) s.parts image (set emptied image c.committed.result) c.requires.writes
          (λ i ne. get_or-set_other emptied image i c.committed.result Nothing ne ∙ get_or-set_other s.parts image i c.replace-part.new.dest Nothing ne) size s.sound;
    }
