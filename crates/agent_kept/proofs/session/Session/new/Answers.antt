use Rattle.std.proofs.Common.{◌≡◌, ◌++◌, false, List, length, take, replicate, sym, subst, arith}
use Rattle.std.proofs.lemmas.Grind.{common_steps}
use Rattle.fwu_formats.specs.Layout.{ImageRow}
use Rattle.agent_kept.specs.{declared.parts.Handle.TheVariants.Free, Sound.IsSoundKept}
use Rattle.agent_kept.proofs.Sounds.{new-sound, frees}
use Rattle.agent_kept.proofs.session.Session.new.Goals as goal

took : (xs ys zs : List ImageRow) → ys ≡ xs → take (length xs) (ys ++ zs) ≡ xs
took xs ys zs e = grind (arith, common_steps)

pub invariant_of-result : goal.invariant_of-result
invariant_of-result c = record {
  few = c.requires.few;
  sound = subst (λ (l : List ImageRow). IsSoundKept false l c.no_parts.result (replicate 32 Free)) (sym (took c.args.rows.now c.copy_from_slice.new.self _ (c.copy_from_slice.ensures.after)))
      (new-sound false c.args.rows.now c.no_parts.result (replicate 32 Free) c.requires.few c.requires.slots c.no_parts.ensures (frees 32));
}
