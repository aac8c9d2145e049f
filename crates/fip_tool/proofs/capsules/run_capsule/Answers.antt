use Rattle.std.proofs.Common.{Some, refl, ◌∷◌, [], ℕ, ap}
use Rattle.std.proofs.lemmas.Result.{IfOk-weaker}
use Rattle.fip_words.specs.Order.{capsule}
use Rattle.fip_tool.specs.{Done.RefusesAlone, Lines.capsule_line}
use Rattle.fip_making.specs.{Stops.exit_status, Values.capsule_value}
use Rattle.fip_tool.specs.declared.lines.Format.TheVariants as format
use Rattle.fip_tool.proofs.DoneBy.{done-made}
use Rattle.fip_making.proofs.{Refusing.if-err-all, Refusing.late-of-package, Refusing.late-packing}
use Rattle.fip_tool.proofs.capsules.run_capsule.Goals as goal

pub returns : goal.returns
returns g c =
    let made = c.capsule_of_package-made in
    let put = c.put_made.ensures in
    done-made made.result format.Capsule c.args.out.now (λ told. capsule_value told c.args.from.now) (λ told. refl) (IfOk-weaker made.result _ _ (λ m p. (p.0, p.1, m.frame.size, ap (λ (n : ℕ). capsule_line n m.frame.size ∷ []) p.2)) made.ensures.count) (λ w. w) (late-packing late-of-package)
    made.ensures.reads (λ s own. own) made.ensures.told put.told put.puts made.ensures.pieces put.spares
    (λ access. g.met.H.Files.joins _ _ _ access) (λ access other. other)
    (if-err-all made.result (λ s. RefusesAlone g.H.Files (Some (capsule c.args.from.now c.args.out.now)) c.args.files.now made.new.files (exit_status s)) (λ s refuses access other. made.ensures.reads.files.spares access (other)))
