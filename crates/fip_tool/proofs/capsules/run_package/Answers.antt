use Rattle.std.proofs.Common.{Some, refl, ◌∷◌, [], ℕ, ap}
use Rattle.std.proofs.lemmas.Result.{IfOk-weaker}
use Rattle.fip_words.specs.Order.{repackage}
use Rattle.fip_tool.specs.{Done.RefusesAlone, Lines.packed_line}
use Rattle.fip_making.specs.{Stops.exit_status, Values.repackage_value}
use Rattle.fip_tool.specs.declared.lines.Format.TheVariants as format
use Rattle.fip_tool.proofs.DoneBy.{done-made}
use Rattle.fip_making.proofs.{Refusing.if-err-all, Refusing.late-of-capsule, Refusing.late-packing}
use Rattle.fip_tool.proofs.capsules.run_package.Goals as goal

pub returns : goal.returns
returns g c =
    let made = c.package_of_capsule-made in
    let put = c.put_made.ensures in
    done-made made.result format.Package c.args.out.now (λ told. repackage_value told c.args.align c.args.from.now) (λ told. refl) (IfOk-weaker made.result _ _ (λ m p. (p.0, p.1, m.frame.size, ap (λ (n : ℕ). packed_line n m.frame.size ∷ []) p.2)) made.ensures.count) (λ w. w) (late-packing late-of-capsule)
    made.ensures.reads (λ s own. own) made.ensures.told put.told put.puts made.ensures.pieces put.spares
    (λ access. g.met.H.Files.joins _ _ _ access) (λ access other. other)
    (if-err-all made.result (λ s. RefusesAlone g.H.Files (Some (repackage c.args.align c.args.from.now c.args.out.now)) c.args.files.now made.new.files (exit_status s)) (λ s refuses access other. made.ensures.reads.files.spares access (other)))
