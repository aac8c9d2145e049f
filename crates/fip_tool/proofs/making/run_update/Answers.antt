use Rattle.std.proofs.Common.{◌⊎◌, inl, inr, Some, map, refl, ◌≢◌, ◌∷◌, [], ℕ, ap}
use Rattle.std.proofs.lemmas.Result.{IfErr-weaker, IfOk-weaker}
use Rattle.fip_words.specs.{Values.NamedFile, Order.update, Order.part_view}
use Rattle.fip_tool.proofs.{Refusing.of-map, Refusing.packing-six, DoneBy.done-made}
use Rattle.host_io.specs.{Access.Asks, Reads.ReadsFile}
use Rattle.fip_making.specs.{Stops.IsLate, Stops.PackingOr, Stops.exit_status, Values.update_value}
use Rattle.fip_tool.specs.{Done.RefusesAlone, Lines.packed_line}
use Rattle.fip_tool.specs.declared.lines.Format.TheVariants as format
use Rattle.fip_making.proofs.{Refusing.late-of-entries, Refusing.late-packing}
use Rattle.fip_tool.proofs.making.run_update.Goals as goal

pub returns : goal.returns
returns g c =
    let made = c.updated-made in
    let put = c.put_made.ensures in
    done-made made.result format.Package c.args.remade.now.out.now (λ told. update_value told c.args.remade.now.align c.args.remade.now.from.now (map part_view c.args.named.now)) (λ told. refl) (IfOk-weaker made.result _ _ (λ m p. (p.0, p.1, m.frame.size, p.2, ap (λ (n : ℕ). packed_line n m.frame.size ∷ []) p.3)) made.ensures.count) (λ w. w) (late-packing late-of-entries)
    made.ensures.reads (λ s own. own) made.ensures.told put.told put.puts made.ensures.pieces put.spares
    (λ access. g.met.H.Files.joins _ _ _ access) (λ access other. ((other.0, of-map (λ (p : NamedFile). access ≢ Asks p.file) part_view c.args.named.now other.1), other.2))
    (IfErr-weaker made.result (λ s. PackingOr IsLate s ⊎ ReadsFile g.H.Files c.args.remade.now.from.now c.args.files.now made.new.files)
    (λ s. RefusesAlone g.H.Files (Some (update c.args.remade.now.align c.args.remade.now.from.now c.args.remade.now.out.now (map part_view c.args.named.now))) c.args.files.now made.new.files (exit_status s))
    (λ s by refuses access other. elim by [
      | inl packing ↦ made.ensures.reads.files.spares access (other.0, of-map (λ (p : NamedFile). access ≢ Asks p.file) part_view c.args.named.now (other.1 (packing-six s packing refuses)))
      | inr reads ↦ reads.spares access other.0
    ]) made.ensures.package)
