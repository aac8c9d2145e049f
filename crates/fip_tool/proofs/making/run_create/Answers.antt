use Rattle.std.proofs.Common.{Some, map, refl, ◌≢◌, ◌∷◌, [], ℕ, ap, ◌∙◌, sym}
use Rattle.std.proofs.lemmas.Result.{IfOk-weaker}
use Rattle.std.proofs.lemmas.List.{length-map}
use Rattle.fip_words.specs.{Values.NamedFile, Order.create, Order.part_view}
use Rattle.fip_tool.proofs.{Refusing.of-map, DoneBy.done-made}
use Rattle.host_io.specs.Access.{Asks}
use Rattle.fip_tool.specs.{Done.RefusesAlone, Lines.packed_line}
use Rattle.fip_making.specs.{Stops.exit_status, Values.create_value}
use Rattle.fip_tool.specs.declared.lines.Format.TheVariants as format
use Rattle.fip_making.proofs.{Refusing.if-err-all, Refusing.late-packing}
use Rattle.fip_tool.proofs.making.run_create.Goals as goal

pub returns : goal.returns
returns g c =
    let made = c.created-made in
    let put = c.put_made.ensures in
    done-made made.result format.Package c.args.out.now (λ told. create_value told c.args.align (map part_view c.args.named.now)) (λ told. refl) (IfOk-weaker made.result _ _ (λ m count. (m.frame.size, ap (λ (n : ℕ). packed_line n m.frame.size ∷ []) (count ∙ sym (length-map c.args.named.now part_view)))) made.ensures.count) (λ w. w) (late-packing (λ s late. late))
    made.ensures.reads (λ s own. own) made.ensures.told put.told put.puts made.ensures.pieces put.spares
    (λ access. g.met.H.Files.joins _ _ _ access) (λ access other. (of-map (λ (p : NamedFile). access ≢ Asks p.file) part_view c.args.named.now other.0, other.1))
    (if-err-all made.result (λ s. RefusesAlone g.H.Files (Some (create c.args.align c.args.out.now (map part_view c.args.named.now))) c.args.files.now made.new.files (exit_status s)) (λ s refuses access other. made.ensures.reads.files.spares access (of-map (λ (p : NamedFile). access ≢ Asks p.file) part_view c.args.named.now other)))
