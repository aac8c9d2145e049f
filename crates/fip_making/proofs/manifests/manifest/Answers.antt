use Rattle.std.proofs.Common.{◌∙◌, Vec, Err, ℕ, map, option_map}
use Rattle.std.specs.Global.{Global}
use Rattle.fip_words.specs.Order.{image_view}
use Rattle.manifest_core.specs.{Shown.row, declared.rows.Row.Row as CodeRow}
use Rattle.fip_making.proofs.{Packings.gives-same, Tables.gives-err, Tables.rose-from, ReadsBy.alone-asked, ReadsBy.alone-then}
use Rattle.fip_making.proofs.{ReadsBy.alone-then-stopped, Refusing.handed-on, Refusing.late-of-manifest}
use Rattle.fip_making.proofs.ManifestLemmas.{asks-refused, made-of, sizes-refuse, too-long-of, value-stopped}
use Rattle.fip_making.specs.declared.stops.Stop.TheVariants as stop
use Rattle.fip_making.proofs.manifests.manifest.Goals as goal

pub returns-in-Some-clause-told : goal.returns-in-Some-clause-told
returns-in-Some-clause-told g c = λ told e.
    gives-same (λ m. (m.0, m.1.items)) _ _ _ _ c.manifest_of_rows.result (λ r. absurd r)
    (made-of told c.args.security c.args.named.now c.in-Some.rows.items (rw c.in-Some.is at (c.in_ok-rows.ensures.told told (c.check_sizes.ensures.reads.files.same ∙ e))) (rw c.in-Some.is at c.in_ok-rows.ensures.count))
    c.manifest_of_rows.ensures.value

pub returns-in-None-clause-told : goal.returns-in-None-clause-told
returns-in-None-clause-told g c = λ told e.
    too-long-of told c.args.security c.args.named.now c.refusal.result (rw c.in-None.is at (c.in_ok-rows.ensures.told told (c.check_sizes.ensures.reads.files.same ∙ e))) c.refusal.ensures

pub returns-in_err-check_sizes-clause-told : goal.returns-in_err-check_sizes-clause-told
returns-in_err-check_sizes-clause-told g c =
    rw (handed-on c.from_residual.result c.in_err-check_sizes.field-0.0 c.from_residual.ensures.1) (λ told e.
    gives-err (λ (done : Unit {0}). done) (λ (m : ℕ × Vec ℕ Global). (m.0, m.1.items)) _ _ _ _ c.in_err-check_sizes.field-0.0 (λ r. r) (sizes-refuse told c.args.security (map image_view c.args.named.now) _) (c.in_err-check_sizes.ensures.told told e))

pub returns-in_err-rows-clause-told : goal.returns-in_err-rows-clause-told
returns-in_err-rows-clause-told g c =
    rw (handed-on c.from_residual-in_err-rows.result c.in_err-rows.field-0.0 c.from_residual-in_err-rows.ensures.1) (λ told e.
    gives-err (option_map (λ (v : Vec CodeRow Global). map row v.items)) (λ (m : ℕ × Vec ℕ Global). (m.0, m.1.items)) _ _ _ _ c.in_err-rows.field-0.0 (λ r. rose-from _ _ _ c.check_sizes.ensures.reads.files.later r) (value-stopped told c.args.security (map image_view c.args.named.now) _)
    (c.in_err-rows.ensures.told told (c.check_sizes.ensures.reads.files.same ∙ e)))

pub returns-in_err-rows-clause-reads : goal.returns-in_err-rows-clause-reads
returns-in_err-rows-clause-reads g c =
    rw (handed-on c.from_residual-in_err-rows.result c.in_err-rows.field-0.0 c.from_residual-in_err-rows.ensures.1)
    (alone-then-stopped g.met.H.Files.joins c.check_sizes.ensures.reads.files c.in_ok-check_sizes.ensures.reads.only.quiet late-of-manifest c.in_err-rows.ensures.reads)

pub returns-in-Some-clause-reads : goal.returns-in-Some-clause-reads
returns-in-Some-clause-reads g c =
    alone-then g.met.H.Files.joins c.check_sizes.ensures.reads.files c.in_ok-check_sizes.ensures.reads.only.quiet (λ s own. own)
    (alone-asked (λ s own. own) c.in_ok-rows.ensures.reads c.manifest_of_rows.result c.manifest_of_rows.ensures.asks)

pub returns-in-None-clause-reads : goal.returns-in-None-clause-reads
returns-in-None-clause-reads g c =
    alone-then g.met.H.Files.joins c.check_sizes.ensures.reads.files c.in_ok-check_sizes.ensures.reads.only.quiet (λ s own. own)
    (alone-asked (λ s own. own) c.in_ok-rows.ensures.reads (Err (stop.NoManifest c.refusal.result)) (asks-refused c.refusal.result))
