use Rattle.std.proofs.Common.{◌≡◌, ◌∙◌, Bool, Ok, Some, List, ap, arith, map, sym}
use Rattle.std.proofs.lemmas.List.{take_all}
use Rattle.std.specs.Prelude.{◌||◌}
use Rattle.host_io.specs.Contents.{Directory}
use Rattle.fip_words.specs.{Order.image_view, declared.values.ImageWord.ImageWord}
use Rattle.fip_making.specs.Stops.{IsLate}
use Rattle.fip_making.proofs.{Packings.gives-same, Tables.gives-err, Tables.rose-still}
use Rattle.fip_making.proofs.ManifestLemmas.{longs-more-at, longs_value, sizes-of, sizes-stopped-at}
use Rattle.fip_making.proofs.ReadsBy.{alone-then, alone-then-stopped, alone-wider, one-spared}
use Rattle.fip_making.proofs.Refusing.{handed-on, late-of-manifest}
use Rattle.fip_making.proofs.manifests.check_sizes.Goals.{then-is_long, else-is_long}
use Rattle.fip_making.proofs.manifests.check_sizes.Goals as goal

pub returns-in_err-more-clause-told : goal.returns-in_err-more-clause-told
returns-in_err-more-clause-told g c =
    rw (handed-on c.from_residual.result c.in_err-more.field-0.0 c.from_residual.ensures.1) (λ told e.
    gives-err (λ (long : Bool). long) (λ (done : Unit {0}). done) _ _ _ _ c.in_err-more.field-0.0 (λ r. rose-still _ _ _ (sym c.loop-one.invariant.quiet) r)
    (sizes-stopped-at told c.args.named.now c.loop-one.one-index c.one-item.result c.loop-one-test.true c.one-item.is _)
    (c.in_err-more.ensures.told told (c.loop-one.invariant.files.same ∙ e)))

pub loop-one-preserved : goal.loop-one-preserved
loop-one-preserved g c =
    let more = λ (told : Directory) (e : g.H.Files.contents c.args.files.now ≡ Some told).
    longs-more-at told c.args.named.now c.loop-one.one-index c.one-item.result c.loop-one-test.true c.one-item.is c.loop-one.is_long c.in_ok-more.more (c.loop-one.invariant.so-far told e)
    (c.in_ok-more.ensures.told told (c.loop-one.invariant.files.same ∙ e)) in record {
      files = (alone-then {IsOwn = IsLate} g.met.H.Files.joins c.loop-one.invariant.files c.loop-one.invariant.quiet (λ s late. late) (alone-wider (one-spared (λ (w : ImageWord). w.file.now) _ _ _ c.one-item.is c.loop-one-test.true) c.in_ok-more.ensures.reads)).files;
      quiet = c.in_ok-more.ensures.reads.only.quiet ∙ c.loop-one.invariant.quiet;
      so-far = λ told e.
          more told e
          ∙ elim c.if-is_long.branch [
            | then-is_long w ↦ ap (λ (b : Bool). Ok (b || c.in_ok-more.more)) w.if-is_long.true ∙ ap (λ (b : Bool). Ok b) (sym (w.is_long-is ∙ w.if-is_long.true))
            | else-is_long w ↦ ap (λ (b : Bool). Ok (b || c.in_ok-more.more)) w.if-is_long.false ∙ ap (λ (b : Bool). Ok b) (sym w.is_long-is)
          ];
    }

pub returns-clause-told : goal.returns-clause-told
returns-clause-told g c = λ told e.
    let all = take_all c.loop-one.one-index c.args.named.now (omega (arith, c.loop-one-test.false)) in
    gives-same (λ (done : Unit {0}). done) _ _ _ _ c.check_count.result (λ r. absurd r)
    (sizes-of told c.args.named.now c.loop-one.is_long (ap (λ (l : List ImageWord). longs_value told (map image_view l)) (sym all) ∙ c.loop-one.invariant.so-far told e))
    c.check_count.ensures.value

pub returns-in_err-more-clause-reads : goal.returns-in_err-more-clause-reads
returns-in_err-more-clause-reads g c =
    rw (handed-on c.from_residual.result c.in_err-more.field-0.0 c.from_residual.ensures.1)
    (alone-then-stopped g.met.H.Files.joins c.loop-one.invariant.files c.loop-one.invariant.quiet late-of-manifest (alone-wider (one-spared (λ (w : ImageWord). w.file.now) _ _ _ c.one-item.is c.loop-one-test.true) c.in_err-more.ensures.reads))
