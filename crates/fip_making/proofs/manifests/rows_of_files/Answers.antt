use Rattle.std.proofs.Common.{◌≡◌, ◌∙◌, Ok, Option, List, Vec, ap, map, option_map, arith, sym, take}
use Rattle.std.proofs.lemmas.List.{take_all}
use Rattle.std.specs.Global.{Global}
use Rattle.fwu_formats.specs.Manifest.{Row}
use Rattle.fip_words.specs.{Order.image_view, declared.values.ImageWord.ImageWord}
use Rattle.manifest_core.specs.{Shown.row, declared.rows.Row.Row as CodeRow}
use Rattle.fip_making.proofs.{Tables.gives-err, Tables.rose-still, Refusing.handed-on}
use Rattle.fip_making.proofs.ManifestLemmas.{count-more, rows-more-at, rows_value, seen-more, stopped-at}
use Rattle.fip_making.proofs.ReadsBy.{alone-starved, alone-then, alone-then-stopped, alone-wider, one-spared}
use Rattle.fip_making.specs.Stops.{IsLate}
use Rattle.fip_making.specs.declared.stops.Stop.TheVariants as stop
use Rattle.fip_making.proofs.manifests.rows_of_files.Goals as goal

pub returns-in_err-more-clause-told : goal.returns-in_err-more-clause-told
returns-in_err-more-clause-told g c =
    rw (handed-on c.from_residual.result c.in_err-more.field-0.0 c.from_residual.ensures.1) (λ told e.
    gives-err (option_map row) (option_map (λ (v : Vec CodeRow Global). map row v.items)) _ _ _ _ c.in_err-more.field-0.0 (λ r. rose-still _ _ _ (sym c.loop-one.invariant.quiet) r)
    (stopped-at told c.args.named.now c.loop-one.one-index c.one-item.result c.loop-one-test.true c.one-item.is _)
    (c.in_err-more.ensures.told told (c.loop-one.invariant.files.same ∙ e)))

pub loop-one-preserved : goal.loop-one-preserved
loop-one-preserved g c = record {
  files = (alone-then {IsOwn = IsLate} g.met.H.Files.joins c.loop-one.invariant.files c.loop-one.invariant.quiet (λ s late. late) (alone-wider (one-spared (λ (w : ImageWord). w.file.now) _ _ _ c.one-item.is c.loop-one-test.true) c.in_ok-more.ensures.reads)).files;
  quiet = c.in_ok-more.ensures.reads.only.quiet ∙ c.loop-one.invariant.quiet;
  count = count-more (λ v. v.items) c.loop-one.rows c.in_ok-rows.rows c.in_ok-more.more c.loop-one.one-index c.in_ok-rows.ensures c.loop-one.invariant.count;
  so-far = λ told e.
      rows-more-at told c.args.named.now c.loop-one.one-index c.one-item.result c.loop-one-test.true c.one-item.is
      (option_map (λ v. map row v.items) c.loop-one.rows) (option_map row c.in_ok-more.more) (c.loop-one.invariant.so-far told e)
      (c.in_ok-more.ensures.told told (c.loop-one.invariant.files.same ∙ e))
      ∙ ap (λ (r : Option (List Row)). Ok r) (sym (seen-more (λ v. v.items) c.loop-one.rows c.in_ok-rows.rows c.in_ok-more.more c.in_ok-rows.ensures));
}

pub returns-clause-told : goal.returns-clause-told
returns-clause-told g c = λ told e.
    let all : take c.loop-one.one-index c.args.named.now ≡ c.args.named.now = take_all c.loop-one.one-index c.args.named.now (omega arith) in
    ap (λ (l : List ImageWord). rows_value told (map image_view l)) (sym all) ∙ c.loop-one.invariant.so-far told e

pub returns-in_err-more-clause-reads : goal.returns-in_err-more-clause-reads
returns-in_err-more-clause-reads g c =
    rw (handed-on c.from_residual.result c.in_err-more.field-0.0 c.from_residual.ensures.1)
    (alone-then-stopped g.met.H.Files.joins c.loop-one.invariant.files c.loop-one.invariant.quiet (λ s late. late) (alone-wider (one-spared (λ (w : ImageWord). w.file.now) _ _ _ c.one-item.is c.loop-one-test.true) c.in_err-more.ensures.reads))

pub returns-in_err-rows-clause-reads : goal.returns-in_err-rows-clause-reads
returns-in_err-rows-clause-reads g c =
    let read = alone-wider (one-spared (λ (w : ImageWord). w.file.now) _ _ _ c.one-item.is c.loop-one-test.true) c.in_ok-more.ensures.reads in
    rw (handed-on c.from_residual-in_err-rows.result stop.NoMemory c.from_residual-in_err-rows.ensures.1)
    (alone-then g.met.H.Files.joins c.loop-one.invariant.files c.loop-one.invariant.quiet (λ s late. late) (alone-starved tt read.files read.only.quiet))
