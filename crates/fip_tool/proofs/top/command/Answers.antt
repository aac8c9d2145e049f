use Rattle.std.proofs.Common.{List, Some, ℕ, ap, map, refl, sym, ◌∙◌}
use Rattle.fip_words.specs.Order.{image_view, part_view, view}
use Rattle.fip_words.specs.Order as asks
use Rattle.fip_tool.proofs.DoneBy.{done-with-files, done-with-source}
use Rattle.fip_tool.proofs.top.command.Goals as goal

pub run_unpack-requires : goal.run_unpack-requires
run_unpack-requires g c = record { other = c.requires.other c.in-Unpack.from.now c.in-Unpack.prefix.now c.in-Unpack.names.items (ap view c.in-Unpack.is) }

pub returns-in-Info : goal.returns-in-Info
returns-in-Info g c =
    done-with-files g.met.I.Source.at_rest (asks.info c.in-Info.file.now) (ap (λ o. Some (view o)) c.in-Info.is) refl c.info.ensures.done

pub returns-in-InfoOfSource : goal.returns-in-InfoOfSource
returns-in-InfoOfSource g c = done-with-source (ap (λ o. Some (view o)) c.in-InfoOfSource.is) (g.met.H.Files.at_rest c.args.files.now) c.info_of_source.ensures

pub returns-in-Create : goal.returns-in-Create
returns-in-Create g c =
    let o = c.in-Create in
    done-with-files g.met.I.Source.at_rest (asks.create o.align o.out.now (map part_view c.as_slice.result.now))
    (ap (λ o. Some (view o)) o.is ∙ ap (λ parts. Some (asks.create o.align o.out.now (map part_view parts))) (sym c.as_slice.ensures.value)) refl
    c.run_create.ensures

pub returns-in-Update : goal.returns-in-Update
returns-in-Update g c =
    let o = c.in-Update in
    let r = c.new-remade in
    done-with-files g.met.I.Source.at_rest (asks.update r.result.align r.result.from.now r.result.out.now (map part_view c.as_slice-in-Update.result.now))
    (ap (λ o. Some (view o)) o.is ∙ ap (λ parts. Some (asks.update o.align o.from.now o.out.now (map part_view parts))) (sym c.as_slice-in-Update.ensures.value)
    ∙ ap (λ (n : ℕ). Some (asks.update n o.from.now o.out.now (map part_view c.as_slice-in-Update.result.now))) (sym r.ensures.0)
    ∙ ap (λ (f : List ℕ). Some (asks.update r.result.align f o.out.now (map part_view c.as_slice-in-Update.result.now))) (sym r.ensures.1)
    ∙ ap (λ (f : List ℕ). Some (asks.update r.result.align r.result.from.now f (map part_view c.as_slice-in-Update.result.now))) (sym r.ensures.2)) refl
    c.run_update.ensures

pub returns-in-Remove : goal.returns-in-Remove
returns-in-Remove g c =
    let o = c.in-Remove in
    let r = c.new-remade-in-Remove in
    done-with-files g.met.I.Source.at_rest (asks.remove r.result.align r.result.from.now r.result.out.now c.as_slice-in-Remove.result.now)
    (ap (λ o. Some (view o)) o.is ∙ ap (λ names. Some (asks.remove o.align o.from.now o.out.now names)) (sym c.as_slice-in-Remove.ensures.value)
    ∙ ap (λ (n : ℕ). Some (asks.remove n o.from.now o.out.now c.as_slice-in-Remove.result.now)) (sym r.ensures.0)
    ∙ ap (λ (f : List ℕ). Some (asks.remove r.result.align f o.out.now c.as_slice-in-Remove.result.now)) (sym r.ensures.1)
    ∙ ap (λ (f : List ℕ). Some (asks.remove r.result.align r.result.from.now f c.as_slice-in-Remove.result.now)) (sym r.ensures.2)) refl
    c.run_remove.ensures

pub returns-in-Unpack : goal.returns-in-Unpack
returns-in-Unpack g c =
    let o = c.in-Unpack in
    done-with-files g.met.I.Source.at_rest (asks.unpack o.from.now o.prefix.now c.as_slice-in-Unpack.result.now)
    (ap (λ o. Some (view o)) o.is ∙ ap (λ names. Some (asks.unpack o.from.now o.prefix.now names)) (sym c.as_slice-in-Unpack.ensures.value)) refl
    c.run_unpack.ensures

pub returns-in-Manifest : goal.returns-in-Manifest
returns-in-Manifest g c =
    let o = c.in-Manifest in
    done-with-files g.met.I.Source.at_rest (asks.manifest o.out.now o.security (map image_view c.as_slice-in-Manifest.result.now))
    (ap (λ o. Some (view o)) o.is ∙ ap (λ rows. Some (asks.manifest o.out.now o.security (map image_view rows))) (sym c.as_slice-in-Manifest.ensures.value)) refl
    c.run_manifest.ensures

pub returns-in-Capsule : goal.returns-in-Capsule
returns-in-Capsule g c =
    done-with-files g.met.I.Source.at_rest (asks.capsule c.in-Capsule.from.now c.in-Capsule.out.now) (ap (λ o. Some (view o)) c.in-Capsule.is) refl c.run_capsule.ensures

pub returns-in-Package : goal.returns-in-Package
returns-in-Package g c =
    done-with-files g.met.I.Source.at_rest (asks.repackage c.in-Package.align c.in-Package.from.now c.in-Package.out.now) (ap (λ o. Some (view o)) c.in-Package.is) refl c.run_package.ensures
