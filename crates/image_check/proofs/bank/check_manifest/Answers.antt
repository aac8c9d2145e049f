use Rattle.std.proofs.Common.{◌-◌, ◌∙◌, length, sym, subst}
use Rattle.manifest_core.proofs.Passed.{sizes_fit}
use Rattle.image_check.specs.Passed.{HasImages}
use Rattle.image_check.proofs.Seen.{package-by, package-read}
use Rattle.image_check.proofs.bank.check_manifest.Goals as goal

pub first_bad-requires-clause-readable : goal.first_bad-requires-clause-readable
first_bad-requires-clause-readable g c =
    let images = c.args.images.now in
    record {
      there = c.requires.there;
      sizes = sizes_fit images.rows.now images.manifest.now c.in-Ok.version c.requires.there.manifest (sym c.test.ensures.is ∙ c.in-Ok.is);
    }

pub returns-in-None-clause-by_manifest : goal.returns-in-None-clause-by_manifest
returns-in-None-clause-by_manifest g c =
    let rows = c.args.images.now.rows.now in
    let manifest = c.args.images.now.manifest.now in
    let there = c.requires.there in
    let passes = g.V.Verifier.passes c.args.verifier.now in
    let is = sym c.test.ensures.is ∙ c.in-Ok.is in
    let sizes = sizes_fit rows manifest c.in-Ok.version there.manifest is in
    let images = subst (HasImages manifest (length rows - 1)) c.in-None.is c.in_ok-image.ensures.bad.some in
    c.of_counter.ensures.by_manifest passes rows manifest
    (package-read rows manifest there.some there.manifest passes c.in-Ok.version (sym c.accepts.ensures ∙ c.if-not-accepts.false) sizes images is)

pub returns-in-None-clause-passed : goal.returns-in-None-clause-passed
returns-in-None-clause-passed g c =
    let rows = c.args.images.now.rows.now in
    let manifest = c.args.images.now.manifest.now in
    let there = c.requires.there in
    let passes = g.V.Verifier.passes c.args.verifier.now in
    let is = sym c.test.ensures.is ∙ c.in-Ok.is in
    let sizes = sizes_fit rows manifest c.in-Ok.version there.manifest is in
    let images = subst (HasImages manifest (length rows - 1)) c.in-None.is c.in_ok-image.ensures.bad.some in
    c.of_counter.ensures.passed passes rows
    (package-by passes rows manifest c.in-Ok.version
    (package-read rows manifest there.some there.manifest passes c.in-Ok.version (sym c.accepts.ensures ∙ c.if-not-accepts.false) sizes images is))
