use Rattle.std.proofs.Common.{◌∙◌, IsTrue, ap, sym, rules}
use Rattle.base_core.specs.Block.{block}
use Rattle.fwu_formats.specs.Metadata.{MetaRead, fits_meta, meta_read}
use Rattle.replicas.proofs.Reading.{by_none, found_is, found_loads}
use Rattle.replicas.proofs.loading.load_in.Goals as goal

pub returns-in-Some-clause-found : goal.returns-in-Some-clause-found
returns-in-Some-clause-found g c =
    let L = c.args.layout.now in
    let s = g.D.Flash.told c.args.flash.now in
    record {
      loads = λ tells.
          found_loads L c.in-Some.found.1 c.in-Some.found.0 s.now _ _ (c.in_ok-zero.ensures.value tells) (c.in_ok-one.ensures.value tells ∙ ap (λ t. meta_read L (block 2 t.now)) (c.in_ok-zero.ensures.reads.content tells)) c.in-Some.ensures.some;
      none = search rules;
      fits = found_is (λ (r : MetaRead). IsTrue (fits_meta L r.meta)) c.in-Some.found.1 c.in-Some.found.0 _ _ c.in_ok-zero.ensures.fits c.in_ok-one.ensures.fits c.in-Some.ensures.some;
      form = c.in-Some.ensures.form;
      reads = search rules;
    }

pub returns-in-None-clause-found : goal.returns-in-None-clause-found
returns-in-None-clause-found g c =
    let L = c.args.layout.now in
    let s = g.D.Flash.told c.args.flash.now in
    record {
      loads = search rules;
      none = λ e tells.
          by_none L s.now (sym (c.in_ok-zero.ensures.value tells) ∙ c.in-None.ensures.none.0)
          (sym (c.in_ok-one.ensures.value tells ∙ ap (λ t. meta_read L (block 2 t.now)) (c.in_ok-zero.ensures.reads.content tells)) ∙ c.in-None.ensures.none.1);
      fits = search rules;
      form = search rules;
      reads = search rules;
    }
