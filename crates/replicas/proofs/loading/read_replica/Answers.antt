use Rattle.std.proofs.Common.{◌∙◌, ap, sym, subst}
use Rattle.fwu_formats.specs.Metadata.{MetaRead, meta_read}
use Rattle.std.proofs.lemmas.Option.{same_Some}
use Rattle.replicas.specs.Which.{HasForm}
use Rattle.replicas.proofs.Reading.{read_is, none_is, has_form}
use Rattle.replicas.proofs.loading.read_replica.Goals as goal

pub returns-in-Ok-clause-value : goal.returns-in-Ok-clause-value
returns-in-Ok-clause-value g c tells =
    sym (ap (meta_read c.args.layout.now) (sym (c.in_ok-read_block.ensures.bytes tells)) ∙ read_is c.args.layout.now c.read_block.new.out c.in-Ok.meta (sym c.read.ensures.value ∙ c.in-Ok.is))

pub returns-in-Ok-clause-form : goal.returns-in-Ok-clause-form
returns-in-Ok-clause-form g c x is = subst (λ (m : MetaRead). HasForm m) (same_Some _ x is) (has_form c.args.layout.now c.read_block.new.out c.in-Ok.meta (sym c.read.ensures.value ∙ c.in-Ok.is))

pub returns-in-Err-clause-value : goal.returns-in-Err-clause-value
returns-in-Err-clause-value g c tells =
    sym (ap (meta_read c.args.layout.now) (sym (c.in_ok-read_block.ensures.bytes tells)) ∙ none_is c.args.layout.now c.read_block.new.out c.in-Err.field-0 (sym c.read.ensures.value ∙ c.in-Err.is))
