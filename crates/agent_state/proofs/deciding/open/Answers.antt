use Rattle.std.proofs.Common.{List, sym, ap, ◌∙◌}
use Rattle.fwu_formats.specs.Layout.{ImageRow, find_image}
use Rattle.base_core.specs.Bytes.{same_bytes}
use Rattle.agent_state.proofs.Replies as replies
use Rattle.agent_state.proofs.deciding.open.Goals as goal

pub returns-then-not-is-clause-decides : goal.returns-then-not-is-clause-decides
returns-then-not-is-clause-decides c = λ m boot passes counter E s staged bytes speaks fits.
    replies.open-unknown E s boot _ _ bytes c.args.guid.now c.args.op c.args.total
    (ap (λ (l : List ImageRow). find_image l c.args.guid.now) (sym speaks.rows) ∙ sym c.find.ensures.value ∙ c.in-None.is)
    (sym (c.is.ensures ∙ ap (same_bytes c.args.guid.now) c.directory_guid.ensures) ∙ c.if-not-is.true)

pub returns-in-Some-clause-decides : goal.returns-in-Some-clause-decides
returns-in-Some-clause-decides c = c.open_image.ensures.decides c.args.guid.now (sym c.find.ensures.value ∙ c.in-Some.is)

pub returns-else-not-is-clause-decides : goal.returns-else-not-is-clause-decides
returns-else-not-is-clause-decides c = c.open_directory.ensures.decides c.args.guid.now (sym c.find.ensures.value ∙ c.in-None.is) (sym (c.is.ensures ∙ ap (same_bytes c.args.guid.now) c.directory_guid.ensures) ∙ c.if-not-is.false)

pub returns-in-Some-clause-asked : goal.returns-in-Some-clause-asked
returns-in-Some-clause-asked c = λ m. c.open_image.ensures.asked m c.args.guid.now (sym c.find.ensures.value ∙ c.in-Some.is)

pub returns-else-not-is-clause-asked : goal.returns-else-not-is-clause-asked
returns-else-not-is-clause-asked c = λ m. c.open_directory.ensures.asked m c.args.guid.now (sym c.find.ensures.value ∙ c.in-None.is)
