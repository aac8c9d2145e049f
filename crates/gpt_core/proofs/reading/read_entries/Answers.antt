use Rattle.std.proofs.Common.{◌∙◌, ap}
use Rattle.std.proofs.lemmas.Result.{IfOk-weaker}
use Rattle.gpt_core.specs.Table.{entries_at}
use Rattle.gpt_core.proofs.CopyRead.{entries_read}
use Rattle.gpt_core.proofs.reading.read_entries.Goals as goal

pub returns-clause-bytes : goal.returns-clause-bytes
returns-clause-bytes g c =
    let blocks = g.D.Flash.blocks c.args.flash.now in
    IfOk-weaker c.read_bytes.result _ _
    (λ v holds tells. holds tells
    ∙ entries_read c.args.copy blocks c.args.header.now (g.D.Flash.told c.args.flash.now).now c.entries_place-place.result c.blocks_for.result c.le32_at-number.result
    (c.entries_place-place.ensures ∙ ap (λ n. entries_at c.args.copy n c.blocks_for.result) c.blocks-blocks.ensures) c.blocks_for.ensures.value c.le32_at-number.ensures)
    c.read_bytes.ensures.bytes
