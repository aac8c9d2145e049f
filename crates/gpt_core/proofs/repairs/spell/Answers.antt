use Rattle.std.proofs.Common.{◌++◌, List, ℕ, replicate, ap, ◌∙◌}
use Rattle.base_core.specs.{Bytes.overwritten, Crc.crc}
use Rattle.gpt_core.specs.Table.{header_with}
use Rattle.gpt_core.proofs.Spelling.{over_zeros}
use Rattle.gpt_core.proofs.repairs.spell.Goals as goal

pub returns : goal.returns
returns c =
    let t = c.args.table.now in
    let sum = c.crc32-sum.ensures ∙ ap crc c.header_of.ensures.bytes in
    let head = c.header_of-header.ensures.bytes ∙ ap (header_with c.args.copy c.args.blocks t) sum in
    let zeros = c.clear.ensures ∙ ap (λ (n : ℕ). replicate {A = ℕ} n 0) c.requires.size in
    over_zeros c.header_of-header.result c.put_at.new.image c.header_of-header.ensures.long (c.put_at.ensures ∙ ap (overwritten 0 c.header_of-header.result) zeros)
    ∙ ap (λ (l : List ℕ). l ++ replicate 4004 0) head
