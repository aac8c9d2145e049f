use Rattle.std.proofs.Common.{◌++◌, take, ap, ◌∙◌, ℕ, rules}
use Rattle.base_core.specs.{Bytes.le, Crc.crc}
use Rattle.gpt_core.specs.Table.{Table, entries_at, blocks_of, entry_number_of, header_back}
use Rattle.gpt_core.proofs.Spelling.{put_four}
use Rattle.gpt_core.proofs.repairs.put_back.Goals as goal

pub returns : goal.returns
unfolding header_back
returns c =
    let t = c.args.table.now in
    let number = c.number_in_table-number.ensures.value in
    record {
      next_is = search rules;
      front =
          put_four (take c.args.at c.args.out.now) _ _ _ _ (le 8 (entries_at c.args.copy c.args.blocks (blocks_of (entry_number_of t)))) (le 4 (entry_number_of t)) (le 4 128) (le 4 (crc t.entries))
          (c.put8-place.ensures.front ∙ ap (λ (n : ℕ). take c.args.at c.args.out.now ++ le 8 n) (c.entries_place.ensures ∙ ap (entries_at c.args.copy c.args.blocks) (c.blocks_for.ensures.value ∙ ap blocks_of number)))
          (c.put4-count.ensures.front ∙ ap (λ (n : ℕ). take c.put8-place.result c.put8-place.new.out ++ le 4 n) number)
          c.put4-entry.ensures.front
          (c.put4.ensures.front ∙ ap (λ (n : ℕ). take c.put4-entry.result c.put4-entry.new.out ++ le 4 n) (c.crc32.ensures ∙ ap crc (c.as_slice.ensures.value ∙ ap (λ (u : Table). u.entries) c.table.view_is)));
      size = search rules;
    }
