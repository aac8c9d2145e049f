use Rattle.std.proofs.Common.{◌++◌, take, ap, ◌∙◌, ℕ, rules}
use Rattle.base_core.specs.Bytes.{le}
use Rattle.gpt_core.specs.Table.{Table, header_at, other, header_places}
use Rattle.gpt_core.proofs.Spelling.{put_five}
use Rattle.gpt_core.proofs.repairs.put_places.Goals as goal

pub returns : goal.returns
unfolding header_places
returns c =
    record {
      next_is = search rules;
      front =
          put_five (take c.args.at c.args.out.now) _ _ _ _ _ (le 4 0) (le 8 (header_at c.args.copy c.args.blocks)) (le 8 (header_at (other c.args.copy) c.args.blocks)) (le 8 c.args.table.now.first) (le 8 c.args.table.now.last)
          c.put4-zero.ensures.front
          (c.put8-own.ensures.front ∙ ap (λ (n : ℕ). take c.put4-zero.result c.put4-zero.new.out ++ le 8 n) c.header_place.ensures)
          (c.put8-beside.ensures.front ∙ ap (λ (n : ℕ). take c.put8-own.result c.put8-own.new.out ++ le 8 n) (c.header_place-2.ensures ∙ ap (λ k. header_at k c.args.blocks) c.other_copy.ensures))
          (c.put8-first.ensures.front ∙ ap (λ (t : Table). take c.put8-beside.result c.put8-beside.new.out ++ le 8 t.first) c.table.view_is)
          (c.put8.ensures.front ∙ ap (λ (t : Table). take c.put8-first.result c.put8-first.new.out ++ le 8 t.last) c.table.view_is);
      size = search rules;
    }
