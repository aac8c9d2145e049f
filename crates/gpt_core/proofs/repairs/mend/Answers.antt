use Rattle.std.proofs.Common.{◌≡◌, ℕ, ◌+◌, ◌*◌, ◌/◌, length, ap, sym, subst, ◌∙◌}
use Rattle.gpt_core.specs.Table.{Table, header_at, entries_at, blocks_of, entry_number_of, header_bytes}
use Rattle.gpt_core.specs.Repair.{Spells}
use Rattle.gpt_core.proofs.{Spelling.spells, Deciding.inside_copy}
use Rattle.flash_core.proofs.Spent.{spent_as}
use Rattle.gpt_core.proofs.repairs.mend.Goals as goal

pub returns-clause-steps : goal.returns-clause-steps
returns-clause-steps g c tells ready =
    let w = c.args.copy in
    let t = c.args.table.now in
    let n = g.D.Flash.blocks c.args.flash.now in
    let number = c.number_in_table-number.ensures in
    let spelled = c.spell.ensures ∙ ap (λ (k : ℕ). header_bytes w k t) c.blocks-blocks.ensures in
    c.repair_copy.ensures.steps tells (record {
      w = w;
      t = t;
      header_is = c.header_place-header.ensures ∙ ap (header_at w) c.blocks-blocks.ensures;
      first_is = c.entries_place-first.ensures ∙ ap (λ (k : ℕ). entries_at w k c.blocks_for.result) c.blocks-blocks.ensures ∙ ap (entries_at w n) (c.blocks_for.ensures.value ∙ ap blocks_of number.value);
      entries_are = c.as_slice.ensures.value ∙ ap (λ (u : Table). u.entries) c.table.view_is;
      spells = subst (Spells w n t) (sym spelled) (spells w n t c.requires.fits (g.met.D.Flash.sizes c.args.flash.now).1 number.disk number.first number.last);
      ready = ready;
    })

pub returns-clause-writes : goal.returns-clause-writes
returns-clause-writes g c =
    let w = c.args.copy in
    let t = c.args.table.now in
    let n = g.D.Flash.blocks c.args.flash.now in
    let number = c.number_in_table-number.ensures in
    let entries = ap length (c.as_slice.ensures.value ∙ ap (λ (u : Table). u.entries) c.table.view_is) in
    let spans = inside_copy w n t c.header_place-header.result c.entries_place-first.result (length c.as_slice.result.now) c.requires.fits
    (c.header_place-header.ensures ∙ ap (header_at w) c.blocks-blocks.ensures)
    (c.entries_place-first.ensures ∙ ap (λ (k : ℕ). entries_at w k c.blocks_for.result) c.blocks-blocks.ensures ∙ ap (entries_at w n) (c.blocks_for.ensures.value ∙ ap blocks_of number.value))
    entries in
    let size : length c.as_slice.result.now ≡ entry_number_of t * 128 = entries ∙ c.requires.fits.whole in
    let writes = c.repair_copy.ensures.writes _ _ spans in
    record {
      keeps = writes.keeps;
      goes = writes.goes;
      touches = writes.touches;
      spent = spent_as c.repair_copy.result (2 + 2 * ((length c.as_slice.result.now + 4095) / 4096)) (2 + 2 * blocks_of (entry_number_of t)) _ _ (ap (λ (n : ℕ). 2 + 2 * ((n + 4095) / 4096)) size) writes.spent;
    }
