use Rattle.std.proofs.Common.{◌∙◌, ap, sym, ℕ}
use Rattle.base_core.specs.Block.{block}
use Rattle.flash_core.specs.Told.{Told}
use Rattle.gpt_core.specs.Table.{header_at, is_header, table_entries_in}
use Rattle.gpt_core.proofs.CopyRead.{no_header, copy_read, table_fits}
use Rattle.gpt_core.proofs.reading.read_copy.Goals as goal

pub returns-then-not-is_header_of-clause-value : goal.returns-then-not-is_header_of-clause-value
returns-then-not-is_header_of-clause-value g c tells =
    let s = g.D.Flash.told c.args.flash.now in
    let blocks = g.D.Flash.blocks c.args.flash.now in
    let stands = c.in_ok-read_block.ensures.bytes tells ∙ ap (λ (b : ℕ). block b s.now) (c.header_place.ensures ∙ ap (header_at c.args.copy) c.blocks-blocks.ensures) in
    no_header c.args.copy blocks s.now c.read_block.new.out stands
    (sym (c.is_header_of.ensures ∙ ap (λ n. is_header c.args.copy n c.read_block.new.out) c.blocks-blocks.ensures) ∙ c.if-not-is_header_of.true)

pub returns-clause-value : goal.returns-clause-value
returns-clause-value g c tells =
    let s = g.D.Flash.told c.args.flash.now in
    let blocks = g.D.Flash.blocks c.args.flash.now in
    let header = c.read_block.new.out in
    let stands = c.in_ok-read_block.ensures.bytes tells ∙ ap (λ (b : ℕ). block b s.now) (c.header_place.ensures ∙ ap (header_at c.args.copy) c.blocks-blocks.ensures) in
    c.checked_by.ensures
    ∙ copy_read c.args.copy blocks s.now header c.in_ok-entries.entries.items stands
    (sym (c.is_header_of.ensures ∙ ap (λ n. is_header c.args.copy n header) c.blocks-blocks.ensures) ∙ c.if-not-is_header_of.false)
    (c.in_ok-entries.ensures.bytes tells
    ∙ ap (λ n. table_entries_in c.args.copy n header (g.D.Flash.told c.read_block.new.flash).now) c.in_ok-read_block.ensures.size
    ∙ ap (λ (t : Told). table_entries_in c.args.copy blocks header t.now) (c.in_ok-read_block.ensures.content tells))

pub returns-clause-fits : goal.returns-clause-fits
returns-clause-fits g c x is =
    table_fits c.args.copy (g.D.Flash.blocks c.args.flash.now) c.read_block.new.out c.in_ok-entries.entries.items x
    (sym (c.is_header_of.ensures ∙ ap (λ n. is_header c.args.copy n c.read_block.new.out) c.blocks-blocks.ensures) ∙ c.if-not-is_header_of.false)
    c.in_ok-entries.ensures.count (sym c.checked_by.ensures ∙ is)
