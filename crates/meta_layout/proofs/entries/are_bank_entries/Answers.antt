use Rattle.std.proofs.Common.{◌+◌, ◌*◌, ◌∙◌, arith, below_more, sym}
use Rattle.fwu_formats.specs.Metadata.{has_bank_entry}
use Rattle.meta_layout.proofs.ImageRows.{range-true, range-false}
use Rattle.meta_layout.proofs.entries.are_bank_entries.Goals as goal

pub loop-bank-preserved : goal.loop-bank-preserved
loop-bank-preserved c = below_more _ _ c.loop-bank.invariant (sym c.is_bank_entry.ensures ∙ c.if-not-is_bank_entry.false)

pub returns-then-not-is_bank_entry : goal.returns-then-not-is_bank_entry
returns-then-not-is_bank_entry c =
    range-false (λ bank. has_bank_entry c.args.guid.now c.args.block.now (c.args.at + 32 + 24 * bank)) 0 c.args.banks c.loop-bank.bank (omega arith) (omega arith) (sym c.is_bank_entry.ensures ∙ c.if-not-is_bank_entry.true)

pub returns : goal.returns
returns c = range-true (λ bank. has_bank_entry c.args.guid.now c.args.block.now (c.args.at + 32 + 24 * bank)) c.args.banks (λ i lt. c.loop-bank.invariant i (omega arith))
