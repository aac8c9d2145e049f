use Rattle.std.proofs.Common.{◌∙◌, ◌++◌, ap, ℕ, List}
use Rattle.base_core.proofs.Spelled.{eight_spelled}
use Rattle.base_core.specs.Bytes.{le}
use Rattle.fwu_formats.specs.Package.{Entry}
use Rattle.fip_tables.specs.Frame.{toc_entry_bytes}
use Rattle.fip_tables.proofs.Plans.{appended}
use Rattle.fip_tables.proofs.frame.add_entry.Goals as goal

pub returns-clause-added : goal.returns-clause-added
returns-clause-added c =
    let v = c.args.bytes.now.items in
    let e = c.entry.inside in
    appended v _ _ _ _ e.guid (le 8 e.offset) (le 8 e.size) (le 8 e.flags)
    (c.in_ok-extend_from_slice.ensures.items ∙ ap (λ (x : List ℕ). v ++ x) c.bytes.ensures.value)
    (c.in_ok-extend_from_slice-2.ensures.items ∙ ap (λ (x : List ℕ). c.extend_from_slice.new.self.items ++ x) (c.to_le_bytes.ensures ∙ eight_spelled e.offset))
    (c.in_ok-extend_from_slice-3.ensures.items ∙ ap (λ (x : List ℕ). c.extend_from_slice-2.new.self.items ++ x) (c.to_le_bytes-2.ensures ∙ eight_spelled e.size))
    (c.in_ok-extend_from_slice-4.ensures.items ∙ ap (λ (x : List ℕ). c.extend_from_slice-3.new.self.items ++ x) (c.to_le_bytes-3.ensures ∙ eight_spelled e.flags))
    ∙ ap (λ (x : Entry). v ++ toc_entry_bytes x) c.entry.view_is
