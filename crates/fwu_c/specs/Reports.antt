-- What is reported of a start, and the numbers that a caller in C is told.
use Rattle.std.specs.Prelude.{◌≡◌, ℕ, nat_lt, if◌then◌else◌, length, take, Result, Ok, Err, ⊤}
use Rattle.early_boot.specs.Started.{Started}
use Rattle.early_boot.specs.Ends.{Ended, booted, bad_layout, no_metadata, no_bank, lost, failed}
use Rattle.fwu_formats.specs.{Layout.Layout, declared.kinds.LayoutFault.LayoutFault}
use Rattle.fwu_formats.specs.declared.kinds.LayoutFault.TheVariants.{Short, BadMagic, BadSize, BadCrc, BadField, BeyondFlash}
use Rattle.fwu_c.specs.declared.report.Report.{Report}

-- the number of a boot's end
abbrev pub end_code : Ended → ℕ
end_code (booted b n) = 0
end_code (bad_layout f) = 1
end_code no_metadata = 2
end_code (no_bank active previous) = 3
end_code (lost n) = 4
end_code (failed n) = 5

-- the number of a layout's fault
abbrev pub fault_code : LayoutFault → ℕ
fault_code Short = 1
fault_code BadMagic = 2
fault_code BadSize = 3
fault_code BadCrc = 4
fault_code BadField = 5
fault_code BeyondFlash = 6

-- 0: a layout; else the number of its first fault
abbrev pub layout_code : Result Layout LayoutFault → ℕ
layout_code (Ok l) = 0
layout_code (Err f) = fault_code f

-- 7: the layout has no such bank
abbrev pub slots_code : ℕ → Result Layout LayoutFault → ℕ
slots_code bank (Err f) = fault_code f
slots_code bank (Ok L) = if nat_lt bank L.banks then 0 else 7

-- Each of these fields is that of the start. Of the layout's fault, the steps and the bytes nothing is said here.
pub record ReportsStart (b : Started) (r : Report) : Type 0 where
  pub bank : r.bank ≡ b.bank
  pub version : r.version ≡ b.version
  pub trials : r.trials ≡ b.trials
  pub counter : r.counter ≡ b.counter
  pub fallback : r.fallback ≡ (if b.fallback then 1 else 0)
  pub active : r.active ≡ b.meta.meta.active
  pub previous : r.previous ≡ b.meta.meta.previous
  pub images : r.images ≡ length b.layout.rows
  pub lengths : take r.images r.lengths ≡ b.lengths

-- nothing but the numbers of steps and of bytes changed
abbrev pub SameBut : Report → Report → Type 0
SameBut old new = new ≡ record old { steps = new.steps; bytes = new.bytes }

-- Each end has its own fields. A stop has none.
abbrev pub ReportsEnd : Ended → Report → Report → Type 0
ReportsEnd (booted b n) old r = ReportsStart b r
ReportsEnd (bad_layout f) old r = r.layout_fault ≡ fault_code f
ReportsEnd no_metadata old r = ⊤
ReportsEnd (no_bank active previous) old r = (r.active ≡ active) × (r.previous ≡ previous)
ReportsEnd stopped old r = SameBut old r
