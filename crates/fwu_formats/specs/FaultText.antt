-- What is printed of a fault of a format.
use Rattle.std.specs.Prelude.{ℕ, List, ◌++◌, codes, decimal}
use Rattle.fwu_formats.specs.{declared.kinds.LayoutFault.LayoutFault, declared.kinds.FipFault.FipFault}
use Rattle.fwu_formats.specs.declared.kinds.CapsuleFault.{CapsuleFault}
use Rattle.fwu_formats.specs.declared.kinds.LayoutFault.TheVariants as layout
use Rattle.fwu_formats.specs.declared.kinds.FipFault.TheVariants as fip
use Rattle.fwu_formats.specs.declared.kinds.CapsuleFault.TheVariants as capsule

-- a layout fault's number
abbrev pub layout_fault_number : LayoutFault → ℕ
layout_fault_number layout.Short = 1
layout_fault_number layout.BadMagic = 2
layout_fault_number layout.BadSize = 3
layout_fault_number layout.BadCrc = 4
layout_fault_number layout.BadField = 5
layout_fault_number layout.BeyondFlash = 6

abbrev pub fip_fault_text : FipFault → List ℕ
fip_fault_text fip.ShortHeader = codes "short-header"
fip_fault_text fip.BadName = codes "bad-name"
fip_fault_text fip.ZeroSerial = codes "zero-serial"
fip_fault_text (fip.NoEnd i) = codes "no-end " ++ decimal i
fip_fault_text fip.TooMany = codes "too-many"
fip_fault_text (fip.Duplicate i) = codes "duplicate " ++ decimal i
fip_fault_text (fip.Beyond i) = codes "beyond " ++ decimal i

-- a capsule fault's number
abbrev pub capsule_fault_number : CapsuleFault → ℕ
capsule_fault_number capsule.ShortHeader = 1
capsule_fault_number capsule.NotFmp = 2
capsule_fault_number capsule.BadSize = 3
capsule_fault_number capsule.ShortFmp = 4
capsule_fault_number capsule.BadVersion = 5
capsule_fault_number capsule.TooMany = 6
capsule_fault_number (capsule.BadItem i) = 7
capsule_fault_number (capsule.Duplicate i) = 8
