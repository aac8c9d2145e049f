-- What a reading of a file answers, and when it fails.
use Rattle.std.specs.Prelude.{◌≡◌, ◌≤◌, ◌+◌, ◌⊎◌, ℕ, List, Option, Result, Ok, Err, OnOk, All, IsTrue, length, map}
use Rattle.base_core.specs.Counts.{Rose}
use Rattle.host_io.specs.Contents.{Directory}
use Rattle.fwu_formats.specs.{Layout.are_distinct, Package.Entry, Package.Toc, Capsule.usual_serial}
use Rattle.fwu_formats.specs.declared.kinds.CapsuleFault.{CapsuleFault}
use Rattle.fip_tables.specs.Files.{Lacks, Tells}
use Rattle.capsule_tables.specs.declared.faults.CapsuleStop.{CapsuleStop}
use Rattle.capsule_tables.specs.declared.faults.CapsuleStop.TheVariants.{Fault, ReadFailed}

-- what is answered is the value, or the first fault, unless the file could not be read
abbrev pub IsCapsuleAnswer : {T : Type 0} → Result T CapsuleStop → Result T CapsuleFault → Type 0
IsCapsuleAnswer (Ok x) answer = answer ≡ Ok x
IsCapsuleAnswer (Err (Fault f)) answer = answer ≡ Err f
IsCapsuleAnswer (Err ReadFailed) answer = Unit {0}

-- where the file's bytes are told, what is answered is what they have
abbrev pub AnswersFile : {T : Type 0} → Option Directory → List ℕ → (List ℕ → Result T CapsuleFault) → Result T CapsuleStop → Type 0
AnswersFile told name answer result = (bytes : List ℕ) → Tells told name bytes → IsCapsuleAnswer result (answer bytes)

-- a reading fails only where the files' faults rose, by one at most, or told files lack the name
pub record HasReadCause {T : Type 0} (told : Option Directory) (name : List ℕ) (before now : ℕ)
    (result : Result T CapsuleStop) : Type 0 where
  pub later : before ≤ now
  pub once : now ≤ before + 1
  pub done : OnOk result (now ≡ before)
  pub fault : (f : CapsuleFault) → result ≡ Err (Fault f) → now ≡ before
  pub failed : result ≡ Err ReadFailed → Rose before now ⊎ Lacks told name

-- Whatever file it is: at most 64 entries, which end within so many bytes, of different types.
pub record AreEntries (entries : List Entry) (end : ℕ) : Type 0 where
  pub few : length entries ≤ 64
  pub inside : All (λ e. e.offset + e.size ≤ end) entries
  pub distinct : IsTrue (are_distinct (map (λ e. e.guid) entries))

-- the usual serial number, no flags, and entries that end below 2 ^ 32
pub record IsSomeTable (toc : Toc) : Type 0 where
  pub serial : toc.serial ≡ usual_serial
  pub flags : toc.flags ≡ 0
  pub entries : AreEntries toc.entries 4294967295
