-- The table that a file is sent by.
use Rattle.std.specs.Prelude.{◌≡◌, ◌⊎◌, ◌+◌, ◌≤◌, ℕ, List, Option, Result, Ok, Err, IfOk, ⊤}
use Rattle.base_core.specs.Counts.{Rose}
use Rattle.host_io.specs.{Contents.Directory, Reads.ReadsFile, declared.files.Files.Ghosts}
use Rattle.fwu_formats.specs.Package.{Toc}
use Rattle.fwu_model.specs.Reply.{Reply}
use Rattle.fwu_model.specs.Reply as reply
use Rattle.fip_tables.specs.declared.toc.TocStop.TheVariants as toc_stop
use Rattle.fip_tables.specs.Files.{IsOfSome, Lacks, Tells}
use Rattle.capsule_tables.specs.declared.faults.CapsuleStop.TheVariants as capsule_stop
use Rattle.capsule_tables.specs.Ranges.{IsOfReads}
use Rattle.update_client.specs.Images.{HoldsPayloads}
use Rattle.script_turns.specs.declared.tables.TableStop.{TableStop}
use Rattle.script_turns.specs.declared.tables.TableStop.TheVariants.{Package, Capsule, ReadFailed}

-- the table, or what `send` answers to the file
abbrev pub table_answer : Result Toc TableStop → Result Toc Reply
table_answer (Ok toc) = Ok toc
table_answer (Err (Package f)) = Err (reply.BadPackage f)
table_answer (Err (Capsule f)) = Err (reply.BadCapsule f)
table_answer (Err ReadFailed) = Err reply.ReadFault

-- Whatever the file, it is of what was read: of a package some bytes have it, and of a capsule some headers and items.
abbrev pub IsOfAnswer : Result Toc Reply → Type 0
IsOfAnswer (Ok toc) = IsOfSome (Ok toc) ⊎ IsOfReads (Ok toc)
IsOfAnswer (Err (reply.BadPackage f)) = IsOfSome (Err (toc_stop.Fault f))
IsOfAnswer (Err (reply.BadCapsule f)) = IsOfReads (Err (capsule_stop.Fault f))
IsOfAnswer (Err other) = ⊤

-- how many calls of the files failed, by a result that tells it
abbrev pub unread_in : {T : Type 0} → Result T TableStop → ℕ
unread_in (Err ReadFailed) = 1
unread_in other = 0

-- a reading fails only where the files' faults rose, or told files lack the name, and no call of the files failed but the one that
-- is told
pub record HasTableCause {T : Type 0} (files : Option Directory) (name : List ℕ) (before now : ℕ)
    (result : Result T TableStop) : Type 0 where
  pub later : before ≤ now
  pub once : now ≤ before + unread_in result
  pub failed : result ≡ Err ReadFailed → Rose before now ⊎ Lacks files name

-- what a reading of the table of a file leaves
pub record ReadsTable {H : Type 0} (g : Ghosts H) (answer : List ℕ → Result Toc Reply) (name : List ℕ)
    (result : Result Toc TableStop) (old new : H) : Type 0 where
  -- where the file's bytes are told and could be read, it is their table, or what `send` answers to them
  pub told : (result ≡ Err ReadFailed → ⊥) → (file : List ℕ) → Tells (g.contents old) name file → answer file ≡ table_answer result
  pub some : IsOfAnswer (table_answer result)
  pub found : IfOk result (λ toc. HoldsPayloads (g.contents old) name toc.entries)
  pub missing : Lacks (g.contents old) name → result ≡ Err ReadFailed
  pub reads : ReadsFile g name old new
  pub cause : HasTableCause (g.contents old) name (g.faults old) (g.faults new) result
