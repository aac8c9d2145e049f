use Rattle.std.proofs.Common.{◌∙◌, ℕ, List, Option, take, drop, ap, sym, subst}
use Rattle.host_io.specs.{Contents.Directory, Reads.ReadsFile}
use Rattle.host_io.proofs.Reading.{reads-then}
use Rattle.base_core.specs.Bytes.{same_bytes}
use Rattle.base_core.proofs.Listing.{same-pointwise}
use Rattle.fip_tables.specs.Files.{Tells}
use Rattle.fip_tables.proofs.Told.{range_is}
use Rattle.fwu_formats.specs.Capsule.{fmp_guid, swapped}
use Rattle.script_turns.proofs.tables.is_capsule.Given as given
use Rattle.script_turns.proofs.tables.is_capsule.Goals.{After-read_at}
use Rattle.script_turns.proofs.tables.is_capsule.Goals as goal

pub returns-in-Ok-clause-told : goal.returns-in-Ok-clause-told
returns-in-Ok-clause-told g c = λ file told.
    let later = subst (λ (o : Option Directory). Tells o c.args.name.now file) (sym c.in-Ok-Some.ensures.same) told in
    let front = range_is _ c.args.name.now 0 c.read_at.new.out file later c.in-Ok.ensures.bytes in
    c.eq.ensures ∙ same-pointwise c.read_at.new.out (swapped fmp_guid)
    ∙ ap (λ (xs : List ℕ). same_bytes xs (swapped fmp_guid)) (front ∙ ap (λ (n : ℕ). take n (drop 0 file)) c.read_at.auto.out)

module _ (g : given.Over) (c : After-read_at g) where
  reads : ReadsFile g.H.Files c.args.name.now c.args.files.now c.read_at.new.self
  reads =
      reads-then g.H.Files _ g.met.H.Files.joins c.args.files.now c.size.new.self _
      (record { same = c.size.ensures.same; unwritten = c.size.ensures.unwritten; later = c.size.ensures.cause.later; spares = c.size.ensures.spares })
      (record { same = c.read_at.ensures.same; unwritten = c.read_at.ensures.unwritten; later = c.read_at.ensures.cause.later; spares = c.read_at.ensures.spares })

pub returns-in-Ok-clause-reads : goal.returns-in-Ok-clause-reads
returns-in-Ok-clause-reads g c = reads g (goal.at.returns-in-Ok-clause-reads g c).After-read_at

pub returns-in-Err-clause-reads : goal.returns-in-Err-clause-reads
returns-in-Err-clause-reads g c = reads g (goal.at.returns-in-Err-clause-reads g c).After-read_at
