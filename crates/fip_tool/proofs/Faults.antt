-- How many calls of a sink, a source and files failed.
use Rattle.std.proofs.Common.{◌≡◌, ◌≢◌, ℕ, refl, List, Option, Some, Result, Ok, Err, arith}
use Rattle.fip_tool.specs.Steps.{sink_failed, Did, PrintedText, outcome_by, FaultsOnce}
use Rattle.fip_tool.specs.Tool.{IsReadFor, given_value, no_files, prints}
use Rattle.fip_making.specs.declared.stops.Stop.{Stop}
use Rattle.fip_making.specs.Answers.{source_failures, NoneFailed, ReadsOnly}
use Rattle.fip_making.specs.declared.stops.Stop.TheVariants as stop
use Rattle.std.specs.Io.KnownBytes.{Consumes, IsAtEnd}
use Rattle.fip_tool.proofs.Did.{printed-text}
use Rattle.host_io.specs.Contents.{Directory}
use Rattle.fip_making.proofs.ReadsBy.{quiet-as, quiet-then}

-- ---- how often the sink failed

-- another stop is no failure of the sink
pub still : (n : ℕ) (s : Stop) → s ≢ stop.SinkFault → n ≡ sink_failed s n
still n stop.SinkFault other = absurd (other refl)
still n s other = refl

-- ---- how a listing of the source ends

read-all : (was left taken text : Option (List ℕ)) (sink-rose : Type 0) (given piece : List ℕ) (r : Result (Unit {0}) Stop) → Consumes was left given → IsAtEnd left → PrintedText taken text sink-rose piece r → IsReadFor r was left given
read-all was left taken text sink-rose given piece (Ok u) c e p = (c, e)
read-all was left taken text sink-rose given piece (Err (stop.NotFip f)) c e p = absurd p
read-all was left taken text sink-rose given piece (Err s) c e p = c

pub source-printed : (was left taken text : Option (List ℕ)) (rose sink-rose : Type 0) (given piece : List ℕ) (r : Result (Unit {0}) Stop) → Consumes was left given × IsAtEnd left × (given_value given ≡ Ok piece)
    → PrintedText taken text sink-rose piece r
    → IsReadFor r was left given × Did (outcome_by prints (given_value given)) no_files (Some no_files) taken text rose ⊥ sink-rose r
source-printed was left taken text rose sink-rose given piece r g p =
    (read-all was left taken text sink-rose given piece r g.0 g.1 p, printed-text (given_value given) piece no_files (Some no_files) taken text rose ⊥ sink-rose r g.2 refl p)

-- ---- how often the source failed

-- nor is a text that was printed or not
pub printed-quiet : (was text : Option (List ℕ)) (rose : Type 0) (piece : List ℕ) (r : Result (Unit {0}) Stop) (n : ℕ) → PrintedText was text rose piece r → n ≡ source_failures r n
printed-quiet was text rose piece (Ok u) n p = refl
printed-quiet was text rose piece (Err stop.FileFault) n p = absurd p
printed-quiet was text rose piece (Err s) n p = refl

-- ---- how often a call of the files failed

quiet-stop : (X : Type 0) (s : Stop) (before after : ℕ) → after ≡ before → NoneFailed {X = X} (Err s) before after
quiet-stop X stop.FileFault before after same = tt
quiet-stop X s before after same = same

pub quiet-still : {X : Type 0} (r : Result X Stop) (before after : ℕ) → after ≡ before → NoneFailed r before after
quiet-still {X = X} (Ok x) before after same = same
quiet-still {X = X} (Err s) before after same = quiet-stop X s before after same

module _ {X : Type 0} {before after : ℕ} {result : Result X Stop} where
  pub faults-none : after ≡ before → FaultsOnce before after result
  faults-none same = record { once = omega (arith, same); quiet = quiet-still result before after same }

  -- of the last part, after others that failed not once
  pub faults-then : {between : ℕ} → between ≡ before → FaultsOnce between after result → FaultsOnce before after result
  faults-then {between = between} same faults = record { once = omega (arith, same, faults.once); quiet = quiet-then result before between after same faults.quiet }

  pub faults-of : {told : Option Directory} → ReadsOnly told before after result → FaultsOnce before after result
  faults-of reads = record { once = reads.once; quiet = reads.quiet }

pub faults-as : {X Y : Type 0} {before after : ℕ} {s : Stop} → FaultsOnce {X = X} before after (Err s) → FaultsOnce {X = Y} before after (Err s)
faults-as {X = X} {Y = Y} {before = before} {after = after} {s = s} faults = record { once = faults.once; quiet = quiet-as X Y s before before after refl faults.quiet }
