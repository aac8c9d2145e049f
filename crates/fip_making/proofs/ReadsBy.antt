-- What a part that reads alone answers, from what its own parts answered.
use Rattle.std.proofs.Common.{◌≡◌, ◌≢◌, ◌<◌, ◌⊎◌, inl, inr, ℕ, List, All, Option, None, Result, Ok, Err, get_or, length, arith, refl, subst, sym, ◌∙◌}
use Rattle.std.proofs.lemmas.Result.{IfErr-weaker}
use Rattle.base_core.specs.Counts.{Rose}
use Rattle.host_io.specs.{Contents.Directory, Access.Access, Access.Asks, Reads.ReadsFiles}
use Rattle.fwu_formats.specs.Package.{Toc}
use Rattle.fip_tables.specs.{Files.Lacks, Files.HasReadCause as PackageCause, declared.toc.TocStop.TocStop}
use Rattle.fip_tables.specs.declared.toc.TocStop.TheVariants as toc
use Rattle.fip_making.specs.{Answers.ReadsFilesAlone, Stops.stop_of_table, declared.stops.Stop.Stop}
use Rattle.fip_making.specs.Answers.{AsksNothing, NoneFailed, ReadsOnly}
use Rattle.host_io.specs.declared.files.Files as files
use Rattle.host_io.proofs.Reading.{reads-then as reads-after, reads-wider}
use Rattle.fip_making.specs.declared.stops.Stop.TheVariants as stop
use Rattle.fip_making.proofs.{Tables.rose-still, Refusing.err-same}

-- a stop of a part is one of the whole, after parts that failed not once
pub quiet-as : (X Y : Type 0) (s : Stop) (before between after : ℕ) → between ≡ before → NoneFailed {X = X} (Err s) between after → NoneFailed {X = Y} (Err s) before after
quiet-as X Y stop.FileFault before between after same h = tt
quiet-as X Y s before between after same h = h ∙ same

pub quiet-then : {X : Type 0} (r : Result X Stop) (before between after : ℕ) → between ≡ before → NoneFailed r between after → NoneFailed r before after
quiet-then {X = X} (Ok x) before between after same h = h ∙ same
quiet-then {X = X} (Err s) before between after same h = quiet-as X X s before between after same h

-- of files that tell nothing none is known to lack
failed : (told mid : Option Directory) (name : List ℕ) (before between after : ℕ) → mid ≡ told → between ≡ before → Rose between after ⊎ Lacks mid name → told ≡ None → Rose before after
failed told mid name before between after same quiet (inl rose) untold = rose-still _ _ _ (sym quiet) rose
failed told mid name before between after same quiet (inr lacks) untold = absurd (subst (λ (o : Option Directory). Lacks o name) (same ∙ untold) lacks)

module _ {X : Type 0} {told : Option Directory} {before after : ℕ} where
  -- a last part that asks for nothing
  pub reads-asked : {IsOwn : Stop → Type 0} (result : Result X Stop) → after ≡ before → AsksNothing IsOwn result
      → ReadsOnly told before after result
  reads-asked {IsOwn = IsOwn} result quiet asks = record {
    once = omega (arith, quiet);
    quiet = none result asks;
    cause = λ e untold. absurd (asks.file e);
    sink = asks.sink;
  }
    where
      none : (r : Result X Stop) → AsksNothing IsOwn r → NoneFailed r before after
      none (Ok x) h = quiet
      none (Err stop.FileFault) h = tt
      none (Err s) h = quiet

  pub reads-done : {x : X} → after ≡ before → ReadsOnly told before after (Ok x)
  reads-done {x = x} quiet = reads-asked {IsOwn = λ s. Unit {0}} (Ok x) quiet
      (record { file = λ e. absurd cc; sink = λ e. absurd cc; refusals = tt })

  pub reads-starved : after ≡ before → ReadsOnly {X = X} told before after (Err stop.NoMemory)
  reads-starved quiet = reads-asked {IsOwn = λ s. Unit {0}} (Err stop.NoMemory) quiet
      (record { file = λ e. absurd cc; sink = λ e. absurd cc; refusals = tt })

  -- the last part, after others that read alone
  pub reads-then : {mid : Option Directory} {between : ℕ} {result : Result X Stop} → mid ≡ told → between ≡ before → ReadsOnly mid between after result
      → ReadsOnly told before after result
  reads-then {between = between} {result = result} same quiet reads = record {
    once = omega (arith, quiet, reads.once);
    quiet = quiet-then result before between after quiet reads.quiet;
    cause = λ e untold. rose-still _ _ _ (sym quiet) (reads.cause e (same ∙ untold));
    sink = reads.sink;
  }

  -- and a stop of a part
  pub reads-stopped : {Y : Type 0} {mid : Option Directory} {between : ℕ} {s : Stop} → mid ≡ told → between ≡ before → ReadsOnly {X = Y} mid between after (Err s)
      → ReadsOnly {X = X} told before after (Err s)
  reads-stopped {Y = Y} {between = between} {s = s} same quiet reads = record {
    once = omega (arith, quiet, reads.once);
    quiet = quiet-as Y X s before between after quiet reads.quiet;
    cause = λ e untold. let is : s ≡ stop.FileFault = cc in rose-still _ _ _ (sym quiet) (reads.cause (err-same is) (same ∙ untold));
    sink = λ e. let is : s ≡ stop.SinkFault = cc in reads.sink (err-same is);
  }

  -- a table that was not read, of a file that is there where its contents are told
  module _ {mid : Option Directory} {name : List ℕ} {between : ℕ} where
    pub reads-no-table : (s : TocStop) → mid ≡ told → between ≡ before → PackageCause {T = Toc} mid name between after (Err s)
        → ReadsOnly {X = X} told before after (Err (stop_of_table s))
    reads-no-table (toc.Fault f) same quiet h =
        reads-asked {IsOwn = λ s. Unit {0}} (Err (stop.NotFip f)) (h.fault f refl ∙ quiet)
        (record { file = λ e. absurd cc; sink = λ e. absurd cc; refusals = tt })
    reads-no-table toc.ReadFailed same quiet h = record {
      once = omega (arith, quiet, h.once);
      quiet = tt;
      cause = λ e untold. failed told mid name before between after same quiet (h.failed refl) untold;
      sink = λ e. absurd cc;
    }

-- ---- with which files are asked for, and which stops may end it

-- what all of a list spare, one of them spares
pub one-spared : {W : Type 0} (file : W → List ℕ) (all : List W) (i : ℕ) (x : W) → x ≡ get_or all i x → i < length all → (access : Access)
    → All (λ (w : W). access ≢ Asks (file w)) all → access ≢ Asks (file x)
one-spared {W} file all i x is within access other = subst (λ (w : W). access ≢ Asks (file w)) (sym is) (other i x within)

module _ {H X : Type 0} {h : files.Ghosts H} {IsOther : Access → Type 0} {IsOwn : Stop → Type 0} {start now : H} where
  pub alone-done : {x : X} → ReadsFiles h IsOther start now → h.faults now ≡ h.faults start → ReadsFilesAlone h IsOther IsOwn start now (Ok x)
  alone-done reads quiet = record { only = reads-done quiet; files = reads; refusals = tt }

  pub alone-starved : IsOwn stop.NoMemory → ReadsFiles h IsOther start now → h.faults now ≡ h.faults start → ReadsFilesAlone {X = X} h IsOther IsOwn start now (Err stop.NoMemory)
  alone-starved own reads quiet = record { only = reads-starved quiet; files = reads; refusals = own }

  -- a last part that asks for nothing
  pub alone-asked : {Y : Type 0} {y : Y} {First Last : Stop → Type 0} → ((s : Stop) → Last s → IsOwn s) → ReadsFilesAlone {X = Y} h IsOther First start now (Ok y)
      → (result : Result X Stop) → AsksNothing Last result → ReadsFilesAlone h IsOther IsOwn start now result
  alone-asked {Last = Last} turns reads result asks = record {
    only = reads-asked result reads.only.quiet asks;
    files = reads.files;
    refusals = IfErr-weaker result Last IsOwn turns asks.refusals;
  }

  pub alone-wider : {IsAny : Access → Type 0} {result : Result X Stop} → ((access : Access) → IsAny access → IsOther access)
      → ReadsFilesAlone h IsOther IsOwn start now result → ReadsFilesAlone h IsAny IsOwn start now result
  alone-wider {IsAny = IsAny} fewer reads = record { only = reads.only; files = reads-wider h IsOther IsAny fewer start now reads.files; refusals = reads.refusals }

-- after a part of which no call failed
module _ {H X : Type 0} {h : files.Ghosts H} {IsOther : Access → Type 0} {IsOwn Part : Stop → Type 0} {start mid now : H}
    (joins : (e f g : H) (access : Access) → h.spares e f access → h.spares f g access → h.spares e g access)
    (first : ReadsFiles h IsOther start mid) (quiet : h.faults mid ≡ h.faults start) where
  pub alone-then : {result : Result X Stop} → ((s : Stop) → Part s → IsOwn s) → ReadsFilesAlone h IsOther Part mid now result → ReadsFilesAlone h IsOther IsOwn start now result
  alone-then {result = result} turns reads = record {
    only = reads-then first.same quiet reads.only;
    files = reads-after h IsOther joins start mid now first reads.files;
    refusals = IfErr-weaker result Part IsOwn turns reads.refusals;
  }

  pub alone-then-stopped : {Y : Type 0} {s : Stop} → ((s : Stop) → Part s → IsOwn s) → ReadsFilesAlone {X = Y} h IsOther Part mid now (Err s) → ReadsFilesAlone {X = X} h IsOther IsOwn start now (Err s)
  alone-then-stopped {s = s} turns reads = record {
    only = reads-stopped first.same quiet reads.only;
    files = reads-after h IsOther joins start mid now first reads.files;
    refusals = turns s reads.refusals;
  }
