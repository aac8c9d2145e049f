-- Which stops are whose, and what no longer asks for anything.
use Rattle.std.proofs.Common.{◌≡◌, ◌∙◌, ap, Result, Err, Ok}
use Rattle.std.specs.Prelude.{IsErrAnd, IfErr}
use Rattle.std.proofs.lemmas.Result.{err_from_is_err_and}
use Rattle.fip_making.specs.{declared.stops.Stop.Stop, Stops.stop_of_table, Stops.IsLate}
use Rattle.fip_making.specs.Stops.{IsOfCapsule, IsOfEntries, IsManifestStop, IsPackageStop, IsOfSource, PackingOr}
use Rattle.fip_tables.specs.declared.toc.TocStop.{TocStop}
use Rattle.fip_tables.specs.declared.toc.TocStop.TheVariants as toc
use Rattle.fip_making.specs.declared.stops.Stop.TheVariants as stop

-- ---- a stop that is handed on

pub err-same : {X : Type 0} {a b : Stop} → a ≡ b → ◌≡◌ {A = Result X Stop} (Err a) (Err b)
err-same {X} e = ap (λ (s : Stop). Err s) e

pub err-of : {X Y : Type 0} {a b : Stop} → ◌≡◌ {A = Result X Stop} (Err a) (Err b) → ◌≡◌ {A = Result Y Stop} (Err a) (Err b)
err-of {X} {Y} {a} {b} e = let same : a ≡ b = cc in ap (λ (s : Stop). Err s) same

pub handed-on : {T : Type 0} (r : Result T Stop) (s : Stop) → IsErrAnd r (λ x. x ≡ s) → r ≡ Err s
handed-on r s is = let p = err_from_is_err_and r is in p.1 ∙ ap Err p.2

-- ---- which stops a part of a command may end with

-- each stop is
pub if-err-all : {X : Type 0} (r : Result X Stop) (P : Stop → Type 0) → ((s : Stop) → P s) → IfErr r P
if-err-all (Ok x) P all = tt
if-err-all (Err s) P all = all s

pub toc-of-package : (s : TocStop) → IsPackageStop (stop_of_table s)
toc-of-package (toc.Fault f) = tt
toc-of-package toc.ReadFailed = tt

-- the reading of a table takes no memory
pub toc-needs-none : (s : TocStop) → stop_of_table s ≡ stop.NoMemory → ⊥
toc-needs-none (toc.Fault f) e = cc
toc-needs-none toc.ReadFailed e = cc

-- a late stop is of each kind that has the three of them
late-is : (P : Stop → Type 0) → P stop.FileFault → P stop.SinkFault → P stop.NoMemory → (s : Stop) → IsLate s → P s
late-is P file sink memory stop.FileFault h = file
late-is P file sink memory stop.SinkFault h = sink
late-is P file sink memory stop.NoMemory h = memory
late-is P file sink memory s h = absurd h

pub late-of-package : (s : Stop) → IsLate s → IsPackageStop s
late-of-package = late-is IsPackageStop tt tt tt

pub late-of-source : (s : Stop) → IsLate s → IsOfSource s
late-of-source = late-is IsOfSource tt tt tt

pub late-of-entries : (s : Stop) → IsLate s → IsOfEntries s
late-of-entries = late-is IsOfEntries tt tt tt

pub late-of-manifest : (s : Stop) → IsLate s → IsManifestStop s
late-of-manifest = late-is IsManifestStop tt tt tt

pub late-of-capsule : (s : Stop) → IsLate s → IsOfCapsule s
late-of-capsule = late-is IsOfCapsule tt tt tt

pub late-packing : {P : Stop → Type 0} → ((s : Stop) → IsLate s → P s) → (s : Stop) → IsLate s → PackingOr P s
late-packing turns (stop.NotPacked f) h = tt
late-packing turns s h = turns s h

pub packing-as : {P Q : Stop → Type 0} → ((s : Stop) → P s → Q s) → (s : Stop) → PackingOr P s → PackingOr Q s
packing-as turns (stop.NotPacked f) h = tt
packing-as turns s h = turns s h
