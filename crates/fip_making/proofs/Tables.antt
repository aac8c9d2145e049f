-- What a package in a file gives.
use Rattle.std.proofs.Common.{◌≡◌, ◌⊎◌, inl, inr, ◌≤◌, ℕ, List, Option, Some, None, Result, Ok, Err, IfOk, length, arith, refl, sym, ap, ◌∙◌}
use Rattle.base_core.specs.Counts.{Rose}
use Rattle.host_io.specs.Contents.{Directory}
use Rattle.fwu_formats.specs.{Package.Toc, Package.toc_of, declared.kinds.FipFault.FipFault}
use Rattle.fip_tables.specs.{Files.IsTocAnswer, Files.Lacks, Files.Tells, declared.toc.TocStop.TocStop}
use Rattle.fip_tables.specs.declared.toc.TocStop.TheVariants.{Fault, ReadFailed}
use Rattle.fip_making.specs.{Answers.Gives, Stops.stop_of_table, declared.stops.Stop.Stop}
use Rattle.fip_making.specs.Values.{and_then, size_in, sized_table, or_stop, there}
use Rattle.fip_making.specs.declared.stops.Stop.TheVariants as stop
use Rattle.fip_making.proofs.Folds.{after-ok, is-there, made-by, stopped-by}

pub rose-from : (a b c : ℕ) → a ≤ b → Rose b c → Rose a c
rose-from a b c le (inl rose) = inl (omega arith)
rose-from a b c le (inr full) = inr full

-- from a count that was the same
pub rose-still : (a b c : ℕ) → a ≡ b → Rose b c → Rose a c
rose-still a b c same (inl rose) = inl (omega arith)
rose-still a b c same (inr full) = inr full

pub tells : (o : Option Directory) (files : Directory) (name bytes : List ℕ) → o ≡ Some files → files name ≡ Some bytes → Tells o name bytes
tells None files name bytes e h = cc
tells (Some d) files name bytes e h = let same : d ≡ files = cc in ap (λ (f : Directory). f name) same ∙ h

pub lacks : (o : Option Directory) (files : Directory) (name : List ℕ) → o ≡ Some files → Lacks o name → files name ≡ None
lacks None files name e h = absurd h
lacks (Some d) files name e h = let same : d ≡ files = cc in sym (ap (λ (f : Directory). f name) same) ∙ h

-- a stop of a part is one of the whole
pub gives-err : {X Y A B : Type 0} (view : X → Y) (other : A → B) (rose late : Type 0) (v : Result Y Stop) (w : Result B Stop) (s : Stop)
    → (rose → late) → (v ≡ Err s → w ≡ Err s) → Gives view rose v (Err s) → Gives other late w (Err s)
gives-err view other rose late v w stop.FileFault rises so (inl e) = inl (so e)
gives-err view other rose late v w stop.FileFault rises so (inr r) = inr (rises r)
gives-err view other rose late v w stop.NoMemory rises so g = tt
gives-err view other rose late v w stop.SinkFault rises so g = g
gives-err view other rose late v w s rises so g = so g

-- a file that has a size has bytes
pub sized : (files : Directory) (name : List ℕ) (n : ℕ) → size_in files name ≡ Ok n → (bytes : List ℕ) × (files name ≡ Some bytes) × (length bytes ≡ n)
unfolding size_in
sized files name n e =
    let read = after-ok (there (files name)) (λ bytes. Ok (length bytes)) n e in
    let long : length read.0 ≡ n = (let two = read.2 in cc) in
    (read.0, is-there (files name) read.0 read.1, long)

pub size-err : (files : Directory) (name : List ℕ) (s : Stop) → size_in files name ≡ Err s → sized_table files name ≡ Err s
unfolding size_in sized_table
size-err files name s e =
    stopped-by {W = Toc × ℕ} (made-by length)
    (λ o. and_then {X = List ℕ × Toc} (and_then (there o) (λ bytes. and_then (or_stop stop.NotFip (toc_of bytes)) (λ t. Ok (bytes, t))))
    (λ p. Ok (p.1, length p.0))) refl (files name) s e

pub table-ok : (files : Directory) (name bytes : List ℕ) (n : ℕ) (toc : Toc) → files name ≡ Some bytes → length bytes ≡ n → toc_of bytes ≡ Ok toc → sized_table files name ≡ Ok (toc, n)
unfolding sized_table
table-ok files name bytes n toc there long is = rw (there, is, long) refl

pub table-fault : (files : Directory) (name bytes : List ℕ) (f : FipFault) → files name ≡ Some bytes → toc_of bytes ≡ Err f → sized_table files name ≡ Err (stop.NotFip f)
unfolding sized_table
table-fault files name bytes f there is = rw (there, is) refl

pub table-none : (files : Directory) (name : List ℕ) → files name ≡ None → sized_table files name ≡ Err stop.FileFault
unfolding sized_table
table-none files name is = rw is refl

pub read-failed : (files : Directory) (name : List ℕ) (o : Option Directory) (before mid now : ℕ) → before ≤ mid → o ≡ Some files
    → Rose mid now ⊎ Lacks o name → (sized_table files name ≡ Err stop.FileFault) ⊎ Rose before now
read-failed files name o before mid now later e (inl rose) = inr (rose-from before mid now later rose)
read-failed files name o before mid now later e (inr none) = inl (table-none files name (lacks o files name e none))

-- a stop of the table
pub table-stop : {X : Type 0} (files : Directory) (name bytes : List ℕ) (o : Option Directory) (before mid now : ℕ) (s : TocStop) → before ≤ mid → o ≡ Some files → files name ≡ Some bytes
    → IsTocAnswer (Err s) (toc_of bytes) → (◌≡◌ {A = Result X TocStop} (Err s) (Err ReadFailed) → Rose mid now ⊎ Lacks o name)
    → Gives (λ (t : Toc × ℕ). t) (Rose before now) (sized_table files name) (Err (stop_of_table s))
table-stop files name bytes o before mid now (Fault f) later e is answer failed = table-fault files name bytes f is answer
table-stop files name bytes o before mid now ReadFailed later e is answer failed = read-failed files name o before mid now later e (failed refl)
