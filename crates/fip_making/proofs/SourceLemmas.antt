-- What a reading of the source gives.
use Rattle.std.proofs.Common.{◌≡◌, ◌≢◌, ℕ, Result, Ok, Err, ap, refl, inl, inr, ◌≤◌, ◌<◌, ◌+◌, List, [], ◌++◌, Option, true, false, length, nat_lt, arith, ◌∙◌, length-append}
use Rattle.fip_making.specs.{Answers.Gives, Answers.source_failed, Answers.source_failures, declared.stops.Stop.Stop}
use Rattle.fip_making.specs.{Answers.FedSome, Values.GivenTo, Values.StopsInTime, Values.given_table, Values.source_limit}
use Rattle.fip_making.specs.declared.stops.Stop.TheVariants as stop
use Rattle.std.specs.Io.KnownBytes.{Consumes, IsAtEnd}
use Rattle.std.proofs.KnownBytes.{Consumes-nil, Consumes-trans}
use Rattle.std.proofs.lemmas.Bool.Decides.{nat_tests}
use Rattle.std.proofs.lemmas.Bool.{lt-ltb}
use Rattle.fwu_formats.specs.{Package.Toc, Package.toc_of, declared.kinds.FipFault.FipFault}
use Rattle.fip_tables.specs.{Answers.decided, Stream.Fed, Stream.Stream}

-- ---- how often a call of the source failed in a part that reads it

-- another stop is no failure of the source
pub quiet : (n : ℕ) (s : Stop) → s ≢ stop.FileFault → n ≡ source_failed s n
quiet n stop.FileFault other = absurd (other refl)
quiet n s other = refl

-- nor is the end of what was given
pub ended-quiet : {X : Type 0} (r : Result X Stop) (n : ℕ) → (◌≡◌ {A = Result X Stop} r (Err stop.FileFault) → ⊥) → n ≡ source_failures r n
ended-quiet (Ok x) n other = refl
ended-quiet (Err s) n other = quiet n s (λ e. other (ap (λ (x : Stop). Err x) e))

-- ---- reading a package from the source

-- what the source gave so far: all of it was fed, and nothing is decided
pub record HasGiven (was now : Option (List ℕ)) (stream : Stream) (count : ℕ) : Type 0 where
  pub given : List ℕ
  pub consumed : Consumes was now given
  pub fed : Fed stream given
  pub long : length given ≡ count
  pub undecided : decided (toc_of given) ≡ Ok tt
  pub in-time : StopsInTime given

pub record IsReading (was now : Option (List ℕ)) (before faults : ℕ) (stream : Stream) (count : ℕ) : Type 0 where
  pub later : before ≤ faults
  pub none : faults ≡ before
  pub few : count ≤ 4294971392
  pub so-far : HasGiven was now stream count

-- nothing was read
pub nothing-read : StopsInTime []
unfolding toc_of
nothing-read = record { before = []; last = []; all = refl; short = omega arith; few = omega arith; undecided = refl }

-- a read of a piece, where what came before it was not too long
pub one-more : (before piece : List ℕ) → length before ≤ 4294967296 → length piece ≤ 4096 → decided (toc_of before) ≡ Ok tt → StopsInTime (before ++ piece)
one-more before piece few short undecided = record { before = before; last = piece; all = refl; short = short; few = few; undecided = undecided }

pub nothing-yet : (was : Option (List ℕ)) (faults : ℕ) (stream : Stream) → Fed stream [] → IsReading was was faults faults stream 0
unfolding toc_of
nothing-yet was faults stream fed = record {
  later = omega arith;
  none = refl;
  few = omega arith;
  so-far = record { given = []; consumed = Consumes-nil was; fed = fed; long = refl; undecided = refl; in-time = nothing-read };
}

pub goes-on : (was mid new : Option (List ℕ)) (before then now : ℕ) (stream next : Stream) (count n : ℕ) (source-rose : Type 0) → (r : IsReading was mid before then stream count)
    → count ≤ 4294967296 → n ≤ 4096 → then ≤ now → now ≡ then → ((piece : List ℕ) × FedSome next r.so-far.given piece mid new source-rose (Ok n)) → IsReading was new before now next (count + n)
goes-on was mid new before then now stream next count n source-rose r few some later same f =
    let piece : List ℕ = f.0 in
    let g : List ℕ = r.so-far.given in
    let lengths : length (g ++ piece) ≡ length g + length piece = length-append g piece in
    record {
      later = (let a = r.later in omega arith);
      none = same ∙ r.none;
      few = omega arith;
      so-far = record {
        given = g ++ piece;
        consumed = Consumes-trans was mid new g piece r.so-far.consumed f.1.0;
        fed = f.1.3;
        long = (let a = r.so-far.long in let b = f.1.1 in omega arith);
        undecided = f.1.4;
        in-time = one-more g piece (let a = r.so-far.long in omega arith) (let b = f.1.1 in omega arith) r.so-far.undecided;
      };
    }

table-decided : (given : List ℕ) (f : FipFault) → decided (toc_of given) ≡ Err f → given_table given ≡ Err (stop.NotFip f)
unfolding given_table
table-decided given f e = rw e refl

-- a read that stopped
pub stopped : (was mid new : Option (List ℕ)) (stream next : Stream) (count : ℕ) (before then now : ℕ) (rose-late rose : Type 0) → (rose-late → rose) → count ≤ 4294967296 → (r : IsReading was mid before then stream count)
    → (s : Stop) → ((piece : List ℕ) × FedSome next r.so-far.given piece mid new rose-late (Err s))
    → (given : List ℕ) × StopsInTime given × GivenTo (λ (t : Toc × ℕ). t) given_table was new rose (Err s) given
stopped was mid new stream next count before then now rose-late rose rises few r (stop.NotFip f) p =
    let given : List ℕ = r.so-far.given ++ p.0 in (
      given,
      one-more r.so-far.given p.0 (let a = r.so-far.long in omega arith) p.1.1 r.so-far.undecided,
      (Consumes-trans was mid new r.so-far.given p.0 r.so-far.consumed p.1.0, inr p.1.2, table-decided given f p.1.2),
    )
stopped was mid new stream next count before then now rose-late rose rises few r stop.FileFault p = (
  r.so-far.given ++ p.0,
  one-more r.so-far.given p.0 (let a = r.so-far.long in omega arith) p.1.1 r.so-far.undecided,
  (Consumes-trans was mid new r.so-far.given p.0 r.so-far.consumed p.1.0, rises p.1.2),
)
stopped was mid new stream next count before then now rose-late rose rises few r s p = absurd p.1

-- the source is at its end
at-end : (was left : Option (List ℕ)) (rose : Type 0) (given : List ℕ) (result : Result (Toc × ℕ) Stop) → Consumes was left given → IsAtEnd left → (◌≡◌ {A = Result (Toc × ℕ) Stop} result (Err stop.FileFault) → ⊥)
    → Gives (λ (t : Toc × ℕ). t) ⊥ (given_table given) result → GivenTo (λ (t : Toc × ℕ). t) given_table was left rose result given
at-end was left rose given (Ok t) c e file h = (c, e, h)
at-end was left rose given (Err (stop.NotFip f)) c e file h = (c, inl e, h)
at-end was left rose given (Err stop.FileFault) c e file h = absurd (file refl)
at-end was left rose given (Err stop.SinkFault) c e file h = absurd h
at-end was left rose given (Err stop.NoMemory) c e file h = c
at-end was left rose given (Err s) c e file h = (c, h)

is-long : (given : List ℕ) → decided (toc_of given) ≡ Ok tt → 4294967296 < length given → given_table given ≡ Err stop.TooLong
unfolding given_table
is-long given undecided many =
    let past : nat_lt source_limit (length given) ≡ true = lt-ltb source_limit (length given) (omega arith) in
    rw (undecided, past) refl

pub too-long : (was left : Option (List ℕ)) (before now : ℕ) (stream : Stream) (count : ℕ) (rose : Type 0) → IsReading was left before now stream count → 4294967296 < count
    → (given : List ℕ) × StopsInTime given × GivenTo (λ (t : Toc × ℕ). t) given_table was left rose (Err stop.TooLong) given
too-long was left before now stream count rose r many =
    let g : List ℕ = r.so-far.given in
    (g, r.so-far.in-time, (r.so-far.consumed, is-long g r.so-far.undecided (let a = r.so-far.long in omega arith)))

pub ended-ok : (given : List ℕ) (count : ℕ) (toc : Toc) → length given ≡ count → count ≤ 4294967296 → decided (toc_of given) ≡ Ok tt → toc_of given ≡ Ok toc → given_table given ≡ Ok (toc, count)
unfolding given_table
ended-ok given count toc long few undecided is =
    let within : nat_lt source_limit (length given) ≡ false = grind (arith, nat_tests) in
    rw (undecided, within, is, long) refl

pub ended-err : (given : List ℕ) (count : ℕ) (f : FipFault) → length given ≡ count → count ≤ 4294967296 → decided (toc_of given) ≡ Ok tt → toc_of given ≡ Err f → given_table given ≡ Err (stop.NotFip f)
unfolding given_table
ended-err given count f long few undecided is =
    let within : nat_lt source_limit (length given) ≡ false = grind (arith, nat_tests) in
    rw (undecided, within, is) refl

-- the last read found the end
pub last : (was mid new : Option (List ℕ)) (before then now : ℕ) (stream next : Stream) (count : ℕ) (rose-late rose : Type 0) (result : Result (Toc × ℕ) Stop) → count ≤ 4294967296 → (r : IsReading was mid before then stream count)
    → ((piece : List ℕ) × FedSome next r.so-far.given piece mid new rose-late (Ok 0))
    → ((given : List ℕ) → Fed next given → length given ≡ count → decided (toc_of given) ≡ Ok tt → Gives (λ (t : Toc × ℕ). t) ⊥ (given_table given) result)
    → (◌≡◌ {A = Result (Toc × ℕ) Stop} result (Err stop.FileFault) → ⊥)
    → (given : List ℕ) × StopsInTime given × GivenTo (λ (t : Toc × ℕ). t) given_table was new rose result given
last was mid new before then now stream next count rose-late rose result few r f ends file =
    let piece : List ℕ = f.0 in
    let g : List ℕ = r.so-far.given ++ piece in
    let long : length g ≡ count = (let a = length-append r.so-far.given piece in let b = r.so-far.long in let c = f.1.1 in omega arith) in (
      g,
      one-more r.so-far.given piece (let a = r.so-far.long in omega arith) (let c = f.1.1 in omega arith) r.so-far.undecided,
      at-end was new rose g result (Consumes-trans was mid new r.so-far.given piece r.so-far.consumed f.1.0) (f.1.2 refl) file (ends g f.1.3 long f.1.4),
    )
