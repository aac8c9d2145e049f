-- What is told of a file that is read.
use Rattle.std.proofs.Common.{◌≡◌, ◌≤◌, ◌+◌, ◌++◌, ◌-◌, ◌∙◌, ap, sym, ℕ, List, length, take, drop, append_assoc, [], Option, Result, Err, refl, arith, Some, None, option_map, IfSome, subst}
use Rattle.std.proofs.lemmas.List.{take-append-drop, take-take, drop-drop, drop-take}
use Rattle.std.proofs.Math.Seq.{take-add}
use Rattle.fip_tables.specs.Stream.{ReaderHolds, HoldsPartOfGroup, Reader, Stream}
use Rattle.fip_tables.specs.declared.toc.TocStop.{TocStop}
use Rattle.fip_tables.specs.Files.{HasFed, IsTocAnswer, IsTableFault, IsOfSome, Tells}
use Rattle.host_io.specs.{Reads.ReadsFile, declared.files.Files.Ghosts}
use Rattle.host_io.specs.Contents.{Directory, TellsRange, TellsSize}
use Rattle.fwu_formats.specs.{Package.toc_of, declared.kinds.FipFault.FipFault}
use Rattle.fip_tables.specs.declared.toc.TocStop.TheVariants as stop
use Rattle.std.proofs.lemmas.Option.{same_Some}

-- ---- what the loops keep

-- so much of the piece is read
pub record HasReadOn (before now : Reader) (piece : List ℕ) (at : ℕ) : Type 0 where
  pub inside : at ≤ length piece
  pub partial : HoldsPartOfGroup now
  pub holds : (bytes : List ℕ) → ReaderHolds before bytes → ReaderHolds now (bytes ++ take at piece)

pub take-further : (i n : ℕ) (xs : List ℕ) → n ≤ length xs - i → take i xs ++ take n (take (length xs - i) (drop i xs)) ≡ take (i + n) xs
take-further i n xs le = ap (λ (ys : List ℕ). take i xs ++ ys) (take-take n (length xs - i) (drop i xs) le) ∙ sym (take-add i n xs)

pub take-rest : (i : ℕ) (bytes xs : List ℕ) → (bytes ++ take i xs) ++ drop i xs ≡ bytes ++ xs
take-rest i bytes xs = append_assoc bytes (take i xs) (drop i xs) ∙ ap (λ (ys : List ℕ). bytes ++ ys) (take-append-drop i xs)

-- ---- what the loop over a file's table keeps

pub record IsFeeding {H : Type 0} (g : Ghosts H) (name : List ℕ) (old now : H) (stream : Stream) (size at : ℕ) : Type 0 where
  pub reads : ReadsFile g name old now
  pub quiet : g.faults now ≡ g.faults old
  pub inside : at ≤ size
  pub fed : HasFed (g.contents old) name stream at

-- an answer that stopped is that of the file, and of some bytes
pub stopped-told : {X : Type 0} (told : Option Directory) (name : List ℕ) (s : TocStop) → ((f : FipFault) → ◌≡◌ {A = Result X TocStop} (Err s) (Err (stop.Fault f)) → IsTableFault told name f)
    → (bytes : List ℕ) → Tells told name bytes → IsTocAnswer (Err s) (toc_of bytes)
stopped-told told name (stop.Fault f) faults bytes t = (faults f refl).told_first bytes t
stopped-told told name stop.ReadFailed faults bytes t = tt

pub stopped-some : {X : Type 0} (told : Option Directory) (name : List ℕ) (s : TocStop) → ((f : FipFault) → ◌≡◌ {A = Result X TocStop} (Err s) (Err (stop.Fault f)) → IsTableFault told name f)
    → IsOfSome (Err s)
stopped-some told name (stop.Fault f) faults = record { bytes = (faults f refl).bytes; short = (faults f refl).short; answer = (faults f refl).first }
stopped-some told name stop.ReadFailed faults = record { bytes = []; short = omega arith; answer = tt }

-- ---- what a file tells

-- a part of a piece is that part of the whole
pub part_of : (bytes : List ℕ) (at n from count : ℕ) → from + count ≤ n → take count (drop from (take n (drop at bytes))) ≡ take count (drop (at + from) bytes)
part_of bytes at n from count small =
    let split : from + (n - from) ≡ n = omega arith in
    let room : count ≤ n - from = omega arith in
    ap (λ (k : ℕ). take count (drop from (take k (drop at bytes)))) (sym split)
    ∙ ap (take count) (drop-take from (n - from) (drop at bytes) ∙ ap (take (n - from)) (drop-drop from at bytes))
    ∙ take-take count (n - from) (drop (at + from) bytes) room

pub size_is : (told : Option Directory) (name bytes : List ℕ) (size : ℕ) → Tells told name bytes → TellsSize told name (Some size) → size ≡ length bytes
size_is None name bytes size t known = absurd t
size_is (Some files) name bytes size t known = same_Some size (length bytes) (known ∙ ap (option_map length) t)

-- what a told range is
pub range_is : (told : Option Directory) (name : List ℕ) (at : ℕ) (out bytes : List ℕ) → Tells told name bytes → TellsRange told name at out → out ≡ take (length out) (drop at bytes)
range_is None name at out bytes t range = absurd t
range_is (Some files) name at out bytes t range =
    subst (λ (o : Option (List ℕ)). IfSome o (λ b. out ≡ take (length out) (drop at b))) t range

-- a front that goes on with the next piece is a longer front
pub longer_front : (front piece whole : List ℕ) (at : ℕ) → front ≡ take at whole → piece ≡ take (length piece) (drop at whole) → front ++ piece ≡ take (at + length piece) whole
longer_front front piece whole at a b =
    ap (λ (xs : List ℕ). xs ++ piece) a ∙ ap (λ (xs : List ℕ). take at whole ++ xs) b ∙ sym (take-add at (length piece) whole)

pub front_and_rest : (front whole : List ℕ) (at : ℕ) → front ≡ take at whole → front ++ drop at whole ≡ whole
front_and_rest front whole at a = ap (λ (xs : List ℕ). xs ++ drop at whole) a ∙ take-append-drop at whole
