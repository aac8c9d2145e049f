-- What is made of payloads.
use Rattle.std.proofs.Common.{◌≡◌, ◌≢◌, ℕ, List, Option, Some, None, Ok, Err, Vec, inl, inr, subst, length, arith, refl, sym, ap, ◌∙◌, ◌<◌, zero, suc, [], ◌∷◌, Result, get_or, map}
use Rattle.std.proofs.lemmas.Result.{IfOk-weaker}
use Rattle.base_core.specs.Counts.{Rose}
use Rattle.host_io.specs.{Access.Access, Access.Asks, Whole.HasFileCause, Whole.LacksFile, declared.stops.ReadStop.ReadStop, declared.joining.Piece.Piece}
use Rattle.host_io.specs.Contents.{Directory, HasRange, Holds}
use Rattle.host_io.specs.Joined.{Chunk, HasPiece, chunk_in, joined}
use Rattle.host_io.specs.declared.stops.ReadStop.TheVariants as read_stop
use Rattle.std.specs.Global.{Global}
use Rattle.fip_making.specs.{Answers.Gives, Values.size_in, Values.there, Stops.unread_by, Stops.packed_by}
use Rattle.fip_making.specs.{declared.made.Made.Made, declared.payloads.Payload.Payload, declared.stops.Stop.Stop}
use Rattle.fip_making.specs.Payloads.{MakesFile, IsElsewhere, IsMadeOf, IsThere, IsWholeFile, made_by, made_bytes, outline_of, part_told, payload_piece, payload_pieces}
use Rattle.fip_making.specs.declared.stops.Stop.TheVariants as stop
use Rattle.fip_making.proofs.{Tables.sized, Packings.zeroed-all, Packings.gives-same}
use Rattle.std.proofs.lemmas.List.{length-map}
use Rattle.std.specs.List.{All}
use Rattle.fwu_formats.specs.Package.{Part}
use Rattle.fip_tables.specs.{Frame.IsFrame, Frame.chunks, Packing.zeroed, declared.faults.PackFault.PackFault}
use Rattle.fip_tables.specs.{declared.faults.PackStop.PackStop, declared.frame.Frame.Frame}
use Rattle.fip_tables.specs.declared.faults.PackStop.TheVariants as pack

-- ---- whole files

pub has-range : (o : Option Directory) (name : List ℕ) (n len : ℕ) → ((told : Directory) → o ≡ Some told → size_in told name ≡ Ok n) → len ≡ n → HasRange o name 0 len
has-range None name n len knows e = tt
has-range (Some d) name n len knows e = go (d name) refl
  where
    s : (bytes : List ℕ) × (d name ≡ Some bytes) × (length bytes ≡ n)
    s = sized d name n (knows d refl)

    go : (o : Option (List ℕ)) → d name ≡ o → HasRange (Some d) name 0 len
    go None is = let no : ◌≡◌ {A = Option (List ℕ)} None (Some s.0) = sym is ∙ s.1 in cc
    go (Some bytes) is = rw is (let same : bytes ≡ s.0 = (let both : ◌≡◌ {A = Option (List ℕ)} (Some bytes) (Some s.0) = sym is ∙ s.1 in cc) in let long = ap length same in omega (arith, long, s.2, e))

-- what a file gives that was read whole
pub value-read : (o : Option Directory) (told : Directory) (name bytes : List ℕ) → o ≡ Some told → Holds o name bytes → there (told name) ≡ Ok bytes
value-read None told name bytes e h = cc
value-read (Some d) told name bytes e h = let same : d ≡ told = cc in ap there (sym (ap (λ (f : Directory). f name) same) ∙ h)

-- and one that was not
module _ (o : Option Directory) (name : List ℕ) (before now : ℕ) where
  pub value-unread : (told : Directory) (s : ReadStop) → o ≡ Some told → HasFileCause {T = Vec ℕ Global} o name before now (Err s)
      → Gives (λ (v : Vec ℕ Global). v.items) (Rose before now) (there (told name)) (Err (unread_by s))
  value-unread told read_stop.NoMemory e h = tt
  value-unread told read_stop.Failed e h =
      elim (h.failed refl) [
        | inl rose ↦ inr rose
        | inr lacks ↦ inl (ap there (subst (λ (d : Option Directory). LacksFile d name) e lacks))
      ]

-- ---- frames with payloads between their bytes

-- the pieces are the payloads' bytes, by the files
chunks-told : (told : Directory) (gaps : List ℕ) (ps : List Payload) → map (chunk_in told) (payload_pieces gaps ps) ≡ chunks gaps (map (part_told told) ps)
chunks-told told [] ps = refl
chunks-told told (g ∷ gaps) [] = refl
chunks-told told (g ∷ gaps) (p ∷ ps) = ap (λ (cs : List Chunk). chunk_in told (payload_piece g p) ∷ cs) (chunks-told told gaps ps)

-- and what is so of each payload is so of its piece
pieces-as : (P : Payload → Type 0) (Q : Piece → Type 0) → ((g : ℕ) (p : Payload) → P p → Q (payload_piece g p)) → (gaps : List ℕ) (ps : List Payload) → All P ps → All Q (payload_pieces gaps ps)
pieces-as P Q turns [] ps h = λ k d lt. absurd (omega (arith, lt))
pieces-as P Q turns (g ∷ gaps) [] h = λ k d lt. absurd (omega (arith, lt))
pieces-as P Q turns (g ∷ gaps) (p ∷ ps) h = at (pieces-as P Q turns gaps ps (λ i x less. h (suc i) x (omega (arith, less))))
  where
    at : All Q (payload_pieces gaps ps) → (k : ℕ) (d : Piece) → k < length (payload_pieces (g ∷ gaps) (p ∷ ps)) → Q (get_or (payload_pieces (g ∷ gaps) (p ∷ ps)) k d)
    at rest zero d lt = turns g p (h 0 p (omega arith))
    at rest (suc k) d lt = rest k d (omega (arith, lt))

-- each payload is one of them
pieces-all : (gaps : List ℕ) (ps : List Payload) → length gaps ≡ length ps → length (payload_pieces gaps ps) ≡ length ps
pieces-all [] ps e = e
pieces-all (g ∷ gaps) [] e = refl
pieces-all (g ∷ gaps) (p ∷ ps) e = ap suc (pieces-all gaps ps (omega (arith, e)))

-- ---- what is made, or why nothing is

pub makes-starved : {HasAll : Option Directory → Type 0} {IsOther : Access → Type 0} {value : Directory → Result (ℕ × List ℕ) Stop} {number : ℕ} → MakesFile HasAll IsOther value number (Err stop.NoMemory)
makes-starved = record {
  told = λ told has. tt;
  whole = λ told has. tt;
  count = tt;
  pieces = tt;
  asks = record { file = λ e. absurd cc; sink = λ e. absurd cc; refusals = tt };
}

-- of payloads that are among those of another
pub makes-as : {Has HasAll : Option Directory → Type 0} {IsAny IsOther : Access → Type 0} {inner value : Directory → Result (ℕ × List ℕ) Stop} {number all : ℕ} {result : Result Made Stop}
    → ((told : Option Directory) → HasAll told → Has told) → ((access : Access) → IsOther access → IsAny access) → ((told : Directory) → HasAll (Some told) → value told ≡ inner told) → all ≡ number
    → MakesFile Has IsAny inner number result → MakesFile HasAll IsOther value all result
makes-as {result = result} has others same counts made = record {
  told = λ told all. gives-same (made_by told) _ _ _ _ result (λ r. r) (same told all) (made.told told (has (Some told) all));
  whole = λ told all. made.whole told (has told all);
  count = IfOk-weaker result _ _ (λ m e. e ∙ sym counts) made.count;
  pieces = IfOk-weaker result _ _ (λ m none access other. none access (others access other)) made.pieces;
  asks = made.asks;
}

-- What is made of payloads by their sizes.
module _ (value : List Part → Result (ℕ × List ℕ) Stop) (ps : List Payload) (os : List Part) (same : os ≡ map outline_of ps) where
  zeros : (told : Directory) → All (IsThere (Some told)) ps → map zeroed (map (part_told told) ps) ≡ os
  zeros told all = zeroed-all told ps all ∙ sym same

  -- with a frame, which is that of a file with such bytes, whatever the payloads are
  module _ (bytes-of : List Part → List ℕ) (frame : Frame) (m : Made) (made : IsMadeOf frame ps m) (is : IsFrame frame os bytes-of) where
    made-is : (told : Directory) → All (IsThere (Some told)) ps → made_bytes told m ≡ bytes-of (map (part_told told) ps)
    made-is told all =
        ap (λ (f : Frame). joined f.bytes.items (map (chunk_in told) m.pieces.items)) made.frame_is
        ∙ ap (λ (q : List Piece). joined frame.bytes.items (map (chunk_in told) q)) made.pieces
        ∙ ap (joined frame.bytes.items) (chunks-told told frame.gaps.items ps)
        ∙ is.filled (map (part_told told) ps) (zeros told all)

    made-whole : (told : Option Directory) → All (IsThere told) ps → IsWholeFile told m
    made-whole told all = record {
      counted = made.count ∙ sym (ap length made.pieces ∙ pieces-all frame.gaps.items ps (is.gaps ∙ ap length same ∙ length-map ps outline_of));
      there = subst (All (HasPiece told)) (sym made.pieces) (pieces-as (IsThere told) (HasPiece told) (λ g p h. h) frame.gaps.items ps all);
      sized = λ files e.
          let there = subst (λ (o : Option Directory). All (IsThere o) ps) e all in
          ap (λ (f : Frame). f.size) made.frame_is ∙ is.size (map (part_told files) ps) (zeros files there) ∙ ap length (sym (made-is files there));
    }

    pub makes-framed : ((parts : List Part) → map zeroed parts ≡ os → value parts ≡ Ok (length parts, bytes-of parts))
        → MakesFile (λ told. All (IsThere told) ps) (IsElsewhere ps) (λ told. value (map (part_told told) ps)) (length ps) (Ok m)
    makes-framed fits = record {
      told = λ told all.
          let parts = map (part_told told) ps in
          fits parts (zeros told all) ∙ ap (λ (n : ℕ). Ok (n, bytes-of parts)) (length-map ps (part_told told) ∙ sym made.count)
          ∙ ap (λ (b : List ℕ). Ok (m.count, b)) (sym (made-is told all));
      whole = made-whole;
      count = made.count;
      pieces = λ access other.
          let IsOf : List ℕ → Type 0 = λ name. access ≢ Asks name in
          subst (All (λ (q : Piece). IsOf q.file.now)) (sym made.pieces) (pieces-as (λ p. IsOf p.file.now) (λ q. IsOf q.file.now) (λ g p h. h) frame.gaps.items ps other);
      asks = record { file = λ e. absurd cc; sink = λ e. absurd cc; refusals = tt };
    }

  pub makes-unpacked : (s : PackStop) → ((parts : List Part) → map zeroed parts ≡ os → (f : PackFault) → s ≡ pack.Fault f → value parts ≡ Err (stop.NotPacked f))
      → MakesFile (λ told. All (IsThere told) ps) (IsElsewhere ps) (λ told. value (map (part_told told) ps)) (length ps) (Err (packed_by s))
  makes-unpacked (pack.Fault f) refuses = record {
    told = λ told all. refuses (map (part_told told) ps) (zeros told all) f refl;
    whole = λ told all. tt;
    count = tt;
    pieces = tt;
    asks = record { file = λ e. absurd cc; sink = λ e. absurd cc; refusals = tt };
  }
  makes-unpacked pack.NoMemory refuses = makes-starved
