-- Frames with pieces between their bytes, piece by piece.
use Rattle.std.proofs.Common.{◌≡◌, ◌<◌, ◌≤◌, ◌+◌, ◌++◌, ◌∙◌, ℕ, List, [], ◌∷◌, Option, Result, Ok, Err, length, drop, get_or, map, take, arith, ap, refl, subst, sym, append_assoc, append-nil, length-append}
use Rattle.std.proofs.lemmas.List.{drop_all, drop_more, map-append, take_all, take_more}
use Rattle.std.specs.Prelude.{OnOk}
use Rattle.std.specs.Io.KnownBytes.{Appends}
use Rattle.host_io.specs.{Contents.Directory, declared.joining.Piece.Piece}
use Rattle.host_io.specs.Joined.{AppendsJoined, AppendsPiece, AppendsSome, Chunk, chunk_in, joined}
use Rattle.host_io.proofs.Pieces.{appends_none, appends_twice}

-- what stands behind the first pieces, with what they made so far
abbrev pub AreJoined : Directory → List ℕ → List Piece → List ℕ → List ℕ → ℕ → Type 0
AreJoined files frame pieces bytes left i =
    bytes ++ joined left (map (chunk_in files) (drop i pieces)) ≡ joined frame (map (chunk_in files) pieces)

-- ---- what is written of them

pub appends-more : (a b c : Option (List ℕ)) (m n k : ℕ) → AppendsSome a b m → AppendsSome b c n → k ≡ m + n → AppendsSome a c k
appends-more a b c m n k s t is = record {
  bytes = s.bytes ++ t.bytes;
  size = length-append s.bytes t.bytes ∙ omega (arith, s.size, t.size, is);
  added = appends_twice a b c s.bytes t.bytes s.added t.added;
}

-- the first pieces are written
pub record JoinedSome (start now : Option (List ℕ)) (frame left : List ℕ) (pieces : List Piece) (i : ℕ) : Type 0 where
  pub chunks : List Chunk
  pub gaps : map (λ c. c.gap) chunks ≡ map (λ p. p.gap) (take i pieces)
  pub sizes : map (λ c. length c.bytes) chunks ≡ map (λ p. p.count) (take i pieces)
  pub bytes : List ℕ
  pub added : Appends start now bytes
  pub goes-on : (rest : List Chunk) → bytes ++ joined left rest ≡ joined frame (chunks ++ rest)

pub none-joined : (start : Option (List ℕ)) (frame : List ℕ) (pieces : List Piece) → JoinedSome start start frame frame pieces 0
none-joined start frame pieces = record { chunks = []; gaps = refl; sizes = refl; bytes = []; added = appends_none start; goes-on = λ rest. refl }

pub one-more-joined : (start now after : Option (List ℕ)) (frame left rest : List ℕ) (pieces : List Piece) (i : ℕ) (d : Piece) → i < length pieces
    → JoinedSome start now frame left pieces i → AppendsPiece now after left (get_or pieces i d) → rest ≡ drop (get_or pieces i d).gap left
    → JoinedSome start after frame rest pieces (i + 1)
one-more-joined start now after frame left rest pieces i d lt so a cut = record {
  chunks = so.chunks ++ (c ∷ []);
  gaps = map-append (λ (d : Chunk). d.gap) so.chunks (c ∷ []) ∙ ap (λ (l : List ℕ). l ++ (p.gap ∷ [])) so.gaps ∙ sym (more (λ q. q.gap));
  sizes = map-append (λ (d : Chunk). length d.bytes) so.chunks (c ∷ []) ∙ ap (λ (l : List ℕ). l ++ (length a.bytes ∷ [])) so.sizes
      ∙ ap (λ (n : ℕ). map (λ (q : Piece). q.count) (take i pieces) ++ (n ∷ [])) a.size ∙ sym (more (λ q. q.count));
  bytes = so.bytes ++ (take p.gap left ++ a.bytes);
  added = appends_twice start now after so.bytes (take p.gap left ++ a.bytes) so.added a.added;
  goes-on = λ tail.
      ap (λ (l : List ℕ). (so.bytes ++ (take p.gap left ++ a.bytes)) ++ joined l tail) cut
      ∙ append_assoc so.bytes (take p.gap left ++ a.bytes) (joined (drop p.gap left) tail)
      ∙ ap (λ (l : List ℕ). so.bytes ++ l) (append_assoc (take p.gap left) a.bytes (joined (drop p.gap left) tail))
      ∙ so.goes-on (c ∷ tail) ∙ ap (joined frame) (sym (append_assoc so.chunks (c ∷ []) tail));
}
  where
    p : Piece
    p = get_or pieces i d

    c : Chunk
    c = record { gap = p.gap; bytes = a.bytes }

    more : (f : Piece → ℕ) → map f (take (i + 1) pieces) ≡ map f (take i pieces) ++ (f p ∷ [])
    more f =
        ap (map f) (take_more pieces i d lt) ∙ map-append f (take i pieces) (p ∷ [])

pub joined-all : (start now after : Option (List ℕ)) (frame left : List ℕ) (pieces : List Piece) (i : ℕ) → length pieces ≤ i → JoinedSome start now frame left pieces i → Appends now after left
    → AppendsJoined start after frame pieces
joined-all start now after frame left pieces i le so a = record {
  chunks = so.chunks;
  gaps = so.gaps ∙ ap (map (λ (p : Piece). p.gap)) (take_all i pieces le);
  sizes = so.sizes ∙ ap (map (λ (p : Piece). p.count)) (take_all i pieces le);
  added = subst (Appends start after) (so.goes-on [] ∙ ap (joined frame) (append-nil so.chunks)) (appends_twice start now after so.bytes left so.added a);
}

pub ok-as : {T E P Q : Type 0} (r : Result T E) → (P → Q) → OnOk r P → OnOk r Q
ok-as (Ok x) turns h = turns h
ok-as (Err e) turns h = tt
