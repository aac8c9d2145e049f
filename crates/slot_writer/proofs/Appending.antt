-- Bytes of an image behind those before: what is on the flash, and the rest.
use Rattle.std.proofs.Common.{◌≡◌, inl, inr, ℕ, ◌+◌, ◌-◌, ◌*◌, ◌/◌, ◌%◌, ◌<◌, ◌≤◌, List, ◌++◌, length, get_or, take, drop, replicate, sym, ◌∙◌, ap, ap₂, arith, refl, subst}
use Rattle.std.proofs.lemmas.List.{length-take, length-take-le, length-drop, get_or-take, get_or-drop, get_or_default, same_lists, take-append-drop, length-append, length-replicate, get_or-replicate, get_or-append_right, take-take, drop-take, drop-drop, append_assoc, append-nil}
use Rattle.std.proofs.lemmas.Bool.{cases_lt}
use Rattle.std.proofs.Math.Seq.{take-append-add, take-append_seam}
use Rattle.std.proofs.lemmas.Result.{on_ok_weaker}
use Rattle.std.specs.Prelude.{Result, Ok, Err}
use Rattle.flash_core.specs.{declared.flash.FlashStop.FlashStop, Told.Told, Told.settle, Told.settled, May.Keeps}
use Rattle.flash_core.proofs.Calls.{keeps_same, keeps_wider, keeps_then, keeps_settle, now-settle, settle-fresh}
use Rattle.slot_writer.specs.Slots.{Programs, Appends, FinishesImage, IsBlankAhead, blocks_for, done_of, bytes_stored}

take-split : (a n : ℕ) (xs : List ℕ) → take (a + n) xs ≡ take a xs ++ take n (drop a xs)
take-split a n xs = sym (take-append-drop a (take (a + n) xs)) ∙ ap₂ (λ (x y : List ℕ). x ++ y) (take-take a (a + n) xs (omega arith)) (drop-take a n xs)

-- an image from a place on agrees up to what was done
module _ (first done n : ℕ) (bytes : List ℕ) (s t : Told) (is : n ≡ length bytes) (room : 4096 * first + done + n ≤ length s.now) (programs : Programs {T = Unit {0}} (Ok tt) first done bytes s t) where
  abbrev from : ℕ
  from = 4096 * first

  front_same : take done (drop from t.now) ≡ take done (drop from s.now)
  front_same =
      let size = programs.keeps.size in
      same_lists (take done (drop from t.now)) (take done (drop from s.now))
      (omega (arith, length-take done (drop from t.now), length-take done (drop from s.now), length-drop from t.now, length-drop from s.now, size))
      (λ k d h.
      let lt : k < done = omega (arith, h, length-take done (drop from t.now)) in
      get_or-take done (drop from t.now) k d lt ∙ get_or-drop from t.now k d ∙ get_or_default t.now (from + k) d 0 (omega (arith, lt, size, room))
      ∙ programs.keeps.now (from + k) (inl (omega (arith, lt)))
      ∙ get_or_default s.now (from + k) 0 d (omega (arith, lt, room)) ∙ sym (get_or-drop from s.now k d) ∙ sym (get_or-take done (drop from s.now) k d lt))

  -- what is on the flash is what was, and the bytes
  pub front-programmed : take (done + n) (drop from t.now) ≡ take done (drop from s.now) ++ bytes
  front-programmed =
      take-split done n (drop from t.now)
      ∙ ap₂ (λ (x y : List ℕ). x ++ y) front_same
      (ap (take n) (drop-drop done from t.now) ∙ ap (λ (k : ℕ). take k (drop (from + done) t.now)) (omega (arith, is)) ∙ programs.written)

-- nothing was kept: whole granules, and the new rest
module _ (first size whole : ℕ) (rest bytes left : List ℕ) (s t : Told) (granule : size % 16 ≡ 0) (is : whole ≡ length bytes - length bytes % 16) (room : 4096 * first + size + length bytes ≤ length s.now)
    (programs : Programs {T = Unit {0}} (Ok tt) first size (take whole bytes) s t) (kept : take (length bytes - whole) left ≡ drop whole bytes) where
  count : length (take whole bytes) ≡ whole
  count = length-take-le whole bytes (omega (arith, is))

  now_done : done_of (size + length bytes) ≡ size + whole
  now_done = omega (arith, is, granule)

  pub whole-appended : Appends {T = Unit {0}} (Ok tt) first size rest bytes left s t
  whole-appended = record {
    keeps = keeps_wider (4096 * first + size) (4096 * (first + blocks_for (size + length (take whole bytes)))) (4096 * first + done_of size) (4096 * (first + blocks_for (done_of (size + length bytes)))) s t (omega arith) (omega (arith, count, now_done)) programs.keeps;
    idle = λ same. programs.idle (omega (arith, count, now_done, same, granule));
    written =
        let a = take size (drop (4096 * first) s.now) in
        let there : take (size + whole) (drop (4096 * first) t.now) ≡ a ++ take whole bytes = front-programmed first size whole (take whole bytes) s t (sym count) (omega (arith, is, room)) programs in
        let left_is : take ((size + length bytes) % 16) left ≡ drop whole bytes = ap (λ (k : ℕ). take k left) (omega (arith, granule, is)) ∙ kept in
        let before : bytes_stored first size rest s.now ≡ a = ap₂ (λ (i j : ℕ). take i (drop (4096 * first) s.now) ++ take j rest) (omega (arith, granule)) granule ∙ append-nil a in
        ap₂ (λ (x y : List ℕ). x ++ y) (ap (λ (k : ℕ). take k (drop (4096 * first) t.now)) now_done ∙ there) left_is
        ∙ append_assoc a (take whole bytes) (drop whole bytes) ∙ ap (λ (l : List ℕ). a ++ l) (take-append-drop whole bytes) ∙ ap (λ (l : List ℕ). l ++ bytes) (sym before);
    ahead = λ i above below. programs.ahead i (omega (arith, above, now_done, count)) (subst (λ (k : ℕ). i < 4096 * (first + blocks_for k)) (now_done ∙ ap (λ (k : ℕ). size + k) (sym count)) below);
    stable = programs.stable;
  }

-- bytes that fill no granule are kept alone
pub kept-appended : (first size : ℕ) (rest bytes left : List ℕ) (s : Told) → size % 16 + length bytes < 16 → take (size % 16 + length bytes) left ≡ take (size % 16) rest ++ bytes → IsBlankAhead first (done_of size) s.now
    → Appends {T = Unit {0}} (Ok tt) first size rest bytes left s s
kept-appended first size rest bytes left s few kept ahead =
    let same : done_of (size + length bytes) ≡ done_of size = omega (arith, few) in
    let a = take (done_of size) (drop (4096 * first) s.now) in
    record {
      keeps = keeps_same _ _ s;
      idle = λ _. refl;
      written =
          ap₂ (λ (i j : ℕ). take i (drop (4096 * first) s.now) ++ take j left) same (omega (arith, few)) ∙ ap (λ (l : List ℕ). a ++ l) kept ∙ sym (append_assoc a (take (size % 16) rest) bytes);
      ahead = subst (λ (k : ℕ). IsBlankAhead first k s.now) (sym same) ahead;
      stable = refl;
    }

-- a granule is filled, and the other bytes come behind it
module _ {T : Type 0} (result : Result T FlashStop) (first size room : ℕ) (rest bytes filled left : List ℕ) (s m t : Told) (some : 0 < size % 16) (room_is : room ≡ 16 - size % 16) (enough : room ≤ length bytes) (fits : 4096 * first + size + length bytes ≤ length s.now)
    (filled_is : filled ≡ take (size % 16) rest ++ take room bytes) (sixteen : length filled ≡ 16) (programs : Programs {T = Unit {0}} (Ok tt) first (done_of size) filled s m)
    (appends : Appends result first (done_of size + 16) filled (drop room bytes) left m t) where
  all : done_of size + 16 + length (drop room bytes) ≡ size + length bytes
  all = omega (arith, length-drop room bytes, room_is, enough)

  pub filled-appended : Appends result first size rest bytes left s t
  filled-appended = record {
    keeps =
        keeps_then (4096 * first + done_of size) (4096 * (first + blocks_for (done_of (size + length bytes)))) s m t
        (keeps_wider (4096 * first + done_of size) (4096 * (first + blocks_for (done_of size + length filled))) (4096 * first + done_of size) (4096 * (first + blocks_for (done_of (size + length bytes)))) s m (omega arith) (omega (arith, sixteen, room_is, enough)) programs.keeps)
        (keeps_wider (4096 * first + done_of (done_of size + 16)) (4096 * (first + blocks_for (done_of (done_of size + 16 + length (drop room bytes))))) (4096 * first + done_of size) (4096 * (first + blocks_for (done_of (size + length bytes)))) m t (omega arith) (omega (arith, all)) appends.keeps);
    idle = λ same. absurd (omega (arith, same, some, room_is, enough));
    written = on_ok_weaker result (λ e.
        let a = take (done_of size) (drop (4096 * first) s.now) in
        let head = take (size % 16) rest in
        let there : take (done_of size + 16) (drop (4096 * first) m.now) ≡ a ++ filled = front-programmed first (done_of size) 16 filled s m (sym sixteen) (omega (arith, room_is, enough, fits)) programs in
        let before : bytes_stored first (done_of size + 16) filled m.now ≡ a ++ filled =
        let i_is : done_of (done_of size + 16) ≡ done_of size + 16 = omega arith in
        let j_is : (done_of size + 16) % 16 ≡ 0 = omega arith in
        ap₂ (λ (i j : ℕ). take i (drop (4096 * first) m.now) ++ take j filled) i_is j_is ∙ append-nil _ ∙ there in
        ap (λ (k : ℕ). bytes_stored first k left t.now) (sym all) ∙ e ∙ ap (λ (l : List ℕ). l ++ drop room bytes) (before ∙ ap (λ (l : List ℕ). a ++ l) filled_is)
        ∙ append_assoc a (head ++ take room bytes) (drop room bytes)
        ∙ ap (λ (l : List ℕ). a ++ l) (append_assoc head (take room bytes) (drop room bytes) ∙ ap (λ (l : List ℕ). head ++ l) (take-append-drop room bytes))
        ∙ sym (append_assoc a head bytes)) appends.written;
    ahead = on_ok_weaker result (subst (λ (k : ℕ). IsBlankAhead first (done_of k) t.now) all) appends.ahead;
    stable = appends.stable ∙ programs.stable;
  }

pub padded_size : (kept : ℕ) (rest last : List ℕ) → kept ≤ 16 → length rest ≡ 16 → last ≡ take kept rest ++ replicate (16 - kept) 255 → length last ≡ 16
padded_size kept rest last few sixteen is =
    ap length is ∙ length-append (take kept rest) (replicate (16 - kept) 255)
    ∙ omega (arith, few, length-take-le kept rest (omega (arith, few, sixteen)), length-replicate {A = ℕ} (16 - kept) 255)

-- the end: a padded granule, and a barrier
module _ (first size n : ℕ) (rest last : List ℕ) (s m : Told) (n_is : n ≡ 16 * ((size % 16 + 15) / 16)) (sixteen : length rest ≡ 16) (fits : 4096 * first + 4096 * blocks_for size ≤ length s.now)
    (last_is : last ≡ take (size % 16) rest ++ replicate (16 - size % 16) 255) (programs : Programs {T = Unit {0}} (Ok tt) first (done_of size) (take n last) s m) where
  kept_size : length (take (size % 16) rest) ≡ size % 16
  kept_size = length-take-le (size % 16) rest (omega (arith, sixteen))

  last_size : length last ≡ 16
  last_size = padded_size (size % 16) rest last (omega arith) sixteen last_is

  kept : take (size % 16) last ≡ take (size % 16) rest
  kept = ap (take (size % 16)) last_is ∙ ap (λ (k : ℕ). take k (take (size % 16) rest ++ replicate (16 - size % 16) 255)) (sym kept_size) ∙ take-append_seam (take (size % 16) rest) (replicate (16 - size % 16) 255)

  padded-size : length (take n last) ≡ n
  padded-size = length-take-le n last (omega (arith, n_is, last_size))

  keeps_here : Keeps (4096 * first + done_of size) (4096 * (first + blocks_for size)) s m
  keeps_here = keeps_wider (4096 * first + done_of size) (4096 * (first + blocks_for (done_of size + length (take n last)))) (4096 * first + done_of size) (4096 * (first + blocks_for size)) s m (omega arith) (omega (arith, padded-size, n_is)) programs.keeps

  whole_there : take size (drop (4096 * first) m.now) ≡ bytes_stored first size rest s.now
  whole_there =
      let a = take (done_of size) (drop (4096 * first) s.now) in
      let a_size : length a ≡ done_of size = length-take-le (done_of size) (drop (4096 * first) s.now) (omega (arith, length-drop (4096 * first) s.now, fits)) in
      let there : take (done_of size + n) (drop (4096 * first) m.now) ≡ a ++ take n last = front-programmed first (done_of size) n (take n last) s m (sym padded-size) (omega (arith, n_is, fits)) programs in
      sym (take-take size (done_of size + n) (drop (4096 * first) m.now) (omega (arith, n_is))) ∙ ap (take size) there
      ∙ ap (λ (k : ℕ). take k (a ++ take n last)) (omega (arith, a_size)) ∙ take-append-add a (take n last) (size % 16)
      ∙ ap (λ (l : List ℕ). a ++ l) (take-take (size % 16) n last (omega (arith, n_is)) ∙ kept)

  -- the bytes behind the image in its last granule
  padding : (k : ℕ) → size % 16 ≤ k → k < n → get_or m.now (4096 * first + done_of size + k) 0 ≡ 255
  padding k above below =
      let at : ℕ = 4096 * first + done_of size in
      let ends : at + length (take n last) - at ≡ n = omega (arith, padded-size) in
      let sixteen_n : n ≤ 16 = omega (arith, n_is) in
      sym (get_or-drop at m.now k 0) ∙ sym (get_or-take (at + length (take n last) - at) (drop at m.now) k 0 (omega (arith, below, ends)))
      ∙ ap (λ (l : List ℕ). get_or l k 0) programs.written ∙ get_or-take n last k 0 below
      ∙ ap (λ (l : List ℕ). get_or l k 0) last_is
      ∙ get_or-append_right (take (size % 16) rest) (replicate (16 - size % 16) 255) (size % 16) k 0 kept_size above
      ∙ get_or-replicate (16 - size % 16) (k - size % 16) 255 0 (omega (arith, above, below, sixteen_n))

  padded_there : IsBlankAhead first size m.now
  padded_there i above below = elim (cases_lt i (4096 * first + done_of size + n)) [
    | inl inside ↦
        ap (λ (k : ℕ). get_or m.now k 0) (omega (arith, above)) ∙ padding (i - (4096 * first + done_of size)) (omega (arith, above)) (omega (arith, above, inside))
    | inr behind ↦ programs.ahead i (omega (arith, behind, padded-size)) (omega (arith, below, padded-size, n_is))
  ]

  idle_here : size % 16 ≡ 0 → m ≡ s
  idle_here none = programs.idle (omega (arith, padded-size, n_is, none))

  pub finished-by : (result : Result (Unit {0}) FlashStop) → FinishesImage result first size rest s (settled result m)
  finished-by (Ok u) = record {
    keeps = keeps_settle _ _ s m keeps_here;
    idle = λ none. ap settle (idle_here none);
    written = ap (λ (l : List ℕ). take size (drop (4096 * first) l)) (now-settle m) ∙ whole_there;
    padded = subst (IsBlankAhead first size) (sym (now-settle m)) padded_there;
    stable = settle-fresh m;
  }
  finished-by (Err stop) = record { keeps = keeps_here; idle = idle_here; written = tt; padded = tt; stable = tt }
