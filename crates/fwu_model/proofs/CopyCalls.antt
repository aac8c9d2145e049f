-- A partial begin is a begin, and then an open, writes and a commit of each image that is copied.
use Rattle.std.proofs.Common.{◌≡◌, ◌≢◌, ℕ, zero, suc, ◌+◌, ◌*◌, ◌<◌, ◌≤◌, Bool, true, false, cond, ◌&&◌, ◌||◌, List, [], ◌∷◌, ◌++◌, length, take, map, get_or, set, replicate, Option, Some, None, refl, sym, ap, subst, ◌∙◌, arith, inl, inr, length-set, get_or-set_same, get_or-set_other, ext_get_or, append-nil, IsTrue, ltb}
use Rattle.std.specs.Prelude.{flat_map}
use Rattle.std.specs.List.{list_any, list_all, range_with_len, position_or_len}
use Rattle.std.proofs.lemmas.Bool.{lt-ltb, le-ltb, cases_eq, cases_lt}
use Rattle.std.proofs.lemmas.List.{length-replicate, length-map, length-append, set-set, take_all, length-take}
use Rattle.std.proofs.lemmas.List.FromFn.{length-map-range_with_len, get_or-map-range_with_len}
use Rattle.std.proofs.lemmas.List.Sums.{position_or_len_is}
use Rattle.std.proofs.Math.Seq.{take-add}
use Rattle.std.proofs.Math.Nat.{div-add-mod}
use Rattle.base_core.specs.Bytes.{same_bytes, listed}
use Rattle.fwu_formats.specs.Layout.{ImageRow, slot_bytes, find_image, are_distinct, fits_layout}
use Rattle.fwu_model.specs.{Sound.Setting, Sound.holds_complete, Reply.Reply, Reply.Call, Law.PartialBeginsAreCalls}
use Rattle.fwu_model.specs.State.{State, Move, bank, after}
use Rattle.fwu_model.specs.Session.{Session, Off, On, Staged, Nothing, Open, Committed, Handle, Writes, no_handles, nothing_staged, is_open, is_committed}
use Rattle.fwu_model.specs.Answer.{Answer, answered, refused, answer, answer_begin, answer_begin_partial, answer_open_write, answer_write, answer_commit, are_named, names_unknown, cannot_begin, begin_moves, copied_part, copied_parts, type_of_image, image_held, held_package, opened, is_full, with_appended, appended, staged_bytes}
use Rattle.fwu_model.specs.InRow.{replies_of, moves_of, session_of, is_done, ComeTo, piece_count, piece, copy_calls, copy_unless, begin_calls}
use Rattle.fwu_model.specs.Call as call
use Rattle.fwu_model.specs.Reply as reply
use Rattle.fwu_model.specs.declared.kinds.Status.TheVariants as status
use Rattle.fwu_model.proofs.{Sessions.nothing-at, Matches.no_row, Selects.layout-distinct, ImageSizes.image-fits}
use Rattle.fwu_model.proofs.Staging.{same-self, differs, type-other}

-- ---- the type of an image finds it

own-place : (rows : List ImageRow) (k : ℕ) → IsTrue (are_distinct (map (λ r. r.guid) rows)) → k < length rows
    → position_or_len (λ (r : ImageRow). same_bytes r.guid (type_of_image rows k)) rows ≡ k
own-place rows k distinct lt =
    let type = type_of_image rows k in
    position_or_len_is (λ (r : ImageRow). same_bytes r.guid type) rows k no_row (omega (arith, lt)) (λ j below.
    differs (type_of_image rows j) type (type-other rows j k distinct (omega (arith, below, lt)) lt
    (λ z. absurd (omega (arith, z, below)))))
    (λ there. same-self type)

finds-own : (rows : List ImageRow) (k : ℕ) → IsTrue (are_distinct (map (λ r. r.guid) rows)) → k < length rows
    → find_image rows (type_of_image rows k) ≡ Some k
finds-own rows k distinct lt =
    ap (λ (i : ℕ). cond (ltb i (length rows)) (Some i) None) (own-place rows k distinct lt) ∙ ap (λ (b : Bool). cond b (Some k) None)
    (lt-ltb k (length rows) lt)

-- ---- calls that have no move

module _ (E : Setting) (s : State) where
  -- each is done, with no move, and leads from one session to the next
  data Reaches : Session → List Call → Session → Type 0 where
    Here : {x : Session} → Reaches x [] x
    Next : {x y z : Session} {c : Call} {cs : List Call} (r : Reply) → answer E s x c ≡ answered r [] y → IsTrue (is_done r) → Reaches y cs z
        → Reaches x (c ∷ cs) z

  reaches-then : (x y z : Session) (cs ds : List Call) → Reaches x cs y → Reaches y ds z → Reaches x (cs ++ ds) z
  reaches-then x y z [] ds Here more = more
  reaches-then x y z (c ∷ cs) ds (Next {y = w} r is done rest) more = Next r is done (reaches-then w y z cs ds rest more)

  reaches-comes : (x z : Session) (cs : List Call) → Reaches x cs z → (r : Reply) → ComeTo E s x cs (answered r [] z)
  reaches-comes x z [] Here r = record { done = refl; moves = refl; session = refl }
  reaches-comes x z (c ∷ cs) (Next {y = y} t is done rest) r =
      let more = reaches-comes y z cs rest r in
      record {
        done = subst (λ (a : Answer). IsTrue (list_all is_done (a.reply ∷ replies_of E (after s a.moves) a.next cs))) (sym is)
            (ap (λ (b : Bool). b && list_all is_done (replies_of E s y cs)) done ∙ more.done);
        moves = ap (λ (a : Answer). a.moves ++ moves_of E (after s a.moves) a.next cs) is ∙ more.moves;
        session = ap (λ (a : Answer). session_of E (after s a.moves) a.next cs) is ∙ more.session;
      }

  -- ---- one image

  module _ (boot : ℕ) (parts : List Staged) (k : ℕ) (below : k < length parts) where
    -- handle 1 writes the image
    abbrev writer : List Handle
    writer = set no_handles 0 (Writes k)

    abbrev writing : List ℕ → Session
    writing front = On boot (Some (set parts k (Open front))) writer

    there : (front : List ℕ) → get_or (set parts k (Open front)) k Nothing ≡ Open front
    there front = get_or-set_same parts k (Open front) Nothing below

    opens : find_image E.layout.rows (type_of_image E.layout.rows k) ≡ Some k → get_or parts k Nothing ≡ Nothing
        → answer E s (On boot (Some parts) no_handles) (call.OpenWrite (type_of_image E.layout.rows k)) ≡ answered (reply.Opened 1) [] (writing [])
    unfolding answer answer_open_write
    opens found nothing =
        let guid = type_of_image E.layout.rows k in
        let here = On boot (Some parts) no_handles in
        ap (λ (o : Option ℕ). answer_open_write E boot (Some parts) no_handles guid o) found
        ∙ ap (λ (x : Staged). cond (is_committed x) (refused status.Denied here) (cond (is_open x || is_full no_handles) (refused status.Busy here)
        (opened boot (Some (set parts k (Open []))) no_handles (Writes k)))) nothing

    writes : (front bytes : List ℕ) → length front + length bytes ≤ slot_bytes E.layout k
        → answer E s (writing front) (call.Write 1 bytes) ≡ answered reply.Success [] (writing (front ++ bytes))
    unfolding answer answer_write
    writes front bytes fits =
        let P = set parts k (Open front) in
        let size : length (staged_bytes (get_or P k Nothing)) ≡ length front = ap (λ (x : Staged). length (staged_bytes x)) (there front) in
        ap (λ (b : Bool). cond b (refused status.OutOfBounds (writing front)) (answered reply.Success [] (On boot (with_appended (Some P) k bytes) writer)))
        (le-ltb (slot_bytes E.layout k) (length (staged_bytes (get_or P k Nothing)) + length bytes) (omega (arith, size, fits)))
        ∙ ap (λ (x : Staged). answered reply.Success [] (On boot (Some (set P k (appended x bytes))) writer)) (there front)
        ∙ ap (λ (l : List Staged). answered reply.Success [] (On boot (Some l) writer)) (set-set parts k (Open front) (Open (front ++ bytes)))

    commits : (bytes : List ℕ) → answer E s (writing bytes) (call.Commit 1 0)
        ≡ answered reply.Success [] (On boot (Some (set parts k (Committed bytes true))) no_handles)
    unfolding answer answer_commit
    commits bytes =
        let P = set parts k (Open bytes) in
        ap (λ (x : Staged). answered reply.Success [] (On boot (Some (set P k (Committed (staged_bytes x) true))) no_handles)) (there bytes)
        ∙ ap (λ (l : List Staged). answered reply.Success [] (On boot (Some l) no_handles)) (set-set parts k (Open bytes) (Committed bytes true))

    module _ (bytes : List ℕ) (fits : length bytes ≤ slot_bytes E.layout k) where
      front-more : (i : ℕ) → take (4096 * i) bytes ++ piece bytes i ≡ take (4096 * (i + 1)) bytes
      front-more i = sym (take-add (4096 * i) 4096 bytes) ∙ ap (λ (n : ℕ). take n bytes) (omega arith)

      front-within : (n : ℕ) → length (take n bytes) ≤ length bytes
      front-within n = omega (arith, length-take n bytes)

      pieces-reach : (i n : ℕ) → Reaches (writing (take (4096 * i) bytes)) (map (λ j. call.Write 1 (piece bytes j)) (range_with_len i n))
          (writing (take (4096 * (i + n)) bytes))
      pieces-reach i zero = subst (λ (m : ℕ). Reaches (writing (take (4096 * i) bytes)) [] (writing (take (4096 * m) bytes))) (omega arith) Here
      pieces-reach i (suc n) =
          let front = take (4096 * i) bytes in
          let size = ap (λ (l : List ℕ). length l) (front-more i) in
          let both = length-append front (piece bytes i) in
          let one = writes front (piece bytes i) (omega (arith, size, both, front-within (4096 * (i + 1)), fits)) in
          let rest = subst (λ (m : ℕ). Reaches (writing (take (4096 * (i + 1)) bytes)) (map (λ j. call.Write 1 (piece bytes j)) (range_with_len (i + 1) n))
          (writing (take (4096 * m) bytes))) (omega arith) (pieces-reach (i + 1) n) in
          Next reply.Success one refl (subst (λ (l : List ℕ). Reaches (writing l) (map (λ j. call.Write 1 (piece bytes j)) (range_with_len (i + 1) n))
          (writing (take (4096 * (i + suc n)) bytes))) (sym (front-more i)) rest)

      all-of-it : take (4096 * (0 + piece_count bytes)) bytes ≡ bytes
      all-of-it =
          let count = div-add-mod (length bytes + 4095) 4096 in
          let past : length bytes ≤ 4096 * (0 + piece_count bytes) = omega (arith, count) in
          take_all (4096 * (0 + piece_count bytes)) bytes past

      copy-reaches : find_image E.layout.rows (type_of_image E.layout.rows k) ≡ Some k → get_or parts k Nothing ≡ Nothing
          → Reaches (On boot (Some parts) no_handles) (copy_calls (type_of_image E.layout.rows k) bytes) (On boot (Some (set parts k (Committed bytes true))) no_handles)
      copy-reaches found nothing =
          let end = On boot (Some (set parts k (Committed bytes true))) no_handles in
          let writing_all = subst (λ (l : List ℕ). Reaches (writing []) (map (λ j. call.Write 1 (piece bytes j)) (range_with_len 0 (piece_count bytes))) (writing l))
          all-of-it (pieces-reach 0 (piece_count bytes)) in
          Next (reply.Opened 1) (opens found nothing) refl
          (reaches-then (writing []) (writing bytes) end _ _ writing_all (Next reply.Success (commits bytes) refl Here))

-- ---- all images

abbrev part : List Bool → ℕ → (ℕ → List ℕ) → ℕ → Staged
part named k bytes i = cond (ltb i k) (copied_part (get_or named i true) (bytes i)) Nothing

-- what is staged once those of the first k images are copied that aren't named
abbrev copied_first : List Bool → ℕ → (ℕ → List ℕ) → List Staged
copied_first named k bytes = listed (length named) (part named k bytes)

module _ (named : List Bool) (bytes : ℕ → List ℕ) where
  first-long : (k : ℕ) → length (copied_first named k bytes) ≡ length named
  first-long k = length-map-range_with_len (part named k bytes) 0 (length named)

  first-at : (k i : ℕ) → i < length named → get_or (copied_first named k bytes) i Nothing ≡ part named k bytes i
  first-at k i lt = get_or-map-range_with_len (part named k bytes) 0 (length named) i i Nothing lt (omega arith)

  under : (k i : ℕ) → i < k → part named k bytes i ≡ copied_part (get_or named i true) (bytes i)
  under k i lt = ap (λ (b : Bool). cond b (copied_part (get_or named i true) (bytes i)) Nothing) (lt-ltb i k lt)

  over : (k i : ℕ) → k ≤ i → part named k bytes i ≡ Nothing
  over k i le = ap (λ (b : Bool). cond b (copied_part (get_or named i true) (bytes i)) Nothing) (le-ltb i k le)

  -- two steps differ at most where the second one comes to
  elsewhere : (k i : ℕ) → i ≢ k → part named (k + 1) bytes i ≡ part named k bytes i
  elsewhere k i ne = elim (cases_lt i k) [
    | inl lt ↦ under (k + 1) i (omega (arith, lt)) ∙ sym (under k i lt)
    | inr le ↦ over (k + 1) i (past le) ∙ sym (over k i le)
  ]
    where
      past : k ≤ i → k + 1 ≤ i
      past le = elim (cases_lt k i) [ inl lt ↦ omega (arith, lt) | inr ge ↦ absurd (ne (omega (arith, le, ge))) ]

  -- a list with these images is what is staged
  first-is : (k : ℕ) (ys : List Staged) → length ys ≡ length named
      → ((i : ℕ) → i < length named → part named k bytes i ≡ get_or ys i Nothing) → copied_first named k bytes ≡ ys
  first-is k ys count same =
      let long = first-long k in
      ext_get_or Nothing (copied_first named k bytes) ys (long ∙ sym count) (λ i below.
      let lt : i < length named = omega (arith, below, long) in
      first-at k i lt ∙ same i lt)

  first-none : copied_first named 0 bytes ≡ replicate (length named) Nothing
  first-none =
      first-is 0 (replicate (length named) Nothing) (length-replicate (length named) Nothing) (λ i lt.
      over 0 i (omega arith) ∙ sym (nothing-at (length named) i))

  first-all : copied_first named (length named) bytes ≡ copied_parts named bytes
  unfolding copied_parts
  first-all =
      let g = λ (i : ℕ). copied_part (get_or named i true) (bytes i) in
      first-is (length named) (listed (length named) g) (length-map-range_with_len g 0 (length named)) (λ i lt.
      under (length named) i lt ∙ sym (get_or-map-range_with_len g 0 (length named) i i Nothing lt (omega arith)))

  -- an image that is named stays nothing
  next-named : (k : ℕ) → get_or named k true ≡ true → copied_first named (k + 1) bytes ≡ copied_first named k bytes
  next-named k is =
      first-is (k + 1) (copied_first named k bytes) (first-long k) (λ i lt. same i ∙ sym (first-at k i lt))
    where
      same : (i : ℕ) → part named (k + 1) bytes i ≡ part named k bytes i
      same i = elim (cases_eq i k) [
        | inl e ↦ under (k + 1) i (omega (arith, e)) ∙ ap (λ (b : Bool). copied_part b (bytes i)) (ap (λ (j : ℕ). get_or named j true) e ∙ is)
            ∙ sym (over k i (omega (arith, e)))
        | inr ne ↦ elsewhere k i ne
      ]

  -- another one is committed
  next-copied : (k : ℕ) → get_or named k true ≡ false → k < length named
      → set (copied_first named k bytes) k (Committed (bytes k) true) ≡ copied_first named (k + 1) bytes
  next-copied k is below-k =
      let y = Committed (bytes k) true in
      let old = copied_first named k bytes in
      sym (first-is (k + 1) (set old k y) (length-set old k y ∙ first-long k) (λ i lt. elim (cases_eq i k) [
        | inl e ↦
            let here = get_or-set_same old k y Nothing (omega (arith, below-k, first-long k)) in
            rw e (under (k + 1) k (omega arith) ∙ ap (λ (b : Bool). copied_part b (bytes k)) is ∙ sym here)
        | inr ne ↦ elsewhere k i ne ∙ sym (get_or-set_other old k i y Nothing ne ∙ first-at k i lt)
      ]))

  module _ (E : Setting) (s : State) (boot : ℕ) (many : length named ≡ length E.layout.rows)
      (distinct : IsTrue (are_distinct (map (λ r. r.guid) E.layout.rows)))
      (fits : (i : ℕ) → i < length E.layout.rows → length (bytes i) ≤ slot_bytes E.layout i) where
    abbrev staged : ℕ → Session
    staged k = On boot (Some (copied_first named k bytes)) no_handles

    abbrev copy_at : ℕ → List Call
    copy_at i = copy_unless (get_or named i true) (type_of_image E.layout.rows i) (bytes i)

    one-reaches : (k : ℕ) → k < length named → (b : Bool) → get_or named k true ≡ b
        → Reaches E s (staged k) (copy_unless b (type_of_image E.layout.rows k) (bytes k)) (staged (k + 1))
    one-reaches k lt true is = subst (λ (ps : List Staged). Reaches E s (staged k) [] (On boot (Some ps) no_handles)) (sym (next-named k is)) Here
    one-reaches k lt false is =
        let within : k < length E.layout.rows = omega (arith, lt, many) in
        subst (λ (ps : List Staged). Reaches E s (staged k) (copy_calls (type_of_image E.layout.rows k) (bytes k)) (On boot (Some ps) no_handles))
        (next-copied k is lt)
        (copy-reaches E s boot (copied_first named k bytes) k (omega (arith, lt, first-long k)) (bytes k) (fits k within)
        (finds-own E.layout.rows k distinct within) (first-at k k lt ∙ over k k (omega arith)))

    copies-reach : (n k : ℕ) → k + n ≤ length named → Reaches E s (staged k) (flat_map copy_at (range_with_len k n)) (staged (k + n))
    copies-reach zero k le = subst (λ (m : ℕ). Reaches E s (staged k) [] (staged m)) (omega arith) Here
    copies-reach (suc n) k le =
        let one = one-reaches k (omega (arith, le)) (get_or named k true) refl in
        let rest = subst (λ (m : ℕ). Reaches E s (staged (k + 1)) (flat_map copy_at (range_with_len (k + 1) n)) (staged m)) (omega arith)
        (copies-reach n (k + 1) (omega (arith, le))) in
        reaches-then E s (staged k) (staged (k + 1)) (staged (k + suc n)) (copy_at k) (flat_map copy_at (range_with_len (k + 1) n)) one rest

-- ---- the law

held-fits : (E : Setting) (held : Option (List (List ℕ))) → IsTrue (fits_layout E.layout) → IsTrue (holds_complete E held)
    → (i : ℕ) → i < length E.layout.rows → length (get_or (held_package held) i []) ≤ slot_bytes E.layout i
held-fits E None layout complete i lt = absurd cc
held-fits E (Some p) layout complete i lt = image-fits E.layout p layout complete i lt

begun : (denied unknown : Bool) (x y : Session) (ms : List Move)
    → (cond denied (refused status.Denied x) (cond unknown (refused status.Unknown x) (answered reply.Success ms y))).reply ≡ reply.Success
    → (denied ≡ false) × (unknown ≡ false)
begun true unknown x y ms done = absurd cc
begun false true x y ms done = absurd cc
begun false false x y ms done = (refl, refl)

by-calls : (E : Setting) (s : State) (boot : ℕ) (staging : Option (List Staged)) (handles : List Handle) (types : List (List ℕ)) → IsTrue (fits_layout E.layout)
    → IsTrue (holds_complete E (bank s s.active).held) → (answer E s (On boot staging handles) (call.BeginPartial types)).reply ≡ reply.Success
    → ComeTo E s (On boot staging handles) (begin_calls E s types) (answer E s (On boot staging handles) (call.BeginPartial types))
unfolding answer answer_begin answer_begin_partial
by-calls E s boot staging handles types layout complete done =
    let here = On boot staging handles in
    let named = are_named E.layout.rows types in
    let bytes = image_held s s.active in
    let end = On boot (Some (copied_parts named bytes)) no_handles in
    let denied = cannot_begin s boot staging in
    let unknown = names_unknown E.layout.rows types in
    let tests = begun denied unknown here end (begin_moves s) done in
    let t = after s (begin_moves s) in
    let many : length named ≡ length E.layout.rows = length-map E.layout.rows (λ (r : ImageRow). list_any (same_bytes r.guid) types) in
    let fits = held-fits E (bank s s.active).held layout complete in
    let copies = flat_map (copy_at named bytes E t boot many (layout-distinct E.layout layout) fits) (range_with_len 0 (length E.layout.rows)) in
    let reached = copies-reach named bytes E t boot many (layout-distinct E.layout layout) fits (length E.layout.rows) 0 (omega (arith, many)) in
    let start : copied_first named 0 bytes ≡ replicate (length E.layout.rows) Nothing = first-none named bytes ∙ ap (λ (n : ℕ). replicate n Nothing) many in
    let finish : copied_first named (0 + length E.layout.rows) bytes ≡ copied_parts named bytes =
    ap (λ (n : ℕ). copied_first named n bytes) (omega (arith, many)) ∙ first-all named bytes in
    let more = reaches-comes E t (On boot (nothing_staged E) no_handles) end copies
    (subst (λ (ps : List Staged). Reaches E t (On boot (Some ps) no_handles) copies end) start
    (subst (λ (ps : List Staged). Reaches E t (On boot (Some (copied_first named 0 bytes)) no_handles) copies (On boot (Some ps) no_handles)) finish reached))
    reply.Success in
    let first : answer E s here (call.Begin 0) ≡ answered reply.Success (begin_moves s) (On boot (nothing_staged E) no_handles) =
    ap (λ (b : Bool). cond b (refused status.Denied here) (answered reply.Success (begin_moves s) (On boot (nothing_staged E) no_handles))) tests.0 in
    let whole : answer E s here (call.BeginPartial types) ≡ answered reply.Success (begin_moves s) end =
    ap (λ (b : Bool). cond b (refused status.Denied here) (cond unknown (refused status.Unknown here) (answered reply.Success (begin_moves s) end))) tests.0
    ∙ ap (λ (b : Bool). cond b (refused status.Unknown here) (answered reply.Success (begin_moves s) end)) tests.1 in
    record {
      done = subst (λ (a : Answer). IsTrue (list_all is_done (a.reply ∷ replies_of E (after s a.moves) a.next copies))) (sym first) more.done;
      moves = ap (λ (a : Answer). a.moves ++ moves_of E (after s a.moves) a.next copies) first ∙ ap (λ (ms : List Move). begin_moves s ++ ms) more.moves
          ∙ append-nil (begin_moves s) ∙ sym (ap (λ (a : Answer). a.moves) whole);
      session = ap (λ (a : Answer). session_of E (after s a.moves) a.next copies) first ∙ more.session ∙ sym (ap (λ (a : Answer). a.next) whole);
    }

pub partial-begins-are-calls : PartialBeginsAreCalls
unfolding answer
partial-begins-are-calls E s Off types layout complete done = absurd cc
partial-begins-are-calls E s (On boot staging handles) types layout complete done = by-calls E s boot staging handles types layout complete done
