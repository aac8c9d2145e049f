-- Images that are sent over those of the active bank.
use Rattle.std.proofs.Common.{◌≡◌, cond, ℕ, ◌+◌, Bool, true, false, List, [], ◌∷◌, ◌++◌, length, map, set, Option, Some, None, refl, sym, ap, ◌∙◌, arith, length-append}
use Rattle.std.specs.Prelude.{is_some}
use Rattle.std.specs.List.{cons_option, list_all}
use Rattle.fwu_formats.specs.{Layout.ImageRow, Package.Entry, Package.Toc, Package.entry_of, Package.payload, Package.has_image}
use Rattle.fwu_model.specs.Session.{Staged, Nothing, Committed, is_committed}
use Rattle.fwu_model.specs.Answer.{staged_package, staged_bits, copied_part, payload_or}
use Rattle.update_client.specs.{Images.sent_parts, Partial.present}
use Rattle.update_client.proofs.{Staging.append-one, Staging.set-place, Present.places, Present.kept_parts}

-- these images sent over that
abbrev pub over_images : Toc → (ℕ → List ℕ) → ℕ → List ImageRow → List (List ℕ) → List (List ℕ)
over_images toc bytes a [] images = []
over_images toc bytes a (r ∷ rows) [] = bytes a ∷ over_images toc bytes (a + 1) rows []
over_images toc bytes a (r ∷ rows) (b ∷ images) =
    cond (has_image toc r) (b ∷ over_images toc bytes (a + 1) rows images) (bytes a ∷ over_images toc bytes (a + 1) rows (b ∷ images))

-- the parts then: each image committed, a sent one by the request
abbrev pub done_parts : Toc → (ℕ → List ℕ) → Bool → ℕ → List ImageRow → List (List ℕ) → List Staged
done_parts toc bytes bit a [] images = []
done_parts toc bytes bit a (r ∷ rows) [] = Committed (bytes a) true ∷ done_parts toc bytes bit (a + 1) rows []
done_parts toc bytes bit a (r ∷ rows) (b ∷ images) =
    cond (has_image toc r) (Committed b bit ∷ done_parts toc bytes bit (a + 1) rows images) (Committed (bytes a) true ∷ done_parts toc bytes bit (a + 1) rows (b ∷ images))

module _ (toc : Toc) (bytes : ℕ → List ℕ) (bit : Bool) where
  abbrev step : (front : List Staged) → ℕ → List ImageRow → List (List ℕ) → Type 0
  step front a rows images = sent_parts (front ++ kept_parts toc bytes a rows) images (places toc a rows) bit ≡ front ++ done_parts toc bytes bit a rows images

  -- by whether the next image is sent
  pub sent-over : (front : List Staged) (a : ℕ) (rows : List ImageRow) (images : List (List ℕ)) → length front ≡ a
      → length images ≡ length (present rows toc) → step front a rows images
  sent-over front a [] [] size count = refl
  sent-over front a [] (b ∷ images) size count = absurd (omega (arith, count))
  sent-over front a (r ∷ rows) images size count =
      by-entry (λ f rest more all. sent-over f (a + 1) rows rest more all) (entry_of toc r.guid) refl images count
    where
      kept-on : ((f : List Staged) (rest : List (List ℕ)) → length f ≡ a + 1 → length rest ≡ length (present rows toc) → step f (a + 1) rows rest)
          → (y : Staged) (rest : List (List ℕ)) → length rest ≡ length (present rows toc)
          → sent_parts (front ++ y ∷ kept_parts toc bytes (a + 1) rows) rest (places toc (a + 1) rows) bit
          ≡ front ++ y ∷ done_parts toc bytes bit (a + 1) rows rest
      kept-on on y rest all =
          let more : length (front ++ y ∷ []) ≡ a + 1 = omega (arith, length-append front (y ∷ []), size) in
          ap (λ (ps : List Staged). sent_parts ps rest (places toc (a + 1) rows) bit) (sym (append-one front y (kept_parts toc bytes (a + 1) rows)))
          ∙ on (front ++ y ∷ []) rest more all
          ∙ append-one front y (done_parts toc bytes bit (a + 1) rows rest)

      not-sent : (rest : List (List ℕ)) → has_image toc r ≡ false
          → front ++ Committed (bytes a) true ∷ done_parts toc bytes bit (a + 1) rows rest ≡ front ++ done_parts toc bytes bit a (r ∷ rows) rest
      not-sent [] lacks = refl
      not-sent (b ∷ rest) lacks = ap (λ (h : Bool). front ++ cond h (Committed b bit ∷ done_parts toc bytes bit (a + 1) rows rest)
          (Committed (bytes a) true ∷ done_parts toc bytes bit (a + 1) rows (b ∷ rest))) (sym lacks)

      by-entry : ((f : List Staged) (rest : List (List ℕ)) → length f ≡ a + 1 → length rest ≡ length (present rows toc) → step f (a + 1) rows rest)
          → (o : Option Entry) → entry_of toc r.guid ≡ o → (images : List (List ℕ)) → length images ≡ length (present (r ∷ rows) toc) → step front a (r ∷ rows) images
      by-entry on None e images count =
          let lacks : has_image toc r ≡ false = ap (λ (p : Option Entry). is_some p) e in
          let all : length images ≡ length (present rows toc) = count ∙ ap (λ (p : Option Entry). length (cons_option p (present rows toc))) e in
          ap (λ (h : Bool). sent_parts (front ++ copied_part h (bytes a) ∷ kept_parts toc bytes (a + 1) rows) images
          (cond h (a ∷ places toc (a + 1) rows) (places toc (a + 1) rows)) bit) lacks
          ∙ kept-on on (Committed (bytes a) true) images all ∙ not-sent images lacks
      by-entry on (Some entry) e [] count =
          absurd (omega (arith, count ∙ ap (λ (p : Option Entry). length (cons_option p (present rows toc))) e))
      by-entry on (Some entry) e (b ∷ images) count =
          let has : has_image toc r ≡ true = ap (λ (p : Option Entry). is_some p) e in
          let one = ap (λ (p : Option Entry). length (cons_option p (present rows toc))) e in
          let all : length images ≡ length (present rows toc) = omega (arith, count, one) in
          ap (λ (h : Bool). sent_parts (front ++ copied_part h (bytes a) ∷ kept_parts toc bytes (a + 1) rows) (b ∷ images)
          (cond h (a ∷ places toc (a + 1) rows) (places toc (a + 1) rows)) bit) has
          ∙ ap (λ (ps : List Staged). sent_parts ps images (places toc (a + 1) rows) bit)
          (ap (λ (i : ℕ). set (front ++ Nothing ∷ kept_parts toc bytes (a + 1) rows) i (Committed b bit)) (sym size)
          ∙ set-place front (kept_parts toc bytes (a + 1) rows) Nothing (Committed b bit))
          ∙ kept-on on (Committed b bit) images all
          ∙ ap (λ (h : Bool). front ++ cond h (Committed b bit ∷ done_parts toc bytes bit (a + 1) rows images)
          (Committed (bytes a) true ∷ done_parts toc bytes bit (a + 1) rows (b ∷ images))) (sym has)

  -- ---- what they are

  pub done-committed : (a : ℕ) (rows : List ImageRow) (images : List (List ℕ)) → list_all is_committed (done_parts toc bytes bit a rows images) ≡ true
  done-committed a [] images = refl
  done-committed a (r ∷ rows) [] = done-committed (a + 1) rows []
  done-committed a (r ∷ rows) (b ∷ images) = by-test (done-committed (a + 1) rows images) (done-committed (a + 1) rows (b ∷ images)) (has_image toc r)
    where
      by-test : list_all is_committed (done_parts toc bytes bit (a + 1) rows images) ≡ true
          → list_all is_committed (done_parts toc bytes bit (a + 1) rows (b ∷ images)) ≡ true → (h : Bool) → list_all is_committed (cond h (Committed b bit ∷ done_parts toc bytes bit (a + 1) rows images)
          (Committed (bytes a) true ∷ done_parts toc bytes bit (a + 1) rows (b ∷ images))) ≡ true
      by-test sent kept true = sent
      by-test sent kept false = kept

  pub done-package : (a : ℕ) (rows : List ImageRow) (images : List (List ℕ))
      → staged_package (done_parts toc bytes bit a rows images) ≡ over_images toc bytes a rows images
  done-package a [] images = refl
  done-package a (r ∷ rows) [] = ap (λ (l : List (List ℕ)). bytes a ∷ l) (done-package (a + 1) rows [])
  done-package a (r ∷ rows) (b ∷ images) = by-test (done-package (a + 1) rows images) (done-package (a + 1) rows (b ∷ images)) (has_image toc r)
    where
      by-test : staged_package (done_parts toc bytes bit (a + 1) rows images) ≡ over_images toc bytes (a + 1) rows images
          → staged_package (done_parts toc bytes bit (a + 1) rows (b ∷ images)) ≡ over_images toc bytes (a + 1) rows (b ∷ images) → (h : Bool) → staged_package (cond h (Committed b bit ∷ done_parts toc bytes bit (a + 1) rows images)
          (Committed (bytes a) true ∷ done_parts toc bytes bit (a + 1) rows (b ∷ images)))
          ≡ cond h (b ∷ over_images toc bytes (a + 1) rows images) (bytes a ∷ over_images toc bytes (a + 1) rows (b ∷ images))
      by-test sent kept true = ap (λ (l : List (List ℕ)). b ∷ l) sent
      by-test sent kept false = ap (λ (l : List (List ℕ)). bytes a ∷ l) kept

  pub done-bits : (a : ℕ) (rows : List ImageRow) (images : List (List ℕ)) → length images ≡ length (present rows toc)
      → staged_bits (done_parts toc bytes bit a rows images) ≡ map (λ (r : ImageRow). cond (has_image toc r) bit true) rows
  done-bits a [] images count = refl
  done-bits a (r ∷ rows) images count = by-entry (λ rest all. done-bits (a + 1) rows rest all) (entry_of toc r.guid) refl images count
    where
      by-entry : ((rest : List (List ℕ)) → length rest ≡ length (present rows toc)
          → staged_bits (done_parts toc bytes bit (a + 1) rows rest) ≡ map (λ (q : ImageRow). cond (has_image toc q) bit true) rows)
          → (o : Option Entry) → entry_of toc r.guid ≡ o → (images : List (List ℕ)) → length images ≡ length (present (r ∷ rows) toc)
          → staged_bits (done_parts toc bytes bit a (r ∷ rows) images) ≡ cond (has_image toc r) bit true ∷ map (λ (q : ImageRow). cond (has_image toc q) bit true) rows
      by-entry on None e [] count =
          let lacks : has_image toc r ≡ false = ap (λ (p : Option Entry). is_some p) e in
          let all : 0 ≡ length (present rows toc) = count ∙ ap (λ (p : Option Entry). length (cons_option p (present rows toc))) e in
          ap (λ (l : List Bool). true ∷ l) (on [] all)
          ∙ ap (λ (h : Bool). cond h bit true ∷ map (λ (q : ImageRow). cond (has_image toc q) bit true) rows) (sym lacks)
      by-entry on None e (b ∷ images) count =
          let lacks : has_image toc r ≡ false = ap (λ (p : Option Entry). is_some p) e in
          let all : length (b ∷ images) ≡ length (present rows toc) = count ∙ ap (λ (p : Option Entry). length (cons_option p (present rows toc))) e in
          ap (λ (h : Bool). staged_bits (cond h (Committed b bit ∷ done_parts toc bytes bit (a + 1) rows images)
          (Committed (bytes a) true ∷ done_parts toc bytes bit (a + 1) rows (b ∷ images)))) lacks
          ∙ ap (λ (l : List Bool). true ∷ l) (on (b ∷ images) all)
          ∙ ap (λ (h : Bool). cond h bit true ∷ map (λ (q : ImageRow). cond (has_image toc q) bit true) rows) (sym lacks)
      by-entry on (Some entry) e [] count =
          absurd (omega (arith, count ∙ ap (λ (p : Option Entry). length (cons_option p (present rows toc))) e))
      by-entry on (Some entry) e (b ∷ images) count =
          let has : has_image toc r ≡ true = ap (λ (p : Option Entry). is_some p) e in
          let one = ap (λ (p : Option Entry). length (cons_option p (present rows toc))) e in
          let all : length images ≡ length (present rows toc) = omega (arith, count, one) in
          ap (λ (h : Bool). staged_bits (cond h (Committed b bit ∷ done_parts toc bytes bit (a + 1) rows images)
          (Committed (bytes a) true ∷ done_parts toc bytes bit (a + 1) rows (b ∷ images)))) has
          ∙ ap (λ (l : List Bool). bit ∷ l) (on images all)
          ∙ ap (λ (h : Bool). cond h bit true ∷ map (λ (q : ImageRow). cond (has_image toc q) bit true) rows) (sym has)

-- ---- with the payloads of a file

abbrev pub payloads : List ℕ → Toc → (ℕ → List ℕ) → ℕ → List ImageRow → List (List ℕ)
payloads file toc bytes a [] = []
payloads file toc bytes a (r ∷ rows) = payload_or file (bytes a) (entry_of toc r.guid) ∷ payloads file toc bytes (a + 1) rows

pub over-payloads : (file : List ℕ) (toc : Toc) (bytes : ℕ → List ℕ) (a : ℕ) (rows : List ImageRow)
    → over_images toc bytes a rows (map (payload file) (present rows toc)) ≡ payloads file toc bytes a rows
over-payloads file toc bytes a [] = refl
over-payloads file toc bytes a (r ∷ rows) = by-entry (over-payloads file toc bytes (a + 1) rows) (entry_of toc r.guid) refl
  where
    lacking : (images : List (List ℕ)) → has_image toc r ≡ false
        → over_images toc bytes a (r ∷ rows) images ≡ bytes a ∷ over_images toc bytes (a + 1) rows images
    lacking [] lacks = refl
    lacking (b ∷ images) lacks = ap (λ (h : Bool). cond h (b ∷ over_images toc bytes (a + 1) rows images) (bytes a ∷ over_images toc bytes (a + 1) rows (b ∷ images))) lacks

    by-entry : over_images toc bytes (a + 1) rows (map (payload file) (present rows toc)) ≡ payloads file toc bytes (a + 1) rows
        → (o : Option Entry) → entry_of toc r.guid ≡ o
        → over_images toc bytes a (r ∷ rows) (map (payload file) (present (r ∷ rows) toc)) ≡ payloads file toc bytes a (r ∷ rows)
    by-entry on None e =
        let lacks : has_image toc r ≡ false = ap (λ (p : Option Entry). is_some p) e in
        ap (λ (p : Option Entry). over_images toc bytes a (r ∷ rows) (map (payload file) (cons_option p (present rows toc)))) e
        ∙ lacking (map (payload file) (present rows toc)) lacks
        ∙ ap (λ (l : List (List ℕ)). bytes a ∷ l) on
        ∙ ap (λ (p : Option Entry). payload_or file (bytes a) p ∷ payloads file toc bytes (a + 1) rows) (sym e)
    by-entry on (Some entry) e =
        let has : has_image toc r ≡ true = ap (λ (p : Option Entry). is_some p) e in
        let rest = map (payload file) (present rows toc) in
        ap (λ (p : Option Entry). over_images toc bytes a (r ∷ rows) (map (payload file) (cons_option p (present rows toc)))) e
        ∙ ap (λ (h : Bool). cond h (payload file entry ∷ over_images toc bytes (a + 1) rows rest) (bytes a ∷ over_images toc bytes (a + 1) rows (payload file entry ∷ rest))) has
        ∙ ap (λ (l : List (List ℕ)). payload file entry ∷ l) on
        ∙ ap (λ (p : Option Entry). payload_or file (bytes a) p ∷ payloads file toc bytes (a + 1) rows) (sym e)
