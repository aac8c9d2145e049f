-- Words that ask for `unpack`: the file that is read is not one that may be written.
use Rattle.std.proofs.Common.{◌≡◌, ℕ, Bool, true, false, List, Option, Some, None, codes, refl, sym, ap, ◌∙◌}
use Rattle.std.specs.Prelude.{if◌then◌else◌, option_and_then}
use Rattle.base_core.specs.Bytes.{same_bytes}
use Rattle.fip_words.specs.{Commands.fip_app, Words.reads}
use Rattle.fip_words.specs.Order.{FipAsked, info, info_of_source, unpack, align_in, asked, create_by, file_in, capsule_by, info_by, manifest_by, order_of, repackage_by, repackage_of, remove_by, unpack_by, update_by, values_of}
use Rattle.fip_words.specs.Values.{NamedFile, NamedImage, is_unpacked, names_of, named_parts_of, named_rows_of}

module _ (from prefix : List ℕ) (names : List (List ℕ)) where
  abbrev Is : Option FipAsked → Type 0
  Is o = o ≡ Some (unpack from prefix names)

  info-is-none : (file : Option (List ℕ)) → Is (info_by file) → ⊥
  info-is-none None e = cc
  info-is-none (Some name) e = go (same_bytes name (codes "-")) e
    where
      go : (b : Bool) → Is (if b then Some info_of_source else Some (info name)) → ⊥
      go true h = cc
      go false h = cc

  create-is-none : (align : Option ℕ) (out : Option (List ℕ)) (parts : Option (List NamedFile)) → Is (create_by align out parts) → ⊥
  create-is-none (Some a) (Some o) (Some ps) e = cc
  create-is-none align out parts e = cc

  update-is-none : (align : Option ℕ) (in_file out : Option (List ℕ)) (parts : Option (List NamedFile)) → Is (update_by align in_file out parts) → ⊥
  update-is-none (Some a) (Some i) (Some o) (Some ps) e = cc
  update-is-none align in_file out parts e = cc

  remove-is-none : (align : Option ℕ) (in_file out : Option (List ℕ)) (ns : Option (List (List ℕ))) → Is (remove_by align in_file out ns) → ⊥
  remove-is-none (Some a) (Some i) (Some o) (Some ps) e = cc
  remove-is-none align in_file out ns e = cc

  manifest-is-none : (out : Option (List ℕ)) (security : Option ℕ) (rows : Option (List NamedImage)) → Is (manifest_by out security rows) → ⊥
  manifest-is-none (Some o) (Some s) (Some rs) e = cc
  manifest-is-none out security rows e = cc

  capsule-is-none : (in_file out : Option (List ℕ)) → Is (capsule_by in_file out) → ⊥
  capsule-is-none (Some i) (Some o) e = cc
  capsule-is-none in_file out e = cc

  package-is-none : (align : Option ℕ) (in_file out : Option (List ℕ)) → Is (repackage_by align in_file out) → ⊥
  package-is-none (Some a) (Some i) (Some o) e = cc
  package-is-none align in_file out e = cc

  unpack-is-other : (f p : Option (List ℕ)) (ns : Option (List (List ℕ))) → Is (unpack_by f p ns) → is_unpacked prefix from ≡ false
  unpack-is-other (Some f) (Some p) (Some ns) e = go (is_unpacked p f) refl e
    where
      go : (b : Bool) → is_unpacked p f ≡ b → Is (if b then None else Some (unpack f p ns)) → is_unpacked prefix from ≡ false
      go true is h = cc
      go false is h =
          let one : f ≡ from = cc in
          let two : p ≡ prefix = cc in
          ap (λ (x : List ℕ). is_unpacked x from) (sym two) ∙ ap (is_unpacked p) (sym one) ∙ is
  unpack-is-other f p ns e = cc

  abbrev Apart : Type 0
  Apart = is_unpacked prefix from ≡ false

  -- one of two
  one-of : (b : Bool) (x y : Option FipAsked) → (Is x → Apart) → (Is y → Apart) → Is (if b then x else y) → Apart
  one-of true x y f g h = f h
  one-of false x y f g h = g h

  -- a value, and what is made of it
  made-of : {X : Type 0} (o : Option X) (f : X → Option FipAsked) → ((x : X) → Is (f x) → Apart) → Is (option_and_then f o) → Apart
  made-of None f g h = cc
  made-of (Some x) f g h = g x h

  pub asked-is-other : (words : List (List ℕ)) → asked words ≡ Some (unpack from prefix names) → is_unpacked prefix from ≡ false
  asked-is-other words e =
      made-of (reads fip_app words) (λ p. order_of p.0 p.1)
      (λ p.
      one-of (same_bytes p.0 (codes "info")) _ _ (λ is. absurd (info-is-none (file_in (codes "file") p.1) is))
      (one-of (same_bytes p.0 (codes "create")) _ _
      (λ is. absurd (create-is-none (align_in p.1) (file_in (codes "out") p.1) (named_parts_of (values_of (codes "parts") p.1)) is))
      (one-of (same_bytes p.0 (codes "update")) _ _
      (λ is. absurd (update-is-none (align_in p.1) (file_in (codes "in") p.1) (file_in (codes "out") p.1) (named_parts_of (values_of (codes "parts") p.1)) is))
      (one-of (same_bytes p.0 (codes "remove")) _ _
      (λ is. absurd (remove-is-none (align_in p.1) (file_in (codes "in") p.1) (file_in (codes "out") p.1) (names_of (values_of (codes "parts") p.1)) is))
      (one-of (same_bytes p.0 (codes "unpack")) _ _
      (unpack-is-other (file_in (codes "in") p.1) (file_in (codes "prefix") p.1) (names_of (values_of (codes "names") p.1)))
      (one-of (same_bytes p.0 (codes "manifest")) _ _
      (λ is. absurd (manifest-is-none (file_in (codes "out") p.1) _ (named_rows_of (values_of (codes "rows") p.1)) is))
      (one-of (same_bytes p.0 (codes "capsule")) _ _ (λ is. absurd (capsule-is-none (file_in (codes "in") p.1) (file_in (codes "out") p.1) is))
      (one-of (same_bytes p.0 (codes "package")) (repackage_of p.1) None
      (λ is. absurd (package-is-none (align_in p.1) (file_in (codes "in") p.1) (file_in (codes "out") p.1) is)) (λ is. cc)))))))))
      e
