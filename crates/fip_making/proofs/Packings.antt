-- Payloads of packages that are made.
use Rattle.std.proofs.Common.{◌≡◌, ◌<◌, ◌+◌, ℕ, List, [], ◌∷◌, ◌++◌, Some, None, Result, Ok, Err, get_or, length, map, take, refl, ap, ◌∙◌, ◌≤◌, zero, suc, Bool, true, false, Option, drop, replicate, cond, option_map, unwrap_or, arith, sym, subst}
use Rattle.host_io.specs.Contents.{Directory, HasRange}
use Rattle.fwu_formats.specs.Package.{Part, packed, Entry, payload}
use Rattle.fip_words.specs.{Order.part_view, Values.NamedFile, declared.values.FileWord.FileWord}
use Rattle.fip_tables.specs.{Packing.pack_fault, Packing.zeroed, declared.faults.PackFault.PackFault, Files.Lacks, Files.Tells}
use Rattle.fip_making.specs.{Answers.Gives, declared.stops.Stop.Stop, declared.payloads.Payload.Payload}
use Rattle.fip_making.specs.Values.{and_then, create_value, new_serial, pack_value, part_in, parts_in, there, size_in, updated_part}
use Rattle.fip_making.specs.Payloads.{HasEntry, IsThere, file_bytes, outline_of, part_told}
use Rattle.fip_making.specs.declared.stops.Stop.TheVariants as stop
use Rattle.fip_making.proofs.Folds.{more-at as add-at, plain, stops-at, made-by, stopped-by}
use Rattle.fip_making.proofs.Tables.{gives-err, sized}
use Rattle.std.specs.Prelude.{find}
use Rattle.std.specs.Option.{option_map_or}
use Rattle.std.specs.List.{All}
use Rattle.std.proofs.lemmas.List.{length-drop, length-take-le, map-append, take_all}
use Rattle.std.proofs.lemmas.List.Elements.{All-append}
use Rattle.base_core.specs.Bytes.{same_bytes}
use Rattle.fip_tables.proofs.Plans.{zeros-decide}

-- ---- what one part of a command gives to the next

-- what gives a value gives one that is the same
pub gives-same : {X Y : Type 0} (view : X → Y) (rose late : Type 0) (v w : Result Y Stop) (r : Result X Stop) → (rose → late) → w ≡ v → Gives view rose v r → Gives view late w r
gives-same view rose late v w (Ok x) rises e g = e ∙ g
gives-same view rose late v w (Err s) rises e g = gives-err view view rose late v w s rises (λ h. e ∙ h) g

-- ---- the parts of named files

module _ (told : Directory) (all : List FileWord) (i : ℕ) (x : FileWord) (within : i < length all) (is : x ≡ get_or all i x) where
  pub stopped-at : (s : Stop) → there (part_in told (part_view x)) ≡ Err s → parts_in told (map part_view all) ≡ Err s
  stopped-at s e = stops-at part_view all i x within is (part_in told) plain there refl s e

  pub more-at : (ps : List Part) (p : Part) → parts_in told (map part_view (take i all)) ≡ Ok ps → there (part_in told (part_view x)) ≡ Ok p
      → parts_in told (map part_view (take (i + 1) all)) ≡ Ok (ps ++ (p ∷ []))
  more-at ps p e h = add-at part_view all i x within is (part_in told) plain plain (λ qs q. qs ++ (q ∷ [])) (λ qs q. refl) ps p e h

-- ---- what is packed

pub packs-ok : (serial flags : ℕ) (ps : List Part) (a n : ℕ) (bytes : List ℕ) → pack_fault ps a ≡ None → n ≡ length ps → bytes ≡ packed serial flags ps a → pack_value serial flags ps a ≡ Ok (n, bytes)
unfolding pack_value
packs-ok serial flags ps a n bytes fits long is = rw (fits, long, is) refl

pub packs-fault : (serial flags : ℕ) (ps : List Part) (a : ℕ) (f : PackFault) → pack_fault ps a ≡ Some f → pack_value serial flags ps a ≡ Err (stop.NotPacked f)
unfolding pack_value
packs-fault serial flags ps a f e = rw e refl

pub create-of : (told : Directory) (a : ℕ) (xs : List NamedFile) (ps : List Part) → parts_in told xs ≡ Ok ps → create_value told a xs ≡ pack_value new_serial 0 ps a
unfolding create_value
create-of told a xs ps e = ap (λ (r : Result (List Part) Stop). and_then r (λ qs. pack_value new_serial 0 qs a)) e

pub create-err : (told : Directory) (a : ℕ) (xs : List NamedFile) (s : Stop) → parts_in told xs ≡ Err s → create_value told a xs ≡ Err s
unfolding create_value
create-err told a xs s e = ap (λ (r : Result (List Part) Stop). and_then r (λ qs. pack_value new_serial 0 qs a)) e

-- ---- a named file

-- the payload that a file of so many bytes is
pub payload-made : (told : Directory) (x : FileWord) (p : Payload) (n : ℕ) → size_in told x.file.now ≡ Ok n → p.guid ≡ x.guid → p.flags ≡ 0 → p.size ≡ n → p.file.now ≡ x.file.now → p.at ≡ 0
    → there (part_in told (part_view x)) ≡ Ok (part_told told p)
payload-made told x p n e guid flags size file at =
    let s = sized told x.file.now n e in
    let whole : take p.size (drop p.at (unwrap_or (told p.file.now) [])) ≡ s.0 =
    ap (λ (f : List ℕ). take p.size (drop p.at (unwrap_or (told f) []))) file ∙ ap (λ (o : Option (List ℕ)). take p.size (drop p.at (unwrap_or o []))) s.1
    ∙ ap (λ (k : ℕ). take p.size (drop k s.0)) at ∙ take_all p.size s.0 (omega (arith, size, s.2)) in
    let part : List ℕ → ℕ → List ℕ → Part = λ g k b. record { guid = g; flags = k; bytes = b } in
    ap (λ (o : Option (List ℕ)). there (option_map (part x.guid 0) o)) s.1
    ∙ ap (λ (b : List ℕ). Ok (part x.guid 0 b)) (sym whole)
    ∙ ap (λ (g : List ℕ). Ok (part g 0 (part_told told p).bytes)) (sym guid)
    ∙ ap (λ (k : ℕ). Ok (part p.guid k (part_told told p).bytes)) (sym flags)

-- a file that is not there
pub payload-stopped : (told : Directory) (x : FileWord) (s : Stop) → size_in told x.file.now ≡ Err s → there (part_in told (part_view x)) ≡ Err s
unfolding size_in
payload-stopped told x s e =
    stopped-by (made-by length)
    (λ o. there (option_map (λ (b : List ℕ). let q : Part = record { guid = x.guid; flags = 0; bytes = b } in q) o)) refl
    (told x.file.now) s e

-- ---- several of them

pub one-more-there : (P : Payload → Type 0) (ps : List Payload) (p : Payload) → All P ps → P p → All P (ps ++ (p ∷ []))
one-more-there P ps p all here = All-append P ps (p ∷ []) all (λ k d lt. at k d lt)
  where
    at : (k : ℕ) (d : Payload) → k < length (p ∷ []) → P (get_or (p ∷ []) k d)
    at zero d lt = here
    at (suc k) d lt = absurd (omega (arith, lt))

pub more-payloads : (told : Directory) (all : List FileWord) (i : ℕ) (x : FileWord) → i < length all → x ≡ get_or all i x → (ps : List Payload) (p : Payload)
    → parts_in told (map part_view (take i all)) ≡ Ok (map (part_told told) ps) → there (part_in told (part_view x)) ≡ Ok (part_told told p)
    → parts_in told (map part_view (take (i + 1) all)) ≡ Ok (map (part_told told) (ps ++ (p ∷ [])))
more-payloads told all i x lt is ps p e h =
    more-at told all i x lt is (map (part_told told) ps) (part_told told p) e h ∙ ap (λ (l : List Part). Ok l) (sym (map-append (part_told told) ps (p ∷ [])))

-- in a slice, and for files that stayed as they were
pub there-of-files : (start now : Option Directory) (ps slice : List Payload) → now ≡ start → slice ≡ ps → All (IsThere start) ps → All (IsThere now) slice
there-of-files start now ps slice same is all =
    subst (All (IsThere now)) (sym is) (subst (λ (o : Option Directory). All (IsThere o) ps) (sym same) all)

pub none-there : (P : Payload → Type 0) (ps : List Payload) → ps ≡ [] → All P ps
none-there P ps e = subst (All P) (sym e) (λ k d lt. absurd (omega (arith, lt)))

-- ---- the payload of an entry

pub find-map : {X Y : Type 0} (f : X → Y) (test : Y → Bool) (xs : List X) → find test (map f xs) ≡ option_map f (find (λ x. test (f x)) xs)
find-map f test [] = refl
find-map {X} {Y} f test (x ∷ xs) = go (test (f x)) (find-map f test xs)
  where
    go : (b : Bool) → find test (map f xs) ≡ option_map f (find (λ x. test (f x)) xs) → cond b (Some (f x)) (find test (map f xs)) ≡ option_map f (cond b (Some x) (find (λ x. test (f x)) xs))
    go true e = refl
    go false e = e

pub found-has : {X : Type 0} (P : X → Type 0) (test : X → Bool) (xs : List X) (x : X) → All P xs → find test xs ≡ Some x → P x
found-has P test [] x all e = cc
found-has {X} P test (y ∷ ys) x all e = go (test y) (λ h. found-has P test ys x (λ k d lt. all (suc k) d (omega (arith, lt))) h) e
  where
    go : (b : Bool) → (find test ys ≡ Some x → P x) → cond b (Some y) (find test ys) ≡ Some x → P x
    go true rest h = let same : y ≡ x = cc in subst P same (all 0 y (omega arith))
    go false rest h = rest h

module _ (told : Directory) (bytes : List ℕ) (new : List Payload) (e : Entry) where
  abbrev made : List ℕ → ℕ → List ℕ → Part
  made g k b = record { guid = g; flags = k; bytes = b }

  spelled : (p : Payload) → p.guid ≡ e.guid → p.flags ≡ e.flags → (b : List ℕ) → (part_told told p).bytes ≡ b → part_told told p ≡ made e.guid e.flags b
  spelled p guid flags b same = ap (made p.guid p.flags) same ∙ ap (λ (g : List ℕ). made g p.flags b) guid ∙ ap (λ (k : ℕ). made e.guid k b) flags

  abbrev by-new : Option Part → Part
  by-new o = made e.guid e.flags (option_map_or (λ (p : Part). p.bytes) o (payload bytes e))

  abbrev of_its_type : Option Payload
  of_its_type = find (λ p. same_bytes p.guid e.guid) new

  pub entry-renewed : (q p : Payload) → of_its_type ≡ Some q → p.guid ≡ e.guid → p.flags ≡ e.flags → p.size ≡ q.size → p.file.now ≡ q.file.now → p.at ≡ q.at
      → part_told told p ≡ updated_part bytes (map (part_told told) new) e
  entry-renewed q p is guid flags size file at =
      let same : (part_told told p).bytes ≡ (part_told told q).bytes =
      ap (λ (n : ℕ). take n (drop p.at (unwrap_or (told p.file.now) []))) size ∙ ap (λ (n : ℕ). take q.size (drop n (unwrap_or (told p.file.now) []))) at
      ∙ ap (λ (f : List ℕ). take q.size (drop q.at (unwrap_or (told f) []))) file in
      let found : find (λ (x : Part). same_bytes x.guid e.guid) (map (part_told told) new) ≡ Some (part_told told q) =
      find-map (part_told told) (λ (x : Part). same_bytes x.guid e.guid) new ∙ ap (option_map (part_told told)) is in
      spelled p guid flags (part_told told q).bytes same ∙ ap by-new (sym found)

  pub entry-kept : (p : Payload) → of_its_type ≡ None → file_bytes told p.file.now ≡ bytes → p.guid ≡ e.guid → p.flags ≡ e.flags → p.size ≡ e.size → p.at ≡ e.offset
      → part_told told p ≡ updated_part bytes (map (part_told told) new) e
  entry-kept p is file guid flags size at =
      let same : (part_told told p).bytes ≡ payload bytes e =
      ap (λ (b : List ℕ). take p.size (drop p.at b)) file ∙ ap (λ (n : ℕ). take n (drop p.at bytes)) size ∙ ap (λ (n : ℕ). take e.size (drop n bytes)) at in
      let found : find (λ (x : Part). same_bytes x.guid e.guid) (map (part_told told) new) ≡ None =
      find-map (part_told told) (λ (x : Part). same_bytes x.guid e.guid) new ∙ ap (option_map (part_told told)) is in
      spelled p guid flags (payload bytes e) same ∙ ap by-new (sym found)

-- an entry whose payload lies in a file of told bytes
pub has-entry : (told : Option Directory) (name : List ℕ) (e : Entry) → (Lacks told name → ⊥) → ((bytes : List ℕ) → Tells told name bytes → e.offset + e.size ≤ length bytes) → HasEntry told name e
has-entry None name e there stored = tt
has-entry (Some files) name e there stored = go (files name) refl
  where
    go : (o : Option (List ℕ)) → files name ≡ o → HasEntry (Some files) name e
    go None is = absurd (there is)
    go (Some b) is = let h = stored b is in rw is h

-- entries whose payloads lie in a file of told bytes
pub entries-there : (told : Option Directory) (name : List ℕ) (es : List Entry) → (Lacks told name → ⊥) → ((bytes : List ℕ) → Tells told name bytes → All (λ e. e.offset + e.size ≤ length bytes) es) → All (HasEntry told name) es
entries-there told name es there stored = λ k d lt. has-entry told name (get_or es k d) there (λ bytes tells. stored bytes tells k d lt)

-- and of one whose bytes are known, in files that stayed as they were
module _ (o p : Option Directory) (name : List ℕ) (es : List Entry) (same : p ≡ o)
    (held : (told : Directory) → o ≡ Some told
    → (bytes : List ℕ) × (told name ≡ Some bytes) × All (λ e. e.offset + e.size ≤ length bytes) es) where
  pub held-stored : (bytes : List ℕ) → Tells p name bytes → All (λ e. e.offset + e.size ≤ length bytes) es
  held-stored bytes tells = go p same tells
    where
      go : (p : Option Directory) → p ≡ o → Tells p name bytes → All (λ e. e.offset + e.size ≤ length bytes) es
      go None is tells = absurd tells
      go (Some d) is tells =
          let h = held d (sym is) in
          let both : ◌≡◌ {A = Option (List ℕ)} (Some h.0) (Some bytes) = sym h.1 ∙ tells in
          let same : h.0 ≡ bytes = cc in
          subst (λ (l : List ℕ). All (λ e. e.offset + e.size ≤ length l) es) same h.2

  pub held-there : Lacks p name → ⊥
  held-there lacks = go p same lacks
    where
      go : (p : Option Directory) → p ≡ o → Lacks p name → ⊥
      go None is lacks = lacks
      go (Some d) is lacks = let h = held d (sym is) in let both : ◌≡◌ {A = Option (List ℕ)} (Some h.0) None = sym h.1 ∙ lacks in cc

  pub held-entries : All (HasEntry p name) es
  held-entries = entries-there p name es held-there held-stored

-- ---- what is packed

-- so many bytes of the file
pub told-size : (told : Directory) (p : Payload) → IsThere (Some told) p → length (part_told told p).bytes ≡ p.size
told-size told p h = go (told p.file.now) refl h
  where
    go : (o : Option (List ℕ)) → told p.file.now ≡ o → HasRange (Some told) p.file.now p.at p.size → length (take p.size (drop p.at (unwrap_or o []))) ≡ p.size
    go None is r = absurd (rw is at r)
    go (Some b) is r = let room = rw is at r in length-take-le p.size (drop p.at b) (omega (arith, room, length-drop p.at b))

-- zeros in place of the bytes
zeroed-one : (told : Directory) (p : Payload) → IsThere (Some told) p → zeroed (part_told told p) ≡ outline_of p
zeroed-one told p h = ap (λ (n : ℕ). let x : Part = record { guid = p.guid; flags = p.flags; bytes = replicate n 0 } in x) (told-size told p h)

pub zeroed-all : (told : Directory) (ps : List Payload) → All (IsThere (Some told)) ps → map zeroed (map (part_told told) ps) ≡ map outline_of ps
zeroed-all told [] h = refl
zeroed-all told (p ∷ ps) h =
    ap (λ (x : Part). x ∷ map zeroed (map (part_told told) ps)) (zeroed-one told p (h 0 p (omega arith)))
    ∙ ap (λ (xs : List Part). outline_of p ∷ xs) (zeroed-all told ps (λ k d lt. h (suc k) d (omega (arith, lt))))

-- sizes that fit a package, and sizes that don't
module _ (serial flags a : ℕ) (ps os : List Part) (same : map zeroed ps ≡ os) where
  pub packs-zeroed : pack_fault os a ≡ None → pack_value serial flags ps a ≡ Ok (length ps, packed serial flags ps a)
  packs-zeroed none = packs-ok serial flags ps a (length ps) (packed serial flags ps a) (sym (zeros-decide ps a) ∙ ap (λ (l : List Part). pack_fault l a) same ∙ none) refl refl

  pub packs-not : (f : PackFault) → pack_fault os a ≡ Some f → pack_value serial flags ps a ≡ Err (stop.NotPacked f)
  packs-not f is = packs-fault serial flags ps a f (sym (zeros-decide ps a) ∙ ap (λ (l : List Part). pack_fault l a) same ∙ is)
