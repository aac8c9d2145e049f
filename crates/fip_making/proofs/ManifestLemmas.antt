-- Manifests of images in files.
use Rattle.std.proofs.Common.{◌≡◌, ◌<◌, ◌+◌, ℕ, List, [], ◌∷◌, ◌++◌, Bool, true, false, Option, Some, None, Result, Ok, Err, get_or, length, map, take, length-append, option_map, arith, refl, sym, ap, ◌∙◌}
use Rattle.std.specs.Prelude.{IfSome, ◌==◌, ◌||◌, if◌then◌else◌, nat_lt}
use Rattle.std.specs.List.{list_any}
use Rattle.std.proofs.lemmas.List.{length-map, map-append}
use Rattle.std.proofs.lemmas.List.Folds.{list_any-append}
use Rattle.std.proofs.Math.Bool.{or-false}
use Rattle.host_io.specs.Contents.{Directory}
use Rattle.fwu_formats.specs.{Manifest.Row, declared.kinds.ManifestFault.ManifestFault}
use Rattle.fwu_formats.specs.declared.kinds.ManifestFault.TheVariants as fault
use Rattle.manifest_core.specs.{Shown.row, declared.rows.Row.Row as CodeRow}
use Rattle.fip_words.specs.{Order.image_view, Values.NamedImage, Values.each, declared.values.ImageWord.ImageWord}
use Rattle.fip_making.specs.{Answers.AsksNothing, Stops.IsManifestStop, declared.stops.Stop.Stop}
use Rattle.fip_making.specs.Values.{Image, and_then, image_in, image_limit, image_row, is_long, manifest_value, of_rows, size_in, sizes_value, there, unless_long}
use Rattle.fip_making.specs.declared.stops.Stop.TheVariants as stop
use Rattle.fip_making.proofs.{Refusing.err-of, Tables.sized}
use Rattle.fip_making.proofs.Folds.{before, before-none, each-more, ends-as, made-by, more-at, plain, stopped-by, stops-at, with_one}

-- the image of a name, by its file
abbrev image_by : NamedImage → Option (List ℕ) → Option Image
image_by x o = option_map (λ (b : List ℕ). let i : Image = record { guid = x.guid; version = x.version; bytes = b } in i) o

-- what a manifest says of a named image
abbrev pub row_value : Directory → NamedImage → Result (Option Row) Stop
row_value told x = and_then (there (image_in told x)) (λ i. Ok (image_row i))

-- and of several
abbrev pub rows_value : Directory → List NamedImage → Result (Option (List Row)) Stop
rows_value told xs = and_then (there (each (image_in told) xs)) (λ images. Ok (each image_row images))

pub row-made : (told : Directory) (x : NamedImage) (bytes image : List ℕ) (more : Option Row) → there (told x.file) ≡ Ok bytes → image ≡ bytes
    → more ≡ image_row (record { guid = x.guid; version = x.version; bytes = image }) → row_value told x ≡ Ok more
row-made told x bytes image more e same is = go (told x.file) refl e
  where
    go : (o : Option (List ℕ)) → told x.file ≡ o → there o ≡ Ok bytes → row_value told x ≡ Ok more
    go None here h = cc
    go (Some b) here h = let read : b ≡ image = cc in rw (here, read, ← is) refl

pub row-stopped : (told : Directory) (x : NamedImage) (s : Stop) → there (told x.file) ≡ Err s → row_value told x ≡ Err s
row-stopped told x s e =
    stopped-by plain (λ o. and_then (there (image_by x o)) (λ i. Ok (image_row i))) refl (told x.file) s e

-- the manifest of so many images, by their rows
abbrev pub counted : ℕ → ℕ → Option (List Row) → Result (ℕ × List ℕ) Stop
counted count security rows = if (count == 0) || nat_lt 15 count then Err (stop.NoManifest fault.BadCount) else of_rows security rows

pub value-stopped : (told : Directory) (security : ℕ) (xs : List NamedImage) (s : Stop) → rows_value told xs ≡ Err s → manifest_value told security xs ≡ Err s
unfolding manifest_value
value-stopped told security xs s e =
    stopped-by (made-by (each image_row))
    (λ o. and_then (there o) (λ images. counted (length images) security (each image_row images))) refl (each (image_in told) xs) s e

-- ---- whether one is too long

abbrev pub long_value : Directory → NamedImage → Result Bool Stop
long_value told x = and_then (there (image_in told x)) (λ i. Ok (is_long i))

abbrev pub longs_value : Directory → List NamedImage → Result Bool Stop
longs_value told xs = and_then (there (each (image_in told) xs)) (λ images. Ok (list_any is_long images))

pub long-made : (told : Directory) (x : NamedImage) (n : ℕ) (long : Bool) → size_in told x.file ≡ Ok n → long ≡ nat_lt image_limit n → long_value told x ≡ Ok long
long-made told x n long e is = let s = sized told x.file n e in rw (s.1, s.2, is) refl

pub long-stopped : (told : Directory) (x : NamedImage) (s : Stop) → size_in told x.file ≡ Err s → long_value told x ≡ Err s
unfolding size_in
long-stopped told x s e =
    stopped-by (made-by length) (λ o. and_then (there (image_by x o)) (λ i. Ok (is_long i))) refl (told x.file) s e

any-more : (images : List Image) (i : Image) → list_any is_long (images ++ (i ∷ [])) ≡ list_any is_long images || is_long i
any-more images i = list_any-append is_long images (i ∷ []) ∙ ap (λ (b : Bool). list_any is_long images || b) (or-false (is_long i))

-- the sizes of all decide
pub sizes-of : (told : Directory) (named : List ImageWord) (longs : Bool) → longs_value told (map image_view named) ≡ Ok longs → sizes_value told (map image_view named) ≡ unless_long (length named) longs
unfolding sizes_value
sizes-of told named longs e =
    ends-as (image_in told) (map image_view named) (list_any is_long) longs unless_long e
    ∙ ap (λ (n : ℕ). unless_long n longs) (length-map named image_view)

-- an image that is too long has no row
no-row : (images : List Image) → list_any is_long images ≡ true → each image_row images ≡ None
unfolding image_row
no-row [] e = cc
no-row (x ∷ images) e = go (is_long x) refl (λ h. no-row images h) e
  where
    go : (b : Bool) → is_long x ≡ b → (list_any is_long images ≡ true → each image_row images ≡ None) → b || list_any is_long images ≡ true → before (image_row x) (each image_row images) ≡ None
    go true is rest h = rw is refl
    go false is rest h = ap (before (image_row x)) (rest h) ∙ before-none (image_row x)

-- a refusal by the sizes is one of the manifest
pub sizes-refuse : (told : Directory) (security : ℕ) (xs : List NamedImage) (s : Stop) → sizes_value told xs ≡ Err s → manifest_value told security xs ≡ Err s
unfolding sizes_value manifest_value
sizes-refuse told security xs s e = go (each (image_in told) xs) e
  where
    by : (images : List Image) (a b : Bool) → list_any is_long images ≡ b → ◌≡◌ {A = Result (Unit {0}) Stop} (if a then Err (stop.NoManifest fault.BadCount) else if b then Err (stop.NoManifest fault.TooLarge) else Ok tt) (Err s)
        → (if a then Err (stop.NoManifest fault.BadCount) else of_rows security (each image_row images)) ≡ Err s
    by images true b is h = err-of h
    by images false true is h = ap (of_rows security) (no-row images is) ∙ err-of h
    by images false false is h = cc

    go : (a : Option (List Image)) → and_then (there a) (λ images. unless_long (length images) (list_any is_long images)) ≡ Err s
        → and_then (there a) (λ images. counted (length images) security (each image_row images)) ≡ Err s
    go None h = err-of h
    go (Some images) h = by images ((length images == 0) || nat_lt 15 (length images)) (list_any is_long images) refl h

-- ---- over the named images of the words

module _ (told : Directory) (all : List ImageWord) (i : ℕ) (x : ImageWord) (within : i < length all) (is : x ≡ get_or all i x) where
  pub stopped-at : (s : Stop) → row_value told (image_view x) ≡ Err s → rows_value told (map image_view all) ≡ Err s
  stopped-at s e =
      stops-at image_view all i x within is (image_in told) (made-by image_row)
      (λ o. and_then (there o) (λ images. Ok (each image_row images))) refl s e

  pub sizes-stopped-at : (s : Stop) → long_value told (image_view x) ≡ Err s → sizes_value told (map image_view all) ≡ Err s
  unfolding sizes_value
  sizes-stopped-at s e =
      stops-at image_view all i x within is (image_in told) (made-by is_long)
      (λ o. and_then (there o) (λ images. unless_long (length images) (list_any is_long images))) refl s e

  pub longs-more-at : (longs long : Bool) → longs_value told (map image_view (take i all)) ≡ Ok longs → long_value told (image_view x) ≡ Ok long
      → longs_value told (map image_view (take (i + 1) all)) ≡ Ok (longs || long)
  longs-more-at longs long e h =
      more-at image_view all i x within is (image_in told) (made-by is_long) (made-by (list_any is_long))
      (λ all one. all || one) any-more longs long e h

  pub rows-more-at : (rows : Option (List Row)) (more : Option Row) → rows_value told (map image_view (take i all)) ≡ Ok rows → row_value told (image_view x) ≡ Ok more
      → rows_value told (map image_view (take (i + 1) all)) ≡ Ok (with_one rows more)
  rows-more-at rows more e h =
      more-at image_view all i x within is (image_in told) (made-by image_row) (made-by (each image_row)) with_one
      (each-more image_row) rows more e h

-- the rows of the code as those of the model
mapped : (rows : Option (List CodeRow)) (more : Option CodeRow) → option_map (map row) (with_one rows more) ≡ with_one (option_map (map row) rows) (option_map row more)
mapped None more = refl
mapped (Some rows) None = refl
mapped (Some rows) (Some more) = ap (λ (l : List Row). Some l) (map-append row rows (more ∷ []))

map-of : {A B C : Type 0} (f : A → B) (g : B → C) (o : Option A) → option_map (λ x. g (f x)) o ≡ option_map g (option_map f o)
map-of f g None = refl
map-of f g (Some x) = refl

pub seen-more : {A : Type 0} (items : A → List CodeRow) (rows now : Option A) (more : Option CodeRow) → option_map items now ≡ with_one (option_map items rows) more
    → option_map (λ v. map row (items v)) now ≡ with_one (option_map (λ v. map row (items v)) rows) (option_map row more)
seen-more items rows now more e =
    map-of items (map row) now ∙ ap (option_map (map row)) e ∙ mapped (option_map items rows) more
    ∙ ap (λ (r : Option (List Row)). with_one r (option_map row more)) (sym (map-of items (map row) rows))

pub count-more : {A : Type 0} (items : A → List CodeRow) (rows now : Option A) (more : Option CodeRow) (n : ℕ) → option_map items now ≡ with_one (option_map items rows) more
    → IfSome rows (λ v. length (items v) ≡ n) → IfSome now (λ v. length (items v) ≡ n + 1)
count-more items rows None more n e h = tt
count-more items None (Some v) more n e h = cc
count-more items (Some r) (Some v) None n e h = cc
count-more items (Some r) (Some v) (Some y) n e h =
    let same : items v ≡ items r ++ (y ∷ []) = cc in
    let long : length (items r ++ (y ∷ [])) ≡ length (items r) + length (y ∷ []) = length-append (items r) (y ∷ []) in
    let of-same : length (items v) ≡ length (items r ++ (y ∷ [])) = ap length same in
    omega arith

-- ---- what the manifest is

pub made-of : (told : Directory) (security : ℕ) (named : List ImageWord) (rows : List CodeRow) → rows_value told (map image_view named) ≡ Ok (Some (map row rows)) → length rows ≡ length named
    → manifest_value told security (map image_view named) ≡ counted (length rows) security (Some (map row rows))
unfolding manifest_value
made-of told security named rows e long =
    ends-as (image_in told) (map image_view named) (each image_row) (Some (map row rows)) (λ n all. counted n security all) e
    ∙ ap (λ (n : ℕ). counted n security (Some (map row rows))) (length-map named image_view ∙ sym long)

-- why there is none where one is too long
abbrev pub refused : ℕ → Stop
refused count = if (count == 0) || nat_lt 15 count then stop.NoManifest fault.BadCount else stop.NoManifest fault.TooLarge

refused-counted : (count security : ℕ) → counted count security None ≡ Err (refused count)
refused-counted count security = go ((count == 0) || nat_lt 15 count)
  where
    go : (b : Bool) → (if b then Err (stop.NoManifest fault.BadCount) else of_rows security None) ≡ Err (if b then stop.NoManifest fault.BadCount else stop.NoManifest fault.TooLarge)
    go true = refl
    go false = refl

pub too-long-of : (told : Directory) (security : ℕ) (named : List ImageWord) (f : ManifestFault) → rows_value told (map image_view named) ≡ Ok None
    → stop.NoManifest f ≡ refused (length named) → manifest_value told security (map image_view named) ≡ Err (stop.NoManifest f)
unfolding manifest_value
too-long-of told security named f e is =
    ends-as (image_in told) (map image_view named) (each image_row) None (λ n all. counted n security all) e
    ∙ ap (λ (n : ℕ). counted n security None) (length-map named image_view) ∙ refused-counted (length named) security
    ∙ ap (λ (s : Stop). Err s) (sym is)

-- to refuse asks for nothing
pub asks-refused : {X : Type 0} (f : ManifestFault) → AsksNothing {X = X} IsManifestStop (Err (stop.NoManifest f))
asks-refused f = record { file = λ e. absurd cc; sink = λ e. absurd cc; refusals = tt }
