-- What is kept fits the bytes of the staged images after a change.
use Rattle.std.proofs.Common.{◌≡◌, ◌≢◌, inl, inr, ℕ, ◌+◌, ◌-◌, ◌<◌, ◌≤◌, min, Bool, List, [], ◌++◌, length, take, refl, sym, ap, ◌∙◌, subst, arith}
use Rattle.std.proofs.Math.Logic.{∥∥₁_map, ∥∥₁_elim}
use Rattle.std.proofs.lemmas.Bool.{cases_eq, cases_lt}
use Rattle.std.proofs.lemmas.List.{length-append, length-take, take-take, take_all, take_min, take-append-le}
use Rattle.std.specs.Coded.{Coded-set, coded_ℕ, coded_list}
use Rattle.sha2.specs.{declared.Sha256.Sha256, Sha256.sha256, Hashers.Holds256}
use Rattle.fwu_formats.specs.{Layout.ImageRow, Manifest.manifest_size}
use Rattle.agent_kept.specs.declared.parts.Part.{Part}
use Rattle.agent_kept.specs.declared.parts.Part.TheVariants.{Nothing, Open, Committed}
use Rattle.agent_kept.specs.Kept.{Kept, IsKept, part_at, size_of, GrowsPart, AppendsPart, OpensPart, CommitsPart, IsNewPart, CommitsTo, HasNothing, FrontGrows}

-- the front that is kept, by its parts
abbrev Fronts : List ImageRow → ℕ → List ℕ → List ℕ → Type 0
Fronts rows n bytes front = take (min (manifest_size (length rows - 1)) (length (take n bytes))) front ≡ take (manifest_size (length rows - 1)) (take n bytes)

-- nothing of it where no bytes were written
no-front : (m n : ℕ) (bytes front : List ℕ) → n ≡ 0 → take (min m (length (take n bytes))) front ≡ take m (take n bytes)
no-front m n bytes front none =
    subst (λ (j : ℕ). take (min m (length (take j bytes))) front ≡ take m (take j bytes)) (sym none)
    (ap (λ (j : ℕ). take j front) (let e : min m 0 ≡ 0 = omega arith in e) ∙ sym (take_all m [] (omega arith)))

same-open : (n m : ℕ) (x y : Sha256) → ◌≡◌ {A = Part} (Open n x) (Open m y) → (n ≡ m) × (x ≡ y)
same-open n m x y e = (cc, cc)

same-committed : (n m : ℕ) (x y : List ℕ) (a b : Bool) → ◌≡◌ {A = Part} (Committed n x a) (Committed m y b) → (n ≡ m) × (x ≡ y)
same-committed n m x y a b e = (cc, cc)

pub open-committed : (n m : ℕ) (x : Sha256) (digest : List ℕ) (bit : Bool) → ◌≡◌ {A = Part} (Open n x) (Committed m digest bit) → ⊥
open-committed n m x digest bit e = absurd cc

pub nothing-open : (n : ℕ) (x : Sha256) → ◌≡◌ {A = Part} Nothing (Open n x) → ⊥
nothing-open n x e = absurd cc

pub nothing-committed : (n : ℕ) (digest : List ℕ) (bit : Bool) → ◌≡◌ {A = Part} Nothing (Committed n digest bit) → ⊥
nothing-committed n digest bit e = absurd cc

-- ---- one image changes

-- an image has a part that fits its bytes
abbrev pub FitsPart : Part → List ℕ → Type 0
FitsPart Nothing bytes = Unit {0}
FitsPart (Open size hasher) bytes = (size ≡ length bytes) × ∥ Holds256 hasher bytes ∥₁
FitsPart (Committed size digest bit) bytes = (size ≡ length bytes) × (digest ≡ sha256 bytes)

module _ (k new : Kept) (image : ℕ) (staged after : ℕ → List ℕ) (is : IsKept k staged) (rows : new.rows ≡ k.rows)
    (others : (i : ℕ) → i ≢ image → part_at new i ≡ part_at k i) (same : (i : ℕ) → i ≢ image → after i ≡ staged i) (part : Part) (part-is : part_at new image ≡ part) (fits : FitsPart part (after image)) where
  within : (i : ℕ) → i < length new.rows → i < length k.rows
  within i lt = omega (arith, lt, ap (λ (l : List ImageRow). length l) rows)

  opened-fits : (p : Part) (bytes : List ℕ) (n : ℕ) (hasher : Sha256) → FitsPart p bytes → p ≡ Open n hasher → (n ≡ length bytes) × ∥ Holds256 hasher bytes ∥₁
  opened-fits Nothing bytes n hasher f e = absurd (nothing-open n hasher e)
  opened-fits (Committed size digest bit) bytes n hasher f e = absurd (open-committed n size hasher digest bit (sym e))
  opened-fits (Open size h) bytes n hasher f e =
      let inj = same-open size n h hasher e in
      (sym inj.0 ∙ f.0, subst (λ (x : Sha256). ∥ Holds256 x bytes ∥₁) inj.1 f.1)

  committed-fits : (p : Part) (bytes : List ℕ) (n : ℕ) (digest : List ℕ) (bit : Bool) → FitsPart p bytes → p ≡ Committed n digest bit → (n ≡ length bytes) × (digest ≡ sha256 bytes)
  committed-fits Nothing bytes n digest bit f e = absurd (nothing-committed n digest bit e)
  committed-fits (Open size h) bytes n digest bit f e = absurd (open-committed size n h digest bit e)
  committed-fits (Committed size d b) bytes n digest bit f e =
      let inj = same-committed size n d digest b bit e in
      (sym inj.0 ∙ f.0, sym inj.1 ∙ f.1)

  pub kept-changed : Fronts new.rows (size_of (part_at new 0)) (after 0) new.front → IsKept new after
  kept-changed front = record {
    opened = λ i n hasher lt e. elim (cases_eq i image) [
      | inl at ↦ subst (λ (l : List ℕ). (n ≡ length l) × ∥ Holds256 hasher l ∥₁) (ap after (sym at)) (opened-fits part (after image) n hasher fits (sym part-is ∙ ap (part_at new) (sym at) ∙ e))
      | inr ne ↦ subst (λ (l : List ℕ). (n ≡ length l) × ∥ Holds256 hasher l ∥₁) (sym (same i ne)) (is.opened i n hasher (within i lt) (sym (others i ne) ∙ e))
    ];
    committed = λ i n digest bit lt e. elim (cases_eq i image) [
      | inl at ↦ subst (λ (l : List ℕ). (n ≡ length l) × (digest ≡ sha256 l)) (ap after (sym at)) (committed-fits part (after image) n digest bit fits (sym part-is ∙ ap (part_at new) (sym at) ∙ e))
      | inr ne ↦ subst (λ (l : List ℕ). (n ≡ length l) × (digest ≡ sha256 l)) (sym (same i ne)) (is.committed i n digest bit (within i lt) (sym (others i ne) ∙ e))
    ];
    front = front;
  }

  -- the front where another image changed
  pub front-other : 0 ≢ image → new.front ≡ k.front → Fronts new.rows (size_of (part_at new 0)) (after 0) new.front
  front-other ne front =
      subst (λ (r : List ImageRow). Fronts r (size_of (part_at new 0)) (after 0) new.front) (sym rows)
      (subst (λ (n : ℕ). Fronts k.rows n (after 0) new.front) (ap size_of (sym (others 0 ne)))
      (subst (λ (l : List ℕ). Fronts k.rows (size_of (part_at k 0)) l new.front) (sym (same 0 ne))
      (subst (λ (l : List ℕ). Fronts k.rows (size_of (part_at k 0)) (staged 0) l) (sym front) is.front)))

-- ---- an image is opened

pub kept-opened : (k new : Kept) (image place : ℕ) (staged after : ℕ → List ℕ) → IsKept k staged → OpensPart k image place new → after image ≡ [] → ((i : ℕ) → i ≢ image → after i ≡ staged i) → IsKept new after
kept-opened k new image place staged after is opens none same =
    kept-changed k new image staged after is opens.rows opens.others same (part_at new image) refl (fits (part_at new image) opens.part)
    (elim (cases_eq 0 image) [
      | inl at ↦ no-front (manifest_size (length new.rows - 1)) (size_of (part_at new 0)) (after 0) new.front (ap (λ (i : ℕ). size_of (part_at new i)) at ∙ empty (part_at new image) opens.part)
      | inr ne ↦ front-other k new image staged after is opens.rows opens.others same (part_at new image) refl (fits (part_at new image) opens.part) ne opens.front
    ])
  where
    empty : (p : Part) → IsNewPart p → size_of p ≡ 0
    empty Nothing it = absurd it
    empty (Open size hasher) it = it.0
    empty (Committed size digest bit) it = absurd it

    fits : (p : Part) → IsNewPart p → FitsPart p (after image)
    fits Nothing it = absurd it
    fits (Open size hasher) it = subst (λ (l : List ℕ). (size ≡ length l) × ∥ Holds256 hasher l ∥₁) (sym none) (it.0, ∣ it.1 ∣₁)
    fits (Committed size digest bit) it = absurd it

-- ---- an image is committed

pub kept-committed : (k new : Kept) (image place : ℕ) (bit : Bool) (staged : ℕ → List ℕ) → IsKept k staged → image < length k.rows → CommitsPart k image place bit new → IsKept new staged
kept-committed k new image place bit staged is lt commits =
    kept-changed k new image staged staged is commits.rows commits.others (λ i ne. refl) (part_at new image) refl fits
    (elim (cases_eq 0 image) [
      | inl at ↦
          subst (λ (r : List ImageRow). Fronts r (size_of (part_at new 0)) (staged 0) new.front) (sym commits.rows)
          (subst (λ (n : ℕ). Fronts k.rows n (staged 0) new.front) (sym (ap (λ (i : ℕ). size_of (part_at new i)) at ∙ size (part_at k image) (part_at new image) commits.part ∙ ap (λ (i : ℕ). size_of (part_at k i)) (sym at)))
          (subst (λ (l : List ℕ). Fronts k.rows (size_of (part_at k 0)) (staged 0) l) (sym commits.front) is.front))
      | inr ne ↦ front-other k new image staged staged is commits.rows commits.others (λ i ne. refl) (part_at new image) refl fits ne commits.front
    ])
  where
    size : (p q : Part) → CommitsTo p q bit → size_of q ≡ size_of p
    size Nothing q c = ap size_of c
    size (Committed n digest b) q c = ap size_of c
    size (Open n hasher) Nothing c = absurd c
    size (Open n hasher) (Open m other) c = absurd c
    size (Open n hasher) (Committed m digest b) c = c.0

    part-fits : (p q : Part) → p ≡ part_at k image → CommitsTo p q bit → FitsPart q (staged image)
    part-fits Nothing q e c = subst (λ (x : Part). FitsPart x (staged image)) (sym c) tt
    part-fits (Committed n digest b) q e c = subst (λ (x : Part). FitsPart x (staged image)) (sym c) (is.committed image n digest b lt (sym e))
    part-fits (Open n hasher) (Committed m digest b) e c =
        let had = is.opened image n hasher lt (sym e) in
        (c.0 ∙ had.0, ∥∥₁_elim had.1 (Coded-set (coded_list coded_ℕ) digest (sha256 (staged image))) (c.2 (staged image)))
    part-fits (Open n hasher) other e c = absurd c

    fits : FitsPart (part_at new image) (staged image)
    fits = part-fits (part_at k image) (part_at new image) refl commits.part

-- ---- bytes are written behind an image

-- an open image that grew is open
pub grown : (p q : Part) (bytes : List ℕ) → GrowsPart p q bytes → (size : ℕ) × (hasher : Sha256) × (next : Sha256)
    × (p ≡ Open size hasher) × (q ≡ Open (size + length bytes) next) × ((m : List ℕ) → Holds256 hasher m → Holds256 next (m ++ bytes))
grown (Open size hasher) (Open n next) bytes g = (size, hasher, next, refl, ap (λ (k : ℕ). Open k next) g.0, g.1)
grown p q bytes g = absurd g

-- the kept front of an image that grew
front-step : (m n : ℕ) (was bytes old new : List ℕ) → m ≤ 888 → n ≡ length was → take (min m n) old ≡ take m was → FrontGrows n bytes old new → take (min m (length (was ++ bytes))) new ≡ take m (was ++ bytes)
front-step m n was bytes old new le n-is kept grows =
    let total : length (was ++ bytes) ≡ n + length bytes = length-append was bytes ∙ ap (λ (j : ℕ). j + length bytes) (sym n-is) in
    let small : min m (length (was ++ bytes)) ≤ min 888 (n + length bytes) = omega (arith, total, le) in
    sym (take-take (min m (length (was ++ bytes))) (min 888 (n + length bytes)) new small) ∙ ap (take (min m (length (was ++ bytes)))) grows
    ∙ take-take (min m (length (was ++ bytes))) 888 (take (min 888 n) old ++ bytes) (omega (arith, le))
    ∙ elim (cases_lt m n) [
      | inl more ↦
          let m-is : min m (length (was ++ bytes)) ≡ m = omega (arith, total, more) in
          let front : take m old ≡ take m was = ap (λ (j : ℕ). take j old) (let e : m ≡ min m n = omega (arith, more) in e) ∙ kept in
          let long : m ≤ length (take (min 888 n) old) = omega (arith, length-take (min 888 n) old, length-take m old, length-take m was, ap length front, more, n-is, le) in
          ap (λ (j : ℕ). take j (take (min 888 n) old ++ bytes)) m-is ∙ take-append-le m (take (min 888 n) old) bytes long ∙ take-take m (min 888 n) old (omega (arith, more, le)) ∙ front ∙ sym (take-append-le m was bytes (omega (arith, more, n-is)))
      | inr all ↦
          let front : take (min 888 n) old ≡ was = ap (λ (j : ℕ). take j old) (let e : min 888 n ≡ min m n = omega (arith, all, le) in e) ∙ kept ∙ take_all m was (omega (arith, all, n-is)) in
          ap (λ (l : List ℕ). take (min m (length (was ++ bytes))) (l ++ bytes)) front ∙ take_min m (was ++ bytes)
    ]

module _ (k new : Kept) (image : ℕ) (bytes : List ℕ) (staged after : ℕ → List ℕ) (is : IsKept k staged) (few : length k.rows ≤ 16) (lt : image < length k.rows) (appends : AppendsPart k image bytes new)
    (grows : after image ≡ staged image ++ bytes) (same : (i : ℕ) → i ≢ image → after i ≡ staged i) where
  part : (size : ℕ) × (hasher : Sha256) × (next : Sha256) × (part_at k image ≡ Open size hasher) × (part_at new image ≡ Open (size + length bytes) next) × ((m : List ℕ) → Holds256 hasher m → Holds256 next (m ++ bytes))
  part = grown (part_at k image) (part_at new image) bytes appends.part

  had : (part.0 ≡ length (staged image)) × ∥ Holds256 part.1 (staged image) ∥₁
  had = is.opened image part.0 part.1 lt part.3

  length-grown : length (after image) ≡ part.0 + length bytes
  length-grown = ap length grows ∙ length-append (staged image) bytes ∙ ap (λ (j : ℕ). j + length bytes) (sym had.0)

  part-fits : FitsPart (Open (part.0 + length bytes) part.2) (after image)
  part-fits = (sym length-grown, subst (λ (l : List ℕ). ∥ Holds256 part.2 l ∥₁) (sym grows) (∥∥₁_map had.1 (part.5 (staged image))))

  front-grown : image ≡ 0 → Fronts new.rows (size_of (part_at new image)) (after image) new.front
  front-grown zero-is =
      let was = staged image in
      let m : ℕ = manifest_size (length k.rows - 1) in
      let n-is : part.0 ≡ length was = had.0 in
      let at_image : Fronts k.rows (size_of (part_at k image)) was k.front = subst (λ (j : ℕ). Fronts k.rows (size_of (part_at k j)) (staged j) k.front) (sym zero-is) is.front in
      let sized : Fronts k.rows part.0 was k.front = subst (λ (n : ℕ). Fronts k.rows n was k.front) (ap size_of part.3) at_image in
      let whole : take part.0 was ≡ was = take_all part.0 was (omega (arith, n-is)) in
      let old : take (min m part.0) k.front ≡ take m was = ap (λ (j : ℕ). take (min m j) k.front) (n-is ∙ ap length (sym whole)) ∙ sized ∙ ap (take m) whole in
      let step = front-step m part.0 was bytes k.front new.front (omega (arith, few)) n-is old (subst (λ (n : ℕ). FrontGrows n bytes k.front new.front) (ap size_of part.3) (appends.front.first zero-is)) in
      let full : take (size_of (part_at new image)) (after image) ≡ was ++ bytes = take_all (size_of (part_at new image)) (after image) (omega (arith, length-grown, ap size_of part.4)) ∙ grows in
      subst (λ (r : List ImageRow). Fronts r (size_of (part_at new image)) (after image) new.front) (sym appends.rest.rows)
      (subst (λ (l : List ℕ). take (min m (length l)) new.front ≡ take m l) (sym full) step)

  pub kept-appended : IsKept new after
  kept-appended =
      kept-changed k new image staged after is appends.rest.rows appends.others same (Open (part.0 + length bytes) part.2) part.4 part-fits
      (elim (cases_eq 0 image) [
        | inl at ↦ subst (λ (j : ℕ). Fronts new.rows (size_of (part_at new j)) (after j) new.front) (sym at) (front-grown (sym at))
        | inr ne ↦ front-other k new image staged after is appends.rest.rows appends.others same (Open (part.0 + length bytes) part.2) part.4 part-fits ne (appends.front.other (λ e. ne (sym e)))
      ])

-- ---- a restart

pub kept-nothing : (k : Kept) (staged : ℕ → List ℕ) → HasNothing k → IsKept k staged
kept-nothing k staged none = record {
  opened = λ i size hasher lt is. absurd (nothing-open size hasher (sym (none i) ∙ is));
  committed = λ i size digest bit lt is. absurd (nothing-committed size digest bit (sym (none i) ∙ is));
  front = no-front (manifest_size (length k.rows - 1)) (size_of (part_at k 0)) (staged 0) k.front (ap size_of (none 0));
}
