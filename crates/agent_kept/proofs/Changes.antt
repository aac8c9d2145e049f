-- A session stays sound where a handle changes, and an image with it.
use Rattle.std.proofs.Common.{◌≡◌, ◌≢◌, ◌⊎◌, inl, inr, ℕ, ◌<◌, ◌≤◌, Bool, true, false, List, length, get_or, set, Option, sym, ap, ◌∙◌, subst, arith, get_or-set_same, get_or-set_other}
use Rattle.std.proofs.lemmas.Bool.{cases_eq, false≢true}
use Rattle.fwu_formats.specs.Layout.{ImageRow}
use Rattle.agent_kept.specs.{declared.parts.Part.Part, declared.parts.Handle.Handle}
use Rattle.agent_kept.specs.declared.parts.Part.TheVariants.{Nothing, Open, Committed}
use Rattle.agent_kept.specs.declared.parts.Handle.TheVariants.{Free, Reads, Writes}
use Rattle.agent_kept.specs.Sound.{is_writer_kept, size_of, is_part_open, slot_room_of, IsSoundKept, CommitsTo}

-- what a handle writes is told by it
same-writer : (a b : ℕ) → Writes a ≡ Writes b → a ≡ b
same-writer a b e = cc

-- a reader that is within its total
pub reader-ends : (image : Option ℕ) (at total : ℕ) → at ≤ total → (other : Option ℕ) (n m : ℕ) → Reads image at total ≡ Reads other n m → n ≤ m
reader-ends image at total within other n m e = let p : at ≡ n = cc in let q : total ≡ m = cc in omega (arith, within, p, q)

module _ (handles : List Handle) (place : ℕ) (h : Handle) (below : place < length handles) where
  abbrev changed : List Handle
  changed = set handles place h

  here : (other : ℕ) → other ≡ place → get_or changed other Free ≡ h
  here other same = ap (λ (p : ℕ). get_or changed p Free) same ∙ get_or-set_same handles place h Free below

  there : (other : ℕ) → other ≢ place → get_or changed other Free ≡ get_or handles other Free
  there other ne = get_or-set_other handles place other h Free ne

  -- a writer is the new handle, or was one before
  writer-was : (other image : ℕ) → get_or changed other Free ≡ Writes image → ((other ≡ place) × (h ≡ Writes image)) ⊎ ((other ≢ place) × (get_or handles other Free ≡ Writes image))
  writer-was other image e = elim (cases_eq other place) [
    | inl same ↦ inl (same, sym (here other same) ∙ e)
    | inr ne ↦ inr (ne, sym (there other ne) ∙ e)
  ]

  -- a handle that writes nothing
  module _ (staging : Bool) (rows : List ImageRow) (parts : List Part) (reads : is_writer_kept h ≡ false) (ends : (image : Option ℕ) (at total : ℕ) → h ≡ Reads image at total → at ≤ total) (sound : IsSoundKept staging rows parts handles) where
    was : (other image : ℕ) → get_or changed other Free ≡ Writes image → get_or handles other Free ≡ Writes image
    was other image e = elim (writer-was other image e) [
      | inl new ↦ absurd (false≢true (sym reads ∙ ap is_writer_kept new.1))
      | inr old ↦ old.1
    ]

    pub handle-sound : IsSoundKept staging rows parts changed
    handle-sound = record {
      few = sound.few;
      slots = sound.slots;
      sizes = sound.sizes;
      within = λ other image e. sound.within other image (was other image e);
      opened = λ other image e. sound.opened other image (was other image e);
      alone = λ one other image e f. sound.alone one other image (was one image e) (was other image f);
      staged = λ other image e. sound.staged other image (was other image e);
      readers = λ other image at total e. elim (cases_eq other place) [
        | inl same ↦ ends image at total (sym (here other same) ∙ e)
        | inr ne ↦ sound.readers other image at total (sym (there other ne) ∙ e)
      ];
    }

-- an image that was not open is opened, and a handle writes it
module _ (handles : List Handle) (place : ℕ) (below : place < length handles) (rows : List ImageRow) (parts : List Part) (image : ℕ) (p : Part) (within : image < length rows) (room : image < length parts)
    (closed : is_part_open (get_or parts image Nothing) ≡ false) (opens : is_part_open p ≡ true) (empty : size_of p ≡ 0) (staging : Bool) (on : staging ≡ true) (sound : IsSoundKept staging rows parts handles) where
  abbrev opened : List Part
  opened = set parts image p

  old-writer : (other i : ℕ) → get_or handles other Free ≡ Writes i → i ≢ image
  old-writer other i e same = false≢true (sym closed ∙ ap (λ (j : ℕ). is_part_open (get_or parts j Nothing)) (sym same) ∙ sound.opened other i e)

  part-here : get_or opened image Nothing ≡ p
  part-here = get_or-set_same parts image p Nothing room

  part-there : (i : ℕ) → i ≢ image → get_or opened i Nothing ≡ get_or parts i Nothing
  part-there i ne = get_or-set_other parts image i p Nothing ne

  apart : (one other i : ℕ) → get_or (set handles place (Writes image)) one Free ≡ Writes i → get_or (set handles place (Writes image)) other Free ≡ Writes i → one ≡ other
  apart one other i e f = elim (writer-was handles place (Writes image) below one i e) [
    | inl a ↦ elim (writer-was handles place (Writes image) below other i f) [
      | inl b ↦ a.0 ∙ sym b.0
      | inr b ↦ absurd (old-writer other i b.1 (sym (same-writer image i a.1)))
    ]
    | inr a ↦ elim (writer-was handles place (Writes image) below other i f) [
      | inl b ↦ absurd (old-writer one i a.1 (sym (same-writer image i b.1)))
      | inr b ↦ sound.alone one other i a.1 b.1
    ]
  ]

  pub open-sound : IsSoundKept staging rows opened (set handles place (Writes image))
  open-sound = record {
    few = sound.few;
    slots = sound.slots;
    sizes = λ i lt. elim (cases_eq i image) [
      | inl same ↦ subst (λ (n : ℕ). n ≤ slot_room_of rows i) (sym (ap (λ (j : ℕ). size_of (get_or opened j Nothing)) same ∙ ap size_of part-here ∙ empty)) (omega arith)
      | inr ne ↦ subst (λ (q : Part). size_of q ≤ slot_room_of rows i) (sym (part-there i ne)) (sound.sizes i lt)
    ];
    within = λ other i e. elim (writer-was handles place (Writes image) below other i e) [
      | inl new ↦ subst (λ (j : ℕ). j < length rows) (same-writer image i new.1) within
      | inr old ↦ sound.within other i old.1
    ];
    opened = λ other i e. elim (writer-was handles place (Writes image) below other i e) [
      | inl new ↦ ap (λ (j : ℕ). is_part_open (get_or opened j Nothing)) (sym (same-writer image i new.1)) ∙ ap is_part_open part-here ∙ opens
      | inr old ↦ ap is_part_open (part-there i (old-writer other i old.1)) ∙ sound.opened other i old.1
    ];
    alone = apart;
    staged = λ other i e. on;
    readers = λ other target at total e. elim (cases_eq other place) [
      | inl same ↦ absurd (not-writes-reads image target at total (sym (here handles place (Writes image) below other same) ∙ e))
      | inr ne ↦ sound.readers other target at total (sym (there handles place (Writes image) below other ne) ∙ e)
    ];
  }
    where
      not-writes-reads : (i : ℕ) (target : Option ℕ) (at total : ℕ) → Writes i ≡ Reads target at total → ⊥
      not-writes-reads i target at total e = absurd cc

-- an image is committed, and the handle that wrote it is free
module _ (handles : List Handle) (place : ℕ) (below : place < length handles) (staging : Bool) (rows : List ImageRow) (parts : List Part) (image : ℕ) (ended : List Part) (writes : get_or handles place Free ≡ Writes image)
    (there-part : (i : ℕ) → i ≢ image → get_or ended i Nothing ≡ get_or parts i Nothing) (size : size_of (get_or ended image Nothing) ≡ size_of (get_or parts image Nothing)) (sound : IsSoundKept staging rows parts handles) where
  free-was : (other i : ℕ) → get_or (set handles place Free) other Free ≡ Writes i → (other ≢ place) × (get_or handles other Free ≡ Writes i)
  free-was other i e = elim (writer-was handles place Free below other i e) [ inl new ↦ absurd (not-free i new.1) | inr old ↦ old ]
    where
      not-free : (j : ℕ) → Free ≡ Writes j → ⊥
      not-free j e = absurd cc

  -- what another handle writes is another image
  other-image : (other i : ℕ) → (other ≢ place) × (get_or handles other Free ≡ Writes i) → i ≢ image
  other-image other i old same = old.0 (sound.alone other place i old.1 (writes ∙ ap Writes (sym same)))

  pub commit-sound : IsSoundKept staging rows ended (set handles place Free)
  commit-sound = record {
    few = sound.few;
    slots = sound.slots;
    sizes = λ i lt. elim (cases_eq i image) [
      | inl same ↦
          subst (λ (n : ℕ). n ≤ slot_room_of rows i) (sym (ap (λ (j : ℕ). size_of (get_or ended j Nothing)) same ∙ size ∙ ap (λ (j : ℕ). size_of (get_or parts j Nothing)) (sym same))) (sound.sizes i lt)
      | inr ne ↦ subst (λ (q : Part). size_of q ≤ slot_room_of rows i) (sym (there-part i ne)) (sound.sizes i lt)
    ];
    within = λ other i e. sound.within other i (free-was other i e).1;
    opened = λ other i e. ap is_part_open (there-part i (other-image other i (free-was other i e))) ∙ sound.opened other i (free-was other i e).1;
    alone = λ one other i e f. sound.alone one other i (free-was one i e).1 (free-was other i f).1;
    staged = λ other i e. sound.staged other i (free-was other i e).1;
    readers = λ other target at total e. elim (cases_eq other place) [
      | inl same ↦ absurd (free-reads target at total (sym (here handles place Free below other same) ∙ e))
      | inr ne ↦ sound.readers other target at total (sym (there handles place Free below other ne) ∙ e)
    ];
  }
    where
      free-reads : (target : Option ℕ) (at total : ℕ) → Free ≡ Reads target at total → ⊥
      free-reads target at total e = absurd cc

-- committing an image leaves its length
pub commits-size : (p q : Part) (bit : Bool) → CommitsTo p q bit → size_of q ≡ size_of p
commits-size Nothing q bit c = ap size_of c
commits-size (Committed size digest b) q bit c = ap size_of c
commits-size (Open size hasher) Nothing bit c = absurd c
commits-size (Open size hasher) (Open n other) bit c = absurd c
commits-size (Open size hasher) (Committed n digest b) bit c = c.0
