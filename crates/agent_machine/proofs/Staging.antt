-- Writes in the slot of a staged image: the state, the other images and what is known of them stay.
use Rattle.std.proofs.Common.{◌≡◌, ◌≢◌, ◌⊎◌, inl, inr, ℕ, zero, suc, ◌+◌, ◌*◌, ◌%◌, ◌<◌, ◌≤◌, List, [], ◌∷◌, ◌++◌, length, get_or, take, drop, Bool, Ok, refl, sym, ap, ◌∙◌, subst, arith, IsTrue}
use Rattle.std.proofs.lemmas.Bool.{cases_lt}
use Rattle.std.proofs.lemmas.List.{length-take, length-drop, get_or-take, get_or-drop, get_or_default, same_lists}
use Rattle.flash_core.specs.{Told.Told, May.Guards, May.Keeps, May.Quiet}
use Rattle.flash_core.proofs.Calls.{keeps_wider}
use Rattle.fwu_formats.specs.{Metadata.state_at, Image.layout_seen, Image.package_in}
use Rattle.fwu_formats.specs.Layout.{ImageRow, Layout, start, slot_total, slot_bytes, blocks_needed}
use Rattle.fwu_model.specs.{Replica.BothHold, State.State, State.bank, State.is_invalid, Sound.Setting, Calm.IsCalm, Calm.IsAtRest}
use Rattle.moves.specs.Moved.{IsReady, IsShown}
use Rattle.moves.proofs.{Agree.state-is, Agree.package-same, Agree.slots-fit, MetaMoves.deciding-fits, Beside.both-beside}
use Rattle.moves.proofs.Staged.{staged-shows, staged-ready, staged-rest, banks-order}
use Rattle.std.proofs.Math.Nat.{mod-lt}
use Rattle.std.proofs.lemmas.List.Sums.{sum_by-cons}
use Rattle.slot_writer.specs.Slots.{IsBlankAhead, done_of}
use Rattle.sha2.specs.declared.Sha256.{Sha256}
use Rattle.agent_kept.specs.{declared.parts.Part.Part, Kept.part_at, Kept.size_of, Kept.slot_room_of}
use Rattle.agent_kept.specs.declared.parts.Part.TheVariants.{Nothing, Open, Committed}
use Rattle.agent_machine.specs.{Fields.Fields, Fields.target, Fields.rest_of, Knows.Fitting, Knows.SessionSound, Knows.Knows}
use Rattle.agent_machine.specs.Machine.{state_in, part_bytes, staged_bytes}
use Rattle.agent_machine.proofs.Known.{both-decides, in-layout, known-shown, known-ready, state-held}

-- What is written in the slot of a staged image, at any exit. The state stays, and so do the other
-- staged images and all that is known beside this one.
pub record StaysKnown (f : Fields) (image : ℕ) (s t : Told) : Type 0 where
  pub state_is : state_in f t.now ≡ state_in f s.now
  pub layout_is : layout_seen t.now ≡ Ok f.layout
  pub both : BothHold f.layout f.meta t.now
  pub held : package_in f.layout t.now f.boot ≡ package_in f.layout s.now f.boot
  pub others : (other : ℕ) → other ≢ image → other < length f.layout.rows → staged_bytes f t.now other ≡ staged_bytes f s.now other
  pub ahead : (other size : ℕ) (hasher : Sha256) → other ≢ image → other < length f.layout.rows
      → part_at f.session other ≡ Open size hasher → IsBlankAhead (start f.layout (target f) other) (done_of size) t.now
  pub padded : (other size : ℕ) (digest : List ℕ) (bit : Bool) → other ≢ image → other < length f.layout.rows
      → part_at f.session other ≡ Committed size digest bit → IsBlankAhead (start f.layout (target f) other) size t.now
  pub sure : (other size : ℕ) (digest : List ℕ) (bit : Bool) → other ≢ image → other < length f.layout.rows
      → part_at f.session other ≡ Committed size digest bit
      → let at = 4096 * start f.layout (target f) other in Quiet at (at + slot_bytes f.layout other) t
  -- on a calm flash, and on any flash at rest
  pub ready : (E : Setting) → E.layout ≡ f.layout → IsCalm E s (state_in f s.now) → Guards 1 7 s → IsReady E t (state_in f s.now)
  pub rests : IsAtRest s → IsAtRest t

slots-order : (rows : List ImageRow) (i j : ℕ) → i < j
    → slot_total (take i rows) + (get_or rows i (record { guid = []; slots = 0 })).slots ≤ slot_total (take j rows)
slots-order [] zero j lt = omega arith
slots-order [] (suc i) j lt = omega arith
slots-order (r ∷ rows) i zero lt = absurd (omega (arith, lt))
slots-order (r ∷ rows) zero (suc j) lt = omega (arith, sum_by-cons (λ (x : ImageRow). x.slots) r (take j rows))
slots-order (r ∷ rows) (suc i) (suc j) lt = omega (
  arith,
  sum_by-cons (λ (x : ImageRow). x.slots) r (take i rows),
  sum_by-cons (λ (x : ImageRow). x.slots) r
      (take j rows),
  slots-order rows i j (omega (arith, lt)),
)

-- a slot is within the blocks of the layout
pub slot-inside : (L : Layout) (bank image : ℕ) → bank < L.banks
    → 4096 * start L bank image + slot_bytes L image ≤ 4096 * blocks_needed L
slot-inside L bank image lt =
    let fits = slots-fit L.rows image in
    let next : (bank + 1) * slot_total L.rows ≡ bank * slot_total L.rows + slot_total L.rows = grind arith in
    let most : (bank + 1) * slot_total L.rows ≤ L.banks * slot_total L.rows = grind arith in
    omega (arith, fits, next, most)

-- a staged image is within its slot
pub slot-room : (f : Fields) → Fitting f → SessionSound f → (image : ℕ) → image < length f.layout.rows
    → size_of (part_at f.session image) ≤ slot_bytes f.layout image
slot-room f fitting sound image lt =
    let count : length f.session.rows ≡ length f.layout.rows = ap (λ (l : List ImageRow). length l) fitting.rows in
    let slot : slot_room_of f.session.rows image ≡ slot_bytes f.layout image =
    ap (λ (l : List ImageRow). slot_room_of l image) fitting.rows in
    omega (arith, sound.sizes image (omega (arith, count, lt)), slot)

module _ (f : Fields) (image : ℕ) (s t : Told) (fitting : Fitting f) (sound : SessionSound f) (knows : Knows f s)
    (invalid : IsTrue (is_invalid (state_at f.meta.meta (target f)))) (within : image < length f.layout.rows)
    (room : blocks_needed f.layout * 4096 ≤ length s.now)
    (keeps : Keeps (4096 * start f.layout (target f) image) (4096 * start f.layout (target f) image + slot_bytes f.layout image) s t) where
  abbrev L : Layout
  L = f.layout

  abbrev u : ℕ
  u = target f

  abbrev state : State
  state = state_in f s.now

  abbrev low : ℕ
  low = 4096 * start L u image

  abbrev high : ℕ
  high = 4096 * start L u image + slot_bytes L image

  below : u < L.banks
  below =
      let active = (deciding-fits L s.now f.meta (both-decides L s.now f.meta knows.both)).active in
      mod-lt (f.meta.meta.active + 1) (omega (arith, active))

  -- within the bank
  in-bank : Keeps (4096 * start L u 0) (4096 * start L (u + 1) 0) s t
  in-bank =
      let fits = slots-fit L.rows image in
      let next : (u + 1) * slot_total L.rows ≡ u * slot_total L.rows + slot_total L.rows = grind arith in
      keeps_wider low high (4096 * start L u 0) (4096 * start L (u + 1) 0) s t (omega arith) (omega (arith, fits, next)) keeps

  shown : IsShown L s.now state
  shown = known-shown f s knows

  free : IsTrue (is_invalid (bank state u).state)
  free = ap is_invalid (state-is L s.now f.meta state refl u below) ∙ invalid

  shown-after : IsShown L t.now state
  shown-after = staged-shows L s t state u free in-bank shown

  both-after : BothHold L f.meta t.now
  both-after = both-beside L f.meta (4096 * start L u 0) (4096 * start L (u + 1) 0) s t (omega arith) in-bank knows.both

  apart-bank : f.boot ≢ u
  apart-bank e = let is : IsTrue (is_invalid (state_at f.meta.meta f.boot)) = subst (λ (b : ℕ). IsTrue (is_invalid (state_at f.meta.meta b)))
      (sym e) invalid in let used = knows.used in cc

  held-after : package_in L t.now f.boot ≡ package_in L s.now f.boot
  held-after = package-same L t.now s.now f.boot in-bank.size (λ place above under. in-bank.now place (outside place above under))
    where
      outside : (place : ℕ) → 4096 * start L f.boot 0 ≤ place → place < 4096 * start L (f.boot + 1) 0
          → (place < 4096 * start L u 0) ⊎ (4096 * start L (u + 1) 0 ≤ place)
      outside place above under = elim (cases_lt f.boot u) [
        | inl before ↦ let order = banks-order L f.boot u before in inl (omega (arith, order, under))
        | inr other ↦ elim (cases_lt u f.boot) [
          | inl behind ↦ let order = banks-order L u f.boot behind in inr (omega (arith, order, above))
          | inr same ↦ let e : f.boot ≡ u = omega (arith, other, same) in absurd (apart-bank e)
        ]
      ]

  -- slots of a bank follow one another
  module _ (other : ℕ) (not : other ≢ image) (there : other < length L.rows) where
    abbrev from : ℕ
    from = 4096 * start L u other

    abbrev to : ℕ
    to = 4096 * start L u other + slot_bytes L other

    beside : (to ≤ low) ⊎ (high ≤ from)
    beside = elim (cases_lt other image) [
      | inl before ↦ let order = slots-order L.rows other image before in inl (omega (arith, order))
      | inr more ↦ let order = slots-order L.rows image other (omega (arith, more, not)) in inr (omega (arith, order))
    ]

    outside : (i : ℕ) → from ≤ i → i < to → (i < low) ⊎ (high ≤ i)
    outside i above under = elim beside [
      | inl before ↦ inl (omega (arith, before, under))
      | inr behind ↦ inr (omega (arith, behind, above))
    ]

    within-flash : to ≤ length s.now
    within-flash = omega (arith, slot-inside L u other below, room)

    front-kept : (n : ℕ) → n ≤ slot_bytes L other → take n (drop from t.now) ≡ take n (drop from s.now)
    front-kept n le =
        let size = keeps.size in
        same_lists (take n (drop from t.now)) (take n (drop from s.now))
        (omega (arith, length-take n (drop from t.now), length-take n (drop from s.now), length-drop from t.now, length-drop from s.now, size))
        (λ k d h.
        let lt : k < n = omega (arith, h, length-take n (drop from t.now)) in
        get_or-take n (drop from t.now) k d lt ∙ get_or-drop from t.now k d
        ∙ get_or_default t.now (from + k) d 0 (omega (arith, lt, le, size, within-flash))
        ∙ keeps.now (from + k) (outside (from + k) (omega arith) (omega (arith, lt, le)))
        ∙ get_or_default s.now (from + k) 0 d (omega (arith, lt, le, within-flash)) ∙ sym (get_or-drop from s.now k d)
        ∙ sym (get_or-take n (drop from s.now) k d lt))

    part-kept : (p : Part) (rest : List ℕ) → size_of p ≤ slot_bytes L other
        → part_bytes (start L u other) p rest t.now ≡ part_bytes (start L u other) p rest s.now
    part-kept Nothing rest le = refl
    part-kept (Open size hasher) rest le = ap (λ (l : List ℕ). l ++ take (size % 16) rest) (front-kept (done_of size) (omega (arith, le)))
    part-kept (Committed size digest bit) rest le = front-kept size le

  ready-after : (E : Setting) → E.layout ≡ L → IsCalm E s state → Guards 1 7 s → IsReady E t state
  ready-after = in-layout (λ (E : Setting). IsCalm E s state → Guards 1 7 s → IsReady E t state) L (λ files passes calm guards.
      let E : Setting = record { layout = L; files = files; passes = passes } in
      staged-ready E s t state u (known-ready E f s refl knows calm guards) free in-bank)

  pub stays-known : StaysKnown f image s t
  stays-known = record {
    state_is = state-held L t.now f.meta state shown-after both-after;
    layout_is = shown-after.layout;
    both = both-after;
    held = held-after;
    others = λ other not there. part-kept other not there (part_at f.session other) (rest_of f other)
        (slot-room f fitting sound other there);
    ahead = λ other size hasher not there is i above under.
        let le : size ≤ slot_bytes L other = omega (arith, ap size_of is, slot-room f fitting sound other there) in
        keeps.now i (outside other not there i (omega (arith, above)) (omega (arith, under, le)))
        ∙ knows.staged.ahead other size hasher there is i above under;
    padded = λ other size digest bit not there is i above under.
        let le : size ≤ slot_bytes L other = omega (arith, ap size_of is, slot-room f fitting sound other there) in
        keeps.now i (outside other not there i (omega (arith, above)) (omega (arith, under, le)))
        ∙ knows.staged.padded other size digest bit there is i above under;
    sure = λ other size digest bit not there is i above under. keeps.sure i (outside other not there i above under)
        (knows.staged.sure other size digest bit there is i above under);
    ready = ready-after;
    rests = λ rest. staged-rest L s t state u shown rest free in-bank;
  }
