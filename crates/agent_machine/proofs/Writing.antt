-- Bytes behind those of a staged image: what the agent knows afterwards.
use Rattle.std.proofs.Common.{◌≡◌, ◌≢◌, inl, inr, ℕ, ◌+◌, ◌*◌, ◌<◌, ◌≤◌, true, List, [], ◌++◌, length, get_or, set, map, Option, Ok, refl, sym, ap, ap₂, ◌∙◌, subst, arith, get_or-set_same, get_or-set_other}
use Rattle.std.proofs.lemmas.Bool.{cases_eq}
use Rattle.std.specs.Prelude.{is_some}
use Rattle.fwu_model.specs.{Answer.held_package, State.State}
use Rattle.flash_core.specs.Told.{Told}
use Rattle.sha2.specs.declared.Sha256.{Sha256}
use Rattle.fwu_formats.specs.Layout.{ImageRow, start, slot_bytes, blocks_needed}
use Rattle.slot_writer.specs.Slots.{Appends, IsBlankAhead, done_of}
use Rattle.agent_kept.specs.{declared.parts.Part.Part, declared.parts.Part.TheVariants.Open}
use Rattle.agent_kept.specs.Kept.{Kept, IsKept, part_at, part_meant, size_of, AppendsPart}
use Rattle.agent_kept.specs.declared.kinds.Plan.TheVariants as plan
use Rattle.agent_state.specs.Settles.{with_bytes, staged_after}
use Rattle.agent_machine.specs.Fields.{Fields, target, rest_of, with_session}
use Rattle.agent_machine.specs.Machine.{state_in, staged_bytes, part_bytes}
use Rattle.agent_machine.specs.Knows.{Fitting, SessionSound, HasStaged, Knows}
use Rattle.agent_machine.proofs.{Staging.StaysKnown, Answered.MeansSame, Answered.kept-same, Room.appends-stay}
use Rattle.agent_kept.proofs.After.{grown, open-committed}
use Rattle.agent_state.proofs.Settled.{with-here, with-there}

-- What the agent knows after a write, and the bytes of each staged image.
pub record WriteMeets (f g : Fields) (image : ℕ) (bytes : List ℕ) (s t : Told) : Type 0 where
  pub known : Knows g t
  pub state_is : state_in g t.now ≡ state_in f s.now
  pub appended : staged_bytes g t.now image ≡ staged_bytes f s.now image ++ bytes
  pub others : (other : ℕ) → other ≢ image → other < length f.layout.rows → staged_bytes g t.now other ≡ staged_bytes f s.now other

-- ---- the agent with another session, after writes in the slot of a staged image

pub known-again : (f : Fields) (k : Kept) (rests : List (List ℕ)) (image : ℕ) (s t : Told) → Knows f s → StaysKnown f image s t
    → k.staging ≡ f.session.staging → HasStaged (with_session f k rests) t → Knows (with_session f k rests) t
known-again f k rests image s t knows stays staging has = record {
  layout_is = stays.layout_is;
  both = stays.both;
  version = knows.version;
  used = knows.used;
  accepted = λ is. knows.accepted (sym staging ∙ is);
  counter_is = knows.counter_is ∙ ap (λ (x : State). x.counter) (sym stays.state_is);
  trials_are = knows.trials_are ∙ ap (λ (x : State). x.trials) (sym stays.state_is);
  held = ap is_some stays.held ∙ knows.held;
  lengths_are = knows.lengths_are ∙ ap (λ (p : Option (List (List ℕ))). map (λ (bytes : List ℕ). length bytes) (held_package p)) (sym stays.held);
  staged = has;
}

-- ---- a write

module _ (f : Fields) (k : Kept) (image number at : ℕ) (bytes left : List ℕ) (s t : Told) (fitting : Fitting f) (sound : SessionSound f) (knows : Knows f s)
    (staging : f.session.staging ≡ true) (within : image < length f.layout.rows)
    (room : blocks_needed f.layout * 4096 ≤ length s.now) (fits : size_of (part_at f.session image) + length bytes ≤ slot_bytes f.layout image)
    (wrote : AppendsPart f.session image bytes k)
    (kept : IsKept k (staged_after (plan.Write number image at (length bytes)) bytes (staged_bytes f s.now)))
    (appends : Appends {T = Unit {0}} (Ok tt) (start f.layout (target f) image) (size_of (part_at f.session image)) (rest_of f image) bytes left s t) where
  abbrev rests : List (List ℕ)
  rests = set f.rests image left

  abbrev g : Fields
  g = with_session f k rests

  abbrev first : ℕ
  first = start f.layout (target f) image

  abbrev size : ℕ
  size = size_of (part_at f.session image)

  stays : StaysKnown f image s t
  stays = appends-stay {T = Unit {0}} (Ok tt) f image first size (rest_of f image) bytes left s t refl fits appends fitting sound
      knows
      (fitting.free staging) within room

  part : (n : ℕ) × (hasher : Sha256) × (next : Sha256) × (part_at f.session image ≡ Open n hasher) × (part_at k image ≡ Open (n + length bytes) next)
  part = let all = grown (part_at f.session image) (part_at k image) bytes wrote.part in (all.0, all.1, all.2, all.3, all.4)

  few : image < length f.rests
  few = omega (arith, within, fitting.rests, rows-few)
    where
      rows-few : length f.layout.rows ≤ 16
      rows-few = omega (arith, sound.few, ap (λ (l : List ImageRow). length l) fitting.rows)

  left-is : get_or rests image [] ≡ left
  left-is = get_or-set_same f.rests image left [] few

  others-same : (other : ℕ) → other ≢ image → other < length f.layout.rows → staged_bytes g t.now other ≡ staged_bytes f s.now other
  others-same other ne lt =
      ap₂ (λ (p : Part) (rest : List ℕ). part_bytes (start f.layout (target f) other) p rest t.now) (wrote.others other ne)
      (get_or-set_other f.rests image other left [] ne) ∙ stays.others other ne lt

  image-grows : staged_bytes g t.now image ≡ staged_bytes f s.now image ++ bytes
  image-grows =
      let n : size ≡ part.0 = ap size_of part.3 in
      ap₂ (λ (p : Part) (rest : List ℕ). part_bytes first p rest t.now) part.4 left-is
      ∙ subst (λ (k : ℕ). part_bytes first (Open (k + length bytes) part.2) left t.now ≡ part_bytes first (Open k part.1) (rest_of f image) s.now ++ bytes)
      n appends.written
      ∙ ap (λ (p : Part). part_bytes first p (rest_of f image) s.now ++ bytes) (sym part.3)

  -- the bytes of the images of the layout are those after the write
  pub staged-written : (i : ℕ) → i < length k.rows → staged_bytes g t.now i ≡ staged_after (plan.Write number image at (length bytes)) bytes
      (staged_bytes f s.now) i
  staged-written i lt =
      let below : i < length f.layout.rows = omega (arith, lt, ap (λ (l : List ImageRow). length l) (wrote.rest.rows ∙ fitting.rows)) in
      elim (cases_eq i image) [
        | inl same ↦
            ap (staged_bytes g t.now) same ∙ image-grows ∙ sym (with-here (staged_bytes f s.now) image (staged_bytes f s.now image ++ bytes))
            ∙ ap (with_bytes (staged_bytes f s.now) image (staged_bytes f s.now image ++ bytes)) (sym same)
        | inr ne ↦ others-same i ne below ∙ sym (with-there (staged_bytes f s.now) image (staged_bytes f s.now image ++ bytes) i ne)
      ]

  pub means-written : MeansSame k (staged_after (plan.Write number image at (length bytes)) bytes (staged_bytes f s.now)) (staged_bytes g t.now)
  means-written i lt = ap (part_meant (part_at k i)) (staged-written i lt)

  has-staged : HasStaged g t
  has-staged = record {
    kept = kept-same k (staged_after (plan.Write number image at (length bytes)) bytes (staged_bytes f s.now)) (staged_bytes g t.now)
        (omega (arith, within, ap (λ (l : List ImageRow). length l) (wrote.rest.rows ∙ fitting.rows))) means-written kept;
    ahead = λ other n hasher lt is. elim (cases_eq other image) [
      | inl same ↦
          let e : size + length bytes ≡ n = ap (λ (j : ℕ). j + length bytes) (ap size_of part.3) ∙ sym (ap size_of part.4)
          ∙ ap (λ (j : ℕ). size_of (part_at k j)) (sym same) ∙ ap size_of is in
          subst (λ (j : ℕ). IsBlankAhead (start f.layout (target f) j) (done_of n) t.now) (sym same)
          (subst (λ (j : ℕ). IsBlankAhead first (done_of j) t.now) e appends.ahead)
      | inr ne ↦ stays.ahead other n hasher ne lt (sym (wrote.others other ne) ∙ is)
    ];
    padded = λ other n digest bit lt is. elim (cases_eq other image) [
      | inl same ↦ absurd (open-committed (part.0 + length bytes) n part.2 digest bit (sym part.4 ∙ ap (λ (j : ℕ). part_at k j) (sym same) ∙ is))
      | inr ne ↦ stays.padded other n digest bit ne lt (sym (wrote.others other ne) ∙ is)
    ];
    sure = λ other n digest bit lt is. elim (cases_eq other image) [
      | inl same ↦ absurd (open-committed (part.0 + length bytes) n part.2 digest bit (sym part.4 ∙ ap (λ (j : ℕ). part_at k j) (sym same) ∙ is))
      | inr ne ↦ stays.sure other n digest bit ne lt (sym (wrote.others other ne) ∙ is)
    ];
  }

  pub write-meets : WriteMeets f g image bytes s t
  write-meets = record {
    known = known-again f k rests image s t knows stays wrote.rest.staging has-staged;
    state_is = stays.state_is;
    appended = image-grows;
    others = others-same;
  }
