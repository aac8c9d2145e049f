-- What is staged may be installed: the update bank holds the package, and is sure.
use Rattle.std.proofs.Common.{◌≡◌, inl, inr, ℕ, suc, ◌+◌, ◌*◌, ◌<◌, ◌≤◌, Bool, true, false, ◌&&◌, not, cond, List, [], ◌∷◌, length, get_or, take, drop, Some, None, refl, sym, ap, ◌∙◌, subst, arith, IsTrue, IsFalse, leb}
use Rattle.std.proofs.lemmas.Bool.{and_parts, cases_lt}
use Rattle.std.proofs.lemmas.List.{take-take, length-map}
use Rattle.std.proofs.lemmas.List.Sums.{sum_by-cons}
use Rattle.std.proofs.lemmas.List.FromFn.{length-map-range_with_len, get_or-map-range_with_len}
use Rattle.std.specs.List.{list_all, list_any, range_with_len}
use Rattle.flash_core.specs.{Told.Told, Told.is_unsure, May.Quiet}
use Rattle.fwu_formats.specs.{Layout.ImageRow, Layout.Layout, Layout.start, Layout.slot_total, Layout.slot_bytes, Metadata.Meta}
use Rattle.fwu_formats.specs.{Metadata.MetaRead, Manifest.is_complete, Manifest.version, Manifest.manifest_part, Image.slot}
use Rattle.fwu_model.specs.{declared.kinds.Status.Status, State.State, State.bank, State.is_accepted, Sound.Setting}
use Rattle.fwu_model.specs.{Sound.is_permitted, Session.Staged, Session.Handle, Session.On, Session.is_committed, Reply.Refused}
use Rattle.fwu_model.specs.{Reply.Success, MoveMetas.meta_in, Replica.BothHold, Replica.in_version}
use Rattle.fwu_model.specs.Answer.{Answer, answer, answer_end, is_writer, staged_package, staged_bits, may_end}
use Rattle.fwu_model.specs.declared.kinds.Status.TheVariants as status
use Rattle.fwu_model.specs.Call as call
use Rattle.fwu_model.specs.Answer as answer
use Rattle.moves.specs.Law.{EndsBy}
use Rattle.moves.proofs.{Agree.state-is, MetaMoves.meta-is, Switching.ends-by}
use Rattle.meta_layout.proofs.Fits.{MetaFits, meta-fits}
use Rattle.agent_kept.specs.declared.kinds.Plan.TheVariants as plan
use Rattle.agent_kept.specs.{declared.parts.Part.Part, Judged.is_part_committed, Plans.planned}
use Rattle.agent_kept.specs.declared.parts.Part.TheVariants.{Nothing, Open, Committed}
use Rattle.agent_kept.specs.Kept.{part_at, part_meant, parts_meant, size_of}
use Rattle.agent_kept.proofs.Installable.{each-committed, map-twice}
use Rattle.agent_machine.specs.{Fields.Fields, Fields.target, Knows.Fitting, Knows.Knows}
use Rattle.agent_machine.specs.Machine.{state_in, staged_bytes, part_bytes}
use Rattle.agent_machine.proofs.Known.{known-shown, update-is}

-- ---- what an answered end says

passed : (busy may : Bool) (x y z w : Answer) → cond busy x (cond (not may) y z) ≡ w → (x.reply ≡ w.reply → ⊥) → (y.reply ≡ w.reply → ⊥) → may ≡ true
passed true may x y z w e nx ny = absurd (nx (ap (λ (a : Answer). a.reply) e))
passed false true x y z w e nx ny = refl
passed false false x y z w e nx ny = absurd (ny (ap (λ (a : Answer). a.reply) e))

not-success : (st : Status) → Refused st ≡ Success → ⊥
not-success st e = absurd cc

-- what is ended may be installed
pub ended-may : (E : Setting) (s : State) (boot : ℕ) (parts : List Staged) (handles : List Handle)
    → answer E s (On boot (Some parts) handles) call.End ≡ planned E s boot (Some parts) handles [] plan.End → may_end E s parts ≡ true
unfolding answer answer_end planned
ended-may E s boot parts handles e =
    passed (list_any is_writer handles) (may_end E s parts) _ _ _ (planned E s boot (Some parts) handles [] plan.End) e
    (λ is. not-success status.Busy is) (λ is. not-success status.AuthFail is)

-- a bank is its slots, one after the other
in-slots : (P : ℕ → Type 0) (rows : List ImageRow) (base : ℕ)
    → ((j : ℕ) → j < length rows → (x : ℕ) → base + 4096 * slot_total (take j rows) ≤ x
    → x < base + 4096 * slot_total (take j rows) + 4096 * (get_or rows j (record { guid = []; slots = 0 })).slots → P x)
    → (x : ℕ) → base ≤ x → x < base + 4096 * slot_total rows → P x
in-slots P [] base each x low high = absurd (omega (arith, low, high))
in-slots P (r ∷ rows) base each x low high = elim (cases_lt x (base + 4096 * r.slots)) [
  | inl here ↦ each 0 (omega arith) x (omega (arith, low)) (omega (arith, here))
  | inr behind ↦
      in-slots P rows (base + 4096 * r.slots)
      (λ j lt y above under. each (suc j) (omega (arith, lt)) y (omega (arith, above, sum_by-cons (λ (i : ImageRow). i.slots) r (take j rows)))
      (omega (arith, under, sum_by-cons (λ (i : ImageRow). i.slots) r (take j rows))))
      x behind (omega (arith, high, sum_by-cons (λ (i : ImageRow). i.slots) r rows))
]

committed-is : (p : Part) → is_part_committed p ≡ true → (size : ℕ) × (digest : List ℕ) × (bit : Bool) × (p ≡ Committed size digest bit)
committed-is Nothing is = absurd cc
committed-is (Open size hasher) is = absurd cc
committed-is (Committed size digest bit) is = (size, digest, bit, refl)

module _ (f : Fields) (passes : List ℕ → Bool) (s : Told) (fitting : Fitting f) (knows : Knows f s)
    (sizes : (i : ℕ) → i < length f.layout.rows → size_of (part_at f.session i) ≤ slot_bytes f.layout i)
    (some : 1 ≤ length f.layout.rows) (staging : f.session.staging ≡ true)
    (may : may_end (record { layout = f.layout; files = λ _. None; passes = passes }) (state_in f s.now)
    (parts_meant f.session (staged_bytes f s.now)) ≡ true) where
  abbrev L : Layout
  L = f.layout

  abbrev staged : ℕ → List ℕ
  staged = staged_bytes f s.now

  abbrev n : ℕ
  n = length f.session.rows

  abbrev p : List (List ℕ)
  p = staged_package (parts_meant f.session staged)

  abbrev bits : List Bool
  bits = staged_bits (parts_meant f.session staged)

  abbrev plain : Setting
  plain = record { layout = L; files = λ _. None; passes = passes }

  abbrev state : State
  state = state_in f s.now

  count-is : n ≡ length L.rows
  count-is = ap (λ (l : List ImageRow). length l) fitting.rows

  tests : IsTrue (list_all is_committed (parts_meant f.session staged)) × IsTrue (is_complete L.rows p) × IsTrue (is_permitted plain state.counter p)
  tests =
      let a = and_parts (list_all is_committed (parts_meant f.session staged)) _ may in
      let b = and_parts (is_complete L.rows p) _ a.1 in
      (a.0, b.0, b.1)

  one : (i : ℕ) → i < n → (size : ℕ) × (digest : List ℕ) × (bit : Bool) × (part_at f.session i ≡ Committed size digest bit)
  one i lt = committed-is (part_at f.session i) (each-committed f.session staged tests.0 i lt)

  p-at : (i : ℕ) → i < n → get_or p i [] ≡ staged i
  p-at i lt =
      let c = one i lt in
      ap (λ (l : List (List ℕ)). get_or l i []) (map-twice answer.staged_bytes (λ (j : ℕ). part_meant (part_at f.session j) (staged j)) (range_with_len 0 n))
      ∙ get_or-map-range_with_len (λ (j : ℕ). answer.staged_bytes (part_meant (part_at f.session j) (staged j))) 0 n i i [] lt (omega arith)
      ∙ ap (λ (q : Part). answer.staged_bytes (part_meant q (staged i))) c.3

  size-p : length p ≡ n
  size-p = length-map (parts_meant f.session staged) answer.staged_bytes ∙ length-map-range_with_len _ 0 n

  holds : (i : ℕ) → i < length p → take (length (get_or p i [])) (slot L s.now (target f) i) ≡ get_or p i []
  holds i below =
      let lt : i < n = omega (arith, below, size-p) in
      let c = one i lt in
      let kept = knows.staged.kept.committed i c.0 c.1 c.2 lt c.3 in
      let room : c.0 ≤ slot_bytes L i = omega (arith, ap size_of c.3, sizes i (omega (arith, lt, count-is))) in
      let is : staged i ≡ take c.0 (drop (4096 * start L (target f) i) s.now) = ap
      (λ (q : Part). part_bytes (start L (target f) i) q (get_or f.rests i []) s.now) c.3 in
      ap (λ (l : List ℕ). take (length l) (slot L s.now (target f) i)) (p-at i lt) ∙ ap (λ (k : ℕ). take k (slot L s.now (target f) i)) (sym kept.0)
      ∙ take-take c.0 (slot_bytes L i) (drop (4096 * start L (target f) i) s.now) room ∙ sym is ∙ sym (p-at i lt)

  sure : Quiet (4096 * start L (target f) 0) (4096 * start L (target f + 1) 0) s
  sure x low high =
      let next : (target f + 1) * slot_total L.rows ≡ target f * slot_total L.rows + slot_total L.rows = grind arith in
      in-slots (λ (y : ℕ). IsFalse (is_unsure s y)) L.rows (4096 * (8 + target f * slot_total L.rows))
      (λ j lt y above under.
      let here : j < n = omega (arith, lt, count-is) in
      let c = one j here in
      knows.staged.sure j c.0 c.1 c.2 lt c.3 y (omega (arith, above)) (omega (arith, under)))
      x (omega (arith, low)) (omega (arith, high, next))

  -- ---- by the state

  abbrev m : Meta
  m = f.meta.meta

  whole : MetaFits L m
  whole = meta-fits L m fitting.meta

  pub state-meta : meta_in state ≡ m
  state-meta = meta-is L s.now f.meta state whole refl

  both-two : BothHold L (in_version 2 (meta_in state)) s.now
  both-two = subst (λ (r : MetaRead). BothHold L r s.now) (ap (λ (j : ℕ). in_version j m) knows.version ∙ ap (in_version 2) (sym state-meta)) knows.both

  active-accepted : IsTrue (is_accepted (bank state state.active).state)
  active-accepted = ap is_accepted (state-is L s.now f.meta state refl m.active whole.active) ∙ knows.accepted staging

  -- the marks and the store are the switch to what is staged
  pub ends-meet : EndsBy L state p bits s
  ends-meet =
      ends-by L state p bits s (known-shown f s knows) knows.version both-two active-accepted some
      (length-map (parts_meant f.session staged) answer.committed_bit ∙ length-map-range_with_len _ 0 n ∙ count-is) tests.1
      (λ i below. subst (λ (b : ℕ). take (length (get_or p i [])) (slot L s.now b i) ≡ get_or p i []) (sym (update-is f s.now))
      (holds i below))
      (subst (λ (b : ℕ). Quiet (4096 * start L b 0) (4096 * start L (b + 1) 0) s) (sym (update-is f s.now)) sure)

  pub permitted-in : (E : Setting) → E.layout ≡ L → E.passes ≡ passes → IsTrue (is_permitted E state.counter p)
  permitted-in E same verifier = ap (λ (v : List ℕ → Bool). leb state.counter (version p) && v (manifest_part p)) verifier ∙ tests.2
