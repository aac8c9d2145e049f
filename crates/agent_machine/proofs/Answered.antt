-- What a call answers to each machine that the agent shows, from what is decided and how that is settled.
use Rattle.std.proofs.Common.{◌≡◌, ◌⊎◌, inl, inr, ℕ, zero, suc, ◌+◌, ◌-◌, ◌*◌, ◌<◌, ◌≤◌, min, Bool, true, false, cond, List, [], ◌++◌, length, get_or, take, map, flat_map, Option, Some, None, Result, Ok, Err, refl, sym, ap, ap₂, ◌∙◌, subst, arith, IsTrue}
use Rattle.std.proofs.Math.ListN as listn
use Rattle.std.proofs.lemmas.List.{length-append, get_or-take}
use Rattle.std.specs.Prelude.{IsErr}
use Rattle.std.specs.List.{range_with_len}
use Rattle.sha2.specs.{Sha256.sha256, Hashers.Holds256}
use Rattle.base_core.specs.Bytes.{le, listed}
use Rattle.flash_core.specs.{Told.Told, declared.flash.FlashStop.FlashStop}
use Rattle.fwu_formats.proofs.{Same.listed-same, SealLaws.limits, Written.rows-limits, Written.rows-fit}
use Rattle.fwu_formats.specs.{Manifest.manifest_size, Metadata.bit_number}
use Rattle.fwu_formats.specs.Layout.{ImageRow, Layout, fits_layout, slot_bytes}
use Rattle.fwu_model.specs.{declared.kinds.Status.Status, State.State, State.bank, State.Move, State.after, Session.Session}
use Rattle.fwu_model.specs.{Session.On, Session.Staged, Sound.Setting, Call.Call, Reply.Reply, Calm.IsAtRest}
use Rattle.fwu_model.specs.Answer.{staged_bytes as bytes_of, Answer, answer, refused, content, directory, directory_row, booted_package, held_package, version_in}
use Rattle.fwu_model.specs.Session as machine
use Rattle.moves.specs.Moved.{Does, GuardedBy, IsReady}
use Rattle.moves.proofs.Composed.{does-idle, does-nothing}
use Rattle.agent_kept.specs.{declared.parts.Part.Part, declared.parts.Handle.TheVariants.Reads, declared.kinds.Request.Request}
use Rattle.agent_kept.specs.{declared.kinds.Plan.Plan, declared.kinds.Decision.Decision}
use Rattle.agent_kept.specs.declared.parts.Part.TheVariants.{Nothing, Open, Committed}
use Rattle.agent_kept.specs.Kept.{Kept, IsKept, HasTotals, size_of, part_at, handle_kept, part_meant, handles_meant, staging_meant, session_meant}
use Rattle.agent_kept.specs.Plans.{call_of, planned, planned_in, SpeaksWhole, DecidesAs, FitsRequest}
use Rattle.agent_kept.specs.declared.kinds.Plan.TheVariants as plan
use Rattle.agent_kept.specs.declared.kinds.Decision.TheVariants as decision
use Rattle.agent_state.specs.{Decides.DecidesRequest, Settles.SettlesIn, Settles.staged_after}
use Rattle.agent_machine.specs.{Deciding.KeepsOldOrNew, declared.stop.Stop.Stop, Fields.Fields, Fields.directory_size}
use Rattle.agent_machine.specs.{Fields.total_of, Knows.Fitting, Knows.SessionSound, Knows.Knows, Beside.IsSpared}
use Rattle.agent_machine.specs.{Beside.KeepsSpared, Beside.SparesBlocks, Moment.Moment, Moment.SpeaksOf, Moment.Shows}
use Rattle.agent_machine.specs.Machine.{state_in, session_in, staged_bytes}
use Rattle.agent_machine.specs.Meets.{IsSettingOf, IsStopped, Stays, LeavesFlash, Meets, flash_result}
use Rattle.agent_machine.proofs.{Deciding.decides-same, Beside.blocks-still, Beside.spared-told}
use Rattle.agent_machine.specs.declared.stop.Stop.TheVariants as stop
pub use Rattle.agent_machine.specs.Fields.{IsImageOrDirectory}
pub use Rattle.agent_machine.specs.Carries.{MeansSame, planned_moves, SameBeside, state_before, staging_before, CarriedOut}
use Rattle.agent_state.proofs.Moved.{row-length}

-- ---- how many bytes there are to read

-- where there is no row
abbrev no_row : ImageRow
no_row = record { guid = []; slots = 0 }

rows-total : (f : ℕ → List ℕ) (from n : ℕ) → ((i : ℕ) → from ≤ i → i < from + n → length (f i) ≡ 32)
    → length (flat_map f (map (λ (i : ℕ). i) (range_with_len from n))) ≡ 32 * n
rows-total f from zero each = refl
rows-total f from (suc n) each =
    let rest = rows-total f (from + 1) n (λ i low high. each i (omega arith) (omega arith)) in
    let here : length (f from) ≡ 32 = each from (omega arith) (omega arith) in
    length-append (f from) (flat_map f (map (λ (i : ℕ). i) (range_with_len (from + 1) n))) ∙ omega (arith, rest, here)

pub directory-total : (E : Setting) (s : State) (boot : ℕ) → IsTrue (fits_layout E.layout)
    → length (directory E s boot) ≡ directory_size (length E.layout.rows)
unfolding directory
directory-total E s boot fits =
    let n : ℕ = length E.layout.rows in
    let head : List ℕ = le 4 1 ++ le 4 n ++ le 4 32 ++ le 4 boot in
    let front : length head ≡ 16 = refl in
    let rows : length (flat_map (directory_row E s boot) (listed n (λ (image : ℕ). image))) ≡ 32 * n =
    rows-total (directory_row E s boot) 0 n (λ i low high.
    let guid = (get_or E.layout.rows i no_row).guid in
    let long : length guid ≡ 16 = (rows-limits no_row E.layout.rows (rows-fit E.layout fits) i (omega (arith, high))).guid in
    row-length guid (slot_bytes E.layout i) (length (get_or (booted_package s boot) i [])) (version_in (booted_package s boot) i)
    (bit_number (get_or (bank s boot).bits i false)) ∙ omega (arith, long)) in
    length-append head (flat_map (directory_row E s boot) (listed n (λ (image : ℕ). image))) ∙ omega (arith, front, rows)

-- what is read has the total that the fields say
pub content-total : (f : Fields) (E : Setting) (s : State) → IsTrue (fits_layout f.layout) → E.layout ≡ f.layout → SpeaksOf f s → (image : Option ℕ)
    → IsImageOrDirectory f image → length (content E s f.boot image) ≡ total_of f image
content-total f E s fits same speaks None there =
    directory-total E s f.boot (subst (λ (L : Layout). IsTrue (fits_layout L)) (sym same) fits) ∙ ap (λ (L : Layout). directory_size (length L.rows)) same
content-total f E s fits same speaks (Some image) there =
    sym (listn.get_or-map (λ (bytes : List ℕ). length bytes) (booted_package s f.boot) image [])
    ∙ ap (λ (l : List ℕ). get_or l image 0) (sym speaks.lengths_are)
    ∙ get_or-take (length f.layout.rows) f.lengths image 0 there

-- ---- the limits of a layout

pub record Limits (L : Layout) : Type 0 where
  pub banks : 2 ≤ L.banks
  pub few_banks : L.banks ≤ 4
  pub rows : 2 ≤ length L.rows
  pub few_rows : length L.rows ≤ 16

pub layout-limits : (L : Layout) → IsTrue (fits_layout L) → Limits L
layout-limits L h =
    let all = limits L h in
    record { banks = all.fewest_banks; few_banks = all.most_banks; rows = all.fewest_images; few_rows = all.most_images }

-- ---- the machines that are spoken of

module _ (f : Fields) (fitting : Fitting f) (sound : SessionSound f) where
  reader-there : (place : ℕ) (image : Option ℕ) (at total : ℕ) → handle_kept f.session place ≡ Reads image at total → IsImageOrDirectory f image
  reader-there place None at total is = tt
  reader-there place (Some image) at total is = fitting.readable place image at total is

  pub shown-totals : (E : Setting) (s : State) → E.layout ≡ f.layout → SpeaksOf f s → HasTotals E s f.boot f.session
  shown-totals E s same speaks = record {
    total = λ place image at total is. fitting.readers place image at total is
        ∙ sym (content-total f E s fitting.layout same speaks image (reader-there place image at total is));
    within = λ place image at total is. sound.readers place image at total is;
  }

  pub shown-speaks : (E : Setting) (s : State) (passes : List ℕ → Bool) (staged : ℕ → List ℕ) → IsSettingOf f passes E → SpeaksOf f s
      → IsKept f.session staged → SpeaksWhole E s passes f.meta f.counter f.session f.boot staged
  shown-speaks E s passes staged setting speaks kept = record {
    speaks = record {
      rows = fitting.rows ∙ ap (λ (L : Layout). L.rows) (sym setting.layout);
      banks = speaks.banks ∙ ap (λ (L : Layout). L.banks) (sym setting.layout);
      verifier = setting.verifier;
      meta = speaks.meta;
      counter_is = speaks.counter_is;
      kept = kept;
    };
    totals = shown-totals E s setting.layout speaks;
  }

-- the request fits the call, in each machine that is shown
abbrev pub FitsEach : Fields → (List ℕ → Bool) → Request → List ℕ → Type 0
FitsEach f passes r bytes = (E : Setting) (s : State) → IsSettingOf f passes E → SpeaksOf f s → FitsRequest E s f.boot f.session r bytes

-- ---- a refusal

pub stays-same : (m : Moment) → Stays m m
stays-same m = assumption

-- a flash at rest is guarded, whether or not it stopped then
pub rest-guarded : (result : Result (Unit {0}) FlashStop) (t : Told) → IsAtRest t → GuardedBy result t
rest-guarded (Ok x) t rest = rest
rest-guarded (Err cause) t rest = rest.guarded

-- An answer without moves, or a stop before the first of them, on a flash that stays.
pub still-leaves : (result : Result (Unit {0}) FlashStop) (passes : List ℕ → Bool) (c : Call) (old new : Moment)
    → (IsTrue old.tells → new.told ≡ old.told) → new.writes ≡ old.writes → Stays old new
    → ((E : Setting) (s : State) (x : Session) → IsSettingOf old.fields passes E → Shows old s x → IsTrue old.tells
    → ((answer E s x c).moves ≡ []) ⊎ IsErr result)
    → LeavesFlash result passes c old new
still-leaves result passes c old new told still stays idle = record {
  does = λ E s x setting shows tells ready.
      let ready-then : IsReady E new.told s = subst (λ (t : Told). IsReady E t s) (sym (told tells)) ready in
      elim (idle E s x setting shows tells) [
        | inl none ↦ subst (λ (ms : List Move). Does result E s ms new.told) (sym none)
            (does-nothing result E s new.told ready-then)
        | inr err ↦ does-idle result E s (answer E s x c).moves new.told err ready-then.calm
      ];
  guarded = λ tells rest. rest-guarded result new.told (subst IsAtRest (sym (told tells)) rest);
  keeps = λ tells. spared-told (IsSpared old.fields) old.told new.told (told tells);
  touches = blocks-still (IsSpared old.fields) still;
  decides = λ tells. decides-same old.fields.layout old.fields.meta new.fields.meta old.told new.told (told tells);
  stays = stays;
}

pub leaves-nothing : (m : Moment) (passes : List ℕ → Bool) (c : Call)
    → ((E : Setting) (s : State) (x : Session) → IsSettingOf m.fields passes E → Shows m s x → (answer E s x c).moves ≡ []) → LeavesFlash (Ok tt) passes c m m
leaves-nothing m passes c none =
    still-leaves (Ok tt) passes c m m (λ tells. refl) refl (stays-same m)
    (λ E s x setting shows tells. inl (none E s x setting shows))

module _ (m : Moment) (fitting : Fitting m.fields) (sound : SessionSound m.fields) (passes : List ℕ → Bool) (r : Request) (bytes : List ℕ)
    (fits : FitsEach m.fields passes r bytes) where
  abbrev f : Fields
  f = m.fields

  abbrev c : Call
  c = call_of r bytes

  -- what is decided is so of each machine that is shown
  pub decided-as : (d : Decision) → DecidesRequest passes f.meta f.counter f.session f.boot r d
      → (E : Setting) (s : State) (x : Session)
      → IsSettingOf f passes E → Shows m s x → DecidesAs E s x c bytes d
  decided-as d decides E s x setting shows =
      subst (λ (y : Session). DecidesAs E s y c bytes d) (sym shows.means)
      (decides E s shows.staged bytes (shown-speaks f fitting sound E s passes shows.staged setting shows.speaks shows.kept).speaks
      (fits E s setting shows.speaks))

  module _ (st : Status) (decides : DecidesRequest passes f.meta f.counter f.session f.boot r (decision.Refused st)) where
    pub refused-is : (E : Setting) (s : State) (x : Session) → IsSettingOf f passes E → Shows m s x → answer E s x c ≡ refused st x
    refused-is = decided-as (decision.Refused st) decides

    -- what is refused changes nothing
    pub refused-meets : {T : Type 0} (Says : T → Reply → Type 0) → Meets {T = T} Says (Err (stop.Status st)) passes c m m
    refused-meets Says = record {
      exact = λ E s x setting shows.
          let is = refused-is E s x setting shows in
          (ap (λ (a : Answer). a.reply) is, subst (λ (a : Answer). Shows m (after s a.moves) a.next) (sym is) shows);
      leaves = leaves-nothing m passes c (λ E s x setting shows. ap (λ (a : Answer). a.moves) (refused-is E s x setting shows));
    }

-- ---- the staged bytes are the same for the images of the layout

-- what is kept speaks of these alone
pub kept-same : (k : Kept) (staged other : ℕ → List ℕ) → 1 ≤ length k.rows → MeansSame k staged other → IsKept k staged → IsKept k other
kept-same k staged other some same is = record {
  opened = λ i size hasher lt e. subst (λ (l : List ℕ). (size ≡ length l) × ∥ Holds256 hasher l ∥₁)
      (sym (ap bytes_of (meant-is i (Open size hasher) lt e)))
      (is.opened i size hasher lt e);
  committed = λ i size digest bit lt e. subst (λ (l : List ℕ). (size ≡ length l) × (digest ≡ sha256 l))
      (sym (ap bytes_of (meant-is i (Committed size digest bit) lt e)))
      (is.committed i size digest bit lt e);
  front =
      subst (λ (l : List ℕ). take (min (manifest_size (length k.rows - 1)) (length l)) k.front ≡ take (manifest_size (length k.rows - 1)) l)
      (sym (front-is (part_at k 0) (other 0) (staged 0) (same 0 (omega (arith, some))))) is.front;
}
  where
    meant-is : (i : ℕ) (p : Part) → i < length k.rows → part_at k i ≡ p → part_meant p (other i) ≡ part_meant p (staged i)
    meant-is i p lt e = subst (λ (q : Part). part_meant q (other i) ≡ part_meant q (staged i)) e (same i lt)

    front-is : (p : Part) (a b : List ℕ) → part_meant p a ≡ part_meant p b → take (size_of p) a ≡ take (size_of p) b
    front-is Nothing a b e = refl
    front-is (Open size hasher) a b e = ap (λ (x : Staged). take size (bytes_of x)) e
    front-is (Committed size digest bit) a b e = ap (λ (x : Staged). take size (bytes_of x)) e

pub session-same : (k : Kept) (boot : ℕ) (staged other : ℕ → List ℕ) → MeansSame k staged other → session_meant k boot other ≡ session_meant k boot staged
session-same k boot staged other same =
    ap (λ (parts : List Staged). On boot (cond k.staging (Some parts) None) (handles_meant k))
    (listed-same (λ (i : ℕ). part_meant (part_at k i) (other i)) (λ (i : ℕ). part_meant (part_at k i) (staged i)) (length k.rows) machine.Nothing same)

-- ---- the moves of a plan

pub planned-moves : (E : Setting) (s : State) (boot : ℕ) (stg : Option (List Staged)) (hs : List machine.Handle) (bytes : List ℕ) (p : Plan)
    → (planned E s boot stg hs bytes p).moves ≡ planned_moves s stg p
unfolding planned
planned-moves E s boot stg hs bytes plan.Tell = refl
planned-moves E s boot stg hs bytes q = refl

-- no plan changes the version
pub planned-form : (s : State) (stg : Option (List Staged)) (p : Plan) → (after s (planned_moves s stg p)).form ≡ s.form
planned-form s stg (plan.BeginPartial true named) = refl
planned-form s stg (plan.Begin true) = refl
planned-form s stg (plan.Accept image true) = refl
planned-form s stg other = refl

-- ---- a plan that was carried out

module _ (old new : Moment) (fitting : Fitting old.fields) (sound : SessionSound old.fields) (knows : IsTrue old.tells → Knows old.fields old.told)
    (passes : List ℕ → Bool) (r : Request) (bytes : List ℕ) (fits : FitsEach old.fields passes r bytes)
    (p : Plan) (decides : DecidesRequest passes old.fields.meta old.fields.counter old.fields.session old.fields.boot r (decision.Do p)) where
  abbrev was : Fields
  was = old.fields

  abbrev is : Fields
  is = new.fields

  abbrev call : Call
  call = call_of r bytes

  abbrev k : Kept
  k = old.fields.session

  abbrev meant : (ℕ → List ℕ) → Session
  meant staged = session_meant k was.boot staged

  pub planned-is : (E : Setting) (s : State) (x : Session) → IsSettingOf was passes E → Shows old s x → answer E s x call ≡ planned_in E s x bytes p
  planned-is = decided-as old fitting sound passes r bytes fits (decision.Do p) decides

  -- the moves of the answer, where the device tells its content
  pub moves-told : (E : Setting) (s : State) (x : Session) → IsSettingOf was passes E → Shows old s x → IsTrue old.tells
      → (answer E s x call).moves ≡ planned_moves (state_before old) (staging_before old) p
  moves-told E s x setting shows tells =
      ap (λ (a : Answer). a.moves) (planned-is E s x setting shows)
      ∙ ap₂ (λ (y : State) (z : Session). (planned_in E y z bytes p).moves) (shows.told tells).0 (shows.told tells).1
      ∙ planned-moves E (state_before old) was.boot (staging_before old) (handles_meant k) bytes p

  -- what the flash has to meet, in the words of what it shows
  pub leaves-by : (result : Result (Unit {0}) FlashStop)
      → (IsTrue old.tells → (E : Setting) → IsSettingOf was passes E → IsReady E old.told (state_before old)
      → Does result E (state_before old) (planned_moves (state_before old) (staging_before old) p) new.told)
      → (IsTrue old.tells → IsAtRest old.told → GuardedBy result new.told) → (IsTrue old.tells → KeepsSpared was old.told new.told)
      → SparesBlocks was old.writes new.writes → (IsTrue old.tells → KeepsOldOrNew was.layout was.meta is.meta old.told new.told) → Stays old new
      → LeavesFlash result passes call old new
  leaves-by result does guarded keeps touches decides stays = record {
    does = λ E s x setting shows tells ready.
        let here = (shows.told tells).0 in
        subst (λ (ms : List Move). Does result E s ms new.told) (sym (moves-told E s x setting shows tells))
        (subst (λ (y : State). Does result E y (planned_moves (state_before old) (staging_before old) p) new.told) (sym here)
        (does tells E setting (subst (λ (y : State). IsReady E old.told y) here ready)));
    guarded = guarded;
    keeps = keeps;
    touches = touches;
    decides = decides;
    stays = stays;
  }

  module _ (out : CarriedOut p bytes old new) where
    settled : (E : Setting) (s : State) (staged : ℕ → List ℕ) → IsSettingOf was passes E → SpeaksOf was s → IsKept k staged
        → SettlesIn E s passes was.counter was.boot staged bytes p k was.meta is.meta is.session
    settled E s staged setting speaks kept = out.settles E s passes was.counter was.boot staged
        (shown-speaks was fitting sound E s passes staged setting speaks kept) (out.total E s setting.layout speaks)

    module _ (E : Setting) (s : State) (x : Session) (setting : IsSettingOf was passes E) (shows : Shows old s x) where
      abbrev then : Answer
      then = planned_in E s (meant shows.staged) bytes p

      st : SettlesIn E s passes was.counter was.boot shows.staged bytes p k was.meta is.meta is.session
      st = settled E s shows.staged setting shows.speaks shows.kept

      moves-are : then.moves ≡ planned_moves s (staging_meant k shows.staged) p
      moves-are = planned-moves E s was.boot (staging_meant k shows.staged) (handles_meant k) bytes p

      abbrev next : State
      next = after s then.moves

      along : {A : Type 0} (of : State → A) → of (after s (planned_moves s (staging_meant k shows.staged) p)) ≡ of next
      along of = ap (λ (ms : List Move). of (after s ms)) (sym moves-are)

      speaks-next : SpeaksOf is next
      speaks-next = record {
        banks = st.spoken.speaks.banks ∙ ap (λ (L : Layout). L.banks) setting.layout ∙ sym (ap (λ (L : Layout). L.banks) out.beside.layout);
        meta = st.spoken.speaks.meta;
        form = sym (along (λ (y : State). y.form)) ∙ planned-form s (staging_meant k shows.staged) p ∙ shows.speaks.form ∙ sym out.beside.form;
        counter_is = out.beside.counter ∙ st.spoken.speaks.counter_is;
        trials_are = out.trials s shows.staged shows.speaks shows.kept ∙ along (λ (y : State). y.trials);
        lengths_are =
            ap₂ (λ (L : Layout) (l : List ℕ). take (length L.rows) l) out.beside.layout out.beside.lengths ∙ shows.speaks.lengths_are
            ∙ ap (λ (o : Option (List (List ℕ))). map (λ (bytes : List ℕ). length bytes) (held_package o))
            (sym (out.held s shows.staged shows.speaks shows.kept) ∙ along (λ (y : State). (bank y was.boot).held))
            ∙ ap (λ (b : ℕ). map (λ (bytes : List ℕ). length bytes) (booted_package next b)) (sym out.beside.boot);
      }

      told-next : IsTrue new.tells → (next ≡ state_in is new.told.now) × (then.next ≡ session_in is new.told.now)
      told-next now-tells =
          let tells : IsTrue old.tells = subst IsTrue out.tells now-tells in
          let one : s ≡ state_before old = (shows.told tells).0 in
          let two : meant shows.staged ≡ meant (staged_bytes was old.told.now) = sym shows.means ∙ (shows.told tells).1 in
          let st0 = settled E (state_before old) (staged_bytes was old.told.now) setting (subst (SpeaksOf was) one shows.speaks)
          (knows tells).staged.kept in (
            ap₂ (λ (y : State) (z : Session). after y (planned_in E y z bytes p).moves) one two
                ∙ ap (after (state_before old)) (planned-moves E (state_before old) was.boot (staging_before old) (handles_meant k) bytes p)
                ∙ sym (out.state_is tells),
            ap₂ (λ (y : State) (z : Session). (planned_in E y z bytes p).next) one two ∙ sym st0.next
                ∙ ap (λ (b : ℕ). session_meant is.session b (staged_after p bytes (staged_bytes was old.told.now))) (sym out.beside.boot)
                ∙ sym (session-same is.session is.boot (staged_after p bytes (staged_bytes was old.told.now)) (staged_bytes is new.told.now)
                (out.staged_are tells)),
          )

      shows-then : Shows new next then.next
      shows-then = record {
        told = told-next;
        speaks = speaks-next;
        staged = staged_after p bytes shows.staged;
        kept = st.spoken.speaks.kept;
        means = sym st.next ∙ ap (λ (b : ℕ). session_meant is.session b (staged_after p bytes shows.staged)) (sym out.beside.boot);
      }

      -- the machine after the answer is shown
      pub shows-next : Shows new (after s (answer E s x call).moves) (answer E s x call).next
      shows-next =
          let path : answer E s x call ≡ then = planned-is E s x setting shows ∙ ap (λ (y : Session). planned_in E s y bytes p) shows.means in
          subst (λ (a : Answer). Shows new (after s a.moves) a.next) (sym path) shows-then

    -- a call that is done
    pub done-meets : {T : Type 0} (Says : T → Reply → Type 0) (value : T)
        → ((E : Setting) (s : State) (x : Session) → IsSettingOf was passes E → Shows old s x → Says value (planned_in E s x bytes p).reply)
        → LeavesFlash (Ok tt) passes call old new → Meets {T = T} Says (Ok value) passes call old new
    done-meets Says value says leaves = record {
      exact = λ E s x setting shows.
          (subst (λ (a : Answer). Says value a.reply) (sym (planned-is E s x setting shows)) (says E s x setting shows), shows-next E s x setting shows);
      leaves = leaves;
    }

-- ---- a call that the flash stopped

pub stopped-meets : {T : Type 0} (Says : T → Reply → Type 0) (r : Stop) (passes : List ℕ → Bool) (c : Call) (old new : Moment) → IsStopped {T = T} (Err r)
    → LeavesFlash (flash_result {T = T} (Err r)) passes c old new → Meets {T = T} Says (Err r) passes c old new
stopped-meets Says (stop.Status refusal) passes c old new stopped leaves = absurd stopped
stopped-meets Says stop.Gone passes c old new stopped leaves = absurd stopped
stopped-meets Says cause passes c old new stopped leaves = record { exact = λ E s x setting shows. tt; leaves = leaves }
