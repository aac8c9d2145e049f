-- A partial begin: a begin, and then the copies.
use Rattle.std.proofs.Common.{◌≡◌, ◌≢◌, cond, ℕ, ◌+◌, ◌*◌, ◌%◌, ◌<◌, Bool, true, false, List, [], ◌∷◌, append-nil, length, get_or, replicate, Option, Some, Result, Ok, Err, refl, sym, ap, subst, ◌∙◌, get_or-set_other, IsTrue, eqb-true, OnOk, arith}
use Rattle.std.specs.Prelude.{◌==◌}
use Rattle.std.specs.List.{list_any}
use Rattle.std.proofs.lemmas.Bool.{or_parts, not-false}
use Rattle.std.proofs.lemmas.List.{length-map, length-replicate}
use Rattle.base_core.specs.Bytes.{same_bytes}
use Rattle.flash_core.specs.{declared.flash.FlashStop.FlashStop, declared.flash.Arming.Arming}
use Rattle.std.proofs.Math.Logic.{∥∥₁_elim}
use Rattle.std.specs.Coded.{Coded-set, coded_ℕ}
use Rattle.fwu_formats.specs.Layout.{Layout, ImageRow}
use Rattle.fwu_model.specs.{Sound.Setting, Reply.Success, Reply.Refused, declared.kinds.Status.Status}
use Rattle.fwu_model.specs.State.{State, Bank, Move, Free, bank, no_bank, freed, is_invalid, update_bank, after}
use Rattle.fwu_model.specs.Session.{Session, On, Staged, Handle, Nothing}
use Rattle.fwu_model.specs.Answer.{Answer, answer, answer_begin, answered, refused, cannot_begin, begin_moves, is_elsewhere, is_trial, agent_state, held_package, are_named, booted_package, names_unknown, copied_parts, image_held}
use Rattle.fwu_model.specs.Call as call
use Rattle.fwu_model.specs.declared.kinds.Status.TheVariants as status
use Rattle.moves.specs.Moved.{Does}
use Rattle.moves.proofs.Composed.{does-nothing}
use Rattle.agent_kept.specs.Kept.{staging_meant, handles_meant}
use Rattle.agent_state.proofs.Machine.{active-is}
use Rattle.agent_machine.specs.{declared.stop.Stop.Stop, Fields.total_of, Knows.Fitting, Machine.state_in, Moment.Moment}
use Rattle.agent_machine.specs.{Moment.Shows, Moment.Showing, Goes.GoesByMoves, Filling.between}
use Rattle.agent_machine.specs.Meets.{IsDone, IsRefused, IsSettingOf, IsStopped, Stays, flash_result}
use Rattle.agent_machine.specs.Beside.{IsBesideBank, IsSparedByAll, SparesBlocks, SparesBlocksByAll}
use Rattle.agent_machine.specs.declared.stop.Stop.TheVariants as stop
use Rattle.agent_machine.proofs.{Going.goes-then, Going.stays-then, Totals.held-long, Stored.target-other, StoredShows.target-is}
use Rattle.agent_machine.proofs.{Answered.stays-same, StoredCalls.plain-of}
use Rattle.agent_machine.proofs.Beside.{blocks-further, blocks-once, spared-once, spared-same}
use Rattle.agent_machine.proofs.CallGoing.{MeetsAs, call-goes, call-replies}
use Rattle.agent_calls.specs.{Takes.CopiesTake, Takes.Takes, Takes.writes_to_copy, Partly.begins_over}
use Rattle.agent_calls.specs.Copies.{FillsBank, FollowsInStaging, CopiesImages, AnswersAs, BeginsPartly}
use Rattle.agent_calls.proofs.CopyingAll.{first-all}

-- what was done or stopped by the flash isn't refused
pub done-unrefused : (q : Result (Unit {0}) Stop) → IsDone q → IsRefused q → ⊥
done-unrefused (Err (stop.Status st)) is refused = is
done-unrefused q is refused = refused

-- ---- the machine's answers

-- a begin of all images, by its test
begin-is : (E : Setting) (s : State) (boot : ℕ) (staging : Option (List Staged)) (handles : List Handle)
    → answer E s (On boot staging handles) (call.Begin 0) ≡ cond (cannot_begin s boot staging) (refused status.Denied (On boot staging handles))
    (answered Success (begin_moves s) (between boot (replicate (length E.layout.rows) Nothing)))
unfolding answer answer_begin
begin-is E s boot staging handles = refl

module _ (E : Setting) (s : State) (boot : ℕ) (staging : Option (List Staged)) (handles : List Handle) (types : List (List ℕ)) (bytes : ℕ → List ℕ) where
  abbrev x : Session
  x = On boot staging handles

  abbrev begun : Answer
  begun = answered Success (begin_moves s) (between boot (replicate (length E.layout.rows) Nothing))

  abbrev partly : Answer
  partly = answered Success (begin_moves s) (between boot (copied_parts (are_named E.layout.rows types) bytes))

  -- what a begin refuses, a partial one refuses likewise
  on-refused : (st : Status) → (answer E s x (call.Begin 0)).reply ≡ Refused st → begins_over E s x types bytes ≡ refused st x
  on-refused st is = by-test (cannot_begin s boot staging) (ap (λ (a : Answer). a.reply) (sym (begin-is E s boot staging handles)) ∙ is)
    where
      by-test : (b : Bool) → (cond b (refused status.Denied x) begun).reply ≡ Refused st
          → cond b (refused status.Denied x) (cond (names_unknown E.layout.rows types) (refused status.Unknown x) partly) ≡ refused st x
      by-test true e = let same : status.Denied ≡ st = cc in ap (λ (q : Status). refused q x) same
      by-test false e = absurd cc

  -- what it doesn't refuse
  on-begun : (answer E s x (call.Begin 0)).reply ≡ Success
      → (begins_over E s x types bytes ≡ cond (names_unknown E.layout.rows types) (refused status.Unknown x) partly)
      × (answer E s x (call.Begin 0) ≡ begun) × (cannot_begin s boot staging ≡ false)
  on-begun is = by-test (cannot_begin s boot staging) refl
    where
      by-test : (b : Bool) → cannot_begin s boot staging ≡ b
          → (begins_over E s x types bytes ≡ cond (names_unknown E.layout.rows types) (refused status.Unknown x) partly)
          × (answer E s x (call.Begin 0) ≡ begun) × (cannot_begin s boot staging ≡ false)
      by-test true e =
          let z : Success ≡ Refused status.Denied = sym is ∙ ap (λ (a : Answer). a.reply) (begin-is E s boot staging handles)
          ∙ ap (λ (b : Bool). (cond b (refused status.Denied x) begun).reply) e in
          absurd cc
      by-test false e = (
        ap (λ (b : Bool). cond b (refused status.Denied x) (cond (names_unknown E.layout.rows types) (refused status.Unknown x) partly)) e,
        begin-is E s boot staging handles ∙ ap (λ (b : Bool). cond b (refused status.Denied x) begun) e,
        e,
      )

  -- they have the same moves where no type is unknown
  on-moves : names_unknown E.layout.rows types ≡ false → (begins_over E s x types bytes).moves ≡ (answer E s x (call.Begin 0)).moves
  on-moves known =
      ap (λ (u : Bool). (cond (cannot_begin s boot staging) (refused status.Denied x) (cond u (refused status.Unknown x) partly)).moves) known
      ∙ by-test (cannot_begin s boot staging) ∙ sym (ap (λ (a : Answer). a.moves) (begin-is E s boot staging handles))
    where
      by-test : (b : Bool) → (cond b (refused status.Denied x) partly).moves ≡ (cond b (refused status.Denied x) begun).moves
      by-test true = refl
      by-test false = refl

-- ---- of what is shown, which is a session that is on

module _ (m : Moment) (E : Setting) (s : State) (x : Session) (shows : Shows m s x) (types : List (List ℕ)) (bytes : ℕ → List ℕ) where
  pub refused-with : (st : Status) → (answer E s x (call.Begin 0)).reply ≡ Refused st → begins_over E s x types bytes ≡ refused st x
  refused-with st is =
      subst (λ (y : Session). begins_over E s y types bytes ≡ refused st y) (sym shows.means)
      (on-refused E s m.fields.boot (staging_meant m.fields.session shows.staged) (handles_meant m.fields.session) types bytes st
      (subst (λ (y : Session). (answer E s y (call.Begin 0)).reply ≡ Refused st) shows.means is))

  pub begun-with : (answer E s x (call.Begin 0)).reply ≡ Success → names_unknown E.layout.rows types ≡ false
      → (begins_over E s x types bytes ≡ answered Success (begin_moves s) (between m.fields.boot (copied_parts (are_named E.layout.rows types) bytes)))
      × (answer E s x (call.Begin 0) ≡ answered Success (begin_moves s) (between m.fields.boot (replicate (length E.layout.rows) Nothing)))
      × (m.fields.boot ≡ s.active)
  begun-with is known =
      subst (λ (y : Session). (begins_over E s y types bytes ≡ answered Success (begin_moves s) (between m.fields.boot (copied_parts (are_named E.layout.rows types) bytes)))
      × (answer E s y (call.Begin 0) ≡ answered Success (begin_moves s) (between m.fields.boot (replicate (length E.layout.rows) Nothing)))
      × (m.fields.boot ≡ s.active)) (sym shows.means)
      (let staging = staging_meant m.fields.session shows.staged in
      let y = On m.fields.boot staging (handles_meant m.fields.session) in
      let on = on-begun E s m.fields.boot staging (handles_meant m.fields.session) types bytes
      (subst (λ (z : Session). (answer E s z (call.Begin 0)).reply ≡ Success) shows.means is) in
      let tests = or_parts (is_trial (agent_state s staging)) (is_elsewhere s m.fields.boot) on.2 in (
        on.0 ∙ ap (λ (u : Bool). cond u (refused status.Unknown y) (answered Success (begin_moves s) (between m.fields.boot (copied_parts (are_named E.layout.rows types) bytes)))) known,
        on.1,
        eqb-true m.fields.boot s.active (not-false (m.fields.boot == s.active) tests.1),
      ))

  pub moves-with : names_unknown E.layout.rows types ≡ false → (begins_over E s x types bytes).moves ≡ (answer E s x (call.Begin 0)).moves
  moves-with known =
      subst (λ (y : Session). (begins_over E s y types bytes).moves ≡ (answer E s y (call.Begin 0)).moves) (sym shows.means)
      (on-moves E s m.fields.boot (staging_meant m.fields.session shows.staged) (handles_meant m.fields.session) types bytes known)

-- ---- what a begin frees isn't the bank that was started

pub still-held : (m : Moment) → Fitting m.fields → (s : State) (x : Session) → Shows m s x → m.fields.boot ≡ s.active → (image : ℕ)
    → image_held (after s (begin_moves s)) m.fields.boot image ≡ image_held s m.fields.boot image
still-held m fitting s x shows here image = by-test (is_invalid (bank s (update_bank s)).state)
  where
    apart : m.fields.boot ≢ update_bank s
    apart e = target-other m.fields fitting (target-is m.fields s shows.speaks fitting ∙ sym e ∙ here ∙ sym (active-is s m.fields.meta shows.speaks.meta))

    by-test : (b : Bool) → image_held (after s (cond b [] (Free (update_bank s) ∷ []))) m.fields.boot image ≡ image_held s m.fields.boot image
    by-test true = refl
    by-test false = ap (λ (k : Bank). get_or (held_package k.held) image []) (get_or-set_other s.banks (update_bank s) m.fields.boot (freed (bank s (update_bank s))) no_bank apart)

-- ---- the bytes of the active bank, by what the device tells

-- where it tells nothing, any as many as the agent keeps
abbrev held-by : Moment → ℕ → Bool → List ℕ
held-by m i tells = cond tells (image_held (state_in m.fields m.told.now) (state_in m.fields m.told.now).active i) (replicate (total_of m.fields (Some i)) 0)

abbrev pub held : Moment → ℕ → List ℕ
held m i = held-by m i m.tells

pub held-is : (m : Moment) (s : State) (x : Session) → Shows m s x → IsTrue m.tells → (i : ℕ) → held m i ≡ image_held s s.active i
held-is m s x shows tells i = ap (held-by m i) tells ∙ ap (λ (q : State). image_held q q.active i) (sym (shows.told tells).0)

-- a machine that is shown, where the bank that was started is the active one
pub record Booted (m : Moment) : Type 0 where
  pub state : State
  pub session : Session
  pub shows : Shows m state session
  pub is : m.fields.boot ≡ state.active

pub held-count : (m : Moment) → (IsTrue m.tells → Booted m) → (i : ℕ) → i < length m.fields.layout.rows → length (held m i) ≡ total_of m.fields (Some i)
held-count m some i lt = by-test m.tells refl
  where
    by-test : (tells : Bool) → m.tells ≡ tells → length (held m i) ≡ total_of m.fields (Some i)
    by-test true e =
        let w = some e in
        ap (λ (l : List ℕ). length l) (held-is m w.state w.session w.shows e i)
        ∙ ap (λ (b : ℕ). length (image_held w.state b i)) (sym w.is)
        ∙ sym (held-long m.fields (booted_package w.state m.fields.boot) i w.shows.speaks.lengths_are lt)
    by-test false e = ap (λ (b : Bool). length (held-by m i b)) e ∙ length-replicate (total_of m.fields (Some i)) 0

-- ---- a refusal

pub refused-partly : (m : Moment) (types : List (List ℕ)) (named : List Bool) (passes : List ℕ → Bool) (st : Status)
    → ((E : Setting) (s : State) (x : Session) → IsSettingOf m.fields passes E → Shows m s x → begins_over E s x types (held m) ≡ refused st x)
    → BeginsPartly types named passes (Err (stop.Status st)) m m
refused-partly m types named passes st is = record {
  bytes = held m;
  count = λ done. absurd done;
  read = λ tells s x shows i lt un. held-is m s x shows tells i;
  exact = λ E s x setting shows.
      (ap (λ (a : Answer). a.reply) (is E s x setting shows), subst (λ (a : Answer). Shows m (after s a.moves) a.next) (sym (is E s x setting shows)) shows);
  does = λ E s x setting shows tells ready.
      subst (λ (ms : List Move). Does {T = Unit {0}} (Ok tt) E s ms m.told) (sym (ap (λ (a : Answer). a.moves) (is E s x setting shows)))
      (does-nothing {T = Unit {0}} (Ok tt) E s m.told ready);
  guarded = λ tells rest. rest;
  keeps = λ tells. spared-same (IsSparedByAll m.fields.layout m.fields.boot) m.told;
  touches = λ b spared. refl;
  stays = stays-same m;
}

-- ---- a begin that the flash stopped

module _ (old new : Moment) (types : List (List ℕ)) (named : List Bool) (passes : List ℕ → Bool) (known : names_unknown old.fields.layout.rows types ≡ false)
    (long : length named ≡ length old.fields.layout.rows) (some : IsTrue old.tells → (s : State) × (x : Session) × Shows old s x) where
  known-in : (E : Setting) → E.layout ≡ old.fields.layout → names_unknown E.layout.rows types ≡ false
  known-in E layout = ap (λ (L : Layout). names_unknown L.rows types) layout ∙ known

  unbegun : (q : Stop) → (IsDone {T = Unit {0}} (Err q) → (i : ℕ) → i < length old.fields.layout.rows → length (held old i) ≡ total_of old.fields (Some i))
      → ((E : Setting) (s : State) (x : Session) → IsSettingOf old.fields passes E → Shows old s x
      → AnswersAs (Err q) (begins_over E s x types (held old)) s new)
      → MeetsAs {T = Unit {0}} (λ _. Success) (Err q) passes (call.Begin 0) old new → BeginsPartly types named passes (Err q) old new
  unbegun q count exact meets = record {
    bytes = held old;
    count = λ done i lt un. count done i (omega (arith, lt, long));
    read = λ tells s x shows i lt un. held-is old s x shows tells i;
    exact = exact;
    does = λ E s x setting shows tells ready.
        subst (λ (ms : List Move). Does (flash_result {T = Unit {0}} (Err q)) E s ms new.told)
        (sym (moves-with old E s x shows types (held old) (known-in E setting.layout))) (meets.leaves.does E s x setting shows tells ready);
    guarded = meets.leaves.guarded;
    keeps = λ tells. spared-once old.fields old.told new.told (meets.leaves.keeps tells);
    touches = blocks-once old.fields meets.leaves.touches;
    stays = meets.leaves.stays;
  }

  refused-by : (st : Status) → MeetsAs {T = Unit {0}} (λ _. Success) (Err (stop.Status st)) passes (call.Begin 0) old new
      → (E : Setting) (s : State) (x : Session) → IsSettingOf old.fields passes E → Shows old s x → begins_over E s x types (held old) ≡ refused st x
  refused-by st meets E s x setting shows =
      let said = subst (λ (v : List ℕ → Bool). MeetsAs {T = Unit {0}} (λ _. Success) (Err (stop.Status st)) v (call.Begin 0) old new) (sym setting.verifier) meets in
      refused-with old E s x shows types (held old) st
      (sym (call-replies E (λ (_ : Unit {0}). Success) (Err (stop.Status st)) (call.Begin 0) old new s x setting.layout shows said (Refused st) refl))

  -- what a begin that isn't refused says of a partial one
  begun-reply : (E : Setting) (s : State) (x : Session) → IsSettingOf old.fields passes E → Shows old s x
      → (answer E s x (call.Begin 0)).reply ≡ Success → (begins_over E s x types (held old)).reply ≡ Success
  begun-reply E s x setting shows is =
      ap (λ (a : Answer). a.reply) (begun-with old E s x shows types (held old) is (known-in E setting.layout)).0

  -- and of how many bytes each image has that isn't copied
  begun-count : ((E : Setting) (s : State) (x : Session) → E.layout ≡ old.fields.layout → Shows old s x → (answer E s x (call.Begin 0)).reply ≡ Success)
      → (i : ℕ) → i < length old.fields.layout.rows → length (held old i) ≡ total_of old.fields (Some i)
  begun-count were =
      let E = plain-of old.fields passes in
      held-count old (λ tells.
      let w = some tells in
      record { state = w.0; session = w.1; shows = w.2; is = (begun-with old E w.0 w.1 w.2 types (held old) (were E w.0 w.1 refl w.2) known).2 })

  pub unbegun-stopped : (q : Stop) → (IsRefused {T = Unit {0}} (Err q) → new ≡ old)
      → (IsStopped {T = Unit {0}} (Err q) → (E : Setting) (s : State) (x : Session) → E.layout ≡ old.fields.layout → Shows old s x
      → (answer E s x (call.Begin 0)).reply ≡ Success) → MeetsAs {T = Unit {0}} (λ _. Success) (Err q) passes (call.Begin 0) old new
      → BeginsPartly types named passes (Err q) old new
  unbegun-stopped stop.Gone same were meets = unbegun stop.Gone (λ done. absurd done) (λ E s x setting shows. tt) meets
  unbegun-stopped (stop.Status st) same were meets =
      subst (λ (m : Moment). BeginsPartly types named passes (Err (stop.Status st)) old m) (sym (same tt))
      (refused-partly old types named passes st (refused-by st meets))
  unbegun-stopped q same were meets =
      unbegun q (λ done. begun-count (were tt)) (λ E s x setting shows. begun-reply E s x setting shows
      (were tt E s x setting.layout shows)) meets

-- ---- begun, and then copied

-- What a begin spares and copies into the update bank do, both spare: the bank that was started is the active one.
pub partly-touched : (old mid new : Moment) → Stays old mid → SparesBlocks old.fields old.writes mid.writes → mid.fields.boot ≡ mid.fields.meta.meta.active
    → FillsBank mid new → SparesBlocksByAll old.fields old.writes new.writes
partly-touched old mid new stays begun active fills =
    blocks-further old.fields mid.fields stays.layout stays.boot (blocks-once old.fields begun)
    (λ b spared. fills.touches b (subst (λ (n : ℕ). IsBesideBank mid.fields.layout ((n + 1) % mid.fields.layout.banks) (4096 * b)) active spared.1))

module _ (old mid new : Moment) (types : List (List ℕ)) (passes : List ℕ → Bool) (result : Result (Unit {0}) Stop) (fitting : Fitting old.fields)
    (known : names_unknown old.fields.layout.rows types ≡ false)
    (begins : MeetsAs {T = Unit {0}} (λ _. Success) (Ok tt) passes (call.Begin 0) old mid)
    (copied : CopiesImages (are_named old.fields.layout.rows types) result mid new) where
  abbrev named : List Bool
  named = are_named old.fields.layout.rows types

  count-is : length named ≡ length old.fields.layout.rows
  count-is = length-map old.fields.layout.rows (λ (r : ImageRow). list_any (same_bytes r.guid) types)

  -- the begin, whatever bytes are kept of the bank that was started
  pub record Begun (bytes : ℕ → List ℕ) (E : Setting) (s : State) (x : Session) : Type 0 where
    pub is : begins_over E s x types bytes ≡ answered Success (begin_moves s) (between old.fields.boot (copied_parts named bytes))
    pub goes : GoesByMoves E (Ok tt) old mid s (begin_moves s) (between old.fields.boot (replicate (length named) Nothing))
    pub booted : old.fields.boot ≡ s.active

  begun-at : (bytes : ℕ → List ℕ) (E : Setting) (s : State) (x : Session) → IsSettingOf old.fields passes E → Shows old s x
      → Begun bytes E s x
  begun-at bytes E s x setting shows =
      let meets = subst (λ (v : List ℕ → Bool). MeetsAs {T = Unit {0}} (λ _. Success) (Ok tt) v (call.Begin 0) old mid) (sym setting.verifier) begins in
      let replied = sym (call-replies E (λ (_ : Unit {0}). Success) (Ok tt) (call.Begin 0) old mid s x setting.layout shows meets Success refl) in
      let unknown = ap (λ (L : Layout). names_unknown L.rows types) setting.layout ∙ known in
      let with = begun-with old E s x shows types bytes replied unknown in
      let rows : length E.layout.rows ≡ length named = ap (λ (L : Layout). length L.rows) setting.layout ∙ sym count-is in
      record {
        is = with.0
            ∙ ap (λ (L : Layout). answered Success (begin_moves s) (between old.fields.boot (copied_parts (are_named L.rows types)
            bytes)))
            setting.layout;
        goes = subst (λ (n : ℕ). GoesByMoves E (Ok tt) old mid s (begin_moves s) (between old.fields.boot (replicate n Nothing))) rows
            (subst (λ (a : Answer). GoesByMoves E (Ok tt) old mid s a.moves a.next) with.1
            (call-goes E (λ (_ : Unit {0}). Success) (Ok tt) (call.Begin 0) old mid s x setting.layout shows meets Success refl));
        booted = with.2;
      }

  -- the copies after it
  follows-at : (E : Setting) (s : State) (x : Session) → IsSettingOf old.fields passes E → Shows old s x
      → FollowsInStaging result E mid new (after s (begin_moves s)) (between old.fields.boot (copied_parts named copied.bytes))
  follows-at E s x setting shows =
      let at = begun-at copied.bytes E s x setting shows in
      subst (λ (ps : List Staged). FollowsInStaging result E mid new (after s (begin_moves s)) (between old.fields.boot ps)) (first-all named copied.bytes)
      (copied.goes E (after s (begin_moves s)) old.fields.boot (setting.layout ∙ sym at.goes.stays.layout) at.goes.shows)

  -- both in a row
  then-goes : (r : Result (Unit {0}) FlashStop) (E : Setting) (s : State) (x : Session) → IsSettingOf old.fields passes E → Shows old s x
      → GoesByMoves E r mid new (after s (begin_moves s)) [] (between old.fields.boot (copied_parts named copied.bytes))
      → GoesByMoves E r old new s (begin_moves s) (between old.fields.boot (copied_parts named copied.bytes))
  then-goes r E s x setting shows next =
      let at = begun-at copied.bytes E s x setting shows in
      subst (λ (ms : List Move). GoesByMoves E r old new s ms (between old.fields.boot (copied_parts named copied.bytes))) (append-nil (begin_moves s))
      (goes-then E r old mid new s (begin_moves s) [] (between old.fields.boot (replicate (length named) Nothing))
      (between old.fields.boot (copied_parts named copied.bytes)) at.goes next)

  goes-by : (q : Result (Unit {0}) Stop) (E : Setting) (s : State) (x : Session) → IsSettingOf old.fields passes E → Shows old s x
      → FollowsInStaging q E mid new (after s (begin_moves s)) (between old.fields.boot (copied_parts named copied.bytes))
      → GoesByMoves E (flash_result q) old new s (begin_moves s) (between old.fields.boot (copied_parts named copied.bytes))
  goes-by (Err (stop.Status st)) E s x setting shows h = absurd h
  goes-by (Err stop.Gone) E s x setting shows h = absurd h
  goes-by q E s x setting shows h = then-goes (flash_result q) E s x setting shows h

  goes-all : (E : Setting) (s : State) (x : Session) → IsSettingOf old.fields passes E → Shows old s x
      → GoesByMoves E (flash_result result) old new s (begin_moves s) (between old.fields.boot (copied_parts named copied.bytes))
  goes-all E s x setting shows = goes-by result E s x setting shows (follows-at E s x setting shows)

  answers-by : (q : Result (Unit {0}) Stop) (a : Answer) (s : State) (E : Setting)
      → a ≡ answered Success (begin_moves s) (between old.fields.boot (copied_parts named copied.bytes))
      → FollowsInStaging q E mid new (after s (begin_moves s)) (between old.fields.boot (copied_parts named copied.bytes))
      → GoesByMoves E (flash_result q) old new s (begin_moves s) (between old.fields.boot (copied_parts named copied.bytes))
      → AnswersAs q a s new
  answers-by (Ok u) a s E is follows goes = (ap (λ (b : Answer). b.reply) is, subst (λ (b : Answer). Shows new (after s b.moves) b.next) (sym is) goes.shows)
  answers-by (Err (stop.Status st)) a s E is follows goes = absurd follows
  answers-by (Err stop.Gone) a s E is follows goes = absurd follows
  answers-by (Err q) a s E is follows goes = ap (λ (b : Answer). b.reply) is

  abbrev plain : Setting
  plain = plain-of old.fields passes

  plain-fits : IsSettingOf old.fields passes plain
  plain-fits = record { layout = refl; verifier = refl }

  -- done
  read-done : (IsTrue mid.tells → (s : State) (boot : ℕ) → Shows mid s (between boot (replicate (length named) Nothing))
      → (i : ℕ) → i < length named → get_or named i true ≡ false → copied.bytes i ≡ image_held s boot i)
      → IsTrue old.tells → (s : State) (x : Session) → Shows old s x → (i : ℕ) → i < length named → get_or named i true ≡ false
      → copied.bytes i ≡ image_held s s.active i
  read-done read tells s y shows i lt un =
      let at = begun-at copied.bytes plain s y plain-fits shows in
      read (subst IsTrue (sym begins.leaves.stays.tells) tells) (after s (begin_moves s)) old.fields.boot at.goes.shows i lt un
      ∙ still-held old fitting s y shows at.booted i ∙ ap (λ (b : ℕ). image_held s b i) at.booted

  -- or stopped on the way: the moves are those of a begin, whatever was to be copied
  stops-by : (q : Stop) (a : Answer) (E : Setting) (s : State)
      → FollowsInStaging {T = Unit {0}} (Err q) E mid new (after s (begin_moves s)) (between old.fields.boot (copied_parts named copied.bytes))
      → a.reply ≡ Success → AnswersAs (Err q) a s new
  stops-by (stop.Status st) a E s follows is = absurd follows
  stops-by stop.Gone a E s follows is = absurd follows
  stops-by q a E s follows is = is

  module _ (some : IsTrue old.tells → (s : State) × (x : Session) × Shows old s x)
      (touches : SparesBlocksByAll old.fields old.writes new.writes) where
    partly-with : (bytes : ℕ → List ℕ)
        → (IsDone result → (i : ℕ) → i < length named → get_or named i true ≡ false → length (bytes i) ≡ total_of old.fields
        (Some i))
        → (IsTrue old.tells → (s : State) (x : Session) → Shows old s x → (i : ℕ) → i < length named → get_or named i true ≡ false
        → bytes i ≡ image_held s s.active i)
        → ((E : Setting) (s : State) (x : Session) → IsSettingOf old.fields passes E → Shows old s x
        → AnswersAs result (begins_over E s x types bytes) s new)
        → BeginsPartly types named passes result old new
    partly-with bytes count read exact = record {
      bytes = bytes;
      count = count;
      read = read;
      exact = exact;
      does = λ E s x setting shows tells ready.
          subst (λ (ms : List Move). Does (flash_result result) E s ms new.told)
          (sym (ap (λ (a : Answer). a.moves) (begun-at bytes E s x setting shows).is))
          ((goes-all E s x setting shows).does tells ready);
      guarded = λ tells rest. let w = some tells in (goes-all plain w.0 w.1 plain-fits w.2).guarded tells rest;
      keeps = λ tells. let w = some tells in (goes-all plain w.0 w.1 plain-fits w.2).keeps tells;
      touches = touches;
      stays = stays-then old mid new begins.leaves.stays copied.stays;
    }

    at-ok : {A : Type 0} (u : Unit {0}) → Ok u ≡ result → OnOk result A → A
    at-ok {A = A} u e holds = subst (λ (q : Result (Unit {0}) Stop). OnOk q A) (sym e) holds

    partly-by : (r : Result (Unit {0}) Stop) → r ≡ result → BeginsPartly types named passes result old new
    partly-by (Ok u) e =
        let count : (i : ℕ) → i < length named → get_or named i true ≡ false → length (copied.bytes i) ≡ total_of mid.fields
        (Some i) =
        at-ok u e copied.count in
        partly-with copied.bytes (λ done i lt un. count i lt un ∙ ap (λ (l : List ℕ). get_or l i 0) begins.leaves.stays.lengths)
        (read-done (at-ok u e copied.read))
        (λ E s x setting shows.
        answers-by result (begins_over E s x types copied.bytes) s E (begun-at copied.bytes E s x setting shows).is
        (follows-at E s x setting shows)
        (goes-all E s x setting shows))
    partly-by (Err q) e =
        partly-with (held old) (λ done i lt un. held-count old (λ tells.
        let w = some tells in
        record { state = w.0; session = w.1; shows = w.2; is = (begun-at (held old) plain w.0 w.1 plain-fits w.2).booted })
        i (omega (arith, lt, count-is)))
        (λ tells s x shows i lt un. held-is old s x shows tells i)
        (λ E s x setting shows.
        subst (λ (r : Result (Unit {0}) Stop). AnswersAs r (begins_over E s x types (held old)) s new) e
        (stops-by q (begins_over E s x types (held old)) E s
        (subst (λ (r : Result (Unit {0}) Stop). FollowsInStaging r E mid new (after s (begin_moves s))
        (between old.fields.boot (copied_parts named copied.bytes))) (sym e) (follows-at E s x setting shows))
        (ap (λ (a : Answer). a.reply) (begun-at (held old) E s x setting shows).is)))

    pub begun-partly : BeginsPartly types named passes result old new
    begun-partly = partly-by result refl

  -- some machine is shown, so it was neither refused nor was the agent gone
  follows-one : (q : Result (Unit {0}) Stop) (E : Setting) (s : State) (y : Session) → FollowsInStaging q E mid new s y → IsDone q
  follows-one (Err (stop.Status st)) E s y h = absurd h
  follows-one (Err stop.Gone) E s y h = absurd h
  follows-one q E s y h = tt

  pub only-done : ∥ Showing old ∥₁ → IsDone result
  only-done showing = by-cases result refl
    where
      never : (IsDone result → ⊥) → ⊥
      never none =
          let one : ◌≡◌ {A = ℕ} 0 1 = ∥∥₁_elim showing (Coded-set coded_ℕ 0 1) (λ (w : Showing old).
          absurd (none (follows-one result plain (after w.state (begin_moves w.state)) _
          (follows-at plain w.state w.session plain-fits w.shows)))) in
          cc

      by-cases : (q : Result (Unit {0}) Stop) → q ≡ result → IsDone result
      by-cases (Err (stop.Status st)) e = absurd (never (λ is. subst IsDone (sym e) is))
      by-cases (Err stop.Gone) e = absurd (never (λ is. subst IsDone (sym e) is))
      by-cases q e = subst IsDone e tt

  -- what the copies take
  pub takes-at : (b c : Option Arming) → CopiesTake named (length old.fields.layout.rows) mid b c → Showing old
      → Takes (writes_to_copy named old.fields.lengths (length old.fields.layout.rows)) b c
  takes-at b c takes w =
      subst (λ (l : List ℕ). Takes (writes_to_copy named l (length old.fields.layout.rows)) b c) begins.leaves.stays.lengths
      (takes plain (after w.state (begin_moves w.state)) old.fields.boot (sym begins.leaves.stays.layout)
      (begun-at copied.bytes plain w.state w.session plain-fits w.shows).goes.shows)
