-- Metadata that is written over the replicas, by a store or a repair, as the machine sees it.
-- A repair is no change but of the version, and afterwards both replicas hold the metadata.
-- On any flash at rest no write of a boot meets the layout or a bank that may be in use.
use Rattle.std.proofs.Common.{◌≡◌, ◌≤◌, ℕ, List, inr, Ok, Result, refl, sym, ap, subst, ◌∙◌, arith, ◌⊎◌, inl, ◌<◌, Some, ◌+◌, ◌*◌, Err}
use Rattle.std.specs.Prelude.{Contains, OnOk, IsFalse}
use Rattle.flash_core.specs.{declared.flash.FlashStop.FlashStop, May.Guards, May.May, May.Keeps, May.Quiet}
use Rattle.flash_core.specs.Told.{Told, is_unsure, NothingDirty}
use Rattle.fwu_formats.specs.{Layout.Layout, Layout.start, Metadata.MetaRead, Metadata.Meta, Metadata.meta_read, Image.layout_seen}
use Rattle.fwu_formats.specs.{Image.marks, Image.deciding, Counter.counter_in, Places.trial_limit}
use Rattle.fwu_model.specs.{Sound.Setting, Sound.Sound, Seen.IsTidy, Seen.state_of, Calm.IsCalm, Calm.IsGuarded, Calm.IsAtRest}
use Rattle.fwu_model.specs.{Run.prefixes, Replica.in_version, Replica.BothHold, Replica.Decides, Headline.ShowsOneOf}
use Rattle.fwu_model.specs.State.{State, Migrate, after, after_move}
use Rattle.fwu_model.proofs.Banks.{sound-migrate}
use Rattle.replicas.specs.{declared.which.Which.Which, Which.Loads, Stores.Repairs, Stores.Stores}
use Rattle.replicas.specs.declared.which.Which.TheVariants.{Same, MigrateZero, MigrateOne}
use Rattle.moves.specs.Moved.{Does, IsShown, ShowsAfter, repair_moves, IsReady, GuardedBy}
use Rattle.moves.proofs.Agree.{no_meta, front-kept, layout-kept, marks-agree, counter-agrees, agrees-now, meta-tidy, shown-by, Agrees, QuietUsed, agrees-left, meta-shows, used-at, used-below, layout-agrees, decides-agrees, shown-as, shown-meta, at-used}
use Rattle.moves.proofs.Calm.{calm-shown, calm-sound, calm-tidy, calm-used, sound-flash, one-of}
use Rattle.base_core.proofs.Results.{same-Ok}
use Rattle.std.proofs.lemmas.Bool.{cases_lt}
use Rattle.std.proofs.lemmas.Option.{same_Some}
use Rattle.std.proofs.lemmas.Result.{on_ok_weaker}
use Rattle.base_core.specs.Block.{block}
use Rattle.flash_core.proofs.{Calls.may_now, Calls.quiet_fresh, Calls.guards_kept, Calls.keeps_wider, Costs.on_ok_both}
use Rattle.replicas.proofs.Reading.{by_zero}
use Rattle.marks_core.specs.Marks.{Adds, Raises}

-- what stays quiet after a call that writes from low to high, where that is quiet afterwards
pub quiet-after : (low high from to : ℕ) (s t : Told) → Keeps low high s t → Quiet from to s → Quiet low high t → Quiet from to t
quiet-after low high from to s t keeps quiet inside i above below = pick (cases_lt i low) (cases_lt i high)
  where
    pick : (i < low) ⊎ (low ≤ i) → (i < high) ⊎ (high ≤ i) → IsFalse (is_unsure t i)
    pick (inl l) h = keeps.sure i (inl l) (quiet i above below)
    pick (inr l) (inl h) = inside i l h
    pick (inr l) (inr h) = keeps.sure i (inr h) (quiet i above below)

-- What such a write leaves at any exit, where the old metadata decided: it or the new one decides. When done, both replicas hold the new one, and are quiet.
pub record WritesMeta {T : Type 0} (result : Result T FlashStop) (L : Layout) (old new : MetaRead) (s t : Told) : Type 0 where
  pub keeps : Keeps 4096 12288 s t
  pub each : (image : List ℕ) → May t image → Decides L old new image
  pub both : OnOk result (BothHold L new t.now)
  pub quiet : OnOk result (Quiet 4096 12288 t)

module _ {T : Type 0} (result : Result T FlashStop) (L : Layout) (s t : Told) (guarded : Guards 1 7 s) (front : Quiet 0 32768 s) where
  replicas-guarded : Guards 1 2 s
  replicas-guarded b low high = guarded b low (omega (arith, high))

  replicas-quiet : Quiet 4096 12288 s
  replicas-quiet i low high = front i (omega arith) (omega (arith, high))

  pub repair-writes : (r : MetaRead) → Repairs result L r s t → WritesMeta result L r (in_version 2 r.meta) s t
  repair-writes r repairs = record {
    keeps = repairs.keeps;
    each = repairs.stays replicas-guarded replicas-quiet;
    both = repairs.both;
    quiet = repairs.quiet replicas-quiet;
  }

  pub store-writes : (old : MetaRead) (m : Meta) → deciding L s.now ≡ Some old → meta_read L (block 2 s.now) ≡ Some old → Stores result L m s t → WritesMeta result L old (in_version 2 m) s t
  store-writes old m decided one stores = record {
    keeps = stores.writes.keeps;
    each = stores.either replicas-guarded replicas-quiet old (record { decides = decided; one = one });
    both = stores.both;
    quiet = on_ok_weaker result (λ clean. quiet_fresh 4096 12288 t clean) stores.writes.stable;
  }

-- ---- from metadata to states, on a calm flash

module _ {T : Type 0} (result : Result T FlashStop) (E : Setting) (state next : State) (old new : MetaRead) (s t : Told) (calm : IsCalm E s state) (guarded : Guards 1 7 s) (decided : deciding E.layout s.now ≡ Some old)
    (becomes : state_of E.layout s.now new ≡ next) (sound : Sound E next) (tidy : IsTidy s.now next) (quiet : QuietUsed E.layout new.meta s) (writes : WritesMeta result E.layout old new s t) where
  front : Quiet 0 32768 s
  front = calm.front

  image-agrees : (r : MetaRead) → QuietUsed E.layout r.meta s → (image : List ℕ) → May t image → Agrees E.layout r.meta 4096 12288 s.now image
  image-agrees r used image may = agrees-left E.layout r.meta 4096 12288 s t image (omega arith) writes.keeps front used may.leaves

  -- an image that has this metadata shows its state
  image-shows : (xs : List State) (r : MetaRead) (x : State) (image : List ℕ) → Contains xs x → May t image → deciding E.layout image ≡ Some r → state_of E.layout s.now r ≡ x → Sound E x → IsTidy s.now x → QuietUsed E.layout r.meta s → ShowsOneOf E xs image
  image-shows xs r x image in_list may decides is x-sound x-tidy used =
      let agree = image-agrees r used image may in
      one-of E xs x image in_list (meta-shows E.layout r s.now image x agree calm.sound.layout decides is) x-sound (meta-tidy E.layout r s.now image x agree x-tidy)

  old-is : state_of E.layout s.now old ≡ state
  old-is = shown-by E.layout s.now state (calm-shown E s state calm) old decided

  pub write-each : (xs : List State) → Contains xs state → Contains xs next → (image : List ℕ) → May t image → ShowsOneOf E xs image
  write-each xs has_old has_new image may = elim (writes.each image may) [
    | inl as_old ↦ image-shows xs old state image has_old may as_old old-is (calm-sound E s state calm) (calm-tidy E s state calm) (calm-used E s state calm old old-is)
    | inr as_new ↦ image-shows xs new next image has_new may as_new becomes sound tidy quiet
  ]

  ready : BothHold E.layout new t.now → Quiet 4096 12288 t → IsReady E t next
  ready both stable =
      let decides = by_zero E.layout new t.now both.zero in
      let agree = image-agrees new quiet t.now (may_now t) in
      let shown : IsShown E.layout t.now next = meta-shows E.layout new s.now t.now next agree calm.sound.layout decides becomes in
      record {
        calm = record {
          sound = sound-flash E t.now next shown sound (meta-tidy E.layout new s.now t.now next agree tidy);
          shows = shown.shows;
          front = quiet-after 4096 12288 0 32768 s t writes.keeps front stable;
          banks = λ b used i above below. writes.keeps.sure i (inr (omega (arith, above))) (quiet b (used-below E.layout s.now new next becomes b used) (used-at E.layout s.now new next becomes b used) i above below);
        };
        guarded = guards_kept 1 7 4096 12288 s t writes.keeps guarded;
        one = λ r is. both.one ∙ ap (λ (x : MetaRead). Some x) (same_Some new r (sym decides ∙ is));
      }

  pub write-all : OnOk result (IsReady E t next)
  write-all = on_ok_weaker result (λ done. ready done.0 done.1) (on_ok_both _ _ result writes.both writes.quiet)

-- ---- on any flash

-- what a write of metadata shows when done
pub write-shows : {T : Type 0} (result : Result T FlashStop) (L : Layout) (new : MetaRead) (s t : Told) (next : State) → layout_seen s.now ≡ Ok L → Keeps 4096 12288 s t → state_of L s.now new ≡ next → OnOk result (BothHold L new t.now) → OnOk result (IsShown L t.now next)
write-shows result L new s t next layout keeps becomes both =
    on_ok_weaker result (λ (held : BothHold L new t.now). meta-shows L new s.now t.now next (agrees-now L new.meta 4096 12288 s t (omega arith) keeps) layout (by_zero L new t.now held.zero) becomes) both

-- ---- the state after a repair

-- metadata of version 2 is what is written of it
as-two : (L : Layout) (image : List ℕ) (r : MetaRead) (s : State) → r.form ≡ 2 → state_of L image r ≡ s → state_of L image (in_version 2 r.meta) ≡ s
as-two L image r s two is = ap (λ (n : ℕ). state_of L image (in_version n r.meta)) (sym two) ∙ is

migrated : (L : Layout) (image : List ℕ) (r : MetaRead) (s : State) → state_of L image r ≡ s → state_of L image (in_version 2 r.meta) ≡ after_move s Migrate
migrated L image r s is = ap (λ (x : State). after_move x Migrate) is

pub repaired-state : (L : Layout) (which : Which) (image : List ℕ) (r : MetaRead) (s : State) → Loads L which r image → state_of L image r ≡ s → state_of L image (in_version 2 r.meta) ≡ after s (repair_moves which)
repaired-state L MigrateZero image r s loads is = migrated L image r s is
repaired-state L MigrateOne image r s loads is = migrated L image r s is
repaired-state L other image r s loads is = as-two L image r s loads.finds.2 is

repaired-sound : (E : Setting) (which : Which) (s : State) → Sound E s → Sound E (after s (repair_moves which))
repaired-sound E MigrateZero s sound = sound-migrate E s sound
repaired-sound E MigrateOne s sound = sound-migrate E s sound
repaired-sound E other s sound = sound

-- an image that is tidy by a state is so by the state after a repair
pub repaired-tidy : (which : Which) (image : List ℕ) (s : State) → IsTidy image s → IsTidy image (after s (repair_moves which))
repaired-tidy Same image s tidy = tidy
repaired-tidy other image s tidy = tidy

before-in : (which : Which) (s : State) → Contains (prefixes s (repair_moves which)) s
before-in Same s = (0, omega arith, refl)
before-in other s = (0, omega arith, refl)

after-in : (which : Which) (s : State) → Contains (prefixes s (repair_moves which)) (after s (repair_moves which))
after-in MigrateZero s = (1, omega arith, refl)
after-in MigrateOne s = (1, omega arith, refl)
after-in other s = (0, omega arith, refl)

-- the layout of a calm flash is that of the setting
pub calm-layout : (E : Setting) (s : Told) (state : State) (L : Layout) → IsCalm E s state → layout_seen s.now ≡ Ok L → E.layout ≡ L
calm-layout E s state L calm layout = same-Ok E.layout L (sym calm.sound.layout ∙ layout)

-- ---- a repair

module _ {T : Type 0} (result : Result T FlashStop) (which : Which) (r : MetaRead) (s t : Told) where
  does-here : (E : Setting) (state : State) → IsCalm E s state → Guards 1 7 s → Loads E.layout which r s.now → Repairs result E.layout r s t → Does result E state (repair_moves which) t
  does-here E state calm guarded loads repairs =
      let is = shown-by E.layout s.now state (calm-shown E s state calm) r loads.decides in
      let next = after state (repair_moves which) in
      let new = in_version 2 r.meta in
      let becomes = repaired-state E.layout which s.now r state loads is in
      let sound = repaired-sound E which state (calm-sound E s state calm) in
      let tidy = repaired-tidy which s.now state (calm-tidy E s state calm) in
      let quiet = calm-used E s state calm r is in
      let writes = repair-writes result E.layout s t guarded calm.front r repairs in
      record {
        each = write-each result E state next r new s t calm guarded loads.decides becomes sound tidy quiet writes (prefixes state (repair_moves which)) (before-in which state) (after-in which state);
        all = write-all result E state next r new s t calm guarded loads.decides becomes sound tidy quiet writes;
      }

  -- From a calm flash, of which a loss may have left one replica torn, a repair does nothing, and a migration the move of that name. When done, the flash is ready.
  pub repair-does : (E : Setting) (state : State) (L : Layout) → IsCalm E s state → Guards 1 7 s → layout_seen s.now ≡ Ok L → Loads L which r s.now → Repairs result L r s t → Does result E state (repair_moves which) t
  repair-does E state L calm guarded layout loads repairs =
      let same = sym (calm-layout E s state L calm layout) in
      does-here E state calm guarded (subst (λ (K : Layout). Loads K which r s.now) same loads) (subst (λ (K : Layout). Repairs result K r s t) same repairs)

  -- On any flash that shows a state.
  pub repair-shows : (L : Layout) (state : State) → IsShown L s.now state → Loads L which r s.now → Repairs result L r s t → ShowsAfter result L state (repair_moves which) t
  repair-shows L state shown loads repairs =
      let is = shown-by L s.now state shown r loads.decides in
      write-shows result L (in_version 2 r.meta) s t (after state (repair_moves which)) shown.layout repairs.keeps (repaired-state L which s.now r state loads is) repairs.both

  -- The marks stay as tidy as they are, at any exit.
  pub repair-tidy : (L : Layout) (state : State) → Repairs result L r s t → IsTidy s.now state → IsTidy t.now (after state (repair_moves which))
  repair-tidy L state repairs tidy =
      meta-tidy L r s.now t.now (after state (repair_moves which)) (agrees-now L r.meta 4096 12288 s t (omega arith) repairs.keeps) (repaired-tidy which s.now state tidy)

  -- What else a boot has read stays as it was, at any exit: the layout, the marks and the counter.
  pub repair-layout : (L : Layout) → Repairs result L r s t → layout_seen s.now ≡ Ok L → layout_seen t.now ≡ Ok L
  repair-layout L repairs is = layout-kept L 4096 12288 s t (omega arith) repairs.keeps is

  pub repair-marks : (L : Layout) (limit : ℕ) → limit ≤ 256 → Repairs result L r s t → marks t.now 3 limit ≡ marks s.now 3 limit
  repair-marks L limit few repairs = marks-agree L no_meta 4096 12288 s.now t.now (front-kept L 4096 12288 s t repairs.keeps) 3 limit (omega arith) (inr (omega arith)) few

  pub repair-counter : (L : Layout) → Repairs result L r s t → counter_in t.now ≡ counter_in s.now
  repair-counter L repairs = counter-agrees L no_meta 4096 12288 s.now t.now (front-kept L 4096 12288 s t repairs.keeps) (inr (omega arith))

-- ---- no write meets the layout or a bank in use: on any flash at rest, at any exit

-- by the result: guarded at a stop, and at rest with nothing at risk at the front when done
pub by-result : {T : Type 0} (result : Result T FlashStop) (t : Told) → IsGuarded t → OnOk result (Quiet 0 32768 t) → Guards 1 7 t → GuardedBy result t
by-result (Ok x) t guarded front guards = record { guard = guards; front = front; guarded = guarded }
by-result (Err stop) t guarded front guards = guarded

module _ (L : Layout) (s : Told) (layout : layout_seen s.now ≡ Ok L) (rest : IsAtRest s) where
  -- the banks in use by the metadata that decides are quiet
  pub rest-used : (r : MetaRead) → deciding L s.now ≡ Some r → QuietUsed L r.meta s
  rest-used r decided b lt used =
      let shown = shown-as L s.now r (state_of L s.now r) layout decided refl in
      rest.guarded.banks s.now L (state_of L s.now r) (may_now s) layout shown.shows b (at-used L s.now r (state_of L s.now r) refl b lt used)

  module _ (low high : ℕ) (t : Told) (above : 4096 ≤ low) (le : high ≤ 32768) (keeps : Keeps low high s t) where
    front-agrees : (image : List ℕ) → May t image → Agrees L no_meta.meta low high s.now image
    front-agrees image may = agrees-left L no_meta.meta low high s t image le keeps rest.front (λ b lt used. absurd cc) may.leaves

    -- a write at the front: each image has metadata by which the banks in use were quiet
    pub guarded-by : ((image : List ℕ) → May t image → (r : MetaRead) → deciding L image ≡ Some r → QuietUsed L r.meta s) → IsGuarded t
    guarded-by used = record {
      layout = λ i low_ high_. keeps.sure i (inl (omega (arith, high_, above))) (rest.guarded.layout i low_ high_);
      banks = λ image K x may is shows b in_use.
          let here = layout-agrees L no_meta low high s.now image (front-agrees image may) above layout in
          let same : L ≡ K = same-Ok L K (sym here ∙ is) in
          let found = shown-meta L image x (record { layout = here; shows = shows }) in
          subst (λ (l : Layout). Quiet (4096 * start l b 0) (4096 * start l (b + 1) 0) t) same
          (λ i from to. keeps.sure i (inr (omega (arith, le, from))) (used image may found.0 found.1 b (used-below L image found.0 x found.2 b in_use) (used-at L image found.0 x found.2 b in_use) i from to));
    }

    -- beside the replicas the same metadata decides
    pub guarded-beside : 12288 ≤ low → IsGuarded t
    guarded-beside past = guarded-by (λ image may r is. rest-used r (sym (decides-agrees L no_meta low high s.now image (front-agrees image may) past) ∙ is))

  -- ---- the three writes of a boot

  module _ {T : Type 0} (result : Result T FlashStop) (t : Told) where
    pub repair-guarded : (which : Which) (r : MetaRead) → Loads L which r s.now → Repairs result L r s t → GuardedBy result t
    repair-guarded which r loads repairs =
        let writes = repair-writes result L s t rest.guard rest.front r repairs in
        by-result result t (guarded-by 4096 12288 t (omega arith) (omega arith) repairs.keeps (λ image may found is. pick found image is (writes.each image may)))
        (on_ok_weaker result (λ stable. quiet-after 4096 12288 0 32768 s t repairs.keeps rest.front stable) writes.quiet)
        (guards_kept 1 7 4096 12288 s t repairs.keeps rest.guard)
      where
        -- the metadata is the same in either version
        pick : (found : MetaRead) (image : List ℕ) → deciding L image ≡ Some found → Decides L r (in_version 2 r.meta) image → QuietUsed L found.meta s
        pick found image is (inl e) = subst (λ (x : MetaRead). QuietUsed L x.meta s) (same_Some r found (sym e ∙ is)) (rest-used r loads.decides)
        pick found image is (inr e) = subst (λ (x : MetaRead). QuietUsed L x.meta s) (same_Some (in_version 2 r.meta) found (sym e ∙ is)) (rest-used r loads.decides)

    beside-guarded : (low high : ℕ) → 12288 ≤ low → high ≤ 32768 → Keeps low high s t → OnOk result (NothingDirty t) → GuardedBy result t
    beside-guarded low high past le keeps stable =
        by-result result t (guarded-beside low high t (omega (arith, past)) le keeps past) (on_ok_weaker result (λ clean. quiet_fresh 0 32768 t clean) stable) (guards_kept 1 7 low high s t keeps rest.guard)

    pub trial-guarded : (at : ℕ) → at < trial_limit → Adds result 3 at s t → GuardedBy result t
    trial-guarded at below adds =
        beside-guarded 12288 16384 (omega arith) (omega arith) (keeps_wider (4096 * 3 + 16 * at) (4096 * 3 + 16 * at + 16) 12288 16384 s t (omega arith) (omega (arith, below)) adds.keeps) adds.stable

    pub raise-guarded : (v : ℕ) → Raises result v s t → GuardedBy result t
    raise-guarded v raises = beside-guarded 20480 28672 (omega arith) (omega arith) raises.keeps raises.stable
